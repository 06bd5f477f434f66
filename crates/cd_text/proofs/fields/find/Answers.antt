use Rattle.std.proofs.Common.{rules, subst, arith}
use Rattle.std.proofs.lemmas.List.Sorted.{answers_always}
use Rattle.cd_types.proofs.EntryLemmas.{few_ids}
use Rattle.cd_types.specs.declared.primitive.Primitive.TheVariants.{Null}
use Rattle.cd_types.specs.declared.entry.TyRef.TheVariants.{Prim}
use Rattle.cd_text.proofs.Finds.{Finds, searched, id_there, untyped}
use Rattle.cd_text.proofs.Narrow.{typed_there}
use Rattle.cd_text.proofs.fields.find.Goals as goal

pub returns-in-Ok-clause-place : goal.returns-in-Ok-clause-place
returns-in-Ok-clause-place c =
    let facts = c.binary_search_by_key.ensures in
    let by_key = facts.position (λ field. field.0) (answers_always _ _ _ (λ f a r g called. search rules)) in
    subst (Finds c.args.fields.now c.args.id) c.in-Ok.is (searched (0, Prim Null) c.args.fields.now c.args.id c.binary_search_by_key.result c.requires facts.bound by_key)

pub returns-in-Ok-clause-field : goal.returns-in-Ok-clause-field
returns-in-Ok-clause-field c =
    let facts = c.binary_search_by_key.ensures in
    let by_key = facts.position (λ field. field.0) (answers_always _ _ _ (λ f a r g called. search rules)) in
    let at = subst (Finds c.args.fields.now c.args.id) c.in-Ok.is (searched (0, Prim Null) c.args.fields.now c.args.id c.binary_search_by_key.result c.requires facts.bound by_key) in
    (typed_there c.args.fields.now c.args.id c.in-Ok.place _ at, id_there c.args.fields.now c.args.id c.in-Ok.place _ at)

pub returns-in-Err-clause-place : goal.returns-in-Err-clause-place
returns-in-Err-clause-place c =
    let facts = c.binary_search_by_key.ensures in
    let by_key = facts.position (λ field. field.0) (answers_always _ _ _ (λ f a r g called. search rules)) in
    subst (Finds c.args.fields.now c.args.id) c.in-Err.is (searched (0, Prim Null) c.args.fields.now c.args.id c.binary_search_by_key.result c.requires facts.bound by_key)

pub returns-in-Err-clause-field : goal.returns-in-Err-clause-field
returns-in-Err-clause-field c =
    let facts = c.binary_search_by_key.ensures in
    let by_key = facts.position (λ field. field.0) (answers_always _ _ _ (λ f a r g called. search rules)) in
    untyped c.args.fields.now c.args.id (subst (Finds c.args.fields.now c.args.id) c.in-Err.is (searched (0, Prim Null) c.args.fields.now c.args.id c.binary_search_by_key.result c.requires facts.bound by_key))

pub returns-in-Ok-clause-small : goal.returns-in-Ok-clause-small
returns-in-Ok-clause-small c =
    let few = few_ids c.args.fields.now c.requires in
    let inside = c.in-Ok.ensures.bound in
    omega (arith, few, inside)
