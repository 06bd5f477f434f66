use Rattle.std.proofs.Common.{rules, sym, subst}
use Rattle.std.proofs.lemmas.List.Sorted.{answers_always}
use Rattle.cd_coerce.proofs.FindLemmas.{Finds, searched}
use Rattle.cd_coerce.proofs.reading.find.Goals as goal

pub returns-in-Ok : goal.returns-in-Ok
returns-in-Ok c =
    let facts = c.binary_search_by_key.ensures in
    let by_key = facts.position (λ field. field.0) (answers_always _ _ _ (λ f a r g called. search rules)) in
    let found = searched c.args.fields.now c.args.id c.binary_search_by_key.result c.requires facts.bound by_key in
    let there = subst (Finds c.args.fields.now c.args.id) c.in-Ok.is found in
    sym there.1

pub returns-in-Err : goal.returns-in-Err
returns-in-Err c =
    let facts = c.binary_search_by_key.ensures in
    let by_key = facts.position (λ field. field.0) (answers_always _ _ _ (λ f a r g called. search rules)) in
    let found = searched c.args.fields.now c.args.id c.binary_search_by_key.result c.requires facts.bound by_key in
    sym (subst (Finds c.args.fields.now c.args.id) c.in-Err.is found)
