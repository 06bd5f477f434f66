use Rattle.std.proofs.Common.{◌≡◌, false, refl, sym, subst, ◌↔◌, true, IfOk}
use Rattle.cd_types.specs.Shape.{shape}
use Rattle.cd_sub.proofs.PartFreeLemmas.{both_compound}
use Rattle.cd_types.specs.declared.entry.TyRef.TheVariants.{Index}
use Rattle.cd_sub.specs.Below.{below}
use Rattle.cd_sub.specs.Sub.{Sub}
use Rattle.cd_sub.proofs.DecidedLemmas.{answer_is_test, below_is, same_test}
use Rattle.cd_sub.proofs.PlaceLemmas.{flat_named, compound_left}
use Rattle.cd_sub.proofs.subtyping.Subtyping.is_subtype.Goals as goal
use Rattle.cd_sub.proofs.subtyping.Subtyping.is_subtype.Goals.{in_default-via-in-Index+in_default, in_default-via-in_default}

pub returns-in_default-clause-answer : goal.returns-in_default-clause-answer
returns-in_default-clause-answer c =
    let first = c.self.inside.first.now in
    let second = c.self.inside.second.now in
    let not_both : both_compound (shape first c.args.a) (shape second c.args.b) ≡ false =
    elim c.in_default.branch [
      | in_default-via-in-Index+in_default w ↦ subst (λ b. both_compound (shape first c.args.a) (shape second b) ≡ false) (sym w.in_default.is-1) (compound_left (shape first c.args.a) w.in_default.field-0-1)
      | in_default-via-in_default w ↦ subst (λ a. both_compound (shape first a) (shape second c.args.b) ≡ false) (sym w.in_default.is-0) refl
    ] in
    flat_named first second c.args.self.now c.args.a c.args.b c.is_part_free_subtype.result c.self.view_is c.is_part_free_subtype.ensures not_both

pub returns-in_default-clause-test : goal.returns-in_default-clause-test
returns-in_default-clause-test c =
    same_test (Sub c.args.self.now.0 c.args.a c.args.self.now.1 c.args.b) c.is_part_free_subtype.result (below c.args.self.now.0 c.args.a c.args.self.now.1 c.args.b)
    (returns-in_default-clause-answer c) (below_is c.args.self.now.0 c.args.self.now.1 c.args.a c.args.b)

pub returns-in-Index-Index-clause-test : goal.returns-in-Index-Index-clause-test
returns-in-Index-Index-clause-test c =
    let first = c.args.self.now.0 in
    let second = c.args.self.now.1 in
    let r = c.is_entry_subtype.result in
    answer_is_test first second c.args.a c.args.b r
    (subst (λ a. IfOk r (λ answer. (answer ≡ true) ↔ Sub first a second c.args.b)) (sym c.in-Index-Index.is-0)
    (subst (λ b. IfOk r (λ answer. (answer ≡ true) ↔ Sub first (Index c.in-Index-Index.i) second b)) (sym c.in-Index-Index.is-1) c.is_entry_subtype.ensures.answer))
