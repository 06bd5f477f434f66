use Rattle.std.proofs.Common.{◌≡◌, ◌∷◌, ◌++◌, List, [], length, map, take, sym, ap, ◌∙◌, subst, arith}
use Rattle.std.proofs.lemmas.List.{take_all}
use Rattle.ct_check.specs.declared.checked.CheckedStep.{CheckedStep}
use Rattle.ct_check.specs.declared.checked.CheckedStep.TheVariants.{Statement}
use Rattle.ct_run.specs.Runs.{without_interleaves}
use Rattle.ct_cases.proofs.Lists.{take_one}
use Rattle.ct_orders.proofs.Stepping.{more_statements}
use Rattle.ct_orders.proofs.tester.count_before.Goals as goal

pub loop-place-preserved : goal.loop-place-preserved
loop-place-preserved c =
    let steps = c.args.steps.now in
    let step = c.index-steps-place.result in
    more_statements steps c.loop-place.place step (sym c.is_interleave.ensures ∙ c.if-is_interleave.false) c.loop-place.invariant
    (take_one steps c.loop-place.place step c.loop-place-test.true ∙ ap (λ (x : CheckedStep). take c.loop-place.place steps ++ x ∷ []) (sym c.index-steps-place.is))

pub returns-clause-statements : goal.returns-clause-statements
returns-clause-statements c =
    let steps = c.args.steps.now in
    let here : take c.loop-place.place steps ≡ steps = take_all c.loop-place.place steps (omega (arith, c.loop-place-test.false)) in
    let all : take (length steps) steps ≡ steps = take_all (length steps) steps (omega arith) in
    let whole : steps ≡ map Statement (without_interleaves steps) = subst (λ (l : List CheckedStep). l ≡ map Statement (without_interleaves l)) here c.loop-place.invariant in
    subst (λ (l : List CheckedStep). l ≡ map Statement (without_interleaves l)) (sym all) whole
