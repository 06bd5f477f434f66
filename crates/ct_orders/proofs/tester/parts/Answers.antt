use Rattle.std.proofs.Common.{◌+◌, ℕ, List, [], ◌∷◌, None, take, drop, ap, subst, arith}
use Rattle.std.specs.Prelude.{IfOk}
use Rattle.ct_run.specs.Runs.{without_interleaves}
use Rattle.ct_run.proofs.Walks.{stops_within, few_statements}
use Rattle.std.proofs.lemmas.List.{length-take-le, take_rest}
use Rattle.ct_check.specs.declared.checked.CheckedStep.{CheckedStep}
use Rattle.ct_cases.specs.Holding.{Testing}
use Rattle.ct_orders.specs.Verdicts.{IsAt, FailsFirst, whole}
use Rattle.ct_cases.specs.Cases.{first_case}
use Rattle.ct_orders.specs.Course.{IsSoFar, IsVerdict}
use Rattle.ct_orders.proofs.Stepping.{alone_walked, alone_stops, at_left, parts_verdicts}
use Rattle.ct_orders.proofs.tester.parts.Goals as goal

pub returns-in-None : goal.returns-in-None
returns-in-None g c =
    let setting = ap (λ (t : Testing). t.setting) c.tester.view_is in
    let walked = rw (setting, c.in-None.is) at c.in_ok-world.ensures in
    let parts = c.args.parts.now in
    let count = c.count_before-count.result in
    let Rest = λ (left : List CheckedStep). IfOk c.steps-in-None.result (λ ended. (all : List CheckedStep)
    → IsSoFar c.args.tester.now.setting c.args.tester.now.most all left (first_case c.in_ok-world.world c.steps.new.names ∷ []) None
    → IsAt all (c.args.before + count) left → IsVerdict c.args.tester.now.setting c.args.tester.now.most all ended) in
    parts_verdicts c.args.tester.now.setting c.args.tester.now.most parts (drop count parts) (first_case c.args.world c.args.names ∷ []) (first_case c.in_ok-world.world c.steps.new.names ∷ [])
    c.args.before (c.args.before + count) c.steps-in-None.result (subst Rest (take_rest parts count) c.steps-in-None.ensures)
    (λ preamble so_far many. (
      alone_walked c.args.tester.now.setting c.args.tester.now.most c.one_meeting.ensures preamble parts count c.count_before-count.ensures.statements c.args.world c.args.names so_far c.in_ok-world.world c.steps.new.names walked,
      subst (λ (n : ℕ). IsAt (whole preamble parts) (n + count) (drop count parts)) many (at_left c.args.tester.now.setting c.args.tester.now.most c.one_meeting.ensures preamble parts count c.count_before-count.ensures.within),
    ))

pub returns : goal.returns
returns g c = λ preamble so_far many.
    let setting = ap (λ (t : Testing). t.setting) c.tester.view_is in
    let walked = rw (setting, c.in-Some.is) at c.in_ok-world.ensures in
    let parts = c.args.parts.now in
    let count = c.count_before-count.result in
    c.failed.ensures c.args.tester.now.setting c.args.tester.now.most (whole preamble parts)
    (subst (λ (n : ℕ). FailsFirst c.args.tester.now.setting c.args.tester.now.most (whole preamble parts) (n + c.in-Some.failure.place) [] c.steps.new.names c.in-Some.failure.unmet.came) many
    (alone_stops c.args.tester.now.setting c.args.tester.now.most c.one_meeting.ensures preamble parts count c.count_before-count.ensures.statements c.args.world c.args.names so_far
    c.in_ok-world.world c.steps.new.names c.in-Some.failure.place c.in-Some.failure.unmet.came walked))

-- a failure is at one of these parts
pub overflow_add-place : goal.overflow_add-place
overflow_add-place g c =
    let setting = ap (λ (t : Testing). t.setting) c.tester.view_is in
    let walked = rw (setting, c.in-Some.is) at c.in_ok-world.ensures in
    let front = take c.count_before-count.result c.args.parts.now in
    let within = stops_within c.args.tester.now.setting c.args.world c.args.names c.steps.new.names (without_interleaves front) c.in-Some.failure.place c.in-Some.failure.unmet.came walked in
    omega (arith, within, few_statements front, length-take-le c.count_before-count.result c.args.parts.now c.count_before-count.ensures.within, c.requires, c.count_before-count.ensures.within)
