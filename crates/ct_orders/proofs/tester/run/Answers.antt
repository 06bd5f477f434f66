use Rattle.std.proofs.Common.{◌≡◌, [], ◌∷◌, length, ap, ◌∙◌, arith}
use Rattle.ct_check.specs.declared.checked.CheckedTest.{CheckedTest}
use Rattle.ct_cases.specs.Holding.{Testing}
use Rattle.ct_orders.specs.Verdicts.{whole}
use Rattle.ct_cases.specs.Cases.{first_case}
use Rattle.ct_orders.proofs.Stepping.{preamble_walked, preamble_stops, run_verdicts}
use Rattle.ct_orders.proofs.tester.run.Goals as goal

pub returns-in-None : goal.returns-in-None
returns-in-None g c =
    let setting = ap (λ (t : Testing). t.setting) c.tester.view_is in
    let same : c.deref.result.now ≡ c.args.preamble.now = c.deref.ensures.value ∙ c.preamble.view_is in
    let own : c.deref-in-None.result.now ≡ c.args.test.now.steps = c.deref-in-None.ensures.value ∙ ap (λ (t : CheckedTest). t.steps) c.test.view_is in
    let walked = rw (setting, c.new.ensures, same, c.in-None.is) at c.in_ok-world.ensures in
    let preamble = c.args.preamble.now in
    let parts = c.args.test.now.steps in
    let front : length c.preamble.inside.items.items ≡ length preamble = ap length c.preamble.view_is in
    let many : length preamble ≡ c.len.result = omega (arith, front, c.len.ensures, c.preamble.inside.items.ok) in
    run_verdicts c.args.tester.now.setting c.args.tester.now.most preamble parts (first_case c.in_ok-world.world c.statements.new.names ∷ []) c.len.result c.parts.result (rw own at c.parts.ensures)
    (preamble_walked c.args.tester.now.setting c.args.tester.now.most c.one_meeting.ensures preamble parts c.in_ok-world.world c.in_ok-names.names c.statements.new.names c.in_ok-names.ensures walked) many

pub returns : goal.returns
returns g c =
    let setting = ap (λ (t : Testing). t.setting) c.tester.view_is in
    let same : c.deref.result.now ≡ c.args.preamble.now = c.deref.ensures.value ∙ c.preamble.view_is in
    let walked = rw (setting, c.new.ensures, same, c.in-Some.is) at c.in_ok-world.ensures in
    let preamble = c.args.preamble.now in
    let parts = c.args.test.now.steps in
    c.failed.ensures c.args.tester.now.setting c.args.tester.now.most (whole preamble parts)
    (preamble_stops c.args.tester.now.setting c.args.tester.now.most c.one_meeting.ensures preamble parts c.in_ok-world.world c.in_ok-names.names c.statements.new.names c.in-Some.failure.place c.in-Some.failure.unmet.came
    c.in_ok-names.ensures walked)
