use Rattle.std.proofs.Common.{◌≡◌, ap, ◌∙◌}
use Rattle.std.proofs.lemmas.List.{append-nil}
use Rattle.ct_cases.specs.Holding.{Testing}
use Rattle.ct_cases.proofs.Statements.{goes_to}
use Rattle.ct_cases.proofs.Stays.{grows_further}
use Rattle.ct_cases.proofs.tester.Tester.statement_in.Goals as goal

pub returns-clause-grows : goal.returns-clause-grows
returns-clause-grows g c =
    grows_further c.args.tables.now c.world.new.self c.case.new.self c.in_ok-world.ensures.grows c.in_ok-case-in-None.ensures.grows

pub returns-clause-goes : goal.returns-clause-goes
returns-clause-goes g c =
    let setting : c.self.inside.runner ≡ c.args.self.now.setting = ap (λ (t : Testing). t.setting) c.self.view_is in
    let steps = rw (setting, c.in-None.is) at c.in_ok-world-2.ensures in
    let order : c.in_ok-order.order.items ≡ c.args.case.now.order.items = c.in_ok-order.ensures ∙ append-nil _ ∙ c.deref.ensures.value in (
      c.in_ok-case-in-None.ensures.held,
      goes_to c.args.self.now.setting c.args.statement.now c.args.tables.now c.world.new.self c.in_ok-world.ensures.grows c.args.case.now c.requires
          c.in_ok-world.world c.in_ok-names.names c.in_ok-world.ensures.world c.in_ok-names.ensures
          c.in_ok-world-2.world c.statement.new.names c.in_ok-order.order.items _ steps order c.in_ok-case-in-None.ensures.case,
    )
