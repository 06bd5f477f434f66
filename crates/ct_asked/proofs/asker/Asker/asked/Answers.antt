use Rattle.ic_script.specs.declared.Ask.{Ask}
use Rattle.ct_check.specs.declared.checked.CheckedAction.TheVariants as actions
use Rattle.ct_outcomes.specs.declared.came.Came.TheVariants.{NotValues}
use Rattle.ct_asked.specs.declared.asked.Asked.TheVariants.{Call, Query, Nothing}
use Rattle.ct_asked.specs.Asked.{IsMessage}
use Rattle.ct_asked.proofs.Moves.{asks_none, asks_said, all_asked}
use Rattle.ct_asked.proofs.asker.Asker.asked.Goals as goal

pub returns-in-None : goal.returns-in-None
returns-in-None c =
    let none : (ask : Ask) → IsMessage c.args.self.now c.args.names.now c.made.inside.by c.in-Call.message ask → ⊥ = rw c.in-None.is at c.in_ok-said-in-Call.ensures in
    asks_said c.args.self.now c.args.names.now c.args.made.now c.made.inside.by c.made.inside.action (actions.Call c.in-Call.message) c.made.view_is c.in-Call.is (Nothing NotValues)
    (asks_none Call (IsMessage c.args.self.now c.args.names.now c.made.inside.by c.in-Call.message) none)

pub returns-in-None-2 : goal.returns-in-None-2
returns-in-None-2 c =
    let none : (ask : Ask) → IsMessage c.args.self.now c.args.names.now c.made.inside.by c.in-Query.message ask → ⊥ = rw c.in-None-2.is at c.in_ok-said-in-Query.ensures in
    asks_said c.args.self.now c.args.names.now c.args.made.now c.made.inside.by c.made.inside.action (actions.Query c.in-Query.message) c.made.view_is c.in-Query.is (Nothing NotValues)
    (asks_none Query (IsMessage c.args.self.now c.args.names.now c.made.inside.by c.in-Query.message) none)

pub returns-in-Upgrade : goal.returns-in-Upgrade
returns-in-Upgrade c =
    all_asked c.args.self.now c.args.names.now c.args.made.now c.made.inside.by c.made.inside.action (actions.Upgrade c.in-Upgrade.change) c.made.view_is c.in-Upgrade.is c.upgrade.result c.upgrade.ensures

pub returns-in-Reinstall : goal.returns-in-Reinstall
returns-in-Reinstall c =
    all_asked c.args.self.now c.args.names.now c.args.made.now c.made.inside.by c.made.inside.action (actions.Reinstall c.in-Reinstall.change) c.made.view_is c.in-Reinstall.is c.change.result c.change.ensures
