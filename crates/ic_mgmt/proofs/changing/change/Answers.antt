use Rattle.std.proofs.Common.{ℕ, List, sym, ap, ◌∙◌, subst}
use Rattle.ic_behaviour.specs.State.{Canister, State}
use Rattle.ic_behaviour.specs.Installing.{enters_after}
use Rattle.ic_api.specs.System.{system_api}
use Rattle.ic_mgmt_candid.specs.Checks.{target}
use Rattle.ic_mgmt_laws.specs.Rows.{installs}
use Rattle.ic_mgmt.specs.Ending.{IfMemory}
use Rattle.ic_mgmt.specs.Changes.{DoesAt, KeepsCounts}
use Rattle.ic_mgmt.proofs.Orders.{same_some}
use Rattle.ic_mgmt.proofs.changing.change.Goals as goal

pub returns-in-InstallCode-clause-does : goal.returns-in-InstallCode-clause-does
returns-in-InstallCode-clause-does c =
    let install = c.in-InstallCode.install in
    let same = same_some _ _ (sym (ap target c.in-InstallCode.is) ∙ c.requires.target) in
    let row = λ (now s : State) (a : Canister). installs (enters_after system_api) c.args.env.limit (record now { time = c.args.env.time }) s c.args.call.now install a in
    rw c.in-InstallCode.is (subst (λ (id : List ℕ). DoesAt c.install_code.result c.args.call.now id c.args.canister.now c.install_code.new.canister row) same c.install_code.ensures.does)

pub returns-in-InstallCode-clause-counts : goal.returns-in-InstallCode-clause-counts
returns-in-InstallCode-clause-counts c =
    let same = same_some _ _ (sym (ap target c.in-InstallCode.is) ∙ c.requires.target) in
    subst (λ (id : List ℕ). IfMemory c.install_code.result (KeepsCounts id c.args.canister.now c.install_code.new.canister)) same c.install_code.ensures.counts
