use Rattle.std.proofs.Common.{sym, ap, subst}
use Rattle.std.specs.Prelude.{Ok}
use Rattle.ic_state.specs.Seen.{seen}
use Rattle.ic_mgmt.proofs.Numbers.{IsTrueOf, emptied_true, closed_true}
use Rattle.ic_mgmt.proofs.Rows.{uninstalls_is}
use Rattle.ic_mgmt.proofs.uninstalling.uninstall_code.Goals as goal

pub returns-clause-does : goal.returns-clause-does
returns-clause-does c = λ now s stands. ap Ok (
    uninstalls_is c.args.call.now c.args.id c.args.canister.now c.close.new.canister c.in_ok-response.response c.in_ok-answers.answers c.in_ok-closing.closing c.append.new.self
    (seen c.uninstall.new.canister) c.in_ok-response.ensures c.in_ok-answers.ensures.emptied c.in_ok-answers.ensures.answers c.in_ok-closing.ensures.answers c.in_ok-append.ensures
    c.in_ok-closing.ensures.closed now s stands.counts
    )

pub returns-clause-counts : goal.returns-clause-counts
returns-clause-counts c = λ now is.
    let empty = subst (IsTrueOf now c.args.id) (sym c.in_ok-answers.ensures.emptied) (emptied_true now c.args.id (seen c.args.canister.now) is) in
    subst (IsTrueOf now c.args.id) (sym c.in_ok-closing.ensures.closed) (closed_true now c.args.id (seen c.uninstall.new.canister) empty)
