use Rattle.std.proofs.Common.{refl, sym, ap, subst}
use Rattle.std.specs.Prelude.{Ok}
use Rattle.ic_state.specs.Seen.{seen}
use Rattle.ic_calls.specs.Changes.{awaiting}
use Rattle.ic_mgmt_laws.specs.Moves.{waiter_of}
use Rattle.ic_mgmt.proofs.Numbers.{IsTrueOf, same_true, closed_true}
use Rattle.ic_mgmt.proofs.Rows.{waits_is}
use Rattle.ic_mgmt.proofs.phases.wait.Goals as goal

pub returns-clause-does : goal.returns-clause-does
returns-clause-does c = λ now s stands. ap Ok (
    waits_is c.args.call.now c.args.id c.args.canister.now c.close.new.canister c.in_ok-answers.answers (seen c.await_stop.new.canister)
    c.in_ok-await_stop.ensures.waits c.in_ok-answers.ensures.answers c.in_ok-answers.ensures.closed now s stands.counts
    )

pub returns-clause-counts : goal.returns-clause-counts
returns-clause-counts c = λ now is.
    let w = awaiting (waiter_of c.args.call.now) (seen c.args.canister.now) in
    let waits = subst (IsTrueOf now c.args.id) (sym c.in_ok-await_stop.ensures.waits) (same_true now c.args.id (seen c.args.canister.now) w refl refl is) in
    subst (IsTrueOf now c.args.id) (sym c.in_ok-answers.ensures.closed) (closed_true now c.args.id (seen c.await_stop.new.canister) waits)
