use Rattle.std.proofs.Common.{◌+◌, ℕ, List, take, Option, sym, subst}
use Rattle.ct_check.specs.Moving.{Moving}
use Rattle.ct_cases.specs.Interleaves.{IsSubmitted, AreSubmitted, IsUnsent}
use Rattle.ct_cases.proofs.Sending.{sent_more, stuck_there}
use Rattle.ct_cases.proofs.tester.Tester.submit.Goals as goal

pub returns-in-Not : goal.returns-in-Not
returns-in-Not g c =
    let unsent = rw c.in-Not.is at c.in_ok-next.ensures in
    let Unsent = λ (m : Moving). IsUnsent c.args.self.now.setting c.args.names.now c.loop-place.world m c.in-Not.came in
    stuck_there c.args.self.now.setting c.args.names.now c.args.world c.args.moves.now c.loop-place.accepted.items c.loop-place.place c.index-moves-place.result
    c.loop-place.world c.in_ok-next.next c.loop-place-test.true c.loop-place.invariant c.in-Not.came (subst Unsent c.index-moves-place.is unsent.0)

pub loop-place-preserved : goal.loop-place-preserved
loop-place-preserved g c =
    let sent = rw c.in-As.is at c.in_ok-next.ensures in
    let Sent = λ (m : Moving). IsSubmitted c.args.self.now.setting c.args.names.now c.loop-place.world m c.in-As.number c.in_ok-next.next in
    let Next = λ (numbers : List (Option ℕ)). AreSubmitted c.args.self.now.setting c.args.names.now c.args.world (take (c.loop-place.place + 1) c.args.moves.now) numbers c.in_ok-next.next in
    subst Next (sym c.in_ok-push-in-As.ensures.items)
    (sent_more c.args.self.now.setting c.args.names.now c.args.world c.args.moves.now c.loop-place.accepted.items c.loop-place.place c.index-moves-place.result
    c.loop-place.world c.in_ok-next.next c.loop-place-test.true c.loop-place.invariant c.in-As.number (subst Sent c.index-moves-place.is sent))
