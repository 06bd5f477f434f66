use Rattle.std.proofs.Common.{◌++◌, sym, subst}
use Rattle.std.specs.List.{AllByRecursion, AllZip}
use Rattle.std.proofs.lemmas.Result.{IfOk-at_ok}
use Rattle.ic_rounds.specs.Slots.{IsReady}
use Rattle.ic_rounds.specs.HandledSlots.{IsHandled}
use Rattle.ic_workers_tests.proofs.Parts.{each-part, zip-parts}
use Rattle.ic_workers_tests.proofs.chunks.+sides.Goals as goal

pub handled_by_all-handle_in_slots-requires-clause-ready : goal.handled_by_all-handle_in_slots-requires-clause-ready
handled_by_all-handle_in_slots-requires-clause-ready g t c κs within =
    each-part IsReady c.in_ok-chunk.chunk.slots.items c.in_ok-chunk.others.slots.items (subst (AllByRecursion IsReady) c.in_ok-chunk.ensures.slots c.requires.ready)

pub handle_in_slots-returns : goal.handle_in_slots-returns
handle_in_slots-returns g t c =
    let chunk = c.args.chunk.slots.items in
    let others = c.args.others.slots.items in
    subst (AllZip (IsHandled c.args.env) (chunk ++ others)) (sym c.in_ok-append.ensures.items)
    (zip-parts (IsHandled c.args.env) chunk others _ _
    (IfOk-at_ok (λ v. AllZip (IsHandled c.args.env) chunk v.items) c.in_ok-all.was c.join-first.ensures.first)
    (IfOk-at_ok (λ v. AllZip (IsHandled c.args.env) others v.items) c.in_ok-more.was c.join-first.ensures.second))
