use Rattle.std.proofs.Common.{sym, ap, ◌∙◌, arith, slice_set}
use Rattle.ic_queues.proofs.Shelves.{emptied-is, message-is, nothing-beyond}
use Rattle.ic_queues.proofs.shelf.empty.Goals as goal

pub returns-then-place-len-clause-places : goal.returns-then-place-len-clause-places
returns-then-place-len-clause-places c =
    ap (slice_set c.args.places.now.items c.args.place) c.replace.ensures.after
    ∙ emptied-is c.args.place c.args.places.now.items (omega (arith, c.if-place-len.true, c.len.ensures, c.args.places.now.ok.0))

pub returns-then-place-len-clause-message : goal.returns-then-place-len-clause-message
returns-then-place-len-clause-message c =
    c.replace.ensures.value
    ∙ message-is c.args.place c.args.places.now.items c.index_mut.result.now (omega (arith, c.if-place-len.true, c.len.ensures, c.args.places.now.ok.0)) c.index_mut.ensures.value

pub returns-else-place-len-clause-places : goal.returns-else-place-len-clause-places
returns-else-place-len-clause-places c =
    sym (nothing-beyond c.args.place c.args.places.now.items (omega (arith, c.if-place-len.false, c.len.ensures, c.args.places.now.ok.0))).0

pub returns-else-place-len-clause-message : goal.returns-else-place-len-clause-message
returns-else-place-len-clause-message c =
    sym (nothing-beyond c.args.place c.args.places.now.items (omega (arith, c.if-place-len.false, c.len.ensures, c.args.places.now.ok.0))).1
