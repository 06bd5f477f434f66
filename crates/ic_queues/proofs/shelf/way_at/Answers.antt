use Rattle.std.proofs.Common.{◌≡◌, Some, sym, ap, ◌∙◌, arith, option_map}
use Rattle.ic_queues.specs.Walking.{way_of}
use Rattle.ic_queues.proofs.Shelves.{message-is, nothing-beyond}
use Rattle.ic_queues.proofs.shelf.way_at.Goals as goal

pub returns-then-len-place : goal.returns-then-len-place
returns-then-len-place c = ap (option_map way_of) (sym (nothing-beyond c.args.place c.args.places.now.items (omega (arith, c.if-len-place.true, c.len.ensures, c.args.places.now.ok.0))).1)

pub returns-in-Some : goal.returns-in-Some
returns-in-Some c =
    let way : Some (c.sender.result, c.callee.result) ≡ Some (way_of c.in-Some.held) = λ i. Some (c.sender.ensures i, c.callee.ensures i) in
    way
    ∙ ap (option_map way_of)
    (sym c.in-Some.is ∙ message-is c.args.place c.args.places.now.items c.index.result.now (omega (arith, c.if-len-place.false, c.len.ensures, c.args.places.now.ok.0)) c.index.ensures)

pub returns-in-None : goal.returns-in-None
returns-in-None c =
    ap (option_map way_of)
    (sym c.in-None.is ∙ message-is c.args.place c.args.places.now.items c.index.result.now (omega (arith, c.if-len-place.false, c.len.ensures, c.args.places.now.ok.0)) c.index.ensures)
