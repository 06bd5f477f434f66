use Rattle.std.proofs.Common.{sym, ap, ◌∙◌, not, take}
use Rattle.ic_queues.specs.Queued.{first_of_way}
use Rattle.ic_queues.specs.Shelved.{messages_of}
use Rattle.ic_queues.proofs.Shelves.{message-is}
use Rattle.ic_queues.proofs.shelf.is_first_at.Goals as goal

pub returns-in-Some : goal.returns-in-Some
returns-in-Some c =
    ap not c.has_earlier.ensures
    ∙ ap (first_of_way (messages_of (take c.args.index c.args.places.now.items))) (sym c.in-Some.is ∙ message-is c.args.index c.args.places.now.items c.index.result.now c.requires c.index.ensures)

pub returns-in-None : goal.returns-in-None
returns-in-None c =
    ap (first_of_way (messages_of (take c.args.index c.args.places.now.items))) (sym c.in-None.is ∙ message-is c.args.index c.args.places.now.items c.index.result.now c.requires c.index.ensures)
