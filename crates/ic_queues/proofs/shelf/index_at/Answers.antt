use Rattle.std.proofs.Common.{arith}
use Rattle.ic_queues.proofs.Places.{filled-index, after-filled}
use Rattle.ic_queues.proofs.shelf.index_at.Goals as goal

pub returns-then-place-full : goal.returns-then-place-full
returns-then-place-full c = filled-index c.args.full c.args.place c.args.places.now.items c.requires.full c.if-place-full.true

pub loop-index-init : goal.loop-index-init
loop-index-init c = after-filled c.args.full c.args.place c.args.places.now.items c.requires.full (omega (arith, c.if-place-full.false))
