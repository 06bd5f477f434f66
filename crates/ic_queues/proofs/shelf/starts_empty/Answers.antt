use Rattle.std.proofs.Common.{refl, arith}
use Rattle.ic_queues.proofs.Shelves.{front-is, no-front}
use Rattle.ic_queues.proofs.shelf.starts_empty.Goals as goal

pub returns-in-Some : goal.returns-in-Some
returns-in-Some c =
    front-is c.args.places.now.items c.in-Some.place.now c.is_none.result (omega (arith, c.in-Some.ensures.variant.0 refl, c.args.places.now.ok.0)) c.in-Some.ensures.lookup c.is_none.ensures

pub returns-in-None : goal.returns-in-None
returns-in-None c = no-front c.args.places.now.items _ c.args.places.now.ok.0 c.in-None.ensures.variant.1
