use Rattle.ic_leb.proofs.Shortest.{signed_spelled, signed_shortest}
use Rattle.ic_leb.proofs.laws.shortest_signed.Goals as goal

pub returns-clause-spells : goal.returns-clause-spells
returns-clause-spells c = signed_spelled

pub returns-clause-shortest : goal.returns-clause-shortest
returns-clause-shortest c = signed_shortest
