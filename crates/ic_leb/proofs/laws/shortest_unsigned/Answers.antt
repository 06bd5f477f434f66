use Rattle.ic_leb.proofs.Shortest.{unsigned_spelled, unsigned_shortest}
use Rattle.ic_leb.proofs.laws.shortest_unsigned.Goals as goal

pub returns-clause-spells : goal.returns-clause-spells
returns-clause-spells c = unsigned_spelled

pub returns-clause-shortest : goal.returns-clause-shortest
returns-clause-shortest c = unsigned_shortest
