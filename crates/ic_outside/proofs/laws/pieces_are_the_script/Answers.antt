use Rattle.ic_outside.proofs.PieceLaws.{concat-pieces}
use Rattle.ic_outside.proofs.laws.pieces_are_the_script.Goals as goal

pub returns : goal.returns
returns c = concat-pieces
