use Rattle.std.proofs.Common.{◌++◌, refl}
use Rattle.ic_witness.proofs.Trees.{no_longer_text}
use Rattle.ic_witness.proofs.laws.no_front.Goals as goal

pub returns : goal.returns
returns c = λ tree other front rest is are. no_longer_text tree other front rest (front ++ rest) is are refl
