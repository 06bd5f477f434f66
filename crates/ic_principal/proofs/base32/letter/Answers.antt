use Rattle.std.proofs.Common.{refl}
use Rattle.ic_principal.specs.Base32.{alphabet}
use Rattle.ic_principal.proofs.Base32Laws.{character-lt}
use Rattle.ic_principal.proofs.base32.letter.Goals as goal

pub returns-clause-letter : goal.returns-clause-letter
unfolding alphabet
returns-clause-letter c = refl

pub returns-clause-ascii : goal.returns-clause-ascii
unfolding alphabet
returns-clause-ascii c = character-lt c.args.value c.requires
