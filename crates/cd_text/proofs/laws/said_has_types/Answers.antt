use Rattle.cd_text.proofs.Typed.{said_types}
use Rattle.cd_text.proofs.laws.said_has_types.Goals as goal

pub returns : goal.returns
returns c = said_types
