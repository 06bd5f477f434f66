use Rattle.cd_part.proofs.PartDecodes.{decodes}
use Rattle.cd_part.proofs.laws.read_as_written.Goals as goal

pub returns : goal.returns
returns c = λ table types part values bytes formed is message deep many. decodes table types part formed is values bytes message deep many
