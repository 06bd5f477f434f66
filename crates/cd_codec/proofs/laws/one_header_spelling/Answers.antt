use Rattle.cd_codec.proofs.HeaderAnswers.{one_header}
use Rattle.cd_codec.proofs.laws.one_header_spelling.Goals as goal

pub returns : goal.returns
returns c = one_header
