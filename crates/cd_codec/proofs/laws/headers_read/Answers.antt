use Rattle.cd_codec.proofs.HeaderAnswers.{header_is_read}
use Rattle.cd_codec.proofs.laws.headers_read.Goals as goal

pub returns : goal.returns
returns c = header_is_read
