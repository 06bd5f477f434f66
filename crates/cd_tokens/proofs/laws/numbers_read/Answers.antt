use Rattle.cd_tokens.proofs.Numerals.{natural_again, natural_takes, integer_again, integer_takes}
use Rattle.cd_tokens.proofs.laws.numbers_read.Goals as goal

pub returns-clause-natural : goal.returns-clause-natural
returns-clause-natural c = λ n bytes. (natural_takes n bytes, natural_again n bytes)

pub returns-clause-integer : goal.returns-clause-integer
returns-clause-integer c = λ z bytes. (integer_takes z bytes, integer_again z bytes)
