use Rattle.std.specs.Prelude.{Some}
use Rattle.cd_text.proofs.Written.{printed_says}
use Rattle.cd_text.proofs.laws.print_named_says.Goals as goal

pub returns : goal.returns
returns c = λ names table types values have are. printed_says (Some names) table types values (have, are)
