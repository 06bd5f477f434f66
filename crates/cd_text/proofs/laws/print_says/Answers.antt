use Rattle.std.specs.Prelude.{None}
use Rattle.cd_text.proofs.Written.{printed_says}
use Rattle.cd_text.proofs.laws.print_says.Goals as goal

pub returns : goal.returns
returns c = λ table types values. printed_says None table types values tt
