use Rattle.ct_values.proofs.Whole.{spelled_tied}
use Rattle.ct_values.proofs.laws.values_are_spelled.Goals as goal

pub returns : goal.returns
returns c = λ admitted table types values tokens no_names formed said. spelled_tied admitted table types values tokens no_names formed said
