use Rattle.cd_part.proofs.PartValues as values_of
use Rattle.cd_part.proofs.laws.same_values.Goals as goal

pub returns : goal.returns
returns c = λ table types part values is. values_of.same_values table types part is values
