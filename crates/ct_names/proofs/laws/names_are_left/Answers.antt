use Rattle.ct_names.specs.declared.role.Before.TheVariants.{Value}
use Rattle.ct_names.proofs.Left.{left}
use Rattle.ct_names.proofs.laws.names_are_left.Goals as goal

pub returns : goal.returns
returns c = λ tokens. left Value tokens
