use Rattle.ic_behaviour.specs.Submitted.{empty}
use Rattle.ct_run.specs.Statements.{first_names}
use Rattle.ct_run.proofs.One.{met_before}
use Rattle.ct_run.proofs.laws.what_comes_before_is_met.Goals as goal

pub returns : goal.returns
returns c = λ setting statements place came names fails. met_before setting empty first_names names statements place came fails
