use Rattle.ct_patterns.proofs.Matches.{met_meets, meets_met}
use Rattle.ct_patterns.proofs.laws.meets_met.Goals as goal

pub returns : goal.returns
returns c = λ pattern values bindings. (meets_met pattern values bindings, met_meets pattern values bindings)
