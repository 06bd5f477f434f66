use Rattle.cd_sub.specs.Sub.{Sub}
use Rattle.cd_coerce.specs.Step.{setting}
use Rattle.cd_coerce.proofs.DecidesLemmas.{test_decides}
use Rattle.cd_coerce.proofs.Found.{found}
use Rattle.cd_coerce.proofs.Only.{only}
use Rattle.cd_coerce.proofs.laws.one_reading.Goals as goal

pub returns : goal.returns
returns c =
    λ lower upper t u v r.
    let decides = test_decides lower upper (λ a b. c.decided.ensures lower upper a b) in
    (found (λ a b. Sub lower a upper b) (setting lower upper) decides v t u r, only (λ a b. Sub lower a upper b) (setting lower upper) decides r v t u)
