use Rattle.std.proofs.Common.{List, ℕ}
use Rattle.cd_tokens.specs.Token.{Token}
use Rattle.cd_tokens.specs.View.{token_views}
use Rattle.ct_outcomes.specs.Types.{types_at}
use Rattle.ct_outcomes.specs.Standings.{IsFilledIn}
use Rattle.ct_outcomes.specs.Arguments.{IsMessageOf}
use Rattle.ct_outcomes.proofs.Once.{one_filling}
use Rattle.ct_outcomes.proofs.Found.{through}
use Rattle.ct_outcomes.proofs.filling.filled_argument.Goals as goal

pub returns-in-None : goal.returns-in-None
returns-in-None c =
    let none : (tokens : List Token) → IsFilledIn c.args.names.now c.args.filled.now tokens → ⊥ = rw c.in-None.is at c.in_ok-filled_in.ensures in
    λ arg is. none is.0 is.1

pub returns : goal.returns
returns c =
    let filled : IsFilledIn c.args.names.now c.args.filled.now (token_views c.deref-in-Some.result.now) = rw c.deref-in-Some.ensures.value (rw c.in-Some.is at c.in_ok-filled_in.ensures) in
    through (λ (arg : List ℕ). arg) (IsFilledIn c.args.names.now c.args.filled.now) (IsMessageOf (types_at c.args.at)) (token_views c.deref-in-Some.result.now) c.message_of.result (one_filling c.args.names.now c.args.filled.now) filled c.message_of.ensures
