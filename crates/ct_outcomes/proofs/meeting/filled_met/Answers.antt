use Rattle.std.proofs.Common.{List}
use Rattle.std.specs.Global.{Vec}
use Rattle.cd_codec.specs.Answers.{contents}
use Rattle.cd_tokens.specs.Token.{Token}
use Rattle.cd_tokens.specs.View.{token_views}
use Rattle.ct_outcomes.specs.declared.named.Named.{Named}
use Rattle.ct_outcomes.specs.Types.{types_at}
use Rattle.ct_outcomes.specs.Standings.{IsFilledIn}
use Rattle.ct_outcomes.specs.Meets.{MeetsSaid}
use Rattle.ct_outcomes.proofs.Once.{one_filling}
use Rattle.ct_outcomes.proofs.Found.{through}
use Rattle.ct_outcomes.proofs.meeting.filled_met.Goals as goal

pub returns-in-None : goal.returns-in-None
returns-in-None c =
    let none : (tokens : List Token) → IsFilledIn c.args.names.now c.args.filled.now tokens → ⊥ = rw c.in-None.is at c.in_ok-filled_in.ensures in
    λ bound is. none is.0 is.1

pub returns : goal.returns
returns c =
    let filled : IsFilledIn c.args.names.now c.args.filled.now (token_views c.deref-in-Some.result.now) = rw c.deref-in-Some.ensures.value (rw c.in-Some.is at c.in_ok-filled_in.ensures) in
    through (λ (b : Vec Named). b.items) (IsFilledIn c.args.names.now c.args.filled.now) (λ (tokens : List Token). MeetsSaid (types_at c.args.at) tokens (contents c.args.values.now)) (token_views c.deref-in-Some.result.now) c.tokens_met.result (one_filling c.args.names.now c.args.filled.now) filled c.tokens_met.ensures
