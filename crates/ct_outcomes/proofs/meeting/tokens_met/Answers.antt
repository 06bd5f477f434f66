use Rattle.std.proofs.Common.{◌≡◌, true, false, Some}
use Rattle.cd_codec.specs.Answers.{contents}
use Rattle.cd_tokens.specs.View.{token_views}
use Rattle.ct_values.specs.Steps.{step_views}
use Rattle.ct_values.specs.Spelled.{spelled}
use Rattle.ct_outcomes.specs.Types.{types_at}
use Rattle.ct_outcomes.proofs.Found.{met_by}
use Rattle.ct_outcomes.proofs.meeting.tokens_met.Goals as goal

pub returns-in-Some : goal.returns-in-Some
returns-in-Some c =
    let said : spelled (record { patterns = true; names = false }) (types_at c.args.at).0 (types_at c.args.at).1 (token_views c.args.tokens.now) ≡ Some (step_views c.deref.result.now) =
    rw c.deref.ensures.value (rw c.in-Some.is at c.in_ok-steps_of.ensures) in
    met_by (types_at c.args.at) (token_views c.args.tokens.now) (contents c.args.values.now) c.deref.result.now c.steps_met.result said c.steps_met.ensures
