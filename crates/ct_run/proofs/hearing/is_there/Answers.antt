use Rattle.std.proofs.Common.{ap, ◌∙◌}
use Rattle.std.specs.Prelude.{is_some}
use Rattle.std.specs.Map.{lookup}
use Rattle.ic_behaviour.specs.State.{at, State}
use Rattle.ct_run.proofs.Hearings.{there_is}
use Rattle.ct_run.proofs.hearing.is_there.Goals as goal

pub returns : goal.returns
returns c =
    c.has_key.ensures ∙ (there_is c.args.id.now c.parts.result.now.canisters.entries ∙ ap (λ (s : State). is_some (lookup (at c.args.id.now) s.canisters)) c.parts.ensures.state)
