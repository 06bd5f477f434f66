use Rattle.std.proofs.Common.{ap, ◌∙◌}
use Rattle.std.specs.Map.{keys_of}
use Rattle.ic_behaviour.specs.State.{State}
use Rattle.ct_run.proofs.Hearings.{ids_are}
use Rattle.ct_run.proofs.hearing.ids.Goals as goal

pub returns : goal.returns
returns c = c.in_ok-ids.ensures ∙ (ids_are c.parts.result.now.canisters.entries ∙ ap (λ (s : State). keys_of s.canisters) c.parts.ensures.state)
