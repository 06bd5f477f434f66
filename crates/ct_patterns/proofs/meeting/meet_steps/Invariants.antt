use Rattle.std.proofs.Common.{◌≡◌, ◌++◌, drop}
use Rattle.std.specs.Prelude.{option_map}
use Rattle.cd_codec.specs.View.{views}
use Rattle.ct_patterns.specs.Views.{binding_views, waiting}
use Rattle.ct_patterns.specs.Met.{met}
use Rattle.ct_patterns.proofs.meeting.meet_steps.Given as goal

-- what is bound, and what the steps that are left bind to the values that are next
abbrev pub invariant-loop-step : goal.invariant-loop-step
invariant-loop-step l = option_map (λ bindings. binding_views l.bindings.items ++ bindings) (met (drop l.step-index l.pattern) (waiting l.next.items)) ≡ met l.pattern (views l.values)
