use Rattle.std.proofs.Common.{◌≡◌, map, take}
use Rattle.ct_patterns.specs.Views.{binding_views}
use Rattle.ct_outcomes.specs.Standings.{named_of}
use Rattle.ct_outcomes.specs.Types.{types_at}
use Rattle.ct_outcomes.proofs.meeting.named_of.Given as goal

abbrev pub invariant-loop-binding : goal.invariant-loop-binding
invariant-loop-binding l = l.named.items ≡ map (named_of (types_at l.at)) (binding_views (take l.binding-index l.bindings.items.items))
