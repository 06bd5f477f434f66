use Rattle.std.proofs.Common.{◌≡◌, ◌++◌, take}
use Rattle.std.specs.List.{flat_map}
use Rattle.ic_calls.specs.Changes.{rejected}
use Rattle.ic_calls.proofs.deleting.reject_all.Given as goal

abbrev pub invariant-loop-context : goal.invariant-loop-context
invariant-loop-context l = l.answers ≡ l.initial.answers ++ flat_map rejected (take l.context-index l.contexts)
