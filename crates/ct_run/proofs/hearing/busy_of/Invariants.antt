use Rattle.std.proofs.Common.{◌≡◌, ◌++◌, drop}
use Rattle.std.specs.List.{filter}
use Rattle.ic_behaviour.specs.Round.{has_message}
use Rattle.ct_run.proofs.hearing.busy_of.Given as goal

-- those so far, and those of the rest that have a message
abbrev pub invariant-loop-id : goal.invariant-loop-id
invariant-loop-id l = l.items.items ++ filter (has_message l.world.messages) (drop l.id-index l.ids) ≡ filter (has_message l.world.messages) l.ids
