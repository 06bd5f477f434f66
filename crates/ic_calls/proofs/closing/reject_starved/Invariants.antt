use Rattle.std.proofs.Common.{◌≡◌, ◌++◌, take}
use Rattle.std.specs.List.{flat_map}
use Rattle.std.specs.Option.{option_copied}
use Rattle.ic_behaviour.specs.Closing.{rejected}
use Rattle.ic_calls.specs.Closed.{trapped_in}
use Rattle.ic_calls.proofs.closing.reject_starved.Given as goal

abbrev pub invariant-loop-context : goal.invariant-loop-context
invariant-loop-context l = l.answers ≡ l.initial.answers ++ flat_map (rejected (trapped_in (option_copied l.own) (option_copied l.trap))) (take l.context-index l.contexts)
