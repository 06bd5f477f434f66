use Rattle.std.proofs.Common.{◌≡◌, ◌++◌, map, take, drop}
use Rattle.ic_calls.specs.Changes.{deleted}
use Rattle.ic_calls.proofs.deleting.delete_all.Given as goal

abbrev pub invariant-loop-context : goal.invariant-loop-context
invariant-loop-context l = l.contexts ≡ map deleted (take l.context-index l.initial.contexts) ++ drop l.context-index l.initial.contexts
