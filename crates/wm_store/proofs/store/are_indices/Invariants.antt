use Rattle.std.proofs.Common.{◌<◌, ◌^◌, IfSome}
use Rattle.std.specs.List.{AllWithin}
use Rattle.wm_store.proofs.store.are_indices.Given as goal

abbrev pub invariant-loop-entry : goal.invariant-loop-entry
invariant-loop-entry l = AllWithin (λ e. IfSome e (λ f. f < 2 ^ 32)) l.entries 0 l.entry-index
