use Rattle.std.proofs.Common.{◌≡◌, ℕ, ◌≤◌, List, map, length, drop}
use Rattle.std.specs.List.{AllByRecursion}
use Rattle.std.specs.Prelude.{None}
use Rattle.ic_state.specs.declared.canister.Canister.{Canister as StoredCanister}
use Rattle.ic_keep.specs.Kept.{counted_at, seen_entry}
use Rattle.ic_keep.proofs.keeper.Keeper.make_canisters.Given as goal

-- the map has those that are not left
abbrev pub invariant-loop-left : goal.invariant-loop-left
invariant-loop-left l =
    (l.left ≤ length l.kept)
    × (map seen_entry l.canisters.entries ≡ map (counted_at l.self) (drop l.left l.kept))
    × AllByRecursion (λ (e : List ℕ × StoredCanister). e.1.store.begun ≡ None) l.canisters.entries

abbrev pub decreases-loop-left : goal.decreases-loop-left
decreases-loop-left l = l.left
