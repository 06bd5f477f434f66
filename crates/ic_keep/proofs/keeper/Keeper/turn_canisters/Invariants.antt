use Rattle.std.proofs.Common.{◌≡◌, ℕ, ◌≤◌, List, map, length, take, drop}
use Rattle.std.specs.List.{AllByRecursion}
use Rattle.std.specs.Prelude.{None}
use Rattle.ic_state.specs.declared.canister.Canister.{Canister as StoredCanister}
use Rattle.ic_keep.specs.Kept.{counted_at, seen_entry}
use Rattle.ic_keep.proofs.keeper.Keeper.turn_canisters.Given as goal

-- the new map has those that are not left, and the old one those that are
abbrev pub invariant-loop-left : goal.invariant-loop-left
invariant-loop-left l =
    (l.left ≤ length l.to)
    × (map seen_entry l.canisters.entries ≡ map (counted_at l.self) (drop l.left l.to))
    × AllByRecursion (λ (e : List ℕ × StoredCanister). e.1.store.begun ≡ None) l.canisters.entries
    × (map seen_entry l.old.entries ≡ map (counted_at l.self) (take l.left l.from))
    × AllByRecursion (λ (e : List ℕ × StoredCanister). e.1.store.begun ≡ None) l.old.entries

abbrev pub decreases-loop-left : goal.decreases-loop-left
decreases-loop-left l = l.left
