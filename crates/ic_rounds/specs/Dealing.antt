-- Canisters are put into slots with their first messages. No standard has this.
use Rattle.std.specs.Prelude.{◌≡◌, ℕ, true, is_some, List, [], ◌∷◌, ◌++◌, Option, Some, None}
use Rattle.std.specs.List.{fold, AllByRecursion, IsDistinct}
use Rattle.std.specs.List.Sorted.{IsStrictlySortedBy}
use Rattle.std.specs.Ordering.{nat_cmp, eq_by_cmp}
use Rattle.std.specs.Cmp.Lexicographic.{slice_cmp}
use Rattle.std.specs.Map.{lookup, keys_of, remove_entry}
use Rattle.ic_behaviour.specs.declared.call.Message.{Message}
use Rattle.ic_behaviour.specs.State.{at}
use Rattle.ic_state.specs.declared.canister.Canister.{Canister}
use Rattle.ic_rounds.specs.declared.slot.Slot.{Slot}

-- the canisters that have no slot, and the slots
pub record Dealing : Type 0 where
  pub canisters : List (List ℕ × Canister)
  pub slots : List Slot

abbrev pub none_dealt : List (List ℕ × Canister) → Dealing
none_dealt canisters = record { canisters = canisters; slots = [] }

abbrev pub deal_to : Dealing → List ℕ × Message → Option Canister → Dealing
deal_to w e None = w
deal_to w e (Some c) = record {
  canisters = remove_entry (at e.0) w.canisters;
  slots = w.slots ++ (record { key = e.0; canister = c; message = e.1 }) ∷ [];
}

-- a canister goes into a slot with its first message
abbrev pub deal : Dealing → List ℕ × Message → Dealing
deal w e = deal_to w e (lookup (at e.0) w.canisters)

-- the slots that the first messages make
abbrev pub slots_of : List (List ℕ × Canister) → List (List ℕ × Message) → List Slot
slots_of es firsts = (fold deal (none_dealt es) firsts).slots

-- canisters in their order, and one message to each of some of them
pub record AreFirsts (es : List (List ℕ × Canister)) (firsts : List (List ℕ × Message)) : Type 0 where
  pub rising : IsStrictlySortedBy (slice_cmp nat_cmp) (keys_of es)
  pub distinct : IsDistinct (eq_by_cmp (slice_cmp nat_cmp)) (keys_of firsts)
  pub there : AllByRecursion (λ (e : List ℕ × Message). is_some (lookup (at e.0) es) ≡ true) firsts
