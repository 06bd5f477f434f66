-- Cases by their keys.
use Rattle.std.specs.Prelude.{◌≡◌, ℕ, ◌==◌, Bool, false, List, [], Option, Some, None, length, slice_get}
use Rattle.std.specs.Global.{Vec}
use Rattle.std.specs.List.{filter, range_with_len}
use Rattle.std.specs.BTreeMap.{BTreeMap, get}
use Rattle.std.specs.Ordering.{nat_cmp}
use Rattle.ct_search.specs.declared.case.Case.{Case}

abbrev pub items_or_none : Option (Vec ℕ) → List ℕ
items_or_none None = []
items_or_none (Some places) = places.items

-- the places under a key
abbrev pub places_under : BTreeMap ℕ (Vec ℕ) → (key : ℕ) → List ℕ
places_under index key = items_or_none (get nat_cmp index key)

abbrev pub has_key : {X : Type 0} → (key : ℕ) → Option (Case X) → Bool
has_key key None = false
has_key key (Some c) = c.key == key

-- under each key are the places of the cases that have it
abbrev pub AreUnderKeys : {X : Type 0} → BTreeMap ℕ (Vec ℕ) → List (Case X) → Type 0
AreUnderKeys index cases = (key : ℕ) → places_under index key ≡ filter (λ k. has_key key (slice_get cases k)) (range_with_len 0 (length cases))
