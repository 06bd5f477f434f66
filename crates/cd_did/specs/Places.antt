-- Definitions that are looked up by their names.
use Rattle.std.specs.Prelude.{◌≡◌, ℕ, List, Option, Vec}
use Rattle.std.specs.BTreeMap.{BTreeMap, get_by}
use Rattle.std.specs.Cmp.Lexicographic.{slice_cmp}
use Rattle.std.specs.Ordering.{nat_cmp}
use Rattle.std.specs.declared.alloc.Global.{Global}
use Rattle.cd_did.specs.Faults.{Definitions}
use Rattle.cd_did.specs.Rings.{place_from}

abbrev pub Places : Type 0
Places = BTreeMap (Vec ℕ Global) ℕ

abbrev pub found_in : Places → List ℕ → Option ℕ
found_in places name = get_by (λ k. slice_cmp nat_cmp name k.items) places

-- for each name just the place of its first definition; the first of these is at this place
abbrev pub HasPlaces : Places → Definitions → ℕ → Type 0
HasPlaces places definitions start = (name : List ℕ) → found_in places name ≡ place_from definitions start name
