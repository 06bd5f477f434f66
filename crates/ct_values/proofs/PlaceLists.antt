-- The places of fields in a set that keeps their order.
use Rattle.std.proofs.Common.{◌≡◌, ℕ, false, List, [], ◌∷◌, ◌++◌, nat_eq, refl, arith}
use Rattle.std.specs.List.{list_any}
use Rattle.indexmap.specs.IndexSet.{insert_key}
use Rattle.ct_values.specs.Spelled.{is_said}

flips : (x y : ℕ) → nat_eq x y ≡ nat_eq y x
flips x y = grind arith

pub has_place : (place : ℕ) (places : List ℕ) → list_any (nat_eq place) places ≡ is_said place places
has_place place [] = refl
has_place place (other ∷ places) = rw (flips place other, has_place place places) refl

-- a place that is not there comes last
pub put_last : (place : ℕ) (places : List ℕ) → is_said place places ≡ false → insert_key nat_eq places place ≡ places ++ place ∷ []
put_last place places fresh = rw (has_place place places, fresh) refl
