-- Places, with one entry more.
use Rattle.std.proofs.Common.{◌≡◌, ℕ, zero, suc, ◌<◌, ◌==◌, Bool, true, false, cond, List, [], ◌∷◌, ◌++◌, length, Option, Some, None, refl, sym, ap, ◌∙◌, inl, inr, arith}
use Rattle.std.specs.Prelude.{◌⊎◌, slice_get, slice_set, replicate}
use Rattle.std.specs.Option.{option_flatten, option_map, option_or}
use Rattle.std.proofs.lemmas.Bool.{eqb-true, eqb-false}
use Rattle.cd_part.specs.Places.{place_of, HasPlaces}

pub either : (b : Bool) → (b ≡ true) ⊎ (b ≡ false)
either true = inl refl
either false = inr refl

map_or : (a b : Option ℕ) → option_map suc (option_or a b) ≡ option_or (option_map suc a) (option_map suc b)
map_or None b = refl
map_or (Some x) b = refl

map_if : (b : Bool) (n : ℕ) → option_map suc (cond b (Some n) None) ≡ cond b (Some (suc n)) None
map_if true n = refl
map_if false n = refl

later : (here : Bool) (whole front more : Option ℕ) → whole ≡ option_or front more → cond here (Some 0) (option_map suc whole) ≡ option_or (cond here (Some 0) (option_map suc front)) (option_map suc more)
later true whole front more e = refl
later false whole front more e = ap (option_map suc) e ∙ map_or front more

-- the place of an entry once one more is met
pub place_push : (met : List ℕ) (new entry : ℕ) → place_of (met ++ new ∷ []) entry ≡ option_or (place_of met entry) (cond (new == entry) (Some (length met)) None)
place_push [] new entry = refl
place_push (first ∷ met) new entry =
    later (first == entry) (place_of (met ++ new ∷ []) entry) (place_of met entry) (cond (new == entry) (Some (length met)) None) (place_push met new entry)
    ∙ ap (option_or (cond (first == entry) (Some 0) (option_map suc (place_of met entry)))) (map_if (new == entry) (length met))

or_none : (a : Option ℕ) → option_or a None ≡ a
or_none None = refl
or_none (Some x) = refl

-- the entry that is met now has the next place
pub place_own : (met : List ℕ) (new : ℕ) → place_of met new ≡ None → place_of (met ++ new ∷ []) new ≡ Some (length met)
place_own met new none =
    let same : (new == new) ≡ true = grind arith in
    place_push met new new ∙ rw (none, same) refl

-- the others have the places that they had
pub place_other : (met : List ℕ) (new entry : ℕ) → (new == entry) ≡ false → place_of (met ++ new ∷ []) entry ≡ place_of met entry
place_other met new entry apart = place_push met new entry ∙ rw apart (or_none (place_of met entry))

-- one who has a place keeps it
pub place_kept : (met : List ℕ) (new entry place : ℕ) → place_of met entry ≡ Some place → place_of (met ++ new ∷ []) entry ≡ Some place
place_kept met new entry place is = place_push met new entry ∙ rw is refl

-- ---- the list of places

set_own : (places : List (Option ℕ)) (i : ℕ) (x : Option ℕ) → i < length places → slice_get (slice_set places i x) i ≡ Some x
set_own [] i x inside = absurd (omega (arith, inside))
set_own (p ∷ places) zero x inside = refl
set_own (p ∷ places) (suc i) x inside = set_own places i x (omega (arith, inside))

set_other : (places : List (Option ℕ)) (i j : ℕ) (x : Option ℕ) → (i ≡ j → ⊥) → slice_get (slice_set places i x) j ≡ slice_get places j
set_other [] i j x apart = refl
set_other (p ∷ places) zero zero x apart = absurd (apart refl)
set_other (p ∷ places) zero (suc j) x apart = refl
set_other (p ∷ places) (suc i) zero x apart = refl
set_other (p ∷ places) (suc i) (suc j) x apart = set_other places i j x (λ e. apart (ap suc e))

pub places_more : (places : List (Option ℕ)) (met : List ℕ) (new place : ℕ) → HasPlaces places met → new < length places → place_of met new ≡ None → place ≡ length met
    → HasPlaces (slice_set places new (Some place)) (met ++ new ∷ [])
places_more places met new place has inside none is entry = elim (either (new == entry)) [
  | inl same ↦
      let one : new ≡ entry = eqb-true new entry same in
      ap (λ (k : ℕ). option_flatten (slice_get (slice_set places new (Some place)) k)) (sym one) ∙ ap option_flatten (set_own places new (Some place) inside)
      ∙ ap (λ (p : ℕ). Some p) is ∙ sym (place_own met new none) ∙ ap (place_of (met ++ new ∷ [])) one
  | inr apart ↦ ap option_flatten (set_other places new entry (Some place) (eqb-false new entry apart)) ∙ has entry ∙ sym (place_other met new entry apart)
]

pub no_places : (count entry : ℕ) → option_flatten {T = ℕ} (slice_get (replicate count None) entry) ≡ None
no_places zero entry = refl
no_places (suc count) zero = refl
no_places (suc count) (suc entry) = no_places count entry

-- a place below the length has something
pub there : {A : Type 0} (xs : List A) (i : ℕ) → i < length xs → (x : A) × (slice_get xs i ≡ Some x)
there [] i inside = absurd (omega (arith, inside))
there (x ∷ xs) zero inside = (x, refl)
there (x ∷ xs) (suc i) inside = there xs i (omega (arith, inside))
