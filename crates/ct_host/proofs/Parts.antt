-- A text has a part just where this is a slice of it.
use Rattle.std.proofs.Common.{◌≡◌, ◌⊎◌, ◌↔◌, ◌==◌, ◌||◌, ℕ, Bool, true, false, List, [], ◌∷◌, ◌++◌, length, drop, refl, sym, ap, inl, inr}
use Rattle.std.specs.Bool.{Decides}
use Rattle.std.specs.List.{starts_with}
use Rattle.std.specs.Str.Iter.{HasSubslice}
use Rattle.std.proofs.lemmas.Bool.Decides.{Decides-eqb}
use Rattle.std.proofs.lemmas.Slice.Eq.{starts_is}
use Rattle.ct_host.specs.Chosen.{has_part}

abbrev begins : (part text : List ℕ) → Bool
begins part text = starts_with (λ a b. a == b) text part

begins_is : (part text : List ℕ) → (begins part text ≡ true → text ≡ part ++ drop (length part) text) × ((rest : List ℕ) → text ≡ part ++ rest → begins part text ≡ true)
begins_is part text = starts_is Decides-eqb text part (begins part text) refl

either : (a b : Bool) → (a || b) ≡ true → (a ≡ true) ⊎ (b ≡ true)
either true b e = inl refl
either false b e = inr e

from_left : (a b : Bool) → a ≡ true → (a || b) ≡ true
from_left true b e = refl
from_left false b e = cc

from_right : (a b : Bool) → b ≡ true → (a || b) ≡ true
from_right true b e = refl
from_right false b e = e

found : (part text : List ℕ) → has_part part text ≡ true → HasSubslice text part
found part [] e = ([], drop (length part) [], (begins_is part []).0 e)
found part (c ∷ text) e =
    elim (either (begins part (c ∷ text)) (has_part part text) e) [
      | inl here ↦ ([], drop (length part) (c ∷ text), (begins_is part (c ∷ text)).0 here)
      | inr later ↦ (let there = found part text later in (c ∷ there.0, there.1, ap (λ (bs : List ℕ). c ∷ bs) there.2))
    ]

has : (part text : List ℕ) → HasSubslice text part → has_part part text ≡ true
has part [] ([], b, split) = (begins_is part []).1 b split
has part [] (x ∷ a, b, split) = cc
has part (c ∷ text) ([], b, split) = from_left (begins part (c ∷ text)) (has_part part text) ((begins_is part (c ∷ text)).1 b split)
has part (c ∷ text) (x ∷ a, b, split) = from_right (begins part (c ∷ text)) (has_part part text) (has part text (a, b, ap (λ (bs : List ℕ). drop 1 bs) split))

pub part_decides : (part text : List ℕ) → Decides (has_part part text) (HasSubslice text part)
part_decides part text = (found part text, has part text)

pub has_part_is : (part text : List ℕ) (r : Bool) → ((r ≡ true) ↔ HasSubslice text part) → r ≡ has_part part text
has_part_is part text true is = sym (has part text (is.0 refl))
has_part_is part text false is = by (has_part part text) refl
  where
    by : (b : Bool) → has_part part text ≡ b → false ≡ b
    by true e = absurd (let both : false ≡ true = is.1 (found part text e) in cc)
    by false e = refl
