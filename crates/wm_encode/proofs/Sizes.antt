-- Items written one after the other, and their sizes.
use Rattle.std.proofs.Common.{◌≡◌, ℕ, zero, suc, ◌+◌, ◌/◌, ◌<◌, ◌≤◌, List, [], ◌∷◌, ◌++◌, false, length, get_or, take, sym, ◌∙◌, ap, subst, append_assoc, arith, inl, inr}
use Rattle.std.specs.List.{All, flat_map}
use Rattle.std.proofs.lemmas.List.{flat_map_more, take_more}
use Rattle.std.proofs.lemmas.List.Elements.{All-more}
use Rattle.std.proofs.lemmas.Grind.{flat_map-append}
use Rattle.std.proofs.lemmas.List.Folds.{length-flat_map-take}
use Rattle.std.proofs.lemmas.Bool.{cases_lt}
use Rattle.ic_leb.specs.Spelling.{seven_bits_each, unsigned_spelling}
use Rattle.ic_leb.proofs.Shortest.{last_seven, first_seven, same_seven, seven_one}
use Rattle.ic_leb.proofs.Sizes.{some_bytes}

-- a number takes a byte
pub unsigned_some : (n : ℕ) → 0 < length (unsigned_spelling n)
unfolding unsigned_spelling
unsigned_some n = some_bytes (seven_bits_each 128 false (suc n) n) (seven_one 128 false (suc n) n (omega arith) (omega arith))

-- a larger number takes no fewer bytes
groups_rise : (most n m : ℕ) → n ≤ m → length (seven_bits_each 128 false most n) ≤ length (seven_bits_each 128 false most m)
unfolding seven_bits_each
groups_rise zero n m h = omega arith
groups_rise (suc most) n m h =
    elim (cases_lt n 128) [
      | inl short ↦ rw (last_seven 128 false most n short) (groups_some most m)
      | inr long ↦ rw (first_seven 128 false most n long, first_seven 128 false most m (omega arith)) (omega (arith, groups_rise most (n / 128) (m / 128) (omega arith)))
    ]
  where
    groups_some : (most m : ℕ) → 1 ≤ length (seven_bits_each 128 false (suc most) m)
    groups_some most m = elim (cases_lt m 128) [
      | inl short ↦ rw (last_seven 128 false most m short) (omega arith)
      | inr long ↦ rw (first_seven 128 false most m long) (omega arith)
    ]

pub unsigned_rises : (n m : ℕ) → n ≤ m → length (unsigned_spelling n) ≤ length (unsigned_spelling m)
unfolding unsigned_spelling
unsigned_rises n m h =
    omega (arith, ap length (same_seven 128 false (suc n) (suc m) n (omega arith) (omega arith) (omega arith)), groups_rise (suc m) n m h)

-- an item is no longer than all of them
pub item_within : {A : Type 0} (f : A → List ℕ) (items : List A) (i : ℕ) (x : A) → i < length items → x ≡ get_or items i x → length (flat_map f (take i items)) + length (f x) ≤ length (flat_map f items)
item_within f items i x h e = rw e (length-flat_map-take f items i x h)

-- one more item
pub one_written : {A : Type 0} (f : A → List ℕ) (items : List A) (i : ℕ) (x : A) (old out new : List ℕ) → i < length items → x ≡ get_or items i x → out ≡ old ++ flat_map f (take i items) → new ≡ out ++ f x → new ≡ old ++ flat_map f (take (i + 1) items)
one_written f items i x old out new h e so_far more =
    let taken = take_more items i x h ∙ ap (λ y. take i items ++ y ∷ []) (sym e) in
    more ∙ ap (λ o. o ++ f x) so_far ∙ flat_map_more f old (take i items) x ∙ ap (λ ys. old ++ flat_map f ys) (sym taken)

pub one_holds : {A : Type 0} (P : A → Type 0) (items : List A) (i : ℕ) (x : A) → i < length items → x ≡ get_or items i x → All P (take i items) → P x → All P (take (i + 1) items)
one_holds P items i x h e all p = All-more P items i x h all (subst P e p)

-- what is written before the rest
pub then_written : {A : Type 0} (f : A → List ℕ) (old new : List ℕ) (some more : List A) → new ≡ old ++ flat_map f some → new ++ flat_map f more ≡ old ++ flat_map f (some ++ more)
then_written f old new some more e =
    ap (λ o. o ++ flat_map f more) e ∙ append_assoc old (flat_map f some) (flat_map f more) ∙ ap (λ bytes. old ++ bytes) (sym (flat_map-append f some more))
