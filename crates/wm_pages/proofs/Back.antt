-- Laws of ranges that are put back.
use Rattle.std.proofs.Common.{◌≡◌, ℕ, ◌+◌, ◌*◌, ◌/◌, ◌<◌, ◌≤◌, ◌⊎◌, inl, inr, true, List, [], ◌∷◌, ◌++◌, length, get_or, refl, ap, sym, ◌∙◌, arith}
use Rattle.std.proofs.lemmas.Bool.Decides.{nat_tests}
use Rattle.std.proofs.lemmas.Bool.{cases_lt}
use Rattle.wm_pages.specs.declared.ranges.Kept.{Kept}
use Rattle.wm_pages.specs.Over.{over}
use Rattle.wm_pages.specs.Ranges.{back, covers, AreRanges}
use Rattle.wm_pages.proofs.Over.{length-over, over_below, over_within, over_above, over-append}

pub length-back : (start : ℕ) (ks : List Kept) (xs : List ℕ) → AreRanges start ks → 65536 * start ≤ length xs → length (back ks xs) ≡ length xs
length-back start [] xs are room = refl
length-back start (k ∷ ks) xs are room =
    let rest = length-back start ks xs are.2 room in
    length-over (4096 * k.range) k.bytes.items (back ks xs) (omega arith) ∙ rest

-- the one saved last is put back first
pub back_push : (ks : List Kept) (k : Kept) (xs : List ℕ) → back (ks ++ k ∷ []) xs ≡ back ks (over (4096 * k.range) k.bytes.items xs)
back_push [] k xs = refl
back_push (j ∷ ks) k xs = ap (over (4096 * j.range) j.bytes.items) (back_push ks k xs)

pub back-append : (start : ℕ) (ks : List Kept) (xs more : List ℕ) → AreRanges start ks → 65536 * start ≤ length xs → back ks (xs ++ more) ≡ back ks xs ++ more
back-append start [] xs more are room = refl
back-append start (k ∷ ks) xs more are room =
    let rest = length-back start ks xs are.2 room in
    ap (over (4096 * k.range) k.bytes.items) (back-append start ks xs more are.2 room) ∙ over-append (4096 * k.range) k.bytes.items (back ks xs) more (omega arith)

pub covers_other : (k : Kept) (ks : List Kept) (r : ℕ) → (k.range ≡ r → ⊥) → covers (k ∷ ks) r ≡ true → covers ks r ≡ true
covers_other k ks r other h = grind (arith, nat_tests, other)

-- what is put back at a place does not depend on what is there, where its range was saved
pub back_at : (start : ℕ) (ks : List Kept) (xs ys : List ℕ) (i d : ℕ) → AreRanges start ks → 65536 * start ≤ length xs → length xs ≡ length ys
    → (covers ks (i / 4096) ≡ true) ⊎ (get_or xs i d ≡ get_or ys i d) → get_or (back ks xs) i d ≡ get_or (back ks ys) i d
back_at start [] xs ys i d are room same (inl c) = absurd (cc)
back_at start [] xs ys i d are room same (inr e) = e
back_at start (k ∷ ks) xs ys i d are room same h =
    let at : ℕ = 4096 * k.range in
    let first = length-back start ks xs are.2 room in
    let second = length-back start ks ys are.2 (omega arith) in
    let rest : (k.range ≡ i / 4096 → ⊥) → get_or (back ks xs) i d ≡ get_or (back ks ys) i d =
    λ other. back_at start ks xs ys i d are.2 room same (elim h [ inl c ↦ inl (covers_other k ks (i / 4096) other c) | inr e ↦ inr e ]) in
    elim (cases_lt i at) [
      | inl below ↦ over_below at k.bytes.items (back ks xs) i d (omega arith) below ∙ rest (omega arith) ∙ sym (over_below at k.bytes.items (back ks ys) i d (omega arith) below)
      | inr from ↦ elim (cases_lt i (at + length k.bytes.items)) [
        | inl within ↦ over_within at k.bytes.items (back ks xs) i d (omega arith) from within ∙ sym (over_within at k.bytes.items (back ks ys) i d (omega arith) from within)
        | inr above ↦ over_above at k.bytes.items (back ks xs) i d (omega arith) above ∙ rest (omega arith) ∙ sym (over_above at k.bytes.items (back ks ys) i d (omega arith) above)
      ]
    ]

-- what a list of saved ranges covers, with one more
pub covers_push : (ks : List Kept) (k : Kept) → covers (ks ++ k ∷ []) k.range ≡ true
covers_push [] k = grind (arith, nat_tests)
covers_push (j ∷ ks) k = let rest = covers_push ks k in grind (arith, nat_tests)

pub covers_more : (ks : List Kept) (k : Kept) (r : ℕ) → covers ks r ≡ true → covers (ks ++ k ∷ []) r ≡ true
covers_more (j ∷ ks) k r h = let rest = covers_more ks k r in grind (arith, nat_tests, rest)
covers_more [] k r h = absurd (cc)

-- and with one less
pub covers_less : (ks : List Kept) (k : Kept) (r : ℕ) → (k.range ≡ r → ⊥) → covers (ks ++ k ∷ []) r ≡ true → covers ks r ≡ true
covers_less [] k r other h = covers_other k [] r other h
covers_less (j ∷ ks) k r other h = let rest = covers_less ks k r other in grind (arith, nat_tests, rest)

pub AreRanges-push : (start : ℕ) (ks : List Kept) (k : Kept) → AreRanges start ks → length k.bytes.items ≡ 4096 → k.range < 16 * start → AreRanges start (ks ++ k ∷ [])
AreRanges-push start [] k are size inside = (size, inside, tt)
AreRanges-push start (j ∷ ks) k are size inside = (are.0, are.1, AreRanges-push start ks k are.2 size inside)

pub AreRanges-pop : (start : ℕ) (ks : List Kept) (k : Kept) → AreRanges start (ks ++ k ∷ []) → AreRanges start ks × (length k.bytes.items ≡ 4096) × (k.range < 16 * start)
AreRanges-pop start [] k are = (tt, are.0, are.1)
AreRanges-pop start (j ∷ ks) k are = let rest = AreRanges-pop start ks k are.2 in ((are.0, are.1, rest.0), rest.1, rest.2)
