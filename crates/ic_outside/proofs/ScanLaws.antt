-- The search for the first LF of what is kept.
use Rattle.std.proofs.Common.{◌≡◌, ℕ, ◌+◌, ◌-◌, ◌<◌, ◌≤◌, ◌==◌, true, inl, inr, List, ◌∷◌, ◌++◌, length, take, drop, get_or, sym, ap, subst, ◌∙◌, arith, take-append-drop, length-take, length-drop, get_or-take, get_or-drop, eq-eqb, take_all}
use Rattle.std.proofs.lemmas.Bool.{cases_lt, eqb-true}
use Rattle.std.proofs.lemmas.List.{drop_more}
use Rattle.std.proofs.lemmas.List.Elements.{All-from_get_or}
use Rattle.ic_outside.specs.Pieces.{HasNoLf}
use Rattle.ic_outside.specs.Steps.{BeginsWithLine}

-- where the first s bytes and the m bytes after them hold no LF
pub none_below : (kept : List ℕ) (s m : ℕ) → HasNoLf (take s kept) → ((k : ℕ) → k < m → (get_or (drop s kept) k 0 == 10) ≡ true → ⊥)
    → HasNoLf (take (s + m) kept)
none_below kept s m front behind =
    All-from_get_or (λ b. b ≡ 10 → ⊥) (take (s + m) kept) 0 (λ i within is_lf.
    let below : i < s + m = omega (arith, length-take (s + m) kept) in
    let inside : i < length kept = omega (arith, length-take (s + m) kept) in
    let here : get_or kept i 0 ≡ 10 = sym (get_or-take (s + m) kept i 0 below) ∙ is_lf in
    let early : i < s → ⊥ = λ lt. front i 0 (omega (arith, length-take s kept)) (get_or-take s kept i 0 lt ∙ here) in
    let late : s ≤ i → ⊥ = λ le.
    let at : s + (i - s) ≡ i = omega arith in
    behind (i - s) (omega arith) (eq-eqb (get_or (drop s kept) (i - s) 0) 10 (get_or-drop s kept (i - s) 0 ∙ ap (λ j. get_or kept j 0) at ∙ here)) in
    elim (cases_lt i s) [ inl lt ↦ early lt | inr le ↦ late le ])

-- where the byte at s + n is the first LF
pub line_found : (kept : List ℕ) (s n : ℕ) → HasNoLf (take s kept) → ((k : ℕ) → k < n → (get_or (drop s kept) k 0 == 10) ≡ true → ⊥)
    → n < length (drop s kept) → (get_or (drop s kept) n 0 == 10) ≡ true → BeginsWithLine kept (s + n)
line_found kept s n front behind within is_lf =
    let inside : s + n < length kept = omega (arith, length-drop s kept) in
    let here : get_or kept (s + n) 0 ≡ 10 = sym (get_or-drop s kept n 0) ∙ eqb-true (get_or (drop s kept) n 0) 10 is_lf in
    let split : kept ≡ take (s + n) kept ++ (10 ∷ drop (s + n + 1) kept) =
    sym (take-append-drop (s + n) kept) ∙ ap (λ l. take (s + n) kept ++ l) (drop_more kept (s + n) 0 inside ∙ ap (λ b. b ∷ drop (s + n + 1) kept) here) in
    record {
      line = take (s + n) kept;
      rest = drop (s + n + 1) kept;
      whole = split;
      one_line = none_below kept s n front behind;
      len = omega (arith, length-take (s + n) kept);
    }

-- where no byte after the first s is an LF
pub no_line : (kept : List ℕ) (s : ℕ) → s ≤ length kept → HasNoLf (take s kept) → ((k : ℕ) → k < length (drop s kept) → (get_or (drop s kept) k 0 == 10) ≡ true → ⊥)
    → HasNoLf kept
no_line kept s within front behind =
    let all : take (s + length (drop s kept)) kept ≡ kept = take_all (s + length (drop s kept)) kept (omega (arith, length-drop s kept)) in
    subst HasNoLf all (none_below kept s (length (drop s kept)) front behind)
