-- Dashes: setting and skipping them.
use Rattle.std.proofs.Common.{◌≡◌, ◌≢◌, ℕ, ◌+◌, ◌*◌, ◌%◌, ◌<◌, ◌≤◌, List, [], ◌∷◌, ◌++◌, Option, length, get_or, take, map, refl, sym, ap, ◌∙◌, arith}
use Rattle.std.specs.List.{AllByRecursion, filter_map, cons_option}
use Rattle.ic_principal.specs.Base32.{alphabet, character, value_of}
use Rattle.ic_principal.proofs.Base32Laws.{position-character}
use Rattle.std.proofs.lemmas.List.{take_more}
use Rattle.std.proofs.lemmas.List.Elements.{filter_map-append}
use Rattle.ic_principal.specs.Text.{after_dash, dashed}

-- the dash is there also where more comes after
after_dash-append : (x : ℕ) (xs more : List ℕ) → after_dash (dashed (x ∷ xs) ++ more) ≡ 45 ∷ (dashed (x ∷ xs) ++ more)
unfolding dashed
after_dash-append x [] more = refl
after_dash-append x (a ∷ []) more = refl
after_dash-append x (a ∷ b ∷ []) more = refl
after_dash-append x (a ∷ b ∷ c ∷ []) more = refl
after_dash-append x (a ∷ b ∷ c ∷ d ∷ xs) more = refl

pub after_dash-dashed : (x : ℕ) (xs : List ℕ) → after_dash (dashed (x ∷ xs)) ≡ 45 ∷ dashed (x ∷ xs)
unfolding dashed
after_dash-dashed x [] = refl
after_dash-dashed x (a ∷ []) = refl
after_dash-dashed x (a ∷ b ∷ []) = refl
after_dash-dashed x (a ∷ b ∷ c ∷ []) = refl
after_dash-dashed x (a ∷ b ∷ c ∷ d ∷ xs) = refl

-- a character more, where a dash is due: after five, eleven, seventeen characters of the text and so on
pub dashed-push_dash : (xs : List ℕ) (y : ℕ) → length (dashed xs) % 6 ≡ 5 → dashed (xs ++ y ∷ []) ≡ dashed xs ++ 45 ∷ y ∷ []
unfolding dashed
dashed-push_dash [] y h = absurd (omega arith)
dashed-push_dash (a ∷ []) y h = absurd (omega arith)
dashed-push_dash (a ∷ b ∷ []) y h = absurd (omega arith)
dashed-push_dash (a ∷ b ∷ c ∷ []) y h = absurd (omega arith)
dashed-push_dash (a ∷ b ∷ c ∷ d ∷ []) y h = absurd (omega arith)
dashed-push_dash (a ∷ b ∷ c ∷ d ∷ e ∷ []) y h = refl
dashed-push_dash (a ∷ b ∷ c ∷ d ∷ e ∷ x ∷ xs) y h =
    let due : length (dashed (x ∷ xs)) % 6 ≡ 5 = omega (arith, ap length (after_dash-dashed x xs)) in
    ap (λ l. a ∷ b ∷ c ∷ d ∷ e ∷ l) (
    ap after_dash (dashed-push_dash (x ∷ xs) y due) ∙ after_dash-append x xs (45 ∷ y ∷ []) ∙ ap (λ l. l ++ 45 ∷ y ∷ []) (sym (after_dash-dashed x xs))
    )

-- and where none is due
pub dashed-push : (xs : List ℕ) (y : ℕ) → length (dashed xs) % 6 ≢ 5 → dashed (xs ++ y ∷ []) ≡ dashed xs ++ y ∷ []
unfolding dashed
dashed-push [] y h = refl
dashed-push (a ∷ []) y h = refl
dashed-push (a ∷ b ∷ []) y h = refl
dashed-push (a ∷ b ∷ c ∷ []) y h = refl
dashed-push (a ∷ b ∷ c ∷ d ∷ []) y h = refl
dashed-push (a ∷ b ∷ c ∷ d ∷ e ∷ []) y h = absurd (h refl)
dashed-push (a ∷ b ∷ c ∷ d ∷ e ∷ x ∷ xs) y h =
    let due : length (dashed (x ∷ xs)) % 6 ≢ 5 = λ g. h (omega (arith, ap length (after_dash-dashed x xs))) in
    ap (λ l. a ∷ b ∷ c ∷ d ∷ e ∷ l) (
    ap after_dash (dashed-push (x ∷ xs) y due) ∙ after_dash-append x xs (y ∷ []) ∙ ap (λ l. l ++ y ∷ []) (sym (after_dash-dashed x xs))
    )

-- six characters for five
pub length-dashed : (xs : List ℕ) → 5 * length (dashed xs) ≤ 6 * length xs
unfolding dashed
length-dashed [] = omega arith
length-dashed (a ∷ []) = omega arith
length-dashed (a ∷ b ∷ []) = omega arith
length-dashed (a ∷ b ∷ c ∷ []) = omega arith
length-dashed (a ∷ b ∷ c ∷ d ∷ []) = omega arith
length-dashed (a ∷ b ∷ c ∷ d ∷ e ∷ []) = omega arith
length-dashed (a ∷ b ∷ c ∷ d ∷ e ∷ x ∷ xs) = omega (arith, length-dashed (x ∷ xs), ap length (after_dash-dashed x xs))

-- and no more of them than there are
pub length-dashed-le : (xs : List ℕ) → 6 * length xs ≤ 5 * length (dashed xs) + 5
unfolding dashed
length-dashed-le [] = omega arith
length-dashed-le (a ∷ []) = omega arith
length-dashed-le (a ∷ b ∷ []) = omega arith
length-dashed-le (a ∷ b ∷ c ∷ []) = omega arith
length-dashed-le (a ∷ b ∷ c ∷ d ∷ []) = omega arith
length-dashed-le (a ∷ b ∷ c ∷ d ∷ e ∷ []) = omega arith
length-dashed-le (a ∷ b ∷ c ∷ d ∷ e ∷ x ∷ xs) = omega (arith, length-dashed-le (x ∷ xs), ap length (after_dash-dashed x xs))

-- ---- reading back
values-character : (v : ℕ) (cs vs : List ℕ) → v < 32 → filter_map value_of cs ≡ vs → filter_map value_of (character v ∷ cs) ≡ v ∷ vs
values-character v cs vs h e = ap (λ o. cons_option o (filter_map value_of cs)) (position-character v h) ∙ ap (λ l. v ∷ l) e

-- a dash has no value
values-after_dash : (cs : List ℕ) → filter_map value_of (after_dash cs) ≡ filter_map value_of cs
unfolding alphabet
values-after_dash [] = refl
values-after_dash (c ∷ cs) = refl

values-plain : (vs : List ℕ) → AllByRecursion (λ v. v < 32) vs → filter_map value_of (map character vs) ≡ vs
values-plain [] h = refl
values-plain (v ∷ vs) h = values-character v (map character vs) vs h.0 (values-plain vs h.1)

-- the values of the text are those that were spelled
pub values-dashed : (vs : List ℕ) → AllByRecursion (λ v. v < 32) vs → filter_map value_of (dashed (map character vs)) ≡ vs
unfolding dashed
values-dashed (a ∷ b ∷ c ∷ d ∷ e ∷ vs) h =
    let more = after_dash (dashed (map character vs)) in
    values-character a (character b ∷ character c ∷ character d ∷ character e ∷ more) (b ∷ c ∷ d ∷ e ∷ vs) h.0
    (values-character b (character c ∷ character d ∷ character e ∷ more) (c ∷ d ∷ e ∷ vs) h.1.0
    (values-character c (character d ∷ character e ∷ more) (d ∷ e ∷ vs) h.1.1.0
    (values-character d (character e ∷ more) (e ∷ vs) h.1.1.1.0
    (values-character e more vs h.1.1.1.1.0 (values-after_dash (dashed (map character vs)) ∙ values-dashed vs h.1.1.1.1.1)))))
values-dashed vs h = values-plain vs h

-- one character more
pub filter_map-more : (f : ℕ → Option ℕ) (xs : List ℕ) (i : ℕ) → i < length xs → filter_map f (take (i + 1) xs) ≡ filter_map f (take i xs) ++ cons_option (f (get_or xs i 0)) []
filter_map-more f xs i h = ap (filter_map f) (take_more xs i 0 h) ∙ filter_map-append f (take i xs) (get_or xs i 0 ∷ [])
