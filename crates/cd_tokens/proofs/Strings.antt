-- Strings are read exactly.
use Rattle.std.proofs.Common.{◌≡◌, ℕ, ◌+◌, ◌*◌, ◌^◌, ◌<◌, ◌≤◌, Bool, true, false, cond, List, [], ◌∷◌, ◌++◌, length, drop, get_or, Option, Some, None, refl, sym, ap, subst, ◌∙◌, append_assoc, inl, inr, arith, add-one}
use Rattle.std.specs.Prelude.{◌==◌, ◌&&◌, ◌||◌, nat_lt, encode_utf8}
use Rattle.std.specs.Int.Digits.{number_from_digits, number_from_digits_after}
use Rattle.std.specs.Char.{IsScalar, digit_value}
use Rattle.std.proofs.Math.Utf8.{scalar, scalar_cases}
use Rattle.std.proofs.Math.ListN.{drop_of_length-le}
use Rattle.std.proofs.Math.Seq.{drop-cons}
use Rattle.std.proofs.lemmas.List.{append-nil, length-append}
use Rattle.std.proofs.lemmas.Int.Digits.{number_after_ge}
use Rattle.ic_base.specs.Reader.{◌>>=◌}
use Rattle.ic_base.proofs.Steps.{bind_some, some_is}
use Rattle.cd_tokens.specs.Numeral.{digit_of}
use Rattle.cd_tokens.specs.ReadNumeral.{below}
use Rattle.cd_tokens.specs.Unescaped.{Part, byte, letter, pair, scalar as scalar_part, letter_says, AreHex, SaysPart, SayParts, Unescaped}
use Rattle.cd_tokens.specs.declared.string.Within.{Within}
use Rattle.cd_tokens.specs.declared.string.Within.TheVariants.{Plain, Backslash, Pair, Brace, Scalar}
use Rattle.cd_tokens.specs.declared.string.Said.{Said}
use Rattle.cd_tokens.specs.declared.string.Said.TheVariants as said
use Rattle.cd_tokens.specs.ReadString.{bytes_of, behind_backslash, paired, with_digit, string_step, is_plain, said_then, unescaped_from, unescaped_of}
use Rattle.cd_tokens.proofs.Fronts.{both, true_or_false, is_equal}

-- ---- the loop of the code

pub said_both : (front back : List ℕ) (read : Option (List ℕ)) → said_then front (said_then back read) ≡ said_then (front ++ back) read
said_both front back None = refl
said_both front back (Some rest) = ap (λ (xs : List ℕ). Some xs) (sym (append_assoc front back rest))

at_place : (bytes : List ℕ) (i d : ℕ) → i < length bytes → drop i bytes ≡ get_or bytes i d ∷ drop (i + 1) bytes
at_place bytes i d inside = rw add-one (drop-cons bytes i d inside)

pub goes_further : (out more : List ℕ) (within next : Within) (what : Said) (i d : ℕ) (bytes : List ℕ) (total : Option (List ℕ)) → i < length bytes → Some (next, what) ≡ string_step within (get_or bytes i d) → more ≡ out ++ bytes_of what
    → said_then out (unescaped_from within (drop i bytes)) ≡ total → said_then more (unescaped_from next (drop (i + 1) bytes)) ≡ total
unfolding unescaped_from
goes_further out more within next what i d bytes total inside step now so_far =
    let s : said_then out (unescaped_from within (drop i bytes)) ≡ said_then more (unescaped_from next (drop (i + 1) bytes)) =
    rw (at_place bytes i d inside, sym step, now) (said_both out (bytes_of what) (unescaped_from next (drop (i + 1) bytes))) in
    sym s ∙ so_far

pub stops_here : (out : List ℕ) (within : Within) (i d : ℕ) (bytes : List ℕ) (total : Option (List ℕ)) → i < length bytes → None ≡ string_step within (get_or bytes i d) → said_then out (unescaped_from within (drop i bytes)) ≡ total → total ≡ None
unfolding unescaped_from
stops_here out within i d bytes total inside step so_far =
    let s : said_then out (unescaped_from within (drop i bytes)) ≡ None = rw (at_place bytes i d inside, sym step) refl in sym so_far ∙ s

pub ends_here : (out : List ℕ) (within : Within) (i : ℕ) (bytes : List ℕ) (total : Option (List ℕ)) (plain : Bool) → length bytes ≤ i → plain ≡ is_plain within → said_then out (unescaped_from within (drop i bytes)) ≡ total → total ≡ cond plain (Some out) None
unfolding unescaped_from
ends_here out within i bytes total true past plain so_far =
    let s : said_then out (unescaped_from within (drop i bytes)) ≡ Some out = rw (drop_of_length-le bytes past, sym plain) (ap (λ (xs : List ℕ). Some xs) (append-nil out)) in sym so_far ∙ s
ends_here out within i bytes total false past plain so_far =
    let s : said_then out (unescaped_from within (drop i bytes)) ≡ None = rw (drop_of_length-le bytes past, sym plain) refl in sym so_far ∙ s

-- ---- what is said is read

said_nothing : (read : Option (List ℕ)) → said_then [] read ≡ read
said_nothing None = refl
said_nothing (Some rest) = refl

hex_apart : (k b d : ℕ) → digit_of 16 k ≡ None → digit_of 16 b ≡ Some d → (b == k) ≡ false
hex_apart k b d none e = elim (true_or_false (b == k)) [
  | inl same ↦ let f : digit_of 16 k ≡ Some d = subst (λ j. digit_of 16 j ≡ Some d) (is_equal b k same) e in let g : None ≡ Some d = sym none ∙ f in absurd cc
  | inr other ↦ other
]

no_letter : (b d : ℕ) → digit_of 16 b ≡ Some d → letter_says b ≡ None
no_letter b d e = rw (hex_apart 110 b d refl e, hex_apart 114 b d refl e, hex_apart 116 b d refl e, hex_apart 92 b d refl e, hex_apart 34 b d refl e, hex_apart 39 b d refl e) refl

below_base : (b d : ℕ) → digit_of 16 b ≡ Some d → d < 16
below_base b d e = elim (true_or_false (nat_lt (digit_value b) 16)) [
  | inl small ↦ let f : Some (digit_value b) ≡ Some d = rw small at e in let same = some_is {A = ℕ} (digit_value b) d f in rw (sym same) (grind (arith, small))
  | inr large ↦ let f : None ≡ Some d = rw large at e in absurd cc
]

pub is_below : (limit n : ℕ) → n < limit → below limit (Some n) ≡ Some n
is_below limit n h = let e : nat_lt n limit ≡ true = grind (arith, h) in rw e refl

pair_again : (d e : ℕ) (written rest back : List ℕ) → written ≡ 92 ∷ rest → AreHex (d ∷ e ∷ []) rest → unescaped_from Plain (written ++ back) ≡ said_then ((d * 16 + e) ∷ []) (unescaped_from Plain back)
unfolding unescaped_from
pair_again d e written rest back whole hex =
    let first = hex.4 in
    let small : below (2 ^ 8) (Some (d * 16 + e)) ≡ Some (d * 16 + e) = is_below (2 ^ 8) (d * 16 + e) (let h = below_base hex.0 d hex.3 in let k = below_base first.0 e first.3 in omega (arith, h, k)) in
    rw (whole, hex.2, first.2, first.4, no_letter hex.0 d hex.3, hex_apart 117 hex.0 d refl hex.3, hex.3, first.3, small)
    (said_nothing (said_then [] (said_then ((d * 16 + e) ∷ []) (unescaped_from Plain back))) ∙ said_nothing (said_then ((d * 16 + e) ∷ []) (unescaped_from Plain back)))

scalar_below : (n : ℕ) → IsScalar n → n < 2 ^ 32
scalar_below n is = elim (scalar_cases n is) [ inl h ↦ omega (arith, h) | inr h ↦ omega (arith, h) ]

digits_again : (count n : ℕ) (ds hex back : List ℕ) → AreHex ds hex → count + length ds ≤ 6 → 1 ≤ count + length ds → IsScalar (number_from_digits_after 16 n ds)
    → unescaped_from (Scalar count n) (hex ++ 125 ∷ back) ≡ said_then (encode_utf8 (number_from_digits_after 16 n ds)) (unescaped_from Plain back)
unfolding unescaped_from
digits_again count n [] hex back are few some is =
    let has : nat_lt 0 count ≡ true = grind (arith, some) in
    let scalar_is : scalar n ≡ true = is in
    rw (are, has, scalar_is) refl
digits_again count n (d ∷ ds) hex back are few some is =
    let room : nat_lt count 6 ≡ true = grind (arith, few) in
    let grown = number_after_ge 16 (n * 16 + d) ds (omega arith) in
    let small = is_below (2 ^ 32) (n * 16 + d) (let h = scalar_below (number_from_digits_after 16 n (d ∷ ds)) is in omega (arith, grown, h)) in
    rw (are.2, hex_apart 125 are.0 d refl are.3, room, are.3, small)
    (said_nothing (unescaped_from (Scalar (count + 1) (n * 16 + d)) (are.1 ++ 125 ∷ back)) ∙ digits_again (count + 1) (n * 16 + d) ds are.1 back are.4 (omega (arith, few)) (omega (arith, some)) is)

scalar_again : (ds hex back : List ℕ) → AreHex ds hex → 1 ≤ length ds → length ds ≤ 6 → IsScalar (number_from_digits 16 ds) → unescaped_from Plain (92 ∷ 117 ∷ 123 ∷ (hex ++ 125 ∷ back)) ≡ said_then (encode_utf8 (number_from_digits 16 ds)) (unescaped_from Plain back)
unfolding unescaped_from
scalar_again ds hex back are some few is =
    let s = digits_again 0 0 ds hex back are (omega (arith, few)) (omega (arith, some)) is in
    said_nothing (said_then [] (said_then [] (unescaped_from (Scalar 0 0) (hex ++ 125 ∷ back)))) ∙ said_nothing (said_then [] (unescaped_from (Scalar 0 0) (hex ++ 125 ∷ back))) ∙ said_nothing (unescaped_from (Scalar 0 0) (hex ++ 125 ∷ back)) ∙ s

part_again : (p : Part) (first front back : List ℕ) → SaysPart p first front → unescaped_from Plain (front ++ back) ≡ said_then first (unescaped_from Plain back)
unfolding unescaped_from
part_again (byte b) first front back is =
    let high : nat_lt b 32 ≡ false = grind (arith, is.0) in
    rw (is.3, is.4, is.2, high, is.1) refl
part_again (letter b) first front back is = rw (is.2, is.3, is.1) (said_nothing (said_then (is.0 ∷ []) (unescaped_from Plain back)))
part_again (pair d e) first front back is = rw is.3 (pair_again d e front is.0 back is.1 is.2)
part_again (scalar_part ds) first front back is =
    let whole : front ++ back ≡ 92 ∷ 117 ∷ 123 ∷ (is.0 ++ 125 ∷ back) = ap (λ (xs : List ℕ). xs ++ back) is.1 ∙ ap (λ (xs : List ℕ). 92 ∷ 117 ∷ 123 ∷ xs) (append_assoc is.0 (125 ∷ []) back) in
    rw is.6 (ap (unescaped_from Plain) whole ∙ scalar_again ds is.0 back is.2 is.3 is.4 is.5)

parts_again : (ps : List Part) (what written : List ℕ) → SayParts ps what written → unescaped_of written ≡ Some what
unfolding unescaped_from
parts_again [] what written is = rw (is.0, is.1) refl
parts_again (p ∷ ps) what written is =
    ap (unescaped_from Plain) is.5 ∙ part_again p is.0 is.2 is.3 is.6 ∙ ap (said_then is.0) (parts_again ps is.1 is.3 is.7) ∙ ap (λ (xs : List ℕ). Some xs) (sym is.4)

pub unescaped_again : (what written : List ℕ) → Unescaped what written → unescaped_of written ≡ Some what
unescaped_again what written is = parts_again is.0 what written is.1

-- ---- what is read is said

part_before : (p : Part) (first front rest back : List ℕ) → SaysPart p first front → Unescaped rest back → Unescaped (first ++ rest) (front ++ back)
part_before p first front rest back is more = (p ∷ more.0, (first, rest, front, back, refl, refl, is, more.1))

hex_push : (ds hex : List ℕ) (d b : ℕ) → AreHex ds hex → digit_of 16 b ≡ Some d → AreHex (ds ++ d ∷ []) (hex ++ b ∷ [])
hex_push [] hex d b are digit = (b, [], ap (λ (xs : List ℕ). xs ++ b ∷ []) are, digit, refl)
hex_push (e ∷ ds) hex d b are digit = (are.0, are.1 ++ b ∷ [], ap (λ (xs : List ℕ). xs ++ b ∷ []) are.2, are.3, hex_push ds are.1 d b are.4 digit)

number_push : (n : ℕ) (ds : List ℕ) (d : ℕ) → number_from_digits_after 16 n (ds ++ d ∷ []) ≡ number_from_digits_after 16 n ds * 16 + d
number_push n [] d = refl
number_push n (e ∷ ds) d = number_push (n * 16 + e) ds d

-- what the rest of a string says, after what comes before it
Claim : Within → List ℕ → List ℕ → Type 0
Claim Plain bytes what = Unescaped what bytes
Claim Backslash bytes what = Unescaped what (92 ∷ bytes)
Claim (Pair d) bytes what = (b : ℕ) → digit_of 16 b ≡ Some d → Unescaped what (92 ∷ b ∷ bytes)
Claim Brace bytes what = Unescaped what (92 ∷ 117 ∷ bytes)
Claim (Scalar count n) bytes what = (ds hex : List ℕ) → AreHex ds hex → length ds ≡ count → count ≤ 6 → n ≡ number_from_digits 16 ds → Unescaped what (92 ∷ 117 ∷ 123 ∷ (hex ++ bytes))

Steps : Within → ℕ → List ℕ → List ℕ → Within × Said → Type 0
unfolding Claim
Steps within b bytes r x = Claim x.0 bytes r → Claim within (b ∷ bytes) (bytes_of x.1 ++ r)

stepped : (within : Within) (b : ℕ) (bytes r : List ℕ) (x y : Within × Said) → Some x ≡ Some y → Steps within b bytes r x → Steps within b bytes r y
stepped within b bytes r x y e = subst (Steps within b bytes r) (some_is {A = Within × Said} x y e)

plain_takes : (b : ℕ) (bytes r : List ℕ) (x : Within × Said) → string_step Plain b ≡ Some x → Steps Plain b bytes r x
unfolding Steps
plain_takes b bytes r x e = elim (true_or_false (b == 92)) [
  | inl slash ↦ stepped Plain b bytes r (Backslash, said.Nothing) x (rw slash at e) (λ claim. subst (λ k. Unescaped r (k ∷ bytes)) (sym (is_equal b 92 slash)) claim)
  | inr other ↦ elim (true_or_false (nat_lt b 32 || b == 34)) [
    | inl bad ↦ let f : None ≡ Some x = rw (other, bad) at e in absurd cc
    | inr good ↦
        let high : 32 ≤ b = grind (arith, good) in
        let quote : (b == 34) ≡ false = grind (arith, good) in
        stepped Plain b bytes r (Plain, said.Byte b) x (rw (other, good) at e) (λ claim. part_before (byte b) (b ∷ []) (b ∷ []) r bytes (high, quote, other, refl, refl) claim)
  ]
]

behind_takes : (b : ℕ) (bytes r : List ℕ) (x : Within × Said) (l digit : Option ℕ) (is_u : Bool) → letter_says b ≡ l → (b == 117) ≡ is_u → digit_of 16 b ≡ digit → behind_backslash l is_u digit ≡ Some x → Steps Backslash b bytes r x
unfolding Steps
behind_takes b bytes r x (Some c) digit is_u is u is_digit e =
    stepped Backslash b bytes r (Plain, said.Byte c) x e (λ claim. part_before (letter b) (c ∷ []) (92 ∷ b ∷ []) r bytes (c, is, refl, refl) claim)
behind_takes b bytes r x None digit true is u is_digit e =
    stepped Backslash b bytes r (Brace, said.Nothing) x e (λ claim. subst (λ k. Unescaped r (92 ∷ k ∷ bytes)) (sym (is_equal b 117 u)) claim)
behind_takes b bytes r x None None false is u is_digit e = absurd cc
behind_takes b bytes r x None (Some d) false is u is_digit e = stepped Backslash b bytes r (Pair d, said.Nothing) x e (λ claim. claim b is_digit)

pub number_below : (limit n m : ℕ) → below limit (Some n) ≡ Some m → n ≡ m
number_below limit n m e = elim (true_or_false (nat_lt n limit)) [
  | inl small ↦ some_is {A = ℕ} n m (rw small at e)
  | inr large ↦ let f : None ≡ Some m = rw large at e in absurd cc
]

pair_takes : (d b : ℕ) (bytes r : List ℕ) (x : Within × Said) → string_step (Pair d) b ≡ Some x → Steps (Pair d) b bytes r x
unfolding Steps
pair_takes d b bytes r x e =
    let a = bind_some (digit_of 16 b) (λ k. paired d k) x e in
    let m = bind_some (below (2 ^ 8) (Some (d * 16 + a.0))) (λ k. Some (Plain, said.Byte k)) x a.2 in
    let n = number_below (2 ^ 8) (d * 16 + a.0) m.0 m.1 in
    stepped (Pair d) b bytes r (Plain, said.Byte m.0) x m.2 (λ claim first digit.
    part_before (pair d a.0) (m.0 ∷ []) (92 ∷ first ∷ b ∷ []) r bytes (first ∷ b ∷ [], refl, (first, b ∷ [], refl, digit, (b, [], refl, a.1, refl)), ap (λ (k : ℕ). k ∷ []) (sym n)) claim)

brace_takes : (b : ℕ) (bytes r : List ℕ) (x : Within × Said) → string_step Brace b ≡ Some x → Steps Brace b bytes r x
unfolding Steps
brace_takes b bytes r x e = elim (true_or_false (b == 123)) [
  | inl brace ↦ stepped Brace b bytes r (Scalar 0 0, said.Nothing) x (rw brace at e) (λ claim. subst (λ k. Unescaped r (92 ∷ 117 ∷ k ∷ bytes)) (sym (is_equal b 123 brace)) (claim [] [] refl refl (omega arith) refl))
  | inr other ↦ let f : None ≡ Some x = rw other at e in absurd cc
]

scalar_takes : (count n b : ℕ) (bytes r : List ℕ) (x : Within × Said) → string_step (Scalar count n) b ≡ Some x → Steps (Scalar count n) b bytes r x
unfolding Steps
scalar_takes count n b bytes r x e = elim (true_or_false (b == 125)) [
  | inl brace ↦ elim (true_or_false (nat_lt 0 count && scalar n)) [
    | inl good ↦
        let h = both (nat_lt 0 count) (scalar n) good in
        stepped (Scalar count n) b bytes r (Plain, said.Char n) x (rw (brace, good) at e) (λ claim ds hex are many few number.
        let some : 1 ≤ length ds = grind (arith, h.0, many) in
        let at : (92 ∷ 117 ∷ 123 ∷ (hex ++ 125 ∷ [])) ++ bytes ≡ 92 ∷ 117 ∷ 123 ∷ (hex ++ b ∷ bytes) =
        ap (λ (xs : List ℕ). 92 ∷ 117 ∷ 123 ∷ xs) (append_assoc hex (125 ∷ []) bytes ∙ ap (λ (k : ℕ). hex ++ k ∷ bytes) (sym (is_equal b 125 brace))) in
        let is : IsScalar (number_from_digits 16 ds) = subst IsScalar number h.1 in
        subst (Unescaped (encode_utf8 n ++ r)) at
        (part_before (scalar_part ds) (encode_utf8 n) (92 ∷ 117 ∷ 123 ∷ (hex ++ 125 ∷ [])) r bytes (hex, refl, are, some, omega (arith, many, few), is, ap encode_utf8 number) claim))
    | inr bad ↦ let f : None ≡ Some x = rw (brace, bad) at e in absurd cc
  ]
  | inr other ↦ elim (true_or_false (nat_lt count 6)) [
    | inl room ↦
        let f : (digit_of 16 b >>= λ d. with_digit count n d) ≡ Some x = rw (other, room) at e in
        let a = bind_some (digit_of 16 b) (λ d. with_digit count n d) x f in
        let m = bind_some (below (2 ^ 32) (Some (n * 16 + a.0))) (λ k. Some (Scalar (count + 1) k, said.Nothing)) x a.2 in
        let k = number_below (2 ^ 32) (n * 16 + a.0) m.0 m.1 in
        stepped (Scalar count n) b bytes r (Scalar (count + 1) m.0, said.Nothing) x m.2 (λ claim ds hex are many few number.
        let at : (hex ++ b ∷ []) ++ bytes ≡ hex ++ b ∷ bytes = append_assoc hex (b ∷ []) bytes in
        let n_is : m.0 ≡ number_from_digits 16 (ds ++ a.0 ∷ []) = sym k ∙ ap (λ j. j * 16 + a.0) number ∙ sym (number_push 0 ds a.0) in
        let l : length (ds ++ a.0 ∷ []) ≡ count + 1 = length-append ds (a.0 ∷ []) ∙ ap (λ j. j + 1) many in
        let small : count + 1 ≤ 6 = grind (arith, room) in
        subst (λ xs. Unescaped r (92 ∷ 117 ∷ 123 ∷ xs)) at (claim (ds ++ a.0 ∷ []) (hex ++ b ∷ []) (hex_push ds hex a.0 b are a.1) l small n_is))
    | inr full ↦ let f : None ≡ Some x = rw (other, full) at e in absurd cc
  ]
]

step_takes : (within : Within) (b : ℕ) (bytes r : List ℕ) (x : Within × Said) → string_step within b ≡ Some x → Steps within b bytes r x
step_takes Plain b bytes r x e = plain_takes b bytes r x e
step_takes Backslash b bytes r x e = behind_takes b bytes r x (letter_says b) (digit_of 16 b) (b == 117) refl refl refl e
step_takes (Pair d) b bytes r x e = pair_takes d b bytes r x e
step_takes Brace b bytes r x e = brace_takes b bytes r x e
step_takes (Scalar count n) b bytes r x e = scalar_takes count n b bytes r x e

said_takes : (front : List ℕ) (read : Option (List ℕ)) (what : List ℕ) → said_then front read ≡ Some what → (rest : List ℕ) × (read ≡ Some rest) × (front ++ rest ≡ what)
said_takes front None what e = absurd cc
said_takes front (Some rest) what e = (rest, refl, some_is {A = List ℕ} (front ++ rest) what e)

all_take : (bytes : List ℕ) (within : Within) (what : List ℕ) → unescaped_from within bytes ≡ Some what → Claim within bytes what
unfolding unescaped_from Claim Steps
all_take [] Plain what e = let n = some_is {A = List ℕ} [] what e in ([], (sym n, refl))
all_take [] Backslash what e = absurd cc
all_take [] (Pair d) what e = absurd cc
all_take [] Brace what e = absurd cc
all_take [] (Scalar count n) what e = absurd cc
all_take (b ∷ bytes) within what e =
    let a = bind_some (string_step within b) (λ x. said_then (bytes_of x.1) (unescaped_from x.0 bytes)) what e in
    let s = said_takes (bytes_of a.0.1) (unescaped_from a.0.0 bytes) what a.2 in
    subst (Claim within (b ∷ bytes)) s.2 (step_takes within b bytes s.0 a.0 a.1 (all_take bytes a.0.0 s.0 s.1))

pub unescaped_takes : (what written : List ℕ) → unescaped_of written ≡ Some what → Unescaped what written
unfolding Claim
unescaped_takes what written e = all_take written Plain what e
