-- The first token of bytes is read exactly.
use Rattle.std.proofs.Common.{◌≡◌, ℕ, suc, ◌+◌, ◌<◌, Bool, true, false, List, [], ◌∷◌, ◌++◌, length, take, drop, Some, None, refl, sym, ap, ◌∙◌, append_assoc, inl, inr, subst, arith}
use Rattle.std.specs.Prelude.{◌&&◌, ◌||◌, ◌==◌, not, codes}
use Rattle.std.specs.List.{list_all, prefix_len}
use Rattle.std.proofs.lemmas.List.{take_at, drop_at, take-append-drop, length-append}
use Rattle.ic_base.proofs.Steps.{bind_some, some_is}
use Rattle.cd_tokens.specs.Bytes.{is_one_of, is_blank, is_word_byte, is_sign, is_mark, goes_on}
use Rattle.cd_tokens.specs.Token.{Token, run, quoted, mark, arrow, begins_run, is_run, is_closed, IsToken, IsEnded}
use Rattle.cd_tokens.specs.ReadToken.{end_of, string_at, run_at, ends_arrow, token_of, token_at}
use Rattle.cd_tokens.proofs.Fronts.{both, not_true, is_equal, true_or_false, stops, reaches, reached, stops_there, end_found, end_closed}
use Rattle.cd_tokens.proofs.Gaps.{is_clear}

pub differ : (b : Bool) → b ≡ true → b ≡ false → ⊥
differ b e f = cc

-- what no byte of a list is
apart : (q : ℕ → Bool) (xs : List ℕ) → list_all (λ m. not (q m)) xs ≡ true → (b : ℕ) → q b ≡ true → is_one_of xs b ≡ false
apart q [] all b h = refl
apart q (m ∷ ms) all b h =
    let t = both (not (q m)) (list_all (λ k. not (q k)) ms) all in
    elim (true_or_false (b == m)) [
      | inl holds ↦ let same : b ≡ m = is_equal b m holds in absurd (differ (q m) (subst (λ k. q k ≡ true) same h) (not_true (q m) t.0))
      | inr fails ↦ rw fails (apart q ms t.1 b h)
    ]

-- what a run begins with
may_begin : ℕ → Bool
may_begin b = is_word_byte b || is_sign b

run_byte : (b : ℕ) (bytes : List ℕ) → begins_run b bytes ≡ true → may_begin b ≡ true
unfolding may_begin
run_byte b bytes h = elim (true_or_false (is_word_byte b)) [
  | inl word ↦ rw word refl
  | inr other ↦ let g : (is_sign b && goes_on bytes) ≡ true = rw other at h in rw (other, (both (is_sign b) (goes_on bytes) g).0) refl
]

not_mark : (b : ℕ) (bytes : List ℕ) → begins_run b bytes ≡ true → is_mark b ≡ false
unfolding may_begin
not_mark b bytes h = apart may_begin (codes "(){}:;,=.") refl b (run_byte b bytes h)

one_apart : (q : ℕ → Bool) (k b : ℕ) → q k ≡ false → q b ≡ true → (b == k) ≡ false
one_apart q k b e h = elim (true_or_false (b == k)) [ inl holds ↦ let same : b ≡ k = is_equal b k holds in absurd (differ (q k) (subst (λ j. q j ≡ true) same h) e) | inr fails ↦ fails ]

not_quote : (b : ℕ) (bytes : List ℕ) → begins_run b bytes ≡ true → (b == 34) ≡ false
unfolding may_begin
not_quote b bytes h = one_apart may_begin 34 b refl (run_byte b bytes h)

-- what begins no gap
begins_token : ℕ → Bool
begins_token b = may_begin b || is_mark b || b == 34

blank_apart : (b : ℕ) → begins_token b ≡ true → is_blank b ≡ false
unfolding begins_token may_begin
blank_apart b h = apart begins_token (32 ∷ 9 ∷ 10 ∷ 13 ∷ []) refl b h

slash_apart : (b : ℕ) → begins_token b ≡ true → (b == 47) ≡ false
unfolding begins_token may_begin
slash_apart b h = one_apart begins_token 47 b refl h

no_slash : (comments slash : Bool) → slash ≡ false → (comments && slash) ≡ false
no_slash true slash e = e
no_slash false slash e = refl

no_slash_here : (comments : Bool) → not (comments && false) ≡ true
no_slash_here true = refl
no_slash_here false = refl

clear_first : (comments : Bool) (b : ℕ) (rest : List ℕ) → begins_token b ≡ true → is_clear comments (b ∷ rest) ≡ true
clear_first comments b rest h = rw (blank_apart b h, no_slash comments (b == 47) (slash_apart b h)) refl

begins : (r : List ℕ) → is_run r ≡ true → (b : ℕ) × (bytes : List ℕ) × (r ≡ b ∷ bytes) × (begins_run b bytes ≡ true) × (list_all is_word_byte bytes ≡ true)
begins [] h = absurd cc
begins (b ∷ bytes) h = let t = both (begins_run b bytes) (list_all is_word_byte bytes) h in (b, bytes, refl, t.0, t.1)

does_stop : (rest : List ℕ) → goes_on rest ≡ false → stops is_word_byte rest ≡ true
does_stop [] h = refl
does_stop (b ∷ rest) h = rw h refl

stops_on : (rest : List ℕ) → stops is_word_byte rest ≡ true → goes_on rest ≡ false
stops_on [] h = refl
stops_on (b ∷ rest) h = not_true (is_word_byte b) h

run_again : (b : ℕ) (bytes rest : List ℕ) → list_all is_word_byte bytes ≡ true → goes_on rest ≡ false → run_at (b ∷ (bytes ++ rest)) ≡ (run (b ∷ bytes), rest)
run_again b bytes rest all ends =
    let n : prefix_len is_word_byte (bytes ++ rest) ≡ length bytes = reaches is_word_byte bytes rest all (does_stop rest ends) in
    rw (n, take_at bytes rest (length bytes) refl, drop_at bytes rest (length bytes) refl) refl

-- whether a run begins is told by its own bytes
still_begins : (b : ℕ) (bytes rest : List ℕ) → goes_on rest ≡ false → begins_run b (bytes ++ rest) ≡ begins_run b bytes
still_begins b [] rest e = rw e refl
still_begins b (c ∷ bytes) rest e = refl

token_of_run : (b : ℕ) (bytes : List ℕ) → begins_run b bytes ≡ true → token_of b bytes ≡ Some (run_at (b ∷ bytes))
token_of_run b bytes h = rw (not_mark b bytes h, not_quote b bytes h, h) refl

token_of_mark : (m : ℕ) (bytes : List ℕ) → is_mark m ≡ true → token_of m bytes ≡ Some (mark m, bytes)
token_of_mark m bytes h = rw h refl

string_again : (s rest : List ℕ) → is_closed false s ≡ true → string_at (s ++ 34 ∷ rest) ≡ Some (quoted s, rest)
string_again s rest closed =
    let f : drop (suc (length s)) (s ++ 34 ∷ rest) ≡ rest = ap (drop (suc (length s))) (sym (append_assoc s (34 ∷ []) rest)) ∙ drop_at (s ++ 34 ∷ []) rest (suc (length s)) (simp (length-append) (omega arith)) in
    rw (end_found false s rest closed, take_at s (34 ∷ rest) (length s) refl, f) refl

-- a token is read, where it ends
pub token_again : (t : Token) (front rest : List ℕ) → IsToken t front → IsEnded t rest → token_at (front ++ rest) ≡ Some (t, rest)
unfolding token_at
token_again (run r) front rest is ends =
    let h = begins r is.0 in
    let begun : begins_run h.0 (h.1 ++ rest) ≡ true = still_begins h.0 h.1 rest ends ∙ h.3 in
    rw (is.1, h.2) (token_of_run h.0 (h.1 ++ rest) begun ∙ ap (λ z. Some z) (run_again h.0 h.1 rest h.4 ends))
token_again (quoted s) front rest is ends =
    let e : (34 ∷ (s ++ 34 ∷ [])) ++ rest ≡ 34 ∷ (s ++ 34 ∷ rest) = ap (λ (xs : List ℕ). 34 ∷ xs) (append_assoc s (34 ∷ []) rest) in
    rw is.1 (ap token_at e ∙ string_again s rest is.0)
token_again (mark m) front rest is ends = rw is.1 (token_of_mark m rest is.0)
token_again arrow front rest is ends = rw is refl

in_quotes : (b : ℕ) (bytes s rest : List ℕ) → b ≡ 34 → bytes ≡ s ++ 34 ∷ rest → b ∷ bytes ≡ (34 ∷ (s ++ 34 ∷ [])) ++ rest
in_quotes b bytes s rest first e = rw (first, e) (ap (λ (xs : List ℕ). 34 ∷ xs) (sym (append_assoc s (34 ∷ []) rest)))

mark_begins : (m : ℕ) → is_mark m ≡ true → begins_token m ≡ true
unfolding begins_token
mark_begins m h = rw h (elim (true_or_false (may_begin m)) [ inl e ↦ rw e refl | inr e ↦ rw e refl ])

run_begins : (b : ℕ) (bytes : List ℕ) → begins_run b bytes ≡ true → begins_token b ≡ true
unfolding begins_token
run_begins b bytes h = rw (run_byte b bytes h) refl

-- no token begins as a gap does
pub token_clear : (comments : Bool) (t : Token) (front rest : List ℕ) → IsToken t front → is_clear comments (front ++ rest) ≡ true
token_clear comments (run r) front rest is = let h = begins r is.0 in rw (is.1, h.2) (clear_first comments h.0 (h.1 ++ rest) (run_begins h.0 h.1 h.3))
token_clear comments (quoted s) front rest is = rw is.1 (no_slash_here comments)
token_clear comments (mark m) front rest is = rw is.1 (clear_first comments m rest (mark_begins m is.0))
token_clear comments arrow front rest is = rw is (no_slash_here comments)

-- a token has a byte
pub some_byte : (t : Token) (front : List ℕ) → IsToken t front → 0 < length front
some_byte (run r) front is = let h = begins r is.0 in rw (is.1, h.2) (omega arith)
some_byte (quoted s) front is = rw is.1 (omega arith)
some_byte (mark m) front is = rw is.1 (omega arith)
some_byte arrow front is = rw is (omega arith)

-- what is read is a token that ends there
pub record Reads (bytes : List ℕ) (z : Token × List ℕ) : Type 0 where
  pub front : List ℕ
  pub whole : bytes ≡ front ++ z.1
  pub is_token : IsToken z.0 front
  pub ended : IsEnded z.0 z.1

-- the same bytes go on the run
same_start : (bytes : List ℕ) → goes_on (take (prefix_len is_word_byte bytes) bytes) ≡ goes_on bytes
same_start [] = refl
same_start (b ∷ bytes) = elim (true_or_false (is_word_byte b)) [
  | inl holds ↦ let k : 1 + prefix_len is_word_byte bytes ≡ suc (prefix_len is_word_byte bytes) = omega arith in rw (holds, k, holds) refl
  | inr fails ↦ rw fails refl
]

is_begun : (b : ℕ) (bytes : List ℕ) → begins_run b bytes ≡ true → begins_run b (take (prefix_len is_word_byte bytes) bytes) ≡ true
is_begun b bytes h = rw (same_start bytes) h

arrow_whole : (b : ℕ) (bytes : List ℕ) → b ≡ 45 → ends_arrow bytes ≡ true → b ∷ bytes ≡ 45 ∷ 62 ∷ drop 1 bytes
arrow_whole b [] first e = absurd cc
arrow_whole b (c ∷ bytes) first e = let g : c ≡ 62 = is_equal c 62 e in rw (first, g) refl

pub token_takes : (bytes : List ℕ) (z : Token × List ℕ) → token_at bytes ≡ Some z → Reads bytes z
unfolding token_at
token_takes [] z e = absurd cc
token_takes (b ∷ bytes) z e = elim (true_or_false (is_mark b)) [
  | inl mark_is ↦ subst (Reads (b ∷ bytes)) (some_is {A = Token × List ℕ} (mark b, bytes) z (rw mark_is at e)) (record { front = b ∷ []; whole = refl; is_token = (mark_is, refl); ended = tt })
  | inr fails ↦ elim (true_or_false (b == 34)) [
    | inl quote ↦
        let f : string_at bytes ≡ Some z = rw (fails, quote) at e in
        let a = bind_some (end_of false bytes) (λ n. Some (quoted (take n bytes), drop (suc n) bytes)) z f in
        let t = end_closed false bytes a.0 a.1 in
        let first : b ≡ 34 = is_equal b 34 quote in
        subst (Reads (b ∷ bytes)) (some_is {A = Token × List ℕ} (quoted (take a.0 bytes), drop (suc a.0) bytes) z a.2)
        (record { front = 34 ∷ (take a.0 bytes ++ 34 ∷ []); whole = in_quotes b bytes (take a.0 bytes) (drop (suc a.0) bytes) first t.whole; is_token = (t.closed, refl); ended = tt })
    | inr other ↦ elim (true_or_false (begins_run b bytes)) [
      | inl run_is ↦
          subst (Reads (b ∷ bytes)) (some_is {A = Token × List ℕ} (run_at (b ∷ bytes)) z (rw (fails, other, run_is) at e))
          (record { front = b ∷ take (prefix_len is_word_byte bytes) bytes; whole = ap (λ (xs : List ℕ). b ∷ xs) (sym (take-append-drop (prefix_len is_word_byte bytes) bytes)); is_token = (rw (is_begun b bytes run_is, reached is_word_byte bytes) refl, refl); ended = stops_on (drop (prefix_len is_word_byte bytes) bytes) (stops_there is_word_byte bytes) })
      | inr never ↦ elim (true_or_false (b == 45 && ends_arrow bytes)) [
        | inl arrow_is ↦
            let h = both (b == 45) (ends_arrow bytes) arrow_is in
            let whole = arrow_whole b bytes (is_equal b 45 h.0) h.1 in
            subst (Reads (b ∷ bytes)) (some_is {A = Token × List ℕ} (arrow, drop 1 bytes) z (rw (fails, other, never, arrow_is) at e)) (record { front = codes "->"; whole = whole; is_token = refl; ended = tt })
        | inr nothing ↦ let f : None ≡ Some z = rw (fails, other, never, nothing) at e in absurd cc
      ]
    ]
  ]
]
