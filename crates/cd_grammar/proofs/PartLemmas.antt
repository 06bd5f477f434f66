-- Lists of parts after an opening mark are read exactly.
use Rattle.std.proofs.Common.{◌≡◌, ℕ, suc, ◌+◌, ◌≤◌, ◌<◌, Bool, true, false, List, [], ◌∷◌, ◌++◌, length, drop, Some, None, ap, ◌∙◌, length-append, inl, inr, arith}
use Rattle.std.specs.Prelude.{◌==◌}
use Rattle.cd_tokens.specs.Token.{Token, mark}
use Rattle.cd_tokens.specs.ReadParts.{parts_at}
use Rattle.cd_tokens.proofs.Fronts.{true_or_false}
use Rattle.cd_tokens.proofs.Starts.{same_mark, started}
use Rattle.cd_tokens.proofs.Parts.{Sound, Complete, parts_take, parts_again}
use Rattle.cd_grammar.specs.Grammar.{Writing, WritesParts}
use Rattle.cd_grammar.specs.Read.{Reading, is_mark, starts, enclosed_at}

pub enclosed_takes : {S A : Type 0} (begin separator end : ℕ) (P : ℕ → Writing S A) (step : A → ℕ) (read : ℕ → Reading S A) → ((next : ℕ) → Sound (P next) (read next))
    → (state : S) (tokens : List Token) (z : List A × S × List Token) → enclosed_at begin separator end read step state tokens ≡ Some z
    → (front : List Token) × (tokens ≡ mark begin ∷ (front ++ z.2)) × WritesParts (mark separator) (mark end) P step 0 state z.0 z.1 front
enclosed_takes begin separator end P step read law state tokens z e = elim (true_or_false (starts (is_mark begin) tokens)) [
  | inl found ↦
      let f : parts_at separator end read step (length tokens) 0 state (drop 1 tokens) ≡ Some z = rw found at e in
      let s = parts_take separator end P step read law (length tokens) 0 state (drop 1 tokens) z f in
      (s.front, started begin tokens found ∙ ap (λ (ts : List Token). mark begin ∷ ts) s.parts, s.written)
  | inr never ↦ let f : None ≡ Some z = rw never at e in absurd cc
]

-- each part has a mark after it
few : {S A : Type 0} (separator end : ℕ) (P : ℕ → Writing S A) (step : A → ℕ) (xs : List A) (next : ℕ) (before after : S) (front : List Token) → WritesParts (mark separator) (mark end) P step next before xs after front → length xs ≤ length front
few separator end P step [] next before after front w = omega arith
few {S} {A} separator end P step (x ∷ xs) next before after front w =
    let whole : length front ≡ length w.1 + length w.2 = ap length w.3 ∙ length-append w.1 w.2 in
    elim w.5 [
      | inl last ↦
          let none : length xs ≡ 0 = ap length last.0 in
          let one : length w.2 ≡ 1 = ap length last.2 in
          omega (arith, whole, none, one)
      | inr more ↦
          let one : length w.2 ≡ suc (length more.0) = ap length more.1 in
          let rest = few separator end P step xs (step x) w.0 after more.0 more.2 in
          omega (arith, whole, one, rest)
    ]

pub enclosed_again : {S A : Type 0} (begin separator end : ℕ) (P : ℕ → Writing S A) (step : A → ℕ) (read : ℕ → Reading S A) (free : List Token → Bool)
    → ((next : ℕ) → Complete free (P next) (read next)) → ((next : ℕ) (before : S) (x : A) (after : S) (front rest : List Token) → P next before x after front → starts (is_mark end) (front ++ rest) ≡ false)
    → ((rest : List Token) → free (mark separator ∷ rest) ≡ true) → ((rest : List Token) → free (mark end ∷ rest) ≡ true) → (separator == end) ≡ false
    → (xs : List A) (before after : S) (front rest : List Token) → WritesParts (mark separator) (mark end) P step 0 before xs after front
    → enclosed_at begin separator end read step before (mark begin ∷ (front ++ rest)) ≡ Some (xs, after, rest)
enclosed_again begin separator end P step read free law on at_separator at_end differ xs before after front rest w =
    let enough = few separator end P step xs 0 before after front w in
    let long : length (front ++ rest) ≡ length front + length rest = length-append front rest in
    rw (same_mark begin) (parts_again separator end P step read free law on at_separator at_end differ xs (suc (length (front ++ rest))) 0 before after front rest w (omega (arith, enough, long)))
