-- Lists of values are read exactly.
use Rattle.std.proofs.Common.{◌≡◌, ℕ, ◌+◌, ◌<◌, Bool, true, false, List, [], ◌∷◌, ◌++◌, length, Some, sym, ap, ◌∙◌, inl, inr, arith}
use Rattle.std.specs.Prelude.{◌==◌}
use Rattle.cd_tokens.specs.Token.{Token, mark}
use Rattle.cd_tokens.specs.Front.{is_mark, starts}
use Rattle.cd_tokens.specs.WritesParts.{Writing, WritesParts}
use Rattle.cd_tokens.specs.ReadParts.{parts_at}
use Rattle.cd_tokens.proofs.Parts as parts
use Rattle.cd_plain.specs.ReadPlain.{Budgeted}
use Rattle.cd_text.specs.Said.{Saying, SaysParts}

-- what is read: a front of the tokens that says it, and values as many as are no longer left
pub record Consumes {A : Type 0} (P : Saying A) (many : A → ℕ) (n : ℕ) (tokens : List Token) (z : A × ℕ × List Token) : Type 0 where
  pub front : List Token
  pub parts : tokens ≡ front ++ z.2
  pub said : P z.0 front
  pub left : many z.0 + z.1 ≡ n

-- what is read is said
abbrev pub Sound : {A : Type 0} → Saying A → (A → ℕ) → Budgeted A → Type 0
Sound {A} P many read = (n : ℕ) (tokens : List Token) (z : A × ℕ × List Token) → read n tokens ≡ Some z → Consumes P many n tokens z

-- what is said is read, where what follows is free
abbrev pub Complete : {A : Type 0} → (List Token → Bool) → Saying A → (A → ℕ) → Budgeted A → Type 0
Complete {A} free P many read = (x : A) (front rest : List Token) (left : ℕ) → P x front → free rest ≡ true → read (many x + left) (front ++ rest) ≡ Some (x, left, rest)

-- the sum over parts
abbrev pub sum_of : {A : Type 0} → (A → ℕ) → List A → ℕ
sum_of many [] = 0
sum_of many (x ∷ xs) = many x + sum_of many xs

-- what is said, with the number of values that are left as state
abbrev pub Counted : {A : Type 0} → Saying A → (A → ℕ) → Writing ℕ A
Counted P many before x after tokens = (many x + after ≡ before) × P x tokens

says_parts : {A : Type 0} (separator end : Token) (P : ℕ → Saying A) (many step : A → ℕ) (xs : List A) (next before after : ℕ) (tokens : List Token)
    → WritesParts separator end (λ n. Counted (P n) many) step next before xs after tokens → (sum_of many xs + after ≡ before) × SaysParts separator end P step next xs tokens
says_parts separator end P many step [] next before after tokens w = (omega (arith, w.0), w.1)
says_parts {A} separator end P many step (x ∷ xs) next before after tokens w = elim w.5 [
  | inl last ↦
      let none : sum_of many xs ≡ 0 = ap (sum_of many) last.0 in
      (omega (arith, w.4.0, none, last.1), (w.1, w.2, w.3, w.4.1, inl (last.0, last.2)))
  | inr more ↦
      let rest = says_parts separator end P many step xs (step x) w.0 after more.0 more.2 in
      (omega (arith, w.4.0, rest.0), (w.1, w.2, w.3, w.4.1, inr (more.0, more.1, rest.1)))
]

counts_parts : {A : Type 0} (separator end : Token) (P : ℕ → Saying A) (many step : A → ℕ) (xs : List A) (next left : ℕ) (tokens : List Token)
    → SaysParts separator end P step next xs tokens → WritesParts separator end (λ n. Counted (P n) many) step next (sum_of many xs + left) xs left tokens
counts_parts separator end P many step [] next left tokens said = (omega arith, said)
counts_parts {A} separator end P many step (x ∷ xs) next left tokens said = elim said.4 [
  | inl last ↦
      let none : sum_of many xs ≡ 0 = ap (sum_of many) last.0 in
      (sum_of many xs + left, said.0, said.1, said.2, (omega arith, said.3), inl (last.0, omega (arith, none), last.1))
  | inr more ↦
      (sum_of many xs + left, said.0, said.1, said.2, (omega arith, said.3), inr (more.0, more.1, counts_parts separator end P many step xs (step x) left more.0 more.2))
]

pub parts_take : {A : Type 0} (separator end : ℕ) (P : ℕ → Saying A) (step : A → ℕ) (many : A → ℕ) (read : ℕ → Budgeted A) → ((next : ℕ) → Sound (P next) many (read next))
    → (fuel next n : ℕ) (tokens : List Token) (z : List A × ℕ × List Token) → parts_at separator end read step fuel next n tokens ≡ Some z → Consumes (SaysParts (mark separator) (mark end) P step next) (sum_of many) n tokens z
parts_take {A} separator end P step many read law fuel next n tokens z e =
    let t = parts.parts_take separator end (λ k. Counted (P k) many) step read (λ k m ts y g. let c = law k m ts y g in record { front = c.front; parts = c.parts; written = (c.left, c.said) }) fuel next n tokens z e in
    let s = says_parts (mark separator) (mark end) P many step z.0 next n z.1 t.front t.written in
    record { front = t.front; parts = t.parts; said = s.1; left = s.0 }

-- what is said is read again
pub parts_again : {A : Type 0} (separator end : ℕ) (P : ℕ → Saying A) (step : A → ℕ) (many : A → ℕ) (read : ℕ → Budgeted A) (free : List Token → Bool)
    → ((next : ℕ) → Complete free (P next) many (read next)) → ((next : ℕ) (x : A) (front rest : List Token) → P next x front → starts (is_mark end) (front ++ rest) ≡ false)
    → ((rest : List Token) → free (mark separator ∷ rest) ≡ true) → ((rest : List Token) → free (mark end ∷ rest) ≡ true) → (separator == end) ≡ false
    → (xs : List A) (fuel next left : ℕ) (front rest : List Token) → SaysParts (mark separator) (mark end) P step next xs front → length xs < fuel → parts_at separator end read step fuel next (sum_of many xs + left) (front ++ rest) ≡ Some (xs, left, rest)
parts_again {A} separator end P step many read free law on at_separator at_end differ xs fuel next left front rest said enough =
    parts.parts_again separator end (λ k. Counted (P k) many) step read free
    (λ k before x after ts more w ends. ap (λ m. read k m (ts ++ more)) (sym w.0) ∙ law k x ts more after w.1 ends)
    (λ k before x after ts more w. on k x ts more w.1) at_separator at_end differ xs fuel next (sum_of many xs + left) left front rest (counts_parts (mark separator) (mark end) P many step xs next left front said) enough
