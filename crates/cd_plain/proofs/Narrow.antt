-- Numbers within narrower limits.
use Rattle.std.proofs.Common.{◌≡◌, ℕ, ◌^◌, ◌<◌, ◌≤◌, true, false, List, [], ◌∷◌, Option, Some, None, refl, sym, subst, ◌∙◌, inl, inr, arith}
use Rattle.std.specs.Prelude.{ℤ, nat_lt}
use Rattle.ic_base.specs.Reader.{◌>>=◌}
use Rattle.ic_base.proofs.Steps.{some_is}
use Rattle.cd_tokens.specs.Token.{Token, run, quoted, mark, arrow}
use Rattle.cd_tokens.specs.ReadNumeral.{natural_of, below, is_between, between}
use Rattle.cd_tokens.proofs.Fronts.{true_or_false}
use Rattle.cd_plain.specs.ReadPlain.{natural_at}

-- below a limit, of what is below a wider one
twice : (wide limit : ℕ) (read : Option ℕ) → limit ≤ wide → below limit read ≡ (below wide read >>= λ n. below limit (Some n))
twice wide limit None le = refl
twice wide limit (Some n) le = elim (true_or_false (nat_lt n wide)) [
  | inl small ↦ rw small refl
  | inr large ↦ let h : nat_lt n limit ≡ false = grind (arith, large, le) in rw (large, h) refl
]

after : (read : Option ℕ) (limit : ℕ) (rest : List Token) → ◌>>=◌ {B = ℕ × List Token} (◌>>=◌ {B = ℕ} read (λ n. below limit (Some n))) (λ x. Some (x, rest)) ≡ ◌>>=◌ {B = ℕ × List Token} (◌>>=◌ {B = ℕ × List Token} read (λ x. Some (x, rest))) (λ x. ◌>>=◌ {B = ℕ × List Token} (below limit (Some x.0)) (λ n. Some (n, x.1)))
after None limit rest = refl
after (Some n) limit rest = elim (true_or_false (nat_lt n limit)) [ inl small ↦ rw small refl | inr large ↦ rw large refl ]

again : (wide limit : ℕ) (tokens : List Token) → limit ≤ wide → natural_at limit tokens ≡ (natural_at wide tokens >>= λ x. below limit (Some x.0) >>= λ n. Some (n, x.1))
unfolding natural_at
again wide limit [] le = refl
again wide limit (run r ∷ rest) le = rw (twice wide limit (natural_of r) le) (after (below wide (natural_of r)) limit rest)
again wide limit (quoted s ∷ rest) le = refl
again wide limit (mark m ∷ rest) le = refl
again wide limit (arrow ∷ rest) le = refl

pub narrower : (limit n : ℕ) (tokens rest : List Token) → limit ≤ 2 ^ 128 → natural_at (2 ^ 128) tokens ≡ Some (n, rest) → n < limit → natural_at limit tokens ≡ Some (n, rest)
narrower limit n tokens rest le e small =
    let h : nat_lt n limit ≡ true = grind (arith, small) in
    again (2 ^ 128) limit tokens le ∙ rw (e, h) refl

pub too_large : (limit n : ℕ) (tokens rest : List Token) → limit ≤ 2 ^ 128 → natural_at (2 ^ 128) tokens ≡ Some (n, rest) → limit ≤ n → natural_at limit tokens ≡ None
too_large limit n tokens rest le e large =
    let h : nat_lt n limit ≡ false = grind (arith, large) in
    again (2 ^ 128) limit tokens le ∙ rw (e, h) refl

pub no_number : (limit : ℕ) (tokens : List Token) → limit ≤ 2 ^ 128 → natural_at (2 ^ 128) tokens ≡ None → natural_at limit tokens ≡ None
no_number limit tokens le e = again (2 ^ 128) limit tokens le ∙ rw e refl

pub inside : (half : ℕ) (z : ℤ) (read : Option ℤ) → Some z ≡ between half read → is_between half z ≡ true
inside half z None e = absurd cc
inside half z (Some y) e = elim (true_or_false (is_between half y)) [
  | inl holds ↦ let same : z ≡ y = some_is {A = ℤ} z y (rw holds at e) in subst (λ k. is_between half k ≡ true) (sym same) holds
  | inr fails ↦ let f : Some z ≡ None = rw fails at e in absurd cc
]
