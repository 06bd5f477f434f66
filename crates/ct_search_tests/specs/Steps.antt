-- A counter that goes up by one or by two, up to three.
use Rattle.std.specs.Prelude.{◌≡◌, ℕ, ◌+◌, ◌==◌, nat_lt, cond, [], ◌∷◌, ◌++◌, refl}
use Rattle.std.proofs.Common.{sym, ap, ◌∙◌, subst}
use Rattle.ct_search.specs.Meaning.{Meaning, Lawful, May}

abbrev pub more : (place : ℕ) → ℕ
more place = cond (place == 0) 1 2

abbrev pub steps : Meaning ℕ
steps = record {
  moves = λ s. cond (nat_lt s 3) (0 ∷ []) [] ++ cond (nat_lt s 2) (1 ∷ []) [];
  next = λ s place. s + more place;
  Same = λ s t. s ≡ t;
  key = λ s. s;
}

pub steps_lawful : Lawful steps
steps_lawful = record {
  reflexive = λ s. refl;
  symmetric = λ s t same. sym same;
  transitive = λ s t u same then. same ∙ then;
  matched = λ s t place same may. (place, subst (λ u. May steps u place) same may, ap (λ u. u + more place) same);
  keyed = λ s t same. same;
}
