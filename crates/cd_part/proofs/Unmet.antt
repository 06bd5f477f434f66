-- What the entries that were not met measure together.
use Rattle.std.proofs.Common.{◌≡◌, ℕ, zero, suc, ◌+◌, ◌<◌, ◌==◌, false, List, [], ◌∷◌, ◌++◌, length, Some, None, refl, sym, ap, ◌∙◌, arith}
use Rattle.std.specs.Prelude.{slice_get}
use Rattle.std.proofs.lemmas.Bool.Decides.{nat_tests}
use Rattle.ic_base.proofs.Steps.{some_is}
use Rattle.cd_types.specs.declared.entry.Entry.{Entry}
use Rattle.cd_part.specs.Places.{place_of}
use Rattle.cd_part.specs.Meets.{unmet}
use Rattle.cd_part.proofs.Placing.{place_own, place_other}

module _ (measure : Entry → ℕ) (met : List ℕ) (new : ℕ) where
  -- an entry before all of these is none of them
  unmet_behind : (number : ℕ) (entries : List Entry) → new < number → unmet measure (met ++ new ∷ []) number entries ≡ unmet measure met number entries
  unmet_behind number [] before = refl
  unmet_behind number (e ∷ entries) before =
      let apart : (new == number) ≡ false = grind (arith, nat_tests) in
      let here = place_other met new number apart in
      let more = unmet_behind (suc number) entries (omega (arith, before)) in
      rw (here, more) refl

  -- an entry that is met now is taken away
  pub unmet_less : (number : ℕ) (entries : List Entry) (k : ℕ) (entry : Entry) → slice_get entries k ≡ Some entry → new ≡ number + k → place_of met new ≡ None
      → unmet measure (met ++ new ∷ []) number entries + measure entry ≡ unmet measure met number entries
  unmet_less number [] k entry there is none = absurd cc
  unmet_less number (e ∷ entries) zero entry there is none =
      let one : new ≡ number = omega (arith, is) in
      let own : place_of (met ++ new ∷ []) number ≡ Some (length met) = ap (place_of (met ++ new ∷ [])) (sym one) ∙ place_own met new none in
      let was : place_of met number ≡ None = ap (place_of met) (sym one) ∙ none in
      let same : measure e ≡ measure entry = ap measure (some_is {A = Entry} e entry there) in
      let more = unmet_behind (suc number) entries (omega (arith, one)) in
      rw (own, was) (omega (arith, more, same))
  unmet_less number (e ∷ entries) (suc k) entry there is none =
      let apart : (new == number) ≡ false = grind (arith, nat_tests) in
      let here = place_other met new number apart in
      let more = unmet_less (suc number) entries k entry there (omega (arith, is)) none in
      rw here (omega (arith, more))

-- where nothing was met, as many as there are were not met
pub unmet_all : (number : ℕ) (entries : List Entry) → unmet (λ e. 1) [] number entries ≡ length entries
unmet_all number [] = refl
unmet_all number (e ∷ entries) = omega (arith, unmet_all (suc number) entries)
