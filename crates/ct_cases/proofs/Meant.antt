-- Meanings that are the same.
use Rattle.std.proofs.Common.{◌≡◌, ℕ, ◌<◌, ◌+◌, Bool, List, length, get_or, Option, Some, None, refl, sym, ap, ap₂, ◌∙◌, true≢false, arith, inl, inr}
use Rattle.std.specs.Prelude.{nat_eq, nat_lt, IsTrue, ◌↔◌}
use Rattle.std.specs.Bool.{Decides}
use Rattle.std.specs.Option.{option_eq}
use Rattle.std.specs.Cmp.Lexicographic.{pointwise, pointwise_decides}
use Rattle.std.proofs.lemmas.Bool.{eqb-true, eq-eqb, cases_Bool, ltb-true, ltb-false}
use Rattle.std.proofs.lemmas.List.{get_or_read}
use Rattle.ct_outcomes.specs.declared.named.Named.{Named}
use Rattle.ct_cases.specs.Meanings.{Meaning}

same_number : (a b : Option ℕ) → Decides (option_eq nat_eq a b) (a ≡ b)
same_number None None = (λ e. refl, λ e. refl)
same_number None (Some y) = (λ e. absurd (true≢false (sym e)), λ e. cc)
same_number (Some x) None = (λ e. absurd (true≢false (sym e)), λ e. cc)
same_number (Some x) (Some y) = (λ e. ap Some (eqb-true x y e), λ e. eq-eqb x y (cc))

same_numbers : (a b : List (Option ℕ)) → Decides (pointwise (option_eq nat_eq) a b) (a ≡ b)
same_numbers = pointwise_decides same_number

-- meanings with the same names are the same where their numbers are
pub same_meaning : (a b : Meaning) (names others : List Named) (numbers more : List (Option ℕ)) (result : Bool) → names ≡ a.0 → others ≡ b.0 → numbers ≡ a.1 → more ≡ b.1
    → names ≡ others → result ≡ pointwise (option_eq nat_eq) numbers more → IsTrue result ↔ (a ≡ b)
same_meaning a b names others numbers more result na nb ma mb same decides =
    let both : a.0 ≡ b.0 = sym na ∙ same ∙ nb in (
      λ is.
          let equal : numbers ≡ more = (same_numbers numbers more).0 (sym decides ∙ is) in
          let also : a.1 ≡ b.1 = sym ma ∙ equal ∙ mb in
          ap₂ (λ (x : List Named) (y : List (Option ℕ)). let m : Meaning = (x, y) in m) both also,
      λ e. decides ∙ (same_numbers numbers more).1 (ma ∙ ap (λ (m : Meaning). m.1) e ∙ sym mb),
    )

-- none of the first ones is this one, nor is the next
pub not_so_far : {X : Type 0} (xs : List X) (x y : X) (n : ℕ) → n < length xs → y ≡ get_or xs n y → (y ≡ x → ⊥) → ((k : ℕ) (d : X) → k < n → get_or xs k d ≡ x → ⊥)
    → (k : ℕ) (d : X) → k < n + 1 → get_or xs k d ≡ x → ⊥
not_so_far {X} xs x y n within at not before k d lt e =
    elim (cases_Bool (nat_lt k n)) [
      | inl now ↦ before k d (ltb-true _ _ now) e
      | inr later ↦
          let same : k ≡ n = omega (arith, lt, ltb-false _ _ later) in
          not (get_or_read xs n y within at d ∙ ap (λ (m : ℕ). get_or xs m d) (sym same) ∙ e)
    ]
