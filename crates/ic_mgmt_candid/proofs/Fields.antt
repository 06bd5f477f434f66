-- Fields that are not as many as are asked for, and the items of a list.
use Rattle.std.proofs.Common.{◌≡◌, ℕ, List, [], ◌∷◌, length, Option, None, refl, ap, arith}
use Rattle.cd_codec.specs.declared.value.Value.{Value}
use Rattle.cd_codec.specs.Content.{Content, parts_of, contents_of}
use Rattle.cd_codec.specs.View.{views_of_fields}
use Rattle.cd_coerce.specs.Parts.{values_of}
use Rattle.ic_mgmt_candid.specs.Picks.{two_parts, four_parts}

pub not_two : (xs : List (ℕ × Value)) → (length xs ≡ 2 → ⊥) → two_parts (parts_of (views_of_fields xs)) ≡ None
not_two [] h = refl
not_two (a ∷ []) h = refl
not_two (a ∷ b ∷ []) h = absurd (h refl)
not_two (a ∷ b ∷ c ∷ more) h = refl

pub not_four : (xs : List (ℕ × Value)) → (length xs ≡ 4 → ⊥) → four_parts (parts_of (views_of_fields xs)) ≡ None
not_four [] h = refl
not_four (a ∷ []) h = refl
not_four (a ∷ b ∷ []) h = refl
not_four (a ∷ b ∷ c ∷ []) h = refl
not_four (a ∷ b ∷ c ∷ d ∷ []) h = absurd (h refl)
not_four (a ∷ b ∷ c ∷ d ∷ e ∷ more) h = refl

pub listed : (vs : List Content) → values_of (contents_of vs) ≡ vs
listed [] = refl
listed (v ∷ vs) = ap (λ (xs : List Content). v ∷ xs) (listed vs)
