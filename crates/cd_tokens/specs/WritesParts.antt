-- How parts with a separator between are written.
use Rattle.std.specs.Prelude.{◌≡◌, ℕ, List, [], ◌∷◌, ◌++◌, ◌⊎◌}
use Rattle.cd_tokens.specs.Token.{Token}

-- how something is written: of the state before, itself, the state after, and its tokens
abbrev pub Writing : Type 0 → Type 0 → Type 1
Writing S A = S → A → S → List Token → Type 0

-- parts up to a closing mark, a separator between and maybe one after the last; `next` is what `step` makes of the part before
abbrev pub WritesParts : {S A : Type 0} → Token → Token → (ℕ → Writing S A) → (A → ℕ) → ℕ → Writing S (List A)
WritesParts separator end P step next before [] after tokens = (after ≡ before) × (tokens ≡ end ∷ [])
WritesParts {S} separator end P step next before (x ∷ xs) after tokens = (between : S) × (front : List Token) × (rest : List Token) × (tokens ≡ front ++ rest) × P next before x between front
    × (((xs ≡ []) × (after ≡ between) × (rest ≡ end ∷ [])) ⊎ ((more : List Token) × (rest ≡ separator ∷ more) × WritesParts separator end P step (step x) between xs after more))
