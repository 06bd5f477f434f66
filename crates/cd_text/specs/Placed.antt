-- Values with their places.
use Rattle.std.specs.Prelude.{ℕ, suc, List, [], ◌∷◌}
use Rattle.cd_codec.specs.Content.{Content}

-- each value with its place; the first is at this one
abbrev pub placed : ℕ → List Content → List (ℕ × Content)
placed place [] = []
placed place (v ∷ vs) = (place, v) ∷ placed (suc place) vs
