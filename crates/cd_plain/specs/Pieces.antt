-- What is printed piece by piece.
use Rattle.std.specs.Prelude.{ℕ, zero, suc, Bool, true, false, List, [], ◌∷◌, ◌++◌, codes}

-- what comes before the part at a place
abbrev pub before : List ℕ → List ℕ → ℕ → List ℕ
before first other zero = first
before first other (suc place) = other

-- parts, each after what comes before it; the first is at this place
abbrev pub pieces : List ℕ → List ℕ → ℕ → List (List ℕ) → List ℕ
pieces first other place [] = []
pieces first other place (part ∷ parts) = before first other place ++ (part ++ pieces first other (suc place) parts)

-- what comes after the parts in braces
abbrev pub end_of_braces : Bool → List ℕ
end_of_braces true = codes "{}"
end_of_braces false = codes " }"
