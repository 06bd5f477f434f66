-- What names stand for in cases, each once, under the number of its place.
use Rattle.std.specs.Prelude.{◌≡◌, ◌++◌, ℕ, List, [], Option, slice_index_or}
use Rattle.std.specs.List.{AllPairs}
use Rattle.ct_outcomes.specs.declared.named.Named.{Named}

-- what names stand for, and under which number each move of an interleave was accepted; where no interleave is under way
-- there are no numbers
abbrev pub Meaning : Type 0
Meaning = List Named × List (Option ℕ)

-- no two are equal
abbrev pub AreApart : List Meaning → Type 0
AreApart meanings = AllPairs (λ earlier later. earlier ≡ later → ⊥) meanings

abbrev pub meaning_at : List Meaning → (number : ℕ) → Meaning
meaning_at meanings number = slice_index_or meanings number ([], [])

-- the second list begins with the first
abbrev pub Extends : List Meaning → List Meaning → Type 0
Extends old new = (more : List Meaning) × (new ≡ old ++ more)
