-- Memories as lists of numbers of ranges, each range kept once. No standard has this.
use Rattle.std.specs.Prelude.{◌≡◌, ℕ, ◌<◌, List, [], ◌∷◌, ◌++◌, length, nat_eq, slice_index_or}
use Rattle.std.specs.List.{AllByRecursion, IsDistinct}
use Rattle.std.specs.Cmp.Lexicographic.{pointwise}

-- the bytes of the ranges of these numbers, one after another
abbrev pub bytes_of : List (List ℕ) → List ℕ → List ℕ
bytes_of ranges [] = []
bytes_of ranges (n ∷ ns) = slice_index_or ranges n [] ++ bytes_of ranges ns

-- each number is that of a range
abbrev pub AreNumbers : List (List ℕ) → List ℕ → Type 0
AreNumbers ranges numbers = AllByRecursion (λ n. n < length ranges) numbers

-- the second list begins with the first
abbrev pub Extends : {A : Type 0} → List A → List A → Type 0
Extends {A} xs ys = (more : List A) × (ys ≡ xs ++ more)

-- the ranges are of 4,096 bytes, and no two are equal
pub record AreDistinct (ranges : List (List ℕ)) : Type 0 where
  pub sizes : AllByRecursion (λ (r : List ℕ). length r ≡ 4096) ranges
  pub distinct : IsDistinct (pointwise nat_eq) ranges
