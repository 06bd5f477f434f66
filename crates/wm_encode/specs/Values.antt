-- How values are written (WebAssembly Core 1.0, 5.1 and 5.2): each number in its shortest spelling.
use Rattle.std.specs.Prelude.{ℕ, List, ◌++◌, length}
use Rattle.std.specs.List.{flat_map}
use Rattle.ic_leb.specs.Spelling.{unsigned_spelling}

-- a vector: the number of its items, and each of them
abbrev pub vec : {A : Type 0} → (A → List ℕ) → List A → List ℕ
vec f items = unsigned_spelling (length items) ++ flat_map f items

-- bytes after their number: names, data, and all that has its size before it
abbrev pub sized : List ℕ → List ℕ
sized bytes = unsigned_spelling (length bytes) ++ bytes
