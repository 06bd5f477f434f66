-- How deep a value nests, and how many values it is. Candid names no such measures: they are for the limits of this replica.
-- A blob and a func are one value without parts.
use Rattle.std.specs.Prelude.{ℕ, suc, ◌+◌, max, List, [], ◌∷◌}
use Rattle.cd_codec.specs.Content.{Content, plain, blob, none, some, list, record_of, variant, Contents, no_content, content, Parts, no_part, part}

abbrev mutual
  -- the nesting of a value: 1, and a part is one deeper than its whole
  pub nesting : Content → ℕ
  nesting (plain p) = 1
  nesting (blob bytes) = 1
  nesting none = 1
  nesting (some v) = suc (nesting v)
  nesting (list vs) = suc (nesting_all vs)
  nesting (record_of ps) = suc (nesting_parts ps)
  nesting (variant i v) = suc (nesting v)

  pub nesting_all : Contents → ℕ
  nesting_all no_content = 0
  nesting_all (content v vs) = max (nesting v) (nesting_all vs)

  pub nesting_parts : Parts → ℕ
  nesting_parts no_part = 0
  nesting_parts (part i v ps) = max (nesting v) (nesting_parts ps)

abbrev mutual
  -- the number of values: the value and its parts
  pub number : Content → ℕ
  number (plain p) = 1
  number (blob bytes) = 1
  number none = 1
  number (some v) = suc (number v)
  number (list vs) = suc (number_all vs)
  number (record_of ps) = suc (number_parts ps)
  number (variant i v) = suc (number v)

  pub number_all : Contents → ℕ
  number_all no_content = 0
  number_all (content v vs) = number v + number_all vs

  pub number_parts : Parts → ℕ
  number_parts no_part = 0
  number_parts (part i v ps) = number v + number_parts ps

-- the deepest nesting of a list
abbrev pub nesting_each : List Content → ℕ
nesting_each [] = 0
nesting_each (v ∷ vs) = max (nesting v) (nesting_each vs)

-- the number of values of a list
abbrev pub number_each : List Content → ℕ
number_each [] = 0
number_each (v ∷ vs) = number v + number_each vs
