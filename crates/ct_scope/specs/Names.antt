-- Values under names.
use Rattle.std.specs.Prelude.{ℕ, List, map, Option, Vec}
use Rattle.std.specs.BTreeMap.{insert_entry, is_at}
use Rattle.std.specs.Map.{lookup}
use Rattle.std.specs.Cmp.Lexicographic.{slice_cmp}
use Rattle.std.specs.Ordering.{nat_cmp}
use Rattle.std.specs.declared.alloc.Global.{Global}

-- names with a value each, in the order of the names
abbrev pub Named : Type 0 → Type 0
Named V = List (List ℕ × V)

-- what a search tree has
abbrev pub pairs : {V : Type 0} → List (Vec ℕ Global × V) → Named V
pairs entries = map (λ e. (e.0.items, e.1)) entries

-- the value under a name
abbrev pub found : {V : Type 0} → Named V → List ℕ → Option V
found names name = lookup (is_at (slice_cmp nat_cmp name)) names

-- the names with this value under this one
abbrev pub put : {V : Type 0} → Named V → List ℕ → V → Named V
put names name value = insert_entry (slice_cmp nat_cmp) names name value
