-- The names of exports that were seen, as the check of exports keeps them; no standard has this.
use Rattle.std.specs.Prelude.{◌≡◌, ℕ, Bool, ◌||◌, List}
use Rattle.std.specs.Borrow.{Bor}
use Rattle.std.specs.BTreeSet.{BTreeSet, contains_by}
use Rattle.std.specs.Cmp.Lexicographic.{slice_cmp}
use Rattle.std.specs.Ordering.{nat_cmp}
use Rattle.wm_tree.specs.declared.parts.Export.{Export}
use Rattle.wm_valid.specs.Entries.{exports_name}

abbrev pub has_name : BTreeSet (Bor (List ℕ)) → List ℕ → Bool
has_name set name = contains_by (λ k. slice_cmp nat_cmp name k.now) set

-- the set has gained the names that pass, and no others
abbrev pub HasAlso : BTreeSet (Bor (List ℕ)) → BTreeSet (Bor (List ℕ)) → (List ℕ → Bool) → Type 0
HasAlso old new test = (name : List ℕ) → has_name new name ≡ (test name || has_name old name)

-- the set has just the names of the exports
abbrev pub HasNames : BTreeSet (Bor (List ℕ)) → List Export → Type 0
HasNames set exports = (name : List ℕ) → has_name set name ≡ exports_name exports name
