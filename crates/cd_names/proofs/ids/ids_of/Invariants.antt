use Rattle.std.proofs.Common.{◌≡◌, ◌||◌, ℕ, drop}
use Rattle.std.specs.BTreeSet.{contains}
use Rattle.std.specs.Ordering.{nat_cmp}
use Rattle.cd_names.specs.Names.{is_used}
use Rattle.cd_names.proofs.ids.ids_of.Given as goal

-- what the set has, and what it will have of the entries that are left
abbrev pub invariant-loop-index : goal.invariant-loop-index
invariant-loop-index l = (id : ℕ) → (contains nat_cmp l.ids id || is_used (drop l.index l.table) id) ≡ is_used l.table id
