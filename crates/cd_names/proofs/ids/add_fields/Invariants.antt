use Rattle.std.proofs.Common.{◌≡◌, ◌||◌, ℕ, drop}
use Rattle.std.specs.BTreeSet.{contains}
use Rattle.std.specs.Ordering.{nat_cmp}
use Rattle.cd_names.specs.Names.{is_among}
use Rattle.cd_names.proofs.ids.add_fields.Given as goal

-- what the set has, and what it will have of the fields that are left
abbrev pub invariant-loop-id : goal.invariant-loop-id
invariant-loop-id l = (id : ℕ) → (contains nat_cmp l.ids id || is_among (drop l.id-index l.fields) id) ≡ (contains nat_cmp l.fn.ids id || is_among l.fields id)
