-- A test that decides a relation; no standard has this
use Rattle.std.specs.Prelude.{◌≡◌, ◌⊎◌, Bool, true, false}
use Rattle.cd_types.specs.declared.entry.TyRef.{TyRef}

-- the test decides the relation
abbrev pub Decides : (TyRef → TyRef → Type 0) → (TyRef → TyRef → Bool) → Type 0
Decides Below below = (a b : TyRef) → ((below a b ≡ true) × Below a b) ⊎ ((below a b ≡ false) × (Below a b → ⊥))
