-- Candid specification, "Binary Format" (I): references to types
use Rattle.std.specs.Prelude.{ℕ, Bool, true, nat_lt}
use Rattle.cd_types.specs.declared.entry.TyRef.{TyRef}
use Rattle.cd_types.specs.declared.entry.TyRef.TheVariants.{Prim, Index}

-- whether a reference is inside a table of this many entries
abbrev pub is_inside : ℕ → TyRef → Bool
is_inside count (Prim primitive) = true
is_inside count (Index index) = nat_lt index count
