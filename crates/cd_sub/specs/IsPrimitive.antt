-- Candid specification, "Primitive Types"
use Rattle.cd_types.specs.declared.entry.TyRef.{TyRef}
use Rattle.cd_types.specs.declared.entry.TyRef.TheVariants.{Prim, Index}

-- the reference is a primitive type
abbrev pub IsPrimitive : TyRef → Type 0
IsPrimitive (Prim primitive) = Unit {0}
IsPrimitive (Index index) = ⊥
