-- Subtyping of types outside their tables, which have no parts; no standard has these
use Rattle.std.specs.Prelude.{Bool}
use Rattle.cd_types.specs.declared.entry.TyRef.{TyRef}
use Rattle.cd_types.specs.declared.entry.TyRef.TheVariants.{Prim, Index}
use Rattle.cd_types.specs.Shape.{Shape, primitive}
use Rattle.cd_sub.specs.PartFree.{is_empty, is_top}

-- whether a type is a subtype of an expected one of this shape, where one of them is outside its table
abbrev pub below_outside : TyRef → Shape → Bool
below_outside (Prim p) expected = is_empty (primitive p)
below_outside (Index i) expected = is_top expected
