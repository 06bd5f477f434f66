-- Candid specification, "Subtyping" (records and functions): what may be missing
use Rattle.std.specs.Prelude.{Bool, true, false}
use Rattle.cd_types.specs.declared.primitive.Primitive.TheVariants.{Null, Reserved}
use Rattle.cd_types.specs.declared.entry.Entry.TheVariants.{Opt}
use Rattle.cd_types.specs.Shape.{Shape, primitive, compound}

-- whether a field or an argument may be missing: its type is null, reserved or an opt
abbrev pub may_miss : Shape → Bool
may_miss (primitive Null) = true
may_miss (primitive Reserved) = true
may_miss (compound (Opt type)) = true
may_miss _ = false
