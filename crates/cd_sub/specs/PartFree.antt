-- Candid specification, "Subtyping": the rules that have no parts, as a test
use Rattle.std.specs.Prelude.{Bool, true, false, ◌==◌, ◌||◌, ◌&&◌}
use Rattle.cd_types.specs.declared.primitive.Primitive.{Primitive}
use Rattle.cd_types.specs.declared.primitive.Primitive.TheVariants.{Nat, Int, Reserved, Empty}
use Rattle.cd_types.specs.declared.entry.Entry.TheVariants.{Opt, Seq, Rec, Var, Func, Service}
use Rattle.cd_types.specs.PrimitiveCode.{primitive_code}
use Rattle.cd_types.specs.Shape.{Shape, primitive, compound, dangling}

-- the types are the same, nat and int, or with reserved above or empty below
abbrev pub primitive_below : Primitive → Primitive → Bool
primitive_below p q =
    (primitive_code q == primitive_code Reserved) || ((primitive_code p == primitive_code Empty)
    || (((primitive_code p == primitive_code Nat) && (primitive_code q == primitive_code Int)) || (primitive_code p == primitive_code q)))

-- whether every type is below: reserved or an opt
abbrev pub is_top : Shape → Bool
is_top (primitive p) = primitive_code p == primitive_code Reserved
is_top (compound (Opt type)) = true
is_top (compound (Seq type)) = false
is_top (compound (Rec fields)) = false
is_top (compound (Var cases)) = false
is_top (compound (Func args results notes)) = false
is_top (compound (Service methods)) = false
is_top dangling = false

-- whether the type is empty
abbrev pub is_empty : Shape → Bool
is_empty (primitive p) = primitive_code p == primitive_code Empty
is_empty (compound entry) = false
is_empty dangling = false

-- whether a rule without parts fits
abbrev pub part_free : Shape → Shape → Bool
part_free (primitive p) (primitive q) = primitive_below p q
part_free (primitive p) (compound entry) = is_empty (primitive p) || is_top (compound entry)
part_free (primitive p) dangling = is_empty (primitive p)
part_free (compound entry) t = is_top t
part_free dangling t = is_top t
