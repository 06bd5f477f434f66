-- What values, bindings and what is to be met are, of those of the program.
use Rattle.std.specs.Prelude.{ℕ, List, map, reverse}
use Rattle.cd_types.specs.declared.entry.TyRef.{TyRef}
use Rattle.cd_codec.specs.Content.{Content, plain, nat8}
use Rattle.cd_codec.specs.View.{view}
use Rattle.ct_patterns.specs.declared.step.Part.{Part}
use Rattle.ct_patterns.specs.declared.step.Part.TheVariants.{Value, Byte}
use Rattle.ct_patterns.specs.declared.step.Binding.{Binding}

-- a byte of a vec nat8 is a value
abbrev pub byte : ℕ → Content
byte b = plain (nat8 b)

abbrev pub part_view : Part → Content
part_view (Value v) = view v.now
part_view (Byte b) = byte b

-- a name, a type, and the value that the name is bound to
abbrev pub Bound : Type 0
Bound = List ℕ × TyRef × Content

abbrev pub binding_view : Binding → Bound
binding_view binding = (binding.name, binding.ty, part_view binding.part)

abbrev pub binding_views : List Binding → List Bound
binding_views bindings = map binding_view bindings

-- the values that are next, of those of which the last is
abbrev pub waiting : List Part → List Content
waiting parts = reverse (map part_view parts)
