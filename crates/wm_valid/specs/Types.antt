-- Equality of value types and of lists of them.
use Rattle.std.specs.Prelude.{Bool, List}
use Rattle.std.specs.Cmp.Lexicographic.{pointwise}
use Rattle.wm_tree.specs.declared.types.ValType.{ValType}
pub use Rattle.wm_typing.specs.Points.{same_type}

abbrev pub same_types : List ValType → List ValType → Bool
same_types = pointwise same_type
