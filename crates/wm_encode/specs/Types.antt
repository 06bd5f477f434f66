-- How types are written (WebAssembly Core 1.0, 5.3).
use Rattle.std.specs.Prelude.{ℕ, Bool, true, false, List, [], ◌∷◌, ◌++◌, Option, Some, None}
use Rattle.ic_leb.specs.Spelling.{unsigned_spelling}
use Rattle.wm_tree.specs.declared.types.ValType.{ValType}
use Rattle.wm_tree.specs.declared.types.ValType.TheVariants.{I32, I64}
use Rattle.wm_tree.specs.declared.types.FuncType.{FuncType}
use Rattle.wm_tree.specs.declared.types.Limits.{Limits}
use Rattle.wm_tree.specs.declared.types.GlobalType.{GlobalType}
use Rattle.wm_encode.specs.Values.{vec}

-- value types
abbrev pub val_type : ValType → List ℕ
val_type I32 = 0x7F ∷ []
val_type I64 = 0x7E ∷ []

-- block types: no result, or one
abbrev pub block_type : Option ValType → List ℕ
block_type None = 0x40 ∷ []
block_type (Some t) = val_type t

-- function types: parameters, results
abbrev pub func_type : FuncType → List ℕ
func_type t = 0x60 ∷ (vec val_type t.params ++ vec val_type t.results)

-- limits: the least, and perhaps the most
abbrev pub range : ℕ → Option ℕ → List ℕ
range min None = 0x00 ∷ unsigned_spelling min
range min (Some max) = 0x01 ∷ (unsigned_spelling min ++ unsigned_spelling max)

abbrev pub limits : Limits → List ℕ
limits l = range l.min l.max

-- table types: functions alone
abbrev pub table_type : Limits → List ℕ
table_type l = 0x70 ∷ limits l

-- global types
abbrev pub mutability : Bool → List ℕ
mutability false = 0x00 ∷ []
mutability true = 0x01 ∷ []

abbrev pub global_type : GlobalType → List ℕ
global_type g = val_type g.kind ++ mutability g.mutable
