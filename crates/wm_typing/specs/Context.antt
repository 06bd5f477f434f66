-- The context that a function's body is typed in (WebAssembly Core 1.0, 3.1.1).
use Rattle.std.specs.Prelude.{ℕ, Bool, List, Option, None, slice_get, cond}
use Rattle.ic_base.specs.Reader.{◌>>=◌}
use Rattle.wm_tree.specs.declared.types.ValType.{ValType}
use Rattle.wm_tree.specs.declared.types.FuncType.{FuncType}
use Rattle.wm_tree.specs.declared.types.GlobalType.{GlobalType}

pub record Context : Type 0 where
  pub types : List FuncType
  -- the index of each function's type, the imported functions first
  pub functions : List ℕ
  -- the number by which the host knows each imported function
  pub hosts : List ℕ
  pub globals : List GlobalType
  pub has_table : Bool
  pub has_memory : Bool
  -- the parameters, then the locals
  pub locals : List ValType
  -- how many of these are parameters
  pub params : ℕ
  pub result : Option ValType

-- the type of the function at that index
abbrev pub type_of : Context → ℕ → Option FuncType
type_of context index = slice_get context.functions index >>= λ t. slice_get context.types t

-- the type that an indirect call names, where there is a table
abbrev pub indirect_type : Context → ℕ → Option FuncType
indirect_type context index = cond context.has_table (slice_get context.types index) None
