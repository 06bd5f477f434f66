-- What a module imports (WebAssembly Core 1.0, 3.4.9): in this profile, calls of the System API.
use Rattle.std.specs.Prelude.{ℕ, Bool, ◌&&◌, List, Option, Some, None, codes, bytes_eq, slice_get, is_none, cond, option_map, option_to_list}
use Rattle.std.specs.List.{position_from}
use Rattle.ic_base.specs.Reader.{◌>>=◌}
use Rattle.wm_tree.specs.declared.types.FuncType.{FuncType}
use Rattle.wm_tree.specs.declared.parts.Import.{Import}
use Rattle.wm_tree.specs.declared.parts.Module.{Module}
use Rattle.wm_valid.specs.declared.system_api.SystemCall.{SystemCall}
use Rattle.wm_valid.specs.declared.invalid.Invalid.{Invalid}
use Rattle.wm_valid.specs.declared.invalid.Invalid.TheVariants as fault
use Rattle.wm_valid.specs.Space.{imported_type}
use Rattle.wm_valid.specs.SystemApi.{Row, row_of, call_named}
use Rattle.wm_valid.specs.Types.{same_types}

-- whether a function of the type is called as the row says
abbrev pub has_signature : FuncType → Row → Bool
has_signature t row =
    same_types t.params row.params && same_types t.results (option_to_list row.result)

-- the call that an import is: a function of the module `ic0` with a name and signature of the table
abbrev pub call_of : List FuncType → Import → Option SystemCall
call_of types i = do
  index ← imported_type i
  t ← slice_get types index
  call ← call_named i.name
  cond (bytes_eq i.module (codes "ic0") && has_signature t (row_of call)) (Some call) None

-- the import is no call of the System API
abbrev pub is_other : List FuncType → Import → Bool
is_other types i = is_none (call_of types i)

-- the least import that is no call of the System API
abbrev pub least_other : List FuncType → List Import → Option ℕ
least_other types imports = position_from (is_other types) 0 imports

abbrev pub fault_of : List FuncType → List Import → Option Invalid
fault_of types imports = option_map (λ n. fault.Import n) (least_other types imports)

abbrev pub import_fault : Module → Option Invalid
import_fault m = fault_of m.types m.imports
