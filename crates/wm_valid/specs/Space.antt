-- The index space of functions (WebAssembly Core 1.0, 2.5.1): the imported functions, then the
-- defined ones.
use Rattle.std.specs.Prelude.{ℕ, List, ◌++◌, Option, Some, None, slice_get, option_and_then, filter_map}
use Rattle.wm_tree.specs.declared.types.FuncType.{FuncType}
use Rattle.wm_tree.specs.declared.parts.ImportKind.{ImportKind}
use Rattle.wm_tree.specs.declared.parts.ImportKind.TheVariants as import
use Rattle.wm_tree.specs.declared.parts.Import.{Import}
use Rattle.wm_tree.specs.declared.parts.Module.{Module}

-- the index of the type, where a function is imported
abbrev pub function_kind : ImportKind → Option ℕ
function_kind (import.Function t) = Some t
function_kind (import.Table l) = None
function_kind (import.Memory l) = None
function_kind (import.Global g) = None

abbrev pub imported_type : Import → Option ℕ
imported_type i = function_kind i.kind

-- the index of each function's type
abbrev pub function_types : Module → List ℕ
function_types m = filter_map imported_type m.imports ++ m.functions

-- the type of the function at that index
abbrev pub type_of : Module → ℕ → Option FuncType
type_of m index = option_and_then (λ t. slice_get m.types t) (slice_get (function_types m) index)
