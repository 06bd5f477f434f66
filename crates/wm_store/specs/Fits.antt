-- When a store is one of a module (WebAssembly Core 1.0, 7.5, store validity).
use Rattle.std.specs.Prelude.{◌≡◌, ℕ, Bool, true, false, ◌+◌, ◌%◌, ◌<◌, ◌≤◌, List, [], ◌∷◌, length, map, count_by, All, Option, None, IfSome}
use Rattle.wm_tree.specs.declared.types.ValType.{ValType}
use Rattle.wm_tree.specs.declared.types.Limits.{Limits}
use Rattle.wm_tree.specs.declared.parts.ImportKind.{ImportKind}
use Rattle.wm_tree.specs.declared.parts.ImportKind.TheVariants as import
use Rattle.wm_tree.specs.declared.parts.Module.{Module}
use Rattle.wm_store.specs.Values.{AreValues}
use Rattle.wm_store.specs.Lists.{Lists, pages_of}

abbrev pub is_function : ImportKind → Bool
is_function (import.Function t) = true
is_function (import.Table l) = false
is_function (import.Memory l) = false
is_function (import.Global g) = false

-- how many functions the module has, imported and defined
abbrev pub function_count : Module → ℕ
function_count m = count_by (λ i. is_function i.kind) m.imports + length m.functions

-- the declared minimum, 0 where nothing is declared
abbrev pub minimum_of : List Limits → ℕ
minimum_of [] = 0
minimum_of (l ∷ rest) = l.min

-- the declared maximum, if there is one
abbrev pub maximum_of : List Limits → Option ℕ
maximum_of [] = None
maximum_of (l ∷ rest) = l.max

-- the value types of the globals, in order
abbrev pub global_value_types : Module → List ValType
global_value_types m = map (λ g. g.kind.kind) m.globals

-- the store's lists are of the sizes and types that the module declares
pub record Fits (m : Module) (s : Lists) : Type 0 where
  -- the declared minimum of entries, each none or a function of the module
  pub table : length s.table ≡ minimum_of m.tables
  pub entries : All (λ e. IfSome e (λ f. f < function_count m)) s.table
  pub globals : AreValues (global_value_types m) s.globals
  pub maximum : s.maximum ≡ maximum_of m.memories
  -- whole pages, between the declared minimum and both limits
  pub whole : length s.memory % 65536 ≡ 0
  pub least : minimum_of m.memories ≤ pages_of s.memory
  pub declared : IfSome s.maximum (λ most. pages_of s.memory ≤ most)
  pub most : pages_of s.memory ≤ 256
