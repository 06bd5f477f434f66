-- The bodies of the functions that a module defines (WebAssembly Core 1.0, 3.4.1).
use Rattle.std.specs.Prelude.{◌≡◌, ℕ, Bool, true, false, not, ◌==◌, List, [], ◌++◌, length, Option, Some, None, nat_le, slice_get, map, filter_map, zip, option_map}
use Rattle.std.specs.List.{position_from}
use Rattle.std.specs.Option.{option_or}
use Rattle.wm_tree.specs.declared.types.ValType.{ValType}
use Rattle.wm_tree.specs.declared.types.FuncType.{FuncType}
use Rattle.wm_tree.specs.declared.parts.Run.{Run}
use Rattle.wm_tree.specs.declared.parts.FuncCode.{FuncCode}
use Rattle.wm_tree.specs.declared.parts.Module.{Module}
use Rattle.wm_tree.specs.TreeOf.{tree_of}
use Rattle.wm_typing.specs.declared.fault.BodyFault.{BodyFault}
use Rattle.wm_typing.specs.declared.fault.BodyFault.TheVariants as body
use Rattle.wm_typing.specs.Context.{Context}
pub use Rattle.wm_typing.specs.Locals.{locals_of}
use Rattle.wm_typing.specs.Nesting.{nesting}
use Rattle.wm_typing.specs.Typed.{is_typed}
use Rattle.wm_valid.specs.declared.invalid.Invalid.{Invalid}
use Rattle.wm_valid.specs.declared.invalid.Invalid.TheVariants as fault
use Rattle.wm_valid.specs.SystemApi.{number_of}
use Rattle.wm_valid.specs.Imports.{call_of}
use Rattle.wm_valid.specs.Space.{function_types}

-- each defined function: the index of its type, and its code; there are as many of both
abbrev pub definitions : Module → List (ℕ × FuncCode)
definitions m = zip m.functions m.codes

abbrev pub params_of : Option FuncType → List ValType
params_of None = []
params_of (Some t) = t.params

-- a type has at most one result
abbrev pub result_of : Option FuncType → Option ValType
result_of None = None
result_of (Some t) = slice_get t.results 0

-- the place of each imported call in the table of the System API; each import is one
abbrev pub hosts_of : Module → List ℕ
hosts_of m = map number_of (filter_map (call_of m.types) m.imports)

-- what a body may name, in a function of that type with these locals
abbrev pub context_with : Module → Option FuncType → List Run → Context
context_with m t runs = record {
  types = m.types;
  functions = function_types m;
  hosts = hosts_of m;
  globals = map (λ g. g.kind) m.globals;
  has_table = not (length m.tables == 0);
  has_memory = not (length m.memories == 0);
  locals = params_of t ++ locals_of runs;
  params = length (params_of t);
  result = result_of t;
}

abbrev pub context_of : Module → ℕ × FuncCode → Context
context_of m f = context_with m (slice_get m.types f.0) f.1.locals

-- at most 1,000 blocks nest
abbrev pub nesting_fits : ℕ × FuncCode → Bool
nesting_fits f = nat_le (nesting (tree_of f.1.body)) 1000

abbrev pub has_typing : Module → ℕ × FuncCode → Bool
has_typing m f = is_typed (context_of m f) (tree_of f.1.body)

abbrev pub is_deep : ℕ × FuncCode → Bool
is_deep f = not (nesting_fits f)

abbrev pub is_untyped : Module → ℕ × FuncCode → Bool
is_untyped m f = not (has_typing m f)

-- the least function that nests too deeply
abbrev pub least_deep : Module → Option ℕ
least_deep m = position_from is_deep 0 (definitions m)

-- the least function whose body has no typing
abbrev pub least_untyped : Module → Option ℕ
least_untyped m = position_from (is_untyped m) 0 (definitions m)

abbrev pub nesting_fault : Module → Option Invalid
nesting_fault m = option_map (λ n. fault.Nesting n) (least_deep m)

abbrev pub typing_fault : Module → Option Invalid
typing_fault m = option_map (λ n. fault.Untyped n) (least_untyped m)

-- the fault of the bodies: that any nests too deeply comes before that another has no typing
abbrev pub bodies_fault : Module → Option Invalid
bodies_fault m = option_or (nesting_fault m) (typing_fault m)

-- when a body has a fault; out of memory is free
abbrev pub BodyFails : Module → ℕ × FuncCode → BodyFault → Type 0
BodyFails m f body.Nesting = nesting_fits f ≡ false
BodyFails m f body.Untyped = (nesting_fits f ≡ true) × (has_typing m f ≡ false)
BodyFails m f body.NoMemory = Unit {0}
