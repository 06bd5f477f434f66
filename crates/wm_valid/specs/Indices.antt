-- Indices, limits and constant expressions (WebAssembly Core 1.0, 3.2, 3.3.7 and 3.4), section by
-- section.
use Rattle.std.specs.Prelude.{ℕ, Bool, true, false, ◌&&◌, ◌^◌, List, [], ◌∷◌, length, Option, Some, None, nat_lt, nat_le, option_map, if◌then◌else◌}
use Rattle.std.specs.List.{list_all}
use Rattle.wm_tree.specs.declared.types.ValType.{ValType}
use Rattle.wm_tree.specs.declared.types.ValType.TheVariants.{I32, I64}
use Rattle.wm_tree.specs.declared.types.FuncType.{FuncType}
use Rattle.wm_tree.specs.declared.types.Limits.{Limits}
use Rattle.wm_tree.specs.declared.instr.Instr.{Instr}
use Rattle.wm_tree.specs.declared.instr.Instr.TheVariants as op
use Rattle.wm_tree.specs.declared.parts.ExportKind.{ExportKind}
use Rattle.wm_tree.specs.declared.parts.ExportKind.TheVariants as export
use Rattle.wm_tree.specs.declared.parts.Element.{Element}
use Rattle.wm_tree.specs.declared.parts.Module.{Module}
use Rattle.wm_valid.specs.declared.invalid.Invalid.{Invalid}
use Rattle.wm_valid.specs.declared.invalid.Invalid.TheVariants as fault
use Rattle.wm_valid.specs.Types.{same_type}
use Rattle.wm_valid.specs.Space.{function_types, type_of}

-- ---- what indices and limits have to meet

-- the largest number of a limit, and that it is not below the least one
abbrev pub maximum_within : ℕ → ℕ → Option ℕ → Bool
maximum_within range min None = true
maximum_within range min (Some max) = nat_le max range && nat_le min max

-- limits within a range (3.2.1)
abbrev pub limits_within : ℕ → Limits → Bool
limits_within range l = nat_le l.min range && maximum_within range l.min l.max

abbrev pub all_within : ℕ → List Limits → Bool
all_within range limits = list_all (limits_within range) limits

-- the type of the value that a constant instruction gives
abbrev pub constant_type : Instr → Option ValType
constant_type (op.I32Const n) = Some I32
constant_type (op.I64Const n) = Some I64
constant_type i = None

abbrev pub is_type : ValType → Option ValType → Bool
is_type t None = false
is_type t (Some u) = same_type t u

-- A constant expression of the type (3.3.7): one constant instruction. None reads a global, since
-- none is imported.
abbrev pub is_constant : ValType → List Instr → Bool
is_constant t [] = false
is_constant t (i ∷ []) = is_type t (constant_type i)
is_constant t (i ∷ j ∷ more) = false

-- whether there is such a function, table, memory or global
abbrev pub is_defined : Module → ExportKind → Bool
is_defined m (export.Function index) = nat_lt index (length (function_types m))
is_defined m (export.Table index) = nat_lt index (length m.tables)
is_defined m (export.Memory index) = nat_lt index (length m.memories)
is_defined m (export.Global index) = nat_lt index (length m.globals)

-- () -> ()
abbrev pub is_procedure : Option FuncType → Bool
is_procedure None = false
is_procedure (Some t) = nat_le (length t.params) 0 && nat_le (length t.results) 0

-- ---- the sections

-- a function has at most one result (3.2.2)
abbrev pub types_in_range : Module → Bool
types_in_range m = list_all (λ t. nat_le (length t.results) 1) m.types

-- (3.4.1)
abbrev pub functions_in_range : Module → Bool
functions_in_range m = list_all (λ t. nat_lt t (length m.types)) m.functions

-- at most one table (3.4.10, 3.2.3)
abbrev pub tables_in_range : Module → Bool
tables_in_range m = nat_le (length m.tables) 1 && all_within (2 ^ 32) m.tables

-- at most one memory, of at most 65,536 pages (3.4.10, 3.2.4)
abbrev pub memories_in_range : Module → Bool
memories_in_range m = nat_le (length m.memories) 1 && all_within 65536 m.memories

-- (3.4.4)
abbrev pub globals_in_range : Module → Bool
globals_in_range m = list_all (λ g. is_constant g.kind.kind g.init) m.globals

-- (3.4.8)
abbrev pub exports_in_range : Module → Bool
exports_in_range m = list_all (λ e. is_defined m e.kind) m.exports

-- the start function is () -> () (3.4.7)
abbrev pub starts_procedure : Module → Option ℕ → Bool
starts_procedure m None = true
starts_procedure m (Some index) = is_procedure (type_of m index)

-- each is below the count
abbrev pub all_below : ℕ → List ℕ → Bool
all_below count indices = list_all (λ f. nat_lt f count) indices

-- a table, an offset and functions, where there are that many tables and functions (3.4.5)
abbrev pub element_in_range : ℕ → ℕ → Element → Bool
element_in_range tables functions e =
    nat_lt e.table tables && is_constant I32 e.offset && all_below functions e.functions

abbrev pub elements_in_range : Module → Bool
elements_in_range m =
    list_all (element_in_range (length m.tables) (length (function_types m))) m.elements

-- (3.4.6)
abbrev pub segments_in_range : Module → Bool
segments_in_range m =
    list_all (λ s. nat_lt s.memory (length m.memories) && is_constant I32 s.offset) m.segments

-- ---- the least section that fails

abbrev pub first_failing : List (ℕ × Bool) → Option ℕ
first_failing [] = None
first_failing (s ∷ rest) = if s.1 then first_failing rest else Some s.0

abbrev pub index_fault : Module → Option Invalid
index_fault m = option_map (λ s. fault.Index s) (first_failing (
    (1, types_in_range m) ∷
    (3, functions_in_range m) ∷
    (4, tables_in_range m) ∷
    (5, memories_in_range m) ∷
    (6, globals_in_range m) ∷
    (7, exports_in_range m) ∷
    (8, starts_procedure m m.start) ∷
    (9, elements_in_range m) ∷
    (11, segments_in_range m) ∷
    []))
