-- What is written is in the grammar: types, instructions and the items of the sections.
use Rattle.std.proofs.Common.{ℕ, ◌<◌, ◌^◌, Bool, true, false, List, [], ◌∷◌, ◌++◌, length, replicate, Option, Some, None, refl, arith, lit<, inl}
use Rattle.std.specs.Prelude.{IsUtf8}
use Rattle.std.specs.List.{All, AllByRecursion, flat_map, sum_by}
use Rattle.std.proofs.lemmas.List.Elements.{recursion_from_All}
use Rattle.ic_leb.specs.declared.width.Width.TheVariants.{Wasm32, Wasm64}
use Rattle.ic_leb.specs.Spelling.{seven_bits_each, unsigned_spelling}
use Rattle.ic_leb.proofs.Shortest.{signed_spelled}
use Rattle.wm_tree.specs.declared.types.ValType.{ValType}
use Rattle.wm_tree.specs.declared.types.ValType.TheVariants.{I32, I64}
use Rattle.wm_tree.specs.declared.types.FuncType.{FuncType}
use Rattle.wm_tree.specs.declared.types.Limits.{Limits}
use Rattle.wm_tree.specs.declared.types.GlobalType.{GlobalType}
use Rattle.wm_tree.specs.declared.types.MemArg.{MemArg}
use Rattle.wm_tree.specs.declared.instr.Instr.{Instr}
use Rattle.wm_tree.specs.Row.{Operands, none, block, index, labels, type_index, memory, reserved, prefixed, number32, number64, row_of}
use Rattle.wm_tree.specs.Seq.{IsFlat}
use Rattle.wm_tree.specs.declared.parts.ImportKind.{ImportKind}
use Rattle.wm_tree.specs.declared.parts.ImportKind.TheVariants as imported
use Rattle.wm_tree.specs.declared.parts.Import.{Import}
use Rattle.wm_tree.specs.declared.parts.GlobalDef.{GlobalDef}
use Rattle.wm_tree.specs.declared.parts.ExportKind.{ExportKind}
use Rattle.wm_tree.specs.declared.parts.ExportKind.TheVariants as exported
use Rattle.wm_tree.specs.declared.parts.Export.{Export}
use Rattle.wm_tree.specs.declared.parts.Element.{Element}
use Rattle.wm_tree.specs.declared.parts.Run.{Run}
use Rattle.wm_tree.specs.declared.parts.FuncCode.{FuncCode}
use Rattle.wm_tree.specs.declared.parts.Segment.{Segment}
use Rattle.wm_decode.specs.Values.{SpellsU32, SpellsList, SpellsPair, SpellsBytes, SpellsName, Coded}
use Rattle.wm_decode.specs.Types.{SpellsValType, SpellsBlockType, SpellsFuncType, SpellsLimits, SpellsTableType, SpellsGlobalType, mutabilities}
use Rattle.wm_decode.specs.Instructions.{SpellsMemArg, SpellsOperands, SpellsWord, SpellsExpr, SpellsZeros, SpellsTable}
use Rattle.wm_decode.specs.Parts.{SpellsImportKind, SpellsImport, SpellsGlobal, SpellsExportKind, SpellsExport, SpellsElement, SpellsRun, SpellsFunc, SpellsCode, SpellsSegment}
use Rattle.wm_encode.specs.Values.{vec, sized}
use Rattle.wm_encode.specs.Types.{val_type, block_type, func_type, range, limits, table_type, mutability, global_type}
use Rattle.wm_encode.specs.Instructions.{mem_arg, operands, word, expr}
use Rattle.wm_encode.specs.Parts.{import_kind, import, global, export_kind, export, element, run, func, code, segment}
use Rattle.wm_encode.specs.Ranges.{Is32, IsMaybe32, RangedLimits, RangedMemArg, RangedOperands, RangedWord, RangedImportKind, RangedImport, RangedGlobal, RangedExportKind, RangedExport, RangedElement, RangedRun, RangedCode, RangedSegment}
use Rattle.wm_encode.proofs.Sizes.{unsigned_some}
use Rattle.wm_encode.specs.Fits.{Short}
use Rattle.wm_encode.proofs.Lists.{u32_spelled, short_front, short_rest, front_some, pair_spelled, each_short, many_spelled, vec_spelled, bytes_spelled}

-- ---- values and types

name_spelled : (name : List ℕ) → IsUtf8 name → Short (sized name) → SpellsName name (sized name)
name_spelled name utf8 short = record { utf8 = utf8; spelled = bytes_spelled name short }

indices_spelled : (items : List ℕ) → All Is32 items → Short (vec unsigned_spelling items) → SpellsList SpellsU32 items (vec unsigned_spelling items)
indices_spelled items all short = vec_spelled SpellsU32 unsigned_spelling Is32 unsigned_some (λ n h _. u32_spelled n h) items (recursion_from_All Is32 items all) short

val_type_spelled : (t : ValType) → SpellsValType false t (val_type t)
val_type_spelled I32 = record { byte = 0x7F; found = refl; whole = refl }
val_type_spelled I64 = record { byte = 0x7E; found = refl; whole = refl }

block_type_spelled : (t : Option ValType) → SpellsBlockType false t (block_type t)
block_type_spelled None = record { byte = 0x40; found = refl; whole = refl }
block_type_spelled (Some I32) = record { byte = 0x7F; found = refl; whole = refl }
block_type_spelled (Some I64) = record { byte = 0x7E; found = refl; whole = refl }

val_type_some : (t : ValType) → 0 < length (val_type t)
val_type_some I32 = omega arith
val_type_some I64 = omega arith

pub nothing_said : {A : Type 0} (items : List A) → AllByRecursion (λ (_ : A). Unit {0}) items
nothing_said [] = tt
nothing_said (x ∷ items) = (tt, nothing_said items)

val_types_spelled : (ts : List ValType) → Short (vec val_type ts) → SpellsList (SpellsValType false) ts (vec val_type ts)
val_types_spelled ts short = vec_spelled (SpellsValType false) val_type (λ _. Unit {0}) val_type_some (λ t _ _. val_type_spelled t) ts (nothing_said ts) short

pub func_type_spelled : (t : FuncType) → Short (func_type t) → SpellsFuncType false t (func_type t)
func_type_spelled t short =
    let params = vec val_type t.params in
    let results = vec val_type t.results in
    let inner : Short (params ++ results) = omega arith in
    record {
      rest = params ++ results;
      whole = refl;
      behind = pair_spelled (SpellsList (SpellsValType false)) (SpellsList (SpellsValType false)) t.params t.results params results
          (val_types_spelled t.params (short_front params results inner)) (val_types_spelled t.results (short_rest params results inner));
    }

pub limits_spelled : (l : Limits) → RangedLimits l → SpellsLimits l (limits l)
limits_spelled l h = range_spelled l.min l.max h.min h.max
  where
    range_spelled : (min : ℕ) (max : Option ℕ) → Is32 min → IsMaybe32 max → SpellsLimits (record { min = min; max = max }) (limits (record { min = min; max = max }))
    range_spelled min None h _ = record { rest = unsigned_spelling min; whole = refl; behind = u32_spelled min h }
    range_spelled min (Some max) h k = record {
      rest = unsigned_spelling min ++ unsigned_spelling max;
      whole = refl;
      behind = pair_spelled SpellsU32 SpellsU32 min max (unsigned_spelling min) (unsigned_spelling max) (u32_spelled min h) (u32_spelled max k);
    }

pub table_type_spelled : (l : Limits) → RangedLimits l → SpellsTableType l (table_type l)
table_type_spelled l h = record { rest = limits l; whole = refl; behind = limits_spelled l h }

mutability_spelled : (b : Bool) → Coded mutabilities b (mutability b)
mutability_spelled false = record { byte = 0x00; found = refl; whole = refl }
mutability_spelled true = record { byte = 0x01; found = refl; whole = refl }

global_type_spelled : (g : GlobalType) → SpellsGlobalType false g (global_type g)
global_type_spelled g = pair_spelled (SpellsValType false) (Coded mutabilities) g.kind g.mutable (val_type g.kind) (mutability g.mutable) (val_type_spelled g.kind) (mutability_spelled g.mutable)

-- ---- instructions

mem_arg_spelled : (m : MemArg) → RangedMemArg m → SpellsMemArg m (mem_arg m)
mem_arg_spelled m h = pair_spelled SpellsU32 SpellsU32 m.align m.offset (unsigned_spelling m.align) (unsigned_spelling m.offset) (u32_spelled m.align h.align) (u32_spelled m.offset h.offset)

zero_spelled : SpellsU32 0 (0x00 ∷ [])
unfolding unsigned_spelling seven_bits_each
zero_spelled = u32_spelled 0 (lit< tt)

operands_spelled : (o : Operands) → RangedOperands o → Short (operands o) → SpellsOperands false o (operands o)
operands_spelled none h short = refl
operands_spelled (block t) h short = block_type_spelled t
operands_spelled (index n) h short = u32_spelled n h
operands_spelled (labels ls l) h short =
    pair_spelled (SpellsList SpellsU32) SpellsU32 ls l (vec unsigned_spelling ls) (unsigned_spelling l)
    (indices_spelled ls h.0 (short_front (vec unsigned_spelling ls) (unsigned_spelling l) short)) (u32_spelled l h.1)
operands_spelled (type_index n) h short = pair_spelled SpellsU32 SpellsTable n 0 (unsigned_spelling n) (0x00 ∷ []) (u32_spelled n h) (refl, zero_spelled)
operands_spelled (memory m) h short = mem_arg_spelled m h
operands_spelled reserved h short = (refl, refl)
operands_spelled (prefixed n zeros) h short = pair_spelled SpellsU32 SpellsZeros n zeros (unsigned_spelling n) (replicate zeros 0x00) (u32_spelled n h) refl
operands_spelled (number32 z) h short = signed_spelled Wasm32 z h
operands_spelled (number64 z) h short = signed_spelled Wasm64 z h

word_spelled : (i : Instr) → RangedWord i → Short (word i) → SpellsWord false i (word i)
word_spelled i h short =
    let rest = operands (row_of i).operands in
    inl (record { rest = rest; whole = refl; behind = operands_spelled (row_of i).operands h.operands (omega arith) })

expr_spelled : (words : List Instr) → IsFlat words → All RangedWord words → Short (expr words) → SpellsExpr false words (expr words)
expr_spelled words flat all short =
    let front = flat_map word words in
    record {
      flat = flat;
      front = front;
      whole = refl;
      spelled = many_spelled (SpellsWord false) word (λ i. RangedWord i × Short (word i)) (λ i h. word_spelled i h.0 h.1) words
          (each_short word RangedWord words (recursion_from_All RangedWord words all) (short_front front (0x0B ∷ []) short));
    }

-- ---- items

import_kind_spelled : (k : ImportKind) → RangedImportKind k → SpellsImportKind false k (import_kind k)
import_kind_spelled (imported.Function x) h = record { rest = unsigned_spelling x; whole = refl; behind = u32_spelled x h }
import_kind_spelled (imported.Table l) h = record { rest = table_type l; whole = refl; behind = table_type_spelled l h }
import_kind_spelled (imported.Memory l) h = record { rest = limits l; whole = refl; behind = limits_spelled l h }
import_kind_spelled (imported.Global g) h = record { rest = global_type g; whole = refl; behind = global_type_spelled g }

pub import_spelled : (i : Import) → RangedImport i → Short (import i) → SpellsImport false i (import i)
import_spelled i h short =
    let from = sized i.«module» in
    let name = sized i.name in
    let kind = import_kind i.kind in
    let rest = short_rest from (name ++ kind) short in
    pair_spelled SpellsName (SpellsPair SpellsName (SpellsImportKind false)) i.«module» (i.name, i.kind) from (name ++ kind)
    (name_spelled i.«module» h.from (short_front from (name ++ kind) short))
    (pair_spelled SpellsName (SpellsImportKind false) i.name i.kind name kind (name_spelled i.name h.name (short_front name kind rest)) (import_kind_spelled i.kind h.kind))

pub global_spelled : (g : GlobalDef) → RangedGlobal g → IsFlat g.init → Short (global g) → SpellsGlobal false g (global g)
global_spelled g h flat short =
    let kind = global_type g.kind in
    pair_spelled (SpellsGlobalType false) (SpellsExpr false) g.kind g.init kind (expr g.init)
    (global_type_spelled g.kind) (expr_spelled g.init flat h.init (short_rest kind (expr g.init) short))

export_kind_spelled : (k : ExportKind) → RangedExportKind k → SpellsExportKind k (export_kind k)
export_kind_spelled (exported.Function x) h = record { rest = unsigned_spelling x; whole = refl; behind = u32_spelled x h }
export_kind_spelled (exported.Table x) h = record { rest = unsigned_spelling x; whole = refl; behind = u32_spelled x h }
export_kind_spelled (exported.Memory x) h = record { rest = unsigned_spelling x; whole = refl; behind = u32_spelled x h }
export_kind_spelled (exported.Global x) h = record { rest = unsigned_spelling x; whole = refl; behind = u32_spelled x h }

pub export_spelled : (e : Export) → RangedExport e → Short (export e) → SpellsExport e (export e)
export_spelled e h short =
    let name = sized e.name in
    let kind = export_kind e.kind in
    pair_spelled SpellsName SpellsExportKind e.name e.kind name kind (name_spelled e.name h.name (short_front name kind short)) (export_kind_spelled e.kind h.kind)

pub element_spelled : (e : Element) → RangedElement e → IsFlat e.offset → Short (element e) → SpellsElement false e (element e)
element_spelled e h flat short =
    let table = unsigned_spelling e.table in
    let offset = expr e.offset in
    let functions = vec unsigned_spelling e.functions in
    let rest = short_rest table (offset ++ functions) short in
    pair_spelled SpellsU32 (SpellsPair (SpellsExpr false) (SpellsList SpellsU32)) e.table (e.offset, e.functions) table (offset ++ functions)
    (u32_spelled e.table h.table)
    (pair_spelled (SpellsExpr false) (SpellsList SpellsU32) e.offset e.functions offset functions
    (expr_spelled e.offset flat h.offset (short_front offset functions rest))
    (indices_spelled e.functions h.functions (short_rest offset functions rest)))

run_spelled : (r : Run) → RangedRun r → SpellsRun false r (run r)
run_spelled r h = pair_spelled SpellsU32 (SpellsValType false) r.count r.kind (unsigned_spelling r.count) (val_type r.kind) (u32_spelled r.count h.count) (val_type_spelled r.kind)

run_some : (r : Run) → 0 < length (run r)
run_some r = front_some (unsigned_spelling r.count) (val_type r.kind) (unsigned_some r.count)

func_spelled : (c : FuncCode) → RangedCode c → sum_by (λ r. r.count) c.locals < 2 ^ 32 → IsFlat c.body → Short (func c) → SpellsFunc false c (func c)
func_spelled c h few flat short =
    let locals = vec run c.locals in
    let body = expr c.body in
    record {
      few = few;
      spelled = pair_spelled (SpellsList (SpellsRun false)) (SpellsExpr false) c.locals c.body locals body
          (vec_spelled (SpellsRun false) run RangedRun run_some (λ r k _. run_spelled r k) c.locals (recursion_from_All RangedRun c.locals h.locals) (short_front locals body short))
          (expr_spelled c.body flat h.body (short_rest locals body short));
    }

pub code_spelled : (c : FuncCode) → RangedCode c → sum_by (λ r. r.count) c.locals < 2 ^ 32 → IsFlat c.body → Short (code c) → SpellsCode false c (code c)
code_spelled c h few flat short =
    let size = unsigned_spelling (length (func c)) in
    let inner = short_rest size (func c) short in
    record { front = size; content = func c; whole = refl; size = u32_spelled (length (func c)) inner; value = func_spelled c h few flat inner }

pub segment_spelled : (s : Segment) → RangedSegment s → IsFlat s.offset → Short (segment s) → SpellsSegment false s (segment s)
segment_spelled s h flat short =
    let memory = unsigned_spelling s.memory in
    let offset = expr s.offset in
    let bytes = sized s.bytes in
    let rest = short_rest memory (offset ++ bytes) short in
    pair_spelled SpellsU32 (SpellsPair (SpellsExpr false) SpellsBytes) s.memory (s.offset, s.bytes) memory (offset ++ bytes)
    (u32_spelled s.memory h.memory)
    (pair_spelled (SpellsExpr false) SpellsBytes s.offset s.bytes offset bytes
    (expr_spelled s.offset flat h.offset (short_front offset bytes rest))
    (bytes_spelled s.bytes (short_rest offset bytes rest)))

-- ---- each item takes a byte

range_some : (min : ℕ) (max : Option ℕ) → 0 < length (range min max)
range_some min None = omega arith
range_some min (Some max) = omega arith

pub limits_some : (l : Limits) → 0 < length (limits l)
limits_some l = range_some l.min l.max

pub func_type_some : (t : FuncType) → 0 < length (func_type t)
func_type_some t = omega arith

pub table_type_some : (l : Limits) → 0 < length (table_type l)
table_type_some l = omega arith

sized_some : (bytes rest : List ℕ) → 0 < length (sized bytes ++ rest)
sized_some bytes rest = front_some (sized bytes) rest (front_some (unsigned_spelling (length bytes)) bytes (unsigned_some (length bytes)))

pub import_some : (i : Import) → 0 < length (import i)
import_some i = sized_some i.«module» (sized i.name ++ import_kind i.kind)

pub global_some : (g : GlobalDef) → 0 < length (global g)
global_some g = front_some (global_type g.kind) (expr g.init) (front_some (val_type g.kind.kind) (mutability g.kind.mutable) (val_type_some g.kind.kind))

pub export_some : (e : Export) → 0 < length (export e)
export_some e = sized_some e.name (export_kind e.kind)

pub element_some : (e : Element) → 0 < length (element e)
element_some e = front_some (unsigned_spelling e.table) (expr e.offset ++ vec unsigned_spelling e.functions) (unsigned_some e.table)

pub code_some : (c : FuncCode) → 0 < length (code c)
code_some c = front_some (unsigned_spelling (length (func c))) (func c) (unsigned_some (length (func c)))

pub segment_some : (s : Segment) → 0 < length (segment s)
segment_some s = front_some (unsigned_spelling s.memory) (expr s.offset ++ sized s.bytes) (unsigned_some s.memory)
