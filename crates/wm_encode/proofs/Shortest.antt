-- No spelling is shorter than what is written.
use Rattle.std.proofs.Common.{◌≡◌, ℕ, ◌≤◌, Bool, true, false, List, [], ◌∷◌, ◌++◌, length, replicate, Option, Some, None, refl, ap, length-append, arith, inl, inr}
use Rattle.std.specs.List.{flat_map}
use Rattle.ic_base.specs.Spelling.{Spelling, SpellsMany}
use Rattle.ic_leb.specs.declared.width.Width.TheVariants.{Wasm32, Wasm64}
use Rattle.ic_leb.specs.Spelling.{unsigned_spelling}
use Rattle.ic_leb.proofs.Shortest.{unsigned_shortest, signed_shortest}
use Rattle.wm_tree.specs.declared.types.ValType.{ValType}
use Rattle.wm_tree.specs.declared.types.ValType.TheVariants.{I32, I64}
use Rattle.wm_tree.specs.Row.{none, block, index, labels, type_index, memory, reserved, prefixed, number32, number64, row_of}
use Rattle.wm_tree.specs.declared.parts.ImportKind.TheVariants as imported
use Rattle.wm_tree.specs.declared.parts.ExportKind.TheVariants as exported
use Rattle.wm_decode.specs.Values.{SpellsU32, SpellsList, SpellsPair, SpellsBytes, SpellsName, Coded}
use Rattle.wm_decode.specs.Types.{SpellsValType, SpellsBlockType, SpellsFuncType, SpellsLimits, SpellsTableType, SpellsGlobalType, mutabilities}
use Rattle.wm_decode.specs.Instructions.{SpellsMemArg, SpellsOperands, SpellsWord, SpellsExpr, SpellsZero, SpellsZeros, SpellsTable}
use Rattle.wm_decode.specs.Parts.{SpellsImportKind, SpellsImport, SpellsGlobal, SpellsExportKind, SpellsExport, SpellsElement, SpellsRun, SpellsFunc, SpellsCode, SpellsSegment}
use Rattle.wm_encode.specs.Values.{vec, sized}
use Rattle.wm_encode.specs.Types.{val_type, block_type, func_type, limits, table_type, mutability, global_type}
use Rattle.wm_encode.specs.Instructions.{mem_arg, operands, word, expr}
use Rattle.wm_encode.specs.Parts.{import_kind, import, global, export_kind, export, element, run, func, code, segment}
use Rattle.wm_encode.proofs.Sizes.{unsigned_some, unsigned_rises}

-- what is written is at most as long as any spelling
abbrev pub Least : {A : Type 0} → Spelling A → (A → List ℕ) → Type 0
Least {A} P f = (x : A) (bytes : List ℕ) → P x bytes → length (f x) ≤ length bytes

-- ---- values

pub u32_least : Least SpellsU32 unsigned_spelling
u32_least n bytes spelled = unsigned_shortest Wasm32 n bytes spelled

pair_least : {A B : Type 0} (P : Spelling A) (Q : Spelling B) (f : A → List ℕ) (g : B → List ℕ) → Least P f → Least Q g → (a : A) (b : B) (bytes : List ℕ) → SpellsPair P Q (a, b) bytes → length (f a ++ g b) ≤ length bytes
pair_least P Q f g p q a b bytes s =
    omega (arith, p a s.front s.first, q b s.rest s.second, length-append (f a) (g b), ap length s.whole, length-append s.front s.rest)

many_least : {A : Type 0} (P : Spelling A) (f : A → List ℕ) → Least P f → Least (SpellsMany P) (flat_map f)
many_least P f p [] bytes s = omega arith
many_least P f p (x ∷ items) bytes s =
    omega (arith, p x s.0 s.3, many_least P f p items s.1 s.4, length-append (f x) (flat_map f items), ap length s.2, length-append s.0 s.1)

pub vec_least : {A : Type 0} (P : Spelling A) (f : A → List ℕ) → Least P f → Least (SpellsList P) (vec f)
vec_least P f p items bytes s =
    omega (arith, u32_least (length items) s.front s.count, many_least P f p items s.rest s.values, length-append (unsigned_spelling (length items)) (flat_map f items), ap length s.whole, length-append s.front s.rest)

bytes_least : Least SpellsBytes sized
bytes_least items bytes s =
    omega (arith, u32_least (length items) s.count s.counted, length-append (unsigned_spelling (length items)) items, ap length s.whole, length-append s.count items)

name_least : Least SpellsName sized
name_least name bytes s = bytes_least name bytes s.spelled

-- ---- types

val_type_one : (t : ValType) → length (val_type t) ≡ 1
val_type_one I32 = refl
val_type_one I64 = refl

val_type_least : Least (SpellsValType false) val_type
val_type_least t bytes s = omega (arith, val_type_one t, ap length s.whole)

block_type_one : (t : Option ValType) → length (block_type t) ≡ 1
block_type_one None = refl
block_type_one (Some t) = val_type_one t

block_type_least : Least (SpellsBlockType false) block_type
block_type_least t bytes s = omega (arith, block_type_one t, ap length s.whole)

pub func_type_least : Least (SpellsFuncType false) func_type
func_type_least t bytes s =
    omega (
      arith,
      ap length s.whole,
      pair_least (SpellsList (SpellsValType false)) (SpellsList (SpellsValType false)) (vec val_type) (vec val_type)
          (vec_least (SpellsValType false) val_type val_type_least) (vec_least (SpellsValType false) val_type val_type_least) t.params t.results s.rest s.behind,
    )

pub limits_least : Least SpellsLimits limits
limits_least l bytes s = range_least l.min l.max bytes s
  where
    range_least : (min : ℕ) (max : Option ℕ) (bytes : List ℕ) → SpellsLimits (record { min = min; max = max }) bytes → length (limits (record { min = min; max = max })) ≤ length bytes
    range_least min None bytes s = omega (arith, ap length s.whole, u32_least min s.rest s.behind)
    range_least min (Some max) bytes s =
        omega (arith, ap length s.whole, pair_least SpellsU32 SpellsU32 unsigned_spelling unsigned_spelling u32_least u32_least min max s.rest s.behind)

pub table_type_least : Least SpellsTableType table_type
table_type_least l bytes s = omega (arith, ap length s.whole, limits_least l s.rest s.behind)

mutability_one : (b : Bool) → length (mutability b) ≡ 1
mutability_one false = refl
mutability_one true = refl

mutability_least : Least (Coded mutabilities) mutability
mutability_least b bytes s = omega (arith, mutability_one b, ap length s.whole)

global_type_least : Least (SpellsGlobalType false) global_type
global_type_least g bytes s = pair_least (SpellsValType false) (Coded mutabilities) val_type mutability val_type_least mutability_least g.kind g.mutable bytes s

-- ---- instructions

mem_arg_least : Least SpellsMemArg mem_arg
mem_arg_least m bytes s = pair_least SpellsU32 SpellsU32 unsigned_spelling unsigned_spelling u32_least u32_least m.align m.offset bytes s

zero_least : Least SpellsZero (λ _. 0x00 ∷ [])
zero_least n bytes s = omega (arith, ap length s.1)

zeros_least : Least SpellsZeros (λ n. replicate n 0x00)
zeros_least n bytes s = omega (arith, ap length s)

table_least : Least SpellsTable (λ _. 0x00 ∷ [])
table_least n bytes s = omega (arith, u32_least n bytes s.1, unsigned_some n)

operands_least : Least (SpellsOperands false) operands
operands_least none bytes s = omega arith
operands_least (block t) bytes s = block_type_least t bytes s
operands_least (index n) bytes s = u32_least n bytes s
operands_least (labels ls l) bytes s =
    pair_least (SpellsList SpellsU32) SpellsU32 (vec unsigned_spelling) unsigned_spelling (vec_least SpellsU32 unsigned_spelling u32_least) u32_least ls l bytes s
operands_least (type_index n) bytes s = pair_least SpellsU32 SpellsTable unsigned_spelling (λ _. 0x00 ∷ []) u32_least table_least n 0 bytes s
operands_least (memory m) bytes s = mem_arg_least m bytes s
operands_least reserved bytes s = zero_least 0 bytes s
operands_least (prefixed n zeros) bytes s = pair_least SpellsU32 SpellsZeros unsigned_spelling (λ k. replicate k 0x00) u32_least zeros_least n zeros bytes s
operands_least (number32 z) bytes s = signed_shortest Wasm32 z bytes s
operands_least (number64 z) bytes s = signed_shortest Wasm64 z bytes s

word_least : Least (SpellsWord false) word
word_least i bytes (inl s) = omega (arith, ap length s.whole, operands_least (row_of i).operands s.rest s.behind)
word_least i bytes (inr s) = absurd (let e : false ≡ true = s.0 in cc)

expr_least : Least (SpellsExpr false) expr
expr_least words bytes s =
    omega (arith, many_least (SpellsWord false) word word_least words s.front s.spelled, length-append (flat_map word words) (0x0B ∷ []), ap length s.whole, length-append s.front (0x0B ∷ []))

-- ---- items

import_kind_least : Least (SpellsImportKind false) import_kind
import_kind_least (imported.Function x) bytes s = omega (arith, ap length s.whole, u32_least x s.rest s.behind)
import_kind_least (imported.Table l) bytes s = omega (arith, ap length s.whole, table_type_least l s.rest s.behind)
import_kind_least (imported.Memory l) bytes s = omega (arith, ap length s.whole, limits_least l s.rest s.behind)
import_kind_least (imported.Global g) bytes s = omega (arith, ap length s.whole, global_type_least g s.rest s.behind)

pub import_least : Least (SpellsImport false) import
import_least i bytes s =
    pair_least SpellsName (SpellsPair SpellsName (SpellsImportKind false)) sized (λ p. sized p.0 ++ import_kind p.1) name_least
    (λ p rest t. pair_least SpellsName (SpellsImportKind false) sized import_kind name_least import_kind_least p.0 p.1 rest t)
    i.«module» (i.name, i.kind) bytes s

pub global_least : Least (SpellsGlobal false) global
global_least g bytes s = pair_least (SpellsGlobalType false) (SpellsExpr false) global_type expr global_type_least expr_least g.kind g.init bytes s

export_kind_least : Least SpellsExportKind export_kind
export_kind_least (exported.Function x) bytes s = omega (arith, ap length s.whole, u32_least x s.rest s.behind)
export_kind_least (exported.Table x) bytes s = omega (arith, ap length s.whole, u32_least x s.rest s.behind)
export_kind_least (exported.Memory x) bytes s = omega (arith, ap length s.whole, u32_least x s.rest s.behind)
export_kind_least (exported.Global x) bytes s = omega (arith, ap length s.whole, u32_least x s.rest s.behind)

pub export_least : Least SpellsExport export
export_least e bytes s = pair_least SpellsName SpellsExportKind sized export_kind name_least export_kind_least e.name e.kind bytes s

pub element_least : Least (SpellsElement false) element
element_least e bytes s =
    pair_least SpellsU32 (SpellsPair (SpellsExpr false) (SpellsList SpellsU32)) unsigned_spelling (λ p. expr p.0 ++ vec unsigned_spelling p.1) u32_least
    (λ p rest t. pair_least (SpellsExpr false) (SpellsList SpellsU32) expr (vec unsigned_spelling) expr_least (vec_least SpellsU32 unsigned_spelling u32_least) p.0 p.1 rest t)
    e.table (e.offset, e.functions) bytes s

run_least : Least (SpellsRun false) run
run_least r bytes s = pair_least SpellsU32 (SpellsValType false) unsigned_spelling val_type u32_least val_type_least r.count r.kind bytes s

func_least : Least (SpellsFunc false) func
func_least c bytes s = pair_least (SpellsList (SpellsRun false)) (SpellsExpr false) (vec run) expr (vec_least (SpellsRun false) run run_least) expr_least c.locals c.body bytes s.spelled

pub code_least : Least (SpellsCode false) code
code_least c bytes s =
    let inner : length (func c) ≤ length s.content = func_least c s.content s.value in
    omega (
      arith,
      inner,
      unsigned_rises (length (func c)) (length s.content) inner,
      u32_least (length s.content) s.front s.size,
      length-append (unsigned_spelling (length (func c))) (func c),
      ap length s.whole,
      length-append s.front s.content,
    )

pub segment_least : Least (SpellsSegment false) segment
segment_least g bytes s =
    pair_least SpellsU32 (SpellsPair (SpellsExpr false) SpellsBytes) unsigned_spelling (λ p. expr p.0 ++ sized p.1) u32_least
    (λ p rest t. pair_least (SpellsExpr false) SpellsBytes expr sized expr_least bytes_least p.0 p.1 rest t)
    g.memory (g.offset, g.bytes) bytes s
