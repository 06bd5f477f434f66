-- The items of the sections (WebAssembly Core 1.0, 5.5).
use Rattle.std.specs.Prelude.{ℕ, ◌<◌, ◌^◌, Bool, List}
use Rattle.std.specs.List.{sum_by}
use Rattle.ic_base.specs.Spelling.{Spelling, SpellsSized}
use Rattle.wm_tree.specs.declared.parts.ImportKind.{ImportKind}
use Rattle.wm_tree.specs.declared.parts.ImportKind.TheVariants as import
use Rattle.wm_tree.specs.declared.parts.Import.{Import}
use Rattle.wm_tree.specs.declared.parts.GlobalDef.{GlobalDef}
use Rattle.wm_tree.specs.declared.parts.ExportKind.{ExportKind}
use Rattle.wm_tree.specs.declared.parts.ExportKind.TheVariants as export
use Rattle.wm_tree.specs.declared.parts.Export.{Export}
use Rattle.wm_tree.specs.declared.parts.Element.{Element}
use Rattle.wm_tree.specs.declared.parts.Run.{Run}
use Rattle.wm_tree.specs.declared.parts.FuncCode.{FuncCode}
use Rattle.wm_tree.specs.declared.parts.Segment.{Segment}
use Rattle.wm_decode.specs.Values.{SpellsU32, SpellsList, SpellsPair, SpellsBytes, SpellsName, After}
use Rattle.wm_decode.specs.Types.{SpellsValType, SpellsLimits, SpellsTableType, SpellsGlobalType}
use Rattle.wm_decode.specs.Instructions.{SpellsExpr}

-- what is imported
abbrev pub SpellsImportKind : Bool → Spelling ImportKind
SpellsImportKind float (import.Function x) bytes = After 0x00 (SpellsU32 x) bytes
SpellsImportKind float (import.Table l) bytes = After 0x01 (SpellsTableType l) bytes
SpellsImportKind float (import.Memory l) bytes = After 0x02 (SpellsLimits l) bytes
SpellsImportKind float (import.Global g) bytes = After 0x03 (SpellsGlobalType float g) bytes

-- an import: module, name, kind
abbrev pub SpellsImport : Bool → Spelling Import
SpellsImport float i = SpellsPair SpellsName (SpellsPair SpellsName (SpellsImportKind float)) (i.«module», (i.name, i.kind))

-- a global: type, first value
abbrev pub SpellsGlobal : Bool → Spelling GlobalDef
SpellsGlobal float g = SpellsPair (SpellsGlobalType float) (SpellsExpr float) (g.kind, g.init)

-- what is exported
abbrev pub SpellsExportKind : Spelling ExportKind
SpellsExportKind (export.Function x) bytes = After 0x00 (SpellsU32 x) bytes
SpellsExportKind (export.Table x) bytes = After 0x01 (SpellsU32 x) bytes
SpellsExportKind (export.Memory x) bytes = After 0x02 (SpellsU32 x) bytes
SpellsExportKind (export.Global x) bytes = After 0x03 (SpellsU32 x) bytes

-- an export: name, kind
abbrev pub SpellsExport : Spelling Export
SpellsExport e = SpellsPair SpellsName SpellsExportKind (e.name, e.kind)

-- an element segment: table, offset, functions
abbrev pub SpellsElement : Bool → Spelling Element
SpellsElement float e = SpellsPair SpellsU32 (SpellsPair (SpellsExpr float) (SpellsList SpellsU32)) (e.table, (e.offset, e.functions))

-- that many locals of a type
abbrev pub SpellsRun : Bool → Spelling Run
SpellsRun float r = SpellsPair SpellsU32 (SpellsValType float) (r.count, r.kind)

-- a function's locals, fewer than 2 ^ 32 of them, and its body
pub record SpellsFunc (float : Bool) (c : FuncCode) (bytes : List ℕ) : Type 0 where
  pub few : sum_by (λ r. r.count) c.locals < 2 ^ 32
  pub spelled : SpellsPair (SpellsList (SpellsRun float)) (SpellsExpr float) (c.locals, c.body) bytes

-- a code: its size, and the function
abbrev pub SpellsCode : Bool → Spelling FuncCode
SpellsCode float = SpellsSized SpellsU32 (SpellsFunc float)

-- a data segment: memory, offset, bytes
abbrev pub SpellsSegment : Bool → Spelling Segment
SpellsSegment float s = SpellsPair SpellsU32 (SpellsPair (SpellsExpr float) SpellsBytes) (s.memory, (s.offset, s.bytes))
