-- What the types of its numbers and names say of a part of a module.
use Rattle.std.specs.Prelude.{ℕ, ◌<◌, ◌^◌, Option, Some, None, All, FitsSigned, IsUtf8}
use Rattle.std.specs.Int.{w32, w64}
use Rattle.wm_tree.specs.declared.types.Limits.{Limits}
use Rattle.wm_tree.specs.declared.types.MemArg.{MemArg}
use Rattle.wm_tree.specs.declared.instr.Instr.{Instr}
use Rattle.wm_tree.specs.Row.{Operands, none, block, index, labels, type_index, memory, reserved, prefixed, number32, number64, row_of}
use Rattle.wm_tree.specs.declared.parts.ImportKind.{ImportKind}
use Rattle.wm_tree.specs.declared.parts.ImportKind.TheVariants as imported
use Rattle.wm_tree.specs.declared.parts.Import.{Import}
use Rattle.wm_tree.specs.declared.parts.GlobalDef.{GlobalDef}
use Rattle.wm_tree.specs.declared.parts.ExportKind.{ExportKind}
use Rattle.wm_tree.specs.declared.parts.ExportKind.TheVariants as exported
use Rattle.wm_tree.specs.declared.parts.Export.{Export}
use Rattle.wm_tree.specs.declared.parts.Element.{Element}
use Rattle.wm_tree.specs.declared.parts.Run.{Run}
use Rattle.wm_tree.specs.declared.parts.FuncCode.{FuncCode}
use Rattle.wm_tree.specs.declared.parts.Segment.{Segment}
use Rattle.wm_tree.specs.declared.parts.Module.{Module}

-- a number of 32 bits
abbrev pub Is32 : ℕ → Type 0
Is32 n = n < 2 ^ 32

-- a number that may be there
abbrev pub IsMaybe32 : Option ℕ → Type 0
IsMaybe32 None = Unit {0}
IsMaybe32 (Some n) = Is32 n

pub record RangedLimits (l : Limits) : Type 0 where
  pub min : Is32 l.min
  pub max : IsMaybe32 l.max

pub record RangedMemArg (m : MemArg) : Type 0 where
  pub align : Is32 m.align
  pub offset : Is32 m.offset

abbrev pub RangedOperands : Operands → Type 0
RangedOperands none = Unit {0}
RangedOperands (block t) = Unit {0}
RangedOperands (index n) = Is32 n
RangedOperands (labels ls l) = All Is32 ls × Is32 l
RangedOperands (type_index n) = Is32 n
RangedOperands (memory m) = RangedMemArg m
RangedOperands reserved = Unit {0}
RangedOperands (prefixed n _) = Is32 n
RangedOperands (number32 z) = FitsSigned w32 z
RangedOperands (number64 z) = FitsSigned w64 z

pub record RangedWord (i : Instr) : Type 0 where
  pub operands : RangedOperands (row_of i).operands

abbrev pub RangedImportKind : ImportKind → Type 0
RangedImportKind (imported.Function x) = Is32 x
RangedImportKind (imported.Table l) = RangedLimits l
RangedImportKind (imported.Memory l) = RangedLimits l
RangedImportKind (imported.Global g) = Unit {0}

pub record RangedImport (i : Import) : Type 0 where
  pub from : IsUtf8 i.«module»
  pub name : IsUtf8 i.name
  pub kind : RangedImportKind i.kind

pub record RangedGlobal (g : GlobalDef) : Type 0 where
  pub init : All RangedWord g.init

abbrev pub RangedExportKind : ExportKind → Type 0
RangedExportKind (exported.Function x) = Is32 x
RangedExportKind (exported.Table x) = Is32 x
RangedExportKind (exported.Memory x) = Is32 x
RangedExportKind (exported.Global x) = Is32 x

pub record RangedExport (e : Export) : Type 0 where
  pub name : IsUtf8 e.name
  pub kind : RangedExportKind e.kind

pub record RangedElement (e : Element) : Type 0 where
  pub table : Is32 e.table
  pub offset : All RangedWord e.offset
  pub functions : All Is32 e.functions

pub record RangedRun (r : Run) : Type 0 where
  pub count : Is32 r.count

pub record RangedCode (c : FuncCode) : Type 0 where
  pub locals : All RangedRun c.locals
  pub body : All RangedWord c.body

pub record RangedSegment (s : Segment) : Type 0 where
  pub memory : Is32 s.memory
  pub offset : All RangedWord s.offset

-- a module; its function types have no numbers
pub record Ranged (m : Module) : Type 0 where
  pub imports : All RangedImport m.imports
  pub functions : All Is32 m.functions
  pub tables : All RangedLimits m.tables
  pub memories : All RangedLimits m.memories
  pub globals : All RangedGlobal m.globals
  pub exports : All RangedExport m.exports
  pub start : IsMaybe32 m.start
  pub elements : All RangedElement m.elements
  pub codes : All RangedCode m.codes
  pub segments : All RangedSegment m.segments
