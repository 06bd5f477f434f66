-- How the items of the sections are written (WebAssembly Core 1.0, 5.5).
use Rattle.std.specs.Prelude.{ℕ, List, ◌∷◌, ◌++◌}
use Rattle.ic_leb.specs.Spelling.{unsigned_spelling}
use Rattle.wm_tree.specs.declared.parts.ImportKind.{ImportKind}
use Rattle.wm_tree.specs.declared.parts.ImportKind.TheVariants as imported
use Rattle.wm_tree.specs.declared.parts.Import.{Import}
use Rattle.wm_tree.specs.declared.parts.GlobalDef.{GlobalDef}
use Rattle.wm_tree.specs.declared.parts.ExportKind.{ExportKind}
use Rattle.wm_tree.specs.declared.parts.ExportKind.TheVariants as exported
use Rattle.wm_tree.specs.declared.parts.Export.{Export}
use Rattle.wm_tree.specs.declared.parts.Element.{Element}
use Rattle.wm_tree.specs.declared.parts.Run.{Run}
use Rattle.wm_tree.specs.declared.parts.FuncCode.{FuncCode}
use Rattle.wm_tree.specs.declared.parts.Segment.{Segment}
use Rattle.wm_encode.specs.Values.{vec, sized}
use Rattle.wm_encode.specs.Types.{val_type, limits, table_type, global_type}
use Rattle.wm_encode.specs.Instructions.{expr}

-- an import: module, name, kind
abbrev pub import_kind : ImportKind → List ℕ
import_kind (imported.Function x) = 0x00 ∷ unsigned_spelling x
import_kind (imported.Table l) = 0x01 ∷ table_type l
import_kind (imported.Memory l) = 0x02 ∷ limits l
import_kind (imported.Global g) = 0x03 ∷ global_type g

abbrev pub import : Import → List ℕ
import i = sized i.«module» ++ (sized i.name ++ import_kind i.kind)

-- a global: type, first value
abbrev pub global : GlobalDef → List ℕ
global g = global_type g.kind ++ expr g.init

-- an export: name, kind
abbrev pub export_kind : ExportKind → List ℕ
export_kind (exported.Function x) = 0x00 ∷ unsigned_spelling x
export_kind (exported.Table x) = 0x01 ∷ unsigned_spelling x
export_kind (exported.Memory x) = 0x02 ∷ unsigned_spelling x
export_kind (exported.Global x) = 0x03 ∷ unsigned_spelling x

abbrev pub export : Export → List ℕ
export e = sized e.name ++ export_kind e.kind

-- an element segment: table, offset, functions
abbrev pub element : Element → List ℕ
element e = unsigned_spelling e.table ++ (expr e.offset ++ vec unsigned_spelling e.functions)

-- that many locals of a type
abbrev pub run : Run → List ℕ
run r = unsigned_spelling r.count ++ val_type r.kind

-- a code: the size of the function, its locals and its body
abbrev pub func : FuncCode → List ℕ
func c = vec run c.locals ++ expr c.body

abbrev pub code : FuncCode → List ℕ
code c = sized (func c)

-- a data segment: memory, offset, bytes
abbrev pub segment : Segment → List ℕ
segment s = unsigned_spelling s.memory ++ (expr s.offset ++ sized s.bytes)
