-- The grammar as functions: what is read from the front of the bytes.
use Rattle.std.specs.Prelude.{ℕ, suc, zero, ◌^◌, Bool, true, false, List, [], ◌∷◌, length, take, drop, Option, Some, None, is_some, nat_eq, nat_lt, ◌&&◌, cond}
use Rattle.std.specs.List.{sum_by}
use Rattle.std.specs.Str.{is_utf8}
use Rattle.std.specs.Cmp.Lexicographic.{pointwise}
use Rattle.ic_base.specs.Reader.{Reader, ◌>>=◌, empty_at, byte_at, bytes_at, both_at, map_at, filter_map_at, filter_at, vec_at, whole, sized_at}
use Rattle.ic_leb.specs.declared.width.Width.TheVariants.{Wasm32, Wasm64}
use Rattle.ic_leb.specs.Reading.{unsigned_reader, signed_reader}
use Rattle.wm_tree.specs.declared.types.ValType.{ValType}
use Rattle.wm_tree.specs.declared.types.FuncType.{FuncType}
use Rattle.wm_tree.specs.declared.types.Limits.{Limits}
use Rattle.wm_tree.specs.declared.types.GlobalType.{GlobalType}
use Rattle.wm_tree.specs.declared.types.MemArg.{MemArg}
use Rattle.wm_tree.specs.declared.class.Class.{Class}
use Rattle.wm_tree.specs.declared.class.Class.TheVariants.{Opens, Turns, Closes, Fixed, Memory, Access, Special}
use Rattle.wm_tree.specs.declared.class.Shape.{Shape}
use Rattle.wm_tree.specs.declared.class.Shape.TheVariants as shape
use Rattle.wm_tree.specs.declared.instr.Instr.{Instr}
use Rattle.wm_tree.specs.declared.instr.Instr.TheVariants as op
use Rattle.wm_tree.specs.Row.{row_of}
use Rattle.wm_tree.specs.declared.parts.ImportKind.{ImportKind}
use Rattle.wm_tree.specs.declared.parts.ImportKind.TheVariants as import
use Rattle.wm_tree.specs.declared.parts.Import.{Import}
use Rattle.wm_tree.specs.declared.parts.GlobalDef.{GlobalDef}
use Rattle.wm_tree.specs.declared.parts.ExportKind.{ExportKind}
use Rattle.wm_tree.specs.declared.parts.ExportKind.TheVariants as export
use Rattle.wm_tree.specs.declared.parts.Export.{Export}
use Rattle.wm_tree.specs.declared.parts.Element.{Element}
use Rattle.wm_tree.specs.declared.parts.Run.{Run}
use Rattle.wm_tree.specs.declared.parts.FuncCode.{FuncCode}
use Rattle.wm_tree.specs.declared.parts.Segment.{Segment}
use Rattle.wm_tree.specs.declared.parts.Module.{Module}
use Rattle.wm_decode.specs.declared.floats.FloatOperands.{FloatOperands}
use Rattle.wm_decode.specs.declared.floats.FloatOperands.TheVariants as floating
use Rattle.wm_decode.specs.Values.{lookup}
use Rattle.wm_decode.specs.Types.{val_types, block_types, mutabilities}
use Rattle.wm_decode.specs.Instructions.{float_operands}
use Rattle.wm_decode.specs.Forms.{Form, plain, by_block, by_index, by_labels, by_type, by_memory, by_reserved, by_prefix, by_32, by_64, memory_rows, in_some, row_form}
use Rattle.wm_decode.specs.Mod.{Section, magic, content_of, place_of}

-- ---- values

abbrev pub u32_at : Reader ℕ
u32_at = unsigned_reader Wasm32

abbrev pub pair_at : {A B : Type 0} → Reader A → Reader B → Reader (A × B)
pair_at first second = both_at first (λ _. second)

abbrev pub list_at : {A : Type 0} → Reader A → Reader (List A)
list_at = vec_at u32_at

-- a vector of bytes
unfoldable pub vec_bytes_at : Reader (List ℕ)
vec_bytes_at bytes = u32_at bytes >>= λ n. bytes_at n.0 n.1

unfoldable pub name_at : Reader (List ℕ)
name_at = filter_at is_utf8 vec_bytes_at

abbrev pub coded_at : {A : Type 0} → List (ℕ × A) → Reader A
coded_at rows = filter_map_at (λ byte. lookup byte rows) byte_at

-- this byte, and what is read after it
abbrev pub after_at : {A : Type 0} → ℕ → Reader A → Reader A
after_at byte read bytes = byte_at bytes >>= λ b. cond (nat_eq b.0 byte) (read b.1) None

-- a byte, and after it what is read for the byte's row
abbrev pub chosen_at : {K A : Type 0} → (ℕ → Option K) → (K → Reader A) → Reader A
chosen_at choice read bytes = byte_at bytes >>= λ b. choice b.0 >>= λ k. read k b.1

-- ---- types

unfoldable pub val_type_at : Bool → Reader ValType
val_type_at float = coded_at (val_types float)

unfoldable pub block_type_at : Bool → Reader (Option ValType)
block_type_at float = coded_at (block_types float)

unfoldable pub func_type_at : Bool → Reader FuncType
func_type_at float =
    after_at 0x60 (map_at (λ p. record { params = p.0; results = p.1 }) (pair_at (list_at (val_type_at float)) (list_at (val_type_at float))))

-- whether the byte says that there is a most
abbrev pub bounds : List (ℕ × Bool)
bounds = (0x00, false) ∷ (0x01, true) ∷ []

abbrev pub range_at : Bool → Reader Limits
range_at false = map_at (λ min. record { min = min; max = None }) u32_at
range_at true = map_at (λ p. record { min = p.0; max = Some p.1 }) (pair_at u32_at u32_at)

unfoldable pub limits_at : Reader Limits
limits_at = chosen_at (λ b. lookup b bounds) range_at

unfoldable pub table_type_at : Reader Limits
table_type_at = after_at 0x70 limits_at

unfoldable pub global_type_at : Bool → Reader GlobalType
global_type_at float = map_at (λ p. record { kind = p.0; mutable = p.1 }) (pair_at (val_type_at float) (coded_at mutabilities))

-- ---- instructions

unfoldable pub zero_at : Reader ℕ
zero_at = filter_at (λ b. nat_eq b 0) byte_at

-- that many bytes 00
abbrev pub zeros_at : ℕ → Reader ℕ
zeros_at zero = empty_at 0
zeros_at (suc n) = map_at (λ p. suc p.1) (pair_at zero_at (zeros_at n))

unfoldable pub table_at : Reader ℕ
table_at = filter_at (λ n. nat_eq n 0) u32_at

unfoldable pub mem_arg_at : Reader MemArg
mem_arg_at = map_at (λ p. record { align = p.0; offset = p.1 }) (pair_at u32_at u32_at)

-- a number, and the bytes 00 that its row has after it
abbrev pub prefixed_at : List (ℕ × (ℕ × Instr)) → Reader Instr
prefixed_at rows = map_at (λ p. p.0.1) (both_at (filter_map_at (λ n. lookup n rows) u32_at) (λ row. zeros_at row.0))

-- an instruction of that form, after its opcode
abbrev pub instr_at : Bool → Form → Reader Instr
instr_at float (plain i) = λ bytes. Some (i, bytes)
instr_at float (by_block f) = map_at f (block_type_at float)
instr_at float (by_index f) = map_at f u32_at
instr_at float (by_labels f) = map_at (λ p. f p.0 p.1) (pair_at (list_at u32_at) u32_at)
instr_at float (by_type f) = map_at (λ p. f p.0) (pair_at u32_at table_at)
instr_at float (by_memory f) = map_at f mem_arg_at
instr_at float (by_reserved i) = map_at (λ _. i) zero_at
instr_at float (by_prefix rows) = prefixed_at rows
instr_at float (by_32 f) = map_at f (signed_reader Wasm32)
instr_at float (by_64 f) = map_at f (signed_reader Wasm64)

-- a float instruction after its opcode
abbrev pub float_at : FloatOperands → Reader Instr
float_at floating.Nothing = λ bytes. Some (op.Unreachable, bytes)
float_at floating.Address = map_at (λ _. op.Unreachable) mem_arg_at
float_at (floating.Constant n) = map_at (λ _. op.Unreachable) (bytes_at n)

-- the float instruction of an opcode, where these are admitted
abbrev pub floats : Bool → ℕ → Option FloatOperands
floats false o = None
floats true o = float_operands o

-- what is read after an opcode
abbrev pub behind_at : Bool → Option FloatOperands → Option Form → Reader Instr
behind_at float (Some f) form = float_at f
behind_at float None (Some form) = instr_at float form
behind_at float None None = λ bytes. None

-- the load or store of an opcode
abbrev pub memory_at : ℕ → Reader Instr
memory_at o bytes = mem_arg_at bytes >>= λ m. in_some (λ make. (make m.0, m.1)) (lookup o memory_rows)

unfoldable pub word_at : Bool → Reader Instr
word_at float bytes = byte_at bytes >>= λ o. behind_at float (floats float o.0) (row_form o.0) o.1

-- how a word goes on: the expression ends, or it has these blocks open, or the word may not be here
pub data Follow : Type 0 where
  done : Follow
  on : List Bool → Follow
  wrong : Follow

-- an `else` may follow in an `if` alone
abbrev pub may_turn : Shape → Bool
may_turn shape.Block = false
may_turn shape.Loop = false
may_turn shape.If = true

-- after a word of this class; of each open block we keep whether an `else` may follow, innermost first
abbrev pub follow : Class → List Bool → Follow
follow (Opens s t) blocks = on (may_turn s ∷ blocks)
follow Turns (true ∷ blocks) = on (false ∷ blocks)
follow Turns (false ∷ blocks) = wrong
follow Turns [] = wrong
follow Closes (b ∷ blocks) = on blocks
follow Closes [] = done
follow (Fixed s) blocks = on blocks
follow (Memory s) blocks = on blocks
follow (Access s arg natural) blocks = on blocks
follow Special blocks = on blocks

-- what is read after a word
abbrev pub onward : (List Bool → Reader (List Instr)) → Instr × List ℕ → Follow → Option (List Instr × List ℕ)
onward more w done = Some ([], w.1)
onward more w (on blocks) = more blocks w.1 >>= λ ws. Some (w.0 ∷ ws.0, ws.1)
onward more w wrong = None

-- the words up to the 0B that ends the expression, at most n of them with it
unfoldable pub words_at : Bool → ℕ → List Bool → Reader (List Instr)
words_at float zero blocks bytes = None
words_at float (suc n) blocks bytes =
    word_at float bytes >>= λ w. onward (words_at float n) w (follow (row_of w.0).class blocks)

unfoldable pub expr_at : Bool → Reader (List Instr)
expr_at float bytes = words_at float (length bytes) [] bytes

-- ---- the items of the sections

-- what may be imported
pub data ImportForm : Type 0 where
  by_type_index : ImportForm
  by_table_type : ImportForm
  by_memory_type : ImportForm
  by_global_type : ImportForm

abbrev pub import_forms : List (ℕ × ImportForm)
import_forms = (0x00, by_type_index) ∷ (0x01, by_table_type) ∷ (0x02, by_memory_type) ∷ (0x03, by_global_type) ∷ []

abbrev pub imported_at : Bool → ImportForm → Reader ImportKind
imported_at float by_type_index = map_at import.Function u32_at
imported_at float by_table_type = map_at import.Table table_type_at
imported_at float by_memory_type = map_at import.Memory limits_at
imported_at float by_global_type = map_at import.Global (global_type_at float)

unfoldable pub import_kind_at : Bool → Reader ImportKind
import_kind_at float = chosen_at (λ b. lookup b import_forms) (imported_at float)

unfoldable pub import_at : Bool → Reader Import
import_at float =
    map_at (λ p. record { «module» = p.0; name = p.1.0; kind = p.1.1 }) (pair_at name_at (pair_at name_at (import_kind_at float)))

unfoldable pub global_at : Bool → Reader GlobalDef
global_at float = map_at (λ p. record { kind = p.0; init = p.1 }) (pair_at (global_type_at float) (expr_at float))

abbrev pub export_kinds : List (ℕ × (ℕ → ExportKind))
export_kinds = (0x00, export.Function) ∷ (0x01, export.Table) ∷ (0x02, export.Memory) ∷ (0x03, export.Global) ∷ []

unfoldable pub export_kind_at : Reader ExportKind
export_kind_at = chosen_at (λ b. lookup b export_kinds) (λ make. map_at make u32_at)

unfoldable pub export_at : Reader Export
export_at = map_at (λ p. record { name = p.0; kind = p.1 }) (pair_at name_at export_kind_at)

unfoldable pub element_at : Bool → Reader Element
element_at float =
    map_at (λ p. record { table = p.0; offset = p.1.0; functions = p.1.1 }) (pair_at u32_at (pair_at (expr_at float) (list_at u32_at)))

unfoldable pub run_at : Bool → Reader Run
run_at float = map_at (λ p. record { count = p.0; kind = p.1 }) (pair_at u32_at (val_type_at float))

-- whether the locals are fewer than 2 ^ 32
abbrev pub few_locals : FuncCode → Bool
few_locals c = nat_lt (sum_by (λ r. r.count) c.locals) (2 ^ 32)

unfoldable pub func_at : Bool → Reader FuncCode
func_at float =
    filter_at few_locals (map_at (λ p. record { locals = p.0; body = p.1 }) (pair_at (list_at (run_at float)) (expr_at float)))

unfoldable pub code_at : Bool → Reader FuncCode
code_at float = sized_at u32_at (func_at float)

unfoldable pub segment_at : Bool → Reader Segment
segment_at float =
    map_at (λ p. record { memory = p.0; offset = p.1.0; bytes = p.1.1 }) (pair_at u32_at (pair_at (expr_at float) vec_bytes_at))

-- ---- sections and modules

unfoldable pub section_at : Reader Section
section_at = map_at (λ p. record { id = p.0; content = p.1 }) (pair_at byte_at vec_bytes_at)

-- the sections after one, where it may come after the last id; a custom one is not kept
abbrev pub placed : (ℕ → List ℕ → Option (List Section)) → ℕ → Section → List ℕ → Option (List Section)
placed more last s rest =
    cond (nat_eq s.id 0) (cond (is_some (name_at s.content)) (more last rest) None)
    (cond (nat_lt last (place_of s.id)) (more (place_of s.id) rest >>= λ sections. Some (s ∷ sections)) None)

-- the sections that all of the bytes are, but the custom ones; at most n of them
unfoldable pub sections_at : ℕ → ℕ → List ℕ → Option (List Section)
sections_at n last [] = Some []
sections_at zero last (b ∷ bytes) = None
sections_at (suc n) last (b ∷ bytes) = section_at (b ∷ bytes) >>= λ s. placed (sections_at n) last s.0 s.1

-- a list that a content is, or the empty one
abbrev pub list_in : {A : Type 0} → Reader A → Option (List ℕ) → Option (List A)
list_in read None = Some []
list_in read (Some content) = whole (list_at read) content

-- the number that a content is, where there is one
abbrev pub number_in : Option (List ℕ) → Option (Option ℕ)
number_in None = Some None
number_in (Some content) = whole u32_at content >>= λ n. Some (Some n)

-- a number of data segments, where it is written, is theirs
abbrev pub agrees : Option ℕ → ℕ → Bool
agrees None n = true
agrees (Some count) n = nat_eq count n

-- the module of these sections
unfoldable pub module_in : Bool → List Section → Option Module
module_in float sections = do
  types ← list_in (func_type_at float) (content_of 1 sections)
  imports ← list_in (import_at float) (content_of 2 sections)
  functions ← list_in u32_at (content_of 3 sections)
  tables ← list_in table_type_at (content_of 4 sections)
  memories ← list_in limits_at (content_of 5 sections)
  globals ← list_in (global_at float) (content_of 6 sections)
  exports ← list_in export_at (content_of 7 sections)
  start ← number_in (content_of 8 sections)
  elements ← list_in (element_at float) (content_of 9 sections)
  count ← number_in (content_of 12 sections)
  codes ← list_in (code_at float) (content_of 10 sections)
  segments ← list_in (segment_at float) (content_of 11 sections)
  cond (nat_eq (length functions) (length codes) && agrees count (length segments)) (Some (record {
    types = types;
    imports = imports;
    functions = functions;
    tables = tables;
    memories = memories;
    globals = globals;
    exports = exports;
    start = start;
    elements = elements;
    codes = codes;
    segments = segments;
  })) None

-- the bytes after the magic ones
unfoldable pub magic_at : List ℕ → Option (List ℕ)
magic_at bytes = cond (pointwise nat_eq (take 8 bytes) magic) (Some (drop 8 bytes)) None

-- the module that all of the bytes are
unfoldable pub module_at : Bool → List ℕ → Option Module
module_at float bytes = do
  rest ← magic_at bytes
  sections ← sections_at (length rest) 0 rest
  module_in float sections
