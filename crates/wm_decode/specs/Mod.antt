-- Modules (WebAssembly Core 1.0, 5.5.2 to 5.5.15; the data count section and its place are those of Core
-- 2.0, 5.5.15 and 5.5.16).
use Rattle.std.specs.Prelude.{◌≡◌, ℕ, ◌<◌, Bool, List, [], ◌∷◌, ◌++◌, length, Option, Some, None, nat_eq, nat_le, cond, ◌⊎◌}
use Rattle.ic_base.specs.Spelling.{Spelling, SpellsMany}
use Rattle.wm_tree.specs.declared.parts.Module.{Module}
use Rattle.wm_decode.specs.Values.{SpellsU32, SpellsList, SpellsBytes, SpellsName, After}
use Rattle.wm_decode.specs.Types.{SpellsFuncType, SpellsLimits, SpellsTableType}
use Rattle.wm_decode.specs.Parts.{SpellsImport, SpellsGlobal, SpellsExport, SpellsElement, SpellsCode, SpellsSegment}

-- the magic bytes and the version
abbrev pub magic : List ℕ
magic = 0x00 ∷ 0x61 ∷ 0x73 ∷ 0x6D ∷ 0x01 ∷ 0x00 ∷ 0x00 ∷ 0x00 ∷ []

-- a section: its id, and a content of the size that is written before it
pub record Section : Type 0 where
  pub id : ℕ
  pub content : List ℕ

abbrev pub SpellsSection : Spelling Section
SpellsSection s = After s.id (SpellsBytes s.content)

-- a custom section: a name, and any bytes after it
pub record IsCustom (s : Section) : Type 0 where
  pub zero : s.id ≡ 0
  pub name : List ℕ
  pub front : List ℕ
  pub rest : List ℕ
  pub whole : s.content ≡ front ++ rest
  pub named : SpellsName name front

-- the place of the section of that id: 1 to 9, then 12 the data count, 10 the code, 11 the data; no
-- other section has one
abbrev pub place_of : ℕ → ℕ
place_of id = cond (nat_le id 9) id (cond (nat_eq id 12) 10 (cond (nat_eq id 10) 11 (cond (nat_eq id 11) 12 0)))

-- custom sections anywhere, the places of the others above the last one
abbrev pub InOrder : ℕ → List Section → Type 0
InOrder last [] = Unit {0}
InOrder last (s ∷ sections) =
    (IsCustom s × InOrder last sections) ⊎ ((last < place_of s.id) × InOrder (place_of s.id) sections)

-- the content of the section of that id
abbrev pub content_of : ℕ → List Section → Option (List ℕ)
content_of id [] = None
content_of id (s ∷ sections) = cond (nat_eq s.id id) (Some s.content) (content_of id sections)

-- a section's content is a list; where there is no such section the list is empty
abbrev pub Lists : {A : Type 0} → Spelling A → List A → Option (List ℕ) → Type 0
Lists P items None = items ≡ []
Lists P items (Some content) = SpellsList P items content

-- the start section's content is the start function
abbrev pub Starts : Option ℕ → Option (List ℕ) → Type 0
Starts start None = start ≡ None
Starts start (Some content) = (f : ℕ) × (start ≡ Some f) × SpellsU32 f content

-- the data count section's content is the number of data segments
abbrev pub Counts : ℕ → Option (List ℕ) → Type 0
Counts n None = Unit {0}
Counts n (Some content) = SpellsU32 n content

-- the bytes are those of the module
pub record Mod (float : Bool) (m : Module) (bytes : List ℕ) : Type 0 where
  pub rest : List ℕ
  pub whole : bytes ≡ magic ++ rest
  pub sections : List Section
  pub spelled : SpellsMany SpellsSection sections rest
  pub order : InOrder 0 sections
  pub types : Lists (SpellsFuncType float) m.types (content_of 1 sections)
  pub imports : Lists (SpellsImport float) m.imports (content_of 2 sections)
  pub functions : Lists SpellsU32 m.functions (content_of 3 sections)
  pub tables : Lists SpellsTableType m.tables (content_of 4 sections)
  pub memories : Lists SpellsLimits m.memories (content_of 5 sections)
  pub globals : Lists (SpellsGlobal float) m.globals (content_of 6 sections)
  pub exports : Lists SpellsExport m.exports (content_of 7 sections)
  pub start : Starts m.start (content_of 8 sections)
  pub elements : Lists (SpellsElement float) m.elements (content_of 9 sections)
  pub count : Counts (length m.segments) (content_of 12 sections)
  pub codes : Lists (SpellsCode float) m.codes (content_of 10 sections)
  pub segments : Lists (SpellsSegment float) m.segments (content_of 11 sections)
  pub counts : length m.functions ≡ length m.codes
