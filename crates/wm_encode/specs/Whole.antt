-- How modules are written (WebAssembly Core 1.0, 5.5.2 and 5.5.15): no custom section, no data count
-- section, no empty section, each number in its shortest spelling.
use Rattle.std.specs.Prelude.{ℕ, List, [], ◌∷◌, ◌++◌, Option, Some, None}
use Rattle.std.specs.List.{flat_map}
use Rattle.ic_leb.specs.Spelling.{unsigned_spelling}
use Rattle.wm_tree.specs.declared.parts.Module.{Module}
use Rattle.wm_decode.specs.Mod.{Section, magic}
use Rattle.wm_encode.specs.Values.{vec, sized}
use Rattle.wm_encode.specs.Types.{func_type, table_type, limits}
use Rattle.wm_encode.specs.Parts.{import, global, export, element, code, segment}

abbrev pub with_id : ℕ → List ℕ → Section
with_id id content = record { id = id; content = content }

-- the section of a list, where there is one
abbrev pub part : {A : Type 0} → ℕ → (A → List ℕ) → List A → List Section
part id f [] = []
part id f (x ∷ items) = with_id id (vec f (x ∷ items)) ∷ []

-- the section of the start function
abbrev pub start_part : Option ℕ → List Section
start_part None = []
start_part (Some f) = with_id 8 (unsigned_spelling f) ∷ []

-- the sections of a module
abbrev pub sections : Module → List Section
sections m =
    part 1 func_type m.types ++
    (part 2 import m.imports ++
    (part 3 unsigned_spelling m.functions ++
    (part 4 table_type m.tables ++
    (part 5 limits m.memories ++
    (part 6 global m.globals ++
    (part 7 export m.exports ++
    (start_part m.start ++
    (part 9 element m.elements ++
    (part 10 code m.codes ++
    (part 11 segment m.segments ++ []))))))))))

-- a section: its id, the size of its content, and the content
abbrev pub section : Section → List ℕ
section s = s.id ∷ sized s.content

-- a module
abbrev pub whole : Module → List ℕ
whole m = magic ++ flat_map section (sections m)
