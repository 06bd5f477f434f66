-- Which modules the format can hold.
use Rattle.std.specs.Prelude.{ℕ, ◌<◌, ◌^◌, List, length, All}
use Rattle.std.specs.List.{sum_by}
use Rattle.ic_leb.specs.Spelling.{unsigned_spelling}
use Rattle.wm_tree.specs.declared.parts.Module.{Module}
use Rattle.wm_tree.specs.IsModule.{IsModule}
use Rattle.wm_encode.specs.Values.{vec}
use Rattle.wm_encode.specs.Types.{func_type, table_type, limits}
use Rattle.wm_encode.specs.Parts.{import, global, export, element, code, segment}
use Rattle.wm_encode.specs.Whole.{sections}

-- What a module keeps, fewer than 2 ^ 32 locals in each function, and fewer than 2 ^ 32 bytes in each
-- section. Counts, names and codes are in sections, so they are shorter too.
pub record Fits (m : Module) : Type 0 where
  pub parts : IsModule m
  pub locals : All (λ c. sum_by (λ r. r.count) c.locals < 2 ^ 32) m.codes
  pub sizes : All (λ s. length s.content < 2 ^ 32) (sections m)

-- fewer than 2 ^ 32 bytes
abbrev pub Short : List ℕ → Type 0
Short bytes = length bytes < 2 ^ 32

-- each list of a module is written in fewer than 2 ^ 32 bytes
pub record ShortParts (m : Module) : Type 0 where
  pub types : Short (vec func_type m.types)
  pub imports : Short (vec import m.imports)
  pub functions : Short (vec unsigned_spelling m.functions)
  pub tables : Short (vec table_type m.tables)
  pub memories : Short (vec limits m.memories)
  pub globals : Short (vec global m.globals)
  pub exports : Short (vec export m.exports)
  pub elements : Short (vec element m.elements)
  pub codes : Short (vec code m.codes)
  pub segments : Short (vec segment m.segments)
