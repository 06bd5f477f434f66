-- Each check by itself (WebAssembly Core 1.0, 3.4.10, and the limits of this profile).
use Rattle.std.specs.Prelude.{◌≡◌, true, None}
use Rattle.wm_tree.specs.declared.parts.Module.{Module}
use Rattle.wm_valid.specs.Imports.{least_other}
use Rattle.wm_valid.specs.Indices.{types_in_range, functions_in_range, tables_in_range, memories_in_range, globals_in_range, exports_in_range, starts_procedure, elements_in_range, segments_in_range}
use Rattle.wm_valid.specs.Sizes.{tables_fit, memories_fit, frames_fit}
use Rattle.wm_valid.specs.Entries.{least_bad}
use Rattle.wm_valid.specs.Bodies.{least_deep, least_untyped}

pub record Passes (m : Module) : Type 0 where
  pub imports : least_other m.types m.imports ≡ None
  pub types : types_in_range m ≡ true
  pub functions : functions_in_range m ≡ true
  pub tables : tables_in_range m ≡ true
  pub memories : memories_in_range m ≡ true
  pub globals : globals_in_range m ≡ true
  pub exports : exports_in_range m ≡ true
  pub start : starts_procedure m m.start ≡ true
  pub elements : elements_in_range m ≡ true
  pub segments : segments_in_range m ≡ true
  pub table_sizes : tables_fit m ≡ true
  pub memory_sizes : memories_fit m ≡ true
  pub frame_sizes : frames_fit m ≡ true
  pub entries : least_bad m 0 m.exports ≡ None
  pub nesting : least_deep m ≡ None
  pub typing : least_untyped m ≡ None
