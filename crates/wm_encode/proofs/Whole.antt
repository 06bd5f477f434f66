-- What is written is in the grammar: modules.
use Rattle.std.proofs.Common.{◌≡◌, ℕ, ◌<◌, ◌^◌, false, List, [], ◌∷◌, ◌++◌, length, Option, Some, None, refl, sym, subst, ◌∙◌, arith, lit<}
use Rattle.std.specs.List.{AllByRecursion, flat_map, sum_by}
use Rattle.std.proofs.lemmas.List.Elements.{recursion_from_All}
use Rattle.ic_base.specs.Spelling.{Spelling}
use Rattle.ic_leb.specs.Spelling.{unsigned_spelling, seven_bits_each}
use Rattle.wm_tree.specs.Seq.{IsFlat}
use Rattle.wm_tree.specs.declared.parts.FuncCode.{FuncCode}
use Rattle.wm_tree.specs.declared.parts.Module.{Module}
use Rattle.wm_decode.specs.Values.{SpellsU32, SpellsList}
use Rattle.wm_decode.specs.Types.{SpellsFuncType, SpellsLimits, SpellsTableType}
use Rattle.wm_decode.specs.Parts.{SpellsImport, SpellsGlobal, SpellsExport, SpellsElement, SpellsCode, SpellsSegment}
use Rattle.wm_decode.specs.Mod.{Mod, Section, content_of, Lists, Starts, Counts}
use Rattle.wm_encode.specs.Values.{vec}
use Rattle.wm_encode.specs.Types.{func_type, table_type, limits}
use Rattle.wm_encode.specs.Parts.{import, global, export, element, code, segment}
use Rattle.wm_encode.specs.Whole.{part, start_part, section, sections, whole}
use Rattle.wm_encode.specs.Fits.{Fits, Short, ShortParts}
use Rattle.wm_encode.specs.Ranges.{Is32, RangedLimits, RangedImport, RangedGlobal, RangedExport, RangedElement, RangedCode, RangedSegment, Ranged}
use Rattle.wm_encode.proofs.Sizes.{unsigned_some}
use Rattle.wm_encode.proofs.Lists.{u32_spelled, vec_spelled}
use Rattle.wm_encode.proofs.Spelled.{func_type_spelled, table_type_spelled, limits_spelled, import_spelled, global_spelled, export_spelled, element_spelled, code_spelled, segment_spelled, func_type_some, import_some, table_type_some, limits_some, global_some, export_some, element_some, code_some, segment_some, nothing_said}
use Rattle.wm_encode.proofs.Sections.{sections_spelled, Rises, in_order, part_rises, start_rises, found, found_start, passed, passed_start}

-- two facts of each item
both : {A : Type 0} (P Q : A → Type 0) (items : List A) → AllByRecursion P items → AllByRecursion Q items → AllByRecursion (λ x. P x × Q x) items
both P Q [] p q = tt
both P Q (x ∷ items) p q = ((p.0, q.0), both P Q items p.1 q.1)

-- the content of each section is short
part_short : {A : Type 0} (f : A → List ℕ) (items : List A) (id : ℕ) (more : List Section) → AllByRecursion (λ s. Short s.content) (part id f items ++ more) → Short (vec f items) × AllByRecursion (λ s. Short s.content) more
unfolding unsigned_spelling seven_bits_each
part_short f [] id more all = (lit< tt, all)
part_short f (x ∷ items) id more all = (all.0, all.1)

start_short : (start : Option ℕ) (more : List Section) → AllByRecursion (λ s. Short s.content) (start_part start ++ more) → AllByRecursion (λ s. Short s.content) more
start_short None more all = all
start_short (Some f) more all = all.1

pub short_parts : (m : Module) → AllByRecursion (λ s. Short s.content) (sections m) → ShortParts m
short_parts m all =
    let t11 : List Section = part 11 segment m.segments ++ [] in
    let t10 : List Section = part 10 code m.codes ++ t11 in
    let t9 : List Section = part 9 element m.elements ++ t10 in
    let t8 : List Section = start_part m.start ++ t9 in
    let t7 : List Section = part 7 export m.exports ++ t8 in
    let t6 : List Section = part 6 global m.globals ++ t7 in
    let t5 : List Section = part 5 limits m.memories ++ t6 in
    let t4 : List Section = part 4 table_type m.tables ++ t5 in
    let t3 : List Section = part 3 unsigned_spelling m.functions ++ t4 in
    let t2 : List Section = part 2 import m.imports ++ t3 in
    let s1 = part_short func_type m.types 1 t2 all in
    let s2 = part_short import m.imports 2 t3 s1.1 in
    let s3 = part_short unsigned_spelling m.functions 3 t4 s2.1 in
    let s4 = part_short table_type m.tables 4 t5 s3.1 in
    let s5 = part_short limits m.memories 5 t6 s4.1 in
    let s6 = part_short global m.globals 6 t7 s5.1 in
    let s7 = part_short export m.exports 7 t8 s6.1 in
    let s8 = start_short m.start t9 s7.1 in
    let s9 = part_short element m.elements 9 t10 s8 in
    let s10 = part_short code m.codes 10 t11 s9.1 in
    let s11 = part_short segment m.segments 11 [] s10.1 in
    record {
      types = s1.0;
      imports = s2.0;
      functions = s3.0;
      tables = s4.0;
      memories = s5.0;
      globals = s6.0;
      exports = s7.0;
      elements = s9.0;
      codes = s10.0;
      segments = s11.0;
    }

-- what is asked of a code beside the ranges of its numbers
abbrev HoldsOfCode : FuncCode → Type 0
HoldsOfCode c = (sum_by (λ r. r.count) c.locals < 2 ^ 32) × IsFlat c.body

pub part_fits : (m : Module) → Fits m → ShortParts m
part_fits m fits = short_parts m (recursion_from_All (λ s. Short s.content) (sections m) fits.sizes)

-- each part is a list of its items
record Spelled (m : Module) : Type 0 where
  types : SpellsList (SpellsFuncType false) m.types (vec func_type m.types)
  imports : SpellsList (SpellsImport false) m.imports (vec import m.imports)
  functions : SpellsList SpellsU32 m.functions (vec unsigned_spelling m.functions)
  tables : SpellsList SpellsTableType m.tables (vec table_type m.tables)
  memories : SpellsList SpellsLimits m.memories (vec limits m.memories)
  globals : SpellsList (SpellsGlobal false) m.globals (vec global m.globals)
  exports : SpellsList SpellsExport m.exports (vec export m.exports)
  elements : SpellsList (SpellsElement false) m.elements (vec element m.elements)
  codes : SpellsList (SpellsCode false) m.codes (vec code m.codes)
  segments : SpellsList (SpellsSegment false) m.segments (vec segment m.segments)

lists_spelled : (m : Module) → Ranged m → Fits m → ShortParts m → Spelled m
lists_spelled m h fits short = record {
  types = vec_spelled (SpellsFuncType false) func_type (λ _. Unit {0}) func_type_some (λ t _ s. func_type_spelled t s) m.types (nothing_said m.types) short.types;
  imports = vec_spelled (SpellsImport false) import RangedImport import_some import_spelled m.imports (recursion_from_All RangedImport m.imports h.imports) short.imports;
  functions = vec_spelled SpellsU32 unsigned_spelling Is32 unsigned_some (λ n k _. u32_spelled n k) m.functions (recursion_from_All Is32 m.functions h.functions) short.functions;
  tables = vec_spelled SpellsTableType table_type RangedLimits table_type_some (λ l k _. table_type_spelled l k) m.tables (recursion_from_All RangedLimits m.tables h.tables) short.tables;
  memories = vec_spelled SpellsLimits limits RangedLimits limits_some (λ l k _. limits_spelled l k) m.memories (recursion_from_All RangedLimits m.memories h.memories) short.memories;
  globals = vec_spelled (SpellsGlobal false) global (λ g. RangedGlobal g × IsFlat g.init) global_some (λ g k s. global_spelled g k.0 k.1 s) m.globals
      (both RangedGlobal (λ g. IsFlat g.init) m.globals (recursion_from_All RangedGlobal m.globals h.globals) (recursion_from_All (λ g. IsFlat g.init) m.globals fits.parts.globals)) short.globals;
  exports = vec_spelled SpellsExport export RangedExport export_some export_spelled m.exports (recursion_from_All RangedExport m.exports h.exports) short.exports;
  elements = vec_spelled (SpellsElement false) element (λ e. RangedElement e × IsFlat e.offset) element_some (λ e k s. element_spelled e k.0 k.1 s) m.elements
      (both RangedElement (λ e. IsFlat e.offset) m.elements (recursion_from_All RangedElement m.elements h.elements) (recursion_from_All (λ e. IsFlat e.offset) m.elements fits.parts.elements)) short.elements;
  codes = vec_spelled (SpellsCode false) code (λ c. RangedCode c × HoldsOfCode c) code_some (λ c k s. code_spelled c k.0 k.1.0 k.1.1 s) m.codes
      (both RangedCode HoldsOfCode m.codes (recursion_from_All RangedCode m.codes h.codes)
      (both (λ c. sum_by (λ r. r.count) c.locals < 2 ^ 32) (λ c. IsFlat c.body) m.codes
      (recursion_from_All (λ c. sum_by (λ r. r.count) c.locals < 2 ^ 32) m.codes fits.locals) (recursion_from_All (λ c. IsFlat c.body) m.codes fits.parts.bodies))) short.codes;
  segments = vec_spelled (SpellsSegment false) segment (λ s. RangedSegment s × IsFlat s.offset) segment_some (λ s k few. segment_spelled s k.0 k.1 few) m.segments
      (both RangedSegment (λ s. IsFlat s.offset) m.segments (recursion_from_All RangedSegment m.segments h.segments) (recursion_from_All (λ s. IsFlat s.offset) m.segments fits.parts.segments)) short.segments;
}

-- the list that the section of that id has
placed : {A : Type 0} (P : Spelling A) (f : A → List ℕ) (items : List A) (id : ℕ) (all more : List Section) → content_of id all ≡ content_of id (part id f items ++ more) → Rises id more → SpellsList P items (vec f items) → Lists P items (content_of id all)
placed P f items id all more e rises spelled = subst (Lists P items) (sym e) (found P f items id more rises spelled)

pub mod_spelled : (m : Module) → Ranged m → Fits m → Mod false m (whole m)
mod_spelled m h fits =
    let contents = recursion_from_All (λ s. Short s.content) (sections m) fits.sizes in
    let lists = lists_spelled m h fits (part_fits m fits) in
    let t11 : List Section = part 11 segment m.segments ++ [] in
    let t10 : List Section = part 10 code m.codes ++ t11 in
    let t9 : List Section = part 9 element m.elements ++ t10 in
    let t8 : List Section = start_part m.start ++ t9 in
    let t7 : List Section = part 7 export m.exports ++ t8 in
    let t6 : List Section = part 6 global m.globals ++ t7 in
    let t5 : List Section = part 5 limits m.memories ++ t6 in
    let t4 : List Section = part 4 table_type m.tables ++ t5 in
    let t3 : List Section = part 3 unsigned_spelling m.functions ++ t4 in
    let t2 : List Section = part 2 import m.imports ++ t3 in
    let t1 : List Section = sections m in
    let r11 : Rises 10 t11 = part_rises segment m.segments 10 11 [] (omega arith) (omega arith) tt in
    let r10 : Rises 9 t10 = part_rises code m.codes 9 10 t11 (omega arith) (omega arith) r11 in
    let r9 : Rises 8 t9 = part_rises element m.elements 8 9 t10 (omega arith) (omega arith) r10 in
    let r8 : Rises 7 t8 = start_rises m.start 7 t9 (omega arith) r9 in
    let r7 : Rises 6 t7 = part_rises export m.exports 6 7 t8 (omega arith) (omega arith) r8 in
    let r6 : Rises 5 t6 = part_rises global m.globals 5 6 t7 (omega arith) (omega arith) r7 in
    let r5 : Rises 4 t5 = part_rises limits m.memories 4 5 t6 (omega arith) (omega arith) r6 in
    let r4 : Rises 3 t4 = part_rises table_type m.tables 3 4 t5 (omega arith) (omega arith) r5 in
    let r3 : Rises 2 t3 = part_rises unsigned_spelling m.functions 2 3 t4 (omega arith) (omega arith) r4 in
    let r2 : Rises 1 t2 = part_rises import m.imports 1 2 t3 (omega arith) (omega arith) r3 in
    let r1 : Rises 0 t1 = part_rises func_type m.types 0 1 t2 (omega arith) (omega arith) r2 in
    let p2 : (id : ℕ) → 1 < id → content_of id t1 ≡ content_of id t2 = λ id k. passed func_type m.types 1 t2 id k in
    let p3 : (id : ℕ) → 2 < id → content_of id t1 ≡ content_of id t3 = λ id k. p2 id (omega arith) ∙ passed import m.imports 2 t3 id k in
    let p4 : (id : ℕ) → 3 < id → content_of id t1 ≡ content_of id t4 = λ id k. p3 id (omega arith) ∙ passed unsigned_spelling m.functions 3 t4 id k in
    let p5 : (id : ℕ) → 4 < id → content_of id t1 ≡ content_of id t5 = λ id k. p4 id (omega arith) ∙ passed table_type m.tables 4 t5 id k in
    let p6 : (id : ℕ) → 5 < id → content_of id t1 ≡ content_of id t6 = λ id k. p5 id (omega arith) ∙ passed limits m.memories 5 t6 id k in
    let p7 : (id : ℕ) → 6 < id → content_of id t1 ≡ content_of id t7 = λ id k. p6 id (omega arith) ∙ passed global m.globals 6 t7 id k in
    let p8 : (id : ℕ) → 7 < id → content_of id t1 ≡ content_of id t8 = λ id k. p7 id (omega arith) ∙ passed export m.exports 7 t8 id k in
    let p9 : (id : ℕ) → 8 < id → content_of id t1 ≡ content_of id t9 = λ id k. p8 id (omega arith) ∙ passed_start m.start t9 id k in
    let p10 : (id : ℕ) → 9 < id → content_of id t1 ≡ content_of id t10 = λ id k. p9 id (omega arith) ∙ passed element m.elements 9 t10 id k in
    let p11 : (id : ℕ) → 10 < id → content_of id t1 ≡ content_of id t11 = λ id k. p10 id (omega arith) ∙ passed code m.codes 10 t11 id k in
    record {
      rest = flat_map section t1;
      whole = refl;
      sections = t1;
      spelled = sections_spelled t1 contents;
      order = in_order 0 t1 r1;
      types = placed (SpellsFuncType false) func_type m.types 1 t1 t2 refl r2 lists.types;
      imports = placed (SpellsImport false) import m.imports 2 t1 t3 (p2 2 (omega arith)) r3 lists.imports;
      functions = placed SpellsU32 unsigned_spelling m.functions 3 t1 t4 (p3 3 (omega arith)) r4 lists.functions;
      tables = placed SpellsTableType table_type m.tables 4 t1 t5 (p4 4 (omega arith)) r5 lists.tables;
      memories = placed SpellsLimits limits m.memories 5 t1 t6 (p5 5 (omega arith)) r6 lists.memories;
      globals = placed (SpellsGlobal false) global m.globals 6 t1 t7 (p6 6 (omega arith)) r7 lists.globals;
      exports = placed SpellsExport export m.exports 7 t1 t8 (p7 7 (omega arith)) r8 lists.exports;
      start = subst (Starts m.start) (sym (p8 8 (omega arith))) (found_start m.start t9 h.start r9);
      elements = placed (SpellsElement false) element m.elements 9 t1 t10 (p9 9 (omega arith)) r10 lists.elements;
      codes = placed (SpellsCode false) code m.codes 10 t1 t11 (p10 10 (omega arith)) r11 lists.codes;
      segments = placed (SpellsSegment false) segment m.segments 11 t1 [] (p11 11 (omega arith)) tt lists.segments;
      count = subst (Counts (length m.segments)) (sym (p11 12 (omega arith) ∙ passed segment m.segments 11 [] 12 (omega arith))) tt;
      counts = fits.parts.counts;
    }
