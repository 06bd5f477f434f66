-- What was read can be written.
use Rattle.std.proofs.Common.{◌≡◌, ℕ, ◌<◌, ◌^◌, Bool, true, false, List, [], ◌∷◌, ◌++◌, Option, Some, None, refl, sym, subst, arith, cond, nat_eq}
use Rattle.std.specs.List.{AllByRecursion, sum_by}
use Rattle.std.proofs.lemmas.List.Elements.{All-from_recursion}
use Rattle.ic_base.specs.Spelling.{Spelling, SpellsMany}
use Rattle.ic_leb.specs.Spelling.{unsigned_spelling}
use Rattle.ic_leb.specs.declared.width.Width.TheVariants.{Wasm32}
use Rattle.ic_leb.proofs.Shortest.{unsigned_shortest}
use Rattle.wm_tree.specs.IsModule.{IsModule}
use Rattle.wm_tree.specs.declared.parts.FuncCode.{FuncCode}
use Rattle.wm_tree.specs.declared.parts.Module.{Module}
use Rattle.wm_decode.specs.Values.{SpellsU32}
use Rattle.wm_decode.specs.Types.{SpellsFuncType, SpellsLimits, SpellsTableType}
use Rattle.wm_decode.specs.Parts.{SpellsImport, SpellsGlobal, SpellsExport, SpellsElement, SpellsCode, SpellsSegment}
use Rattle.wm_decode.specs.Mod.{Mod, Section, SpellsSection, content_of, Lists, Starts}
use Rattle.wm_encode.specs.Types.{func_type, table_type, limits}
use Rattle.wm_encode.specs.Parts.{import, global, export, element, code, segment}
use Rattle.wm_encode.specs.Whole.{part, start_part, sections}
use Rattle.wm_encode.specs.Fits.{Fits, Short}
use Rattle.wm_encode.proofs.Shortest.{Least, vec_least, u32_least, func_type_least, import_least, table_type_least, limits_least, global_least, export_least, element_least, code_least, segment_least}

-- the contents that were read are short
contents_short : (ss : List Section) (bytes : List ℕ) → SpellsMany SpellsSection ss bytes → AllByRecursion (λ s. Short s.content) ss
contents_short [] bytes spelled = tt
contents_short (s ∷ ss) bytes spelled = (spelled.3.behind.counted.fits, contents_short ss spelled.1 spelled.4)

-- where a content is there, it is short
abbrev FewBytes : Option (List ℕ) → Type 0
FewBytes read = (content : List ℕ) → read ≡ Some content → Short content

by_id : (same : Bool) (here : List ℕ) (read : Option (List ℕ)) → Short here → FewBytes read → FewBytes (cond same (Some here) read)
by_id true here read short few content e = let same : here ≡ content = cc in subst Short same short
by_id false here read short few content e = few content e

found_short : (ss : List Section) (id : ℕ) → AllByRecursion (λ s. Short s.content) ss → FewBytes (content_of id ss)
found_short [] id all content e = absurd cc
found_short (s ∷ ss) id all content e = by_id (nat_eq s.id id) s.content (content_of id ss) all.0 (found_short ss id all.1) content e

append_all : {A : Type 0} (P : A → Type 0) (xs ys : List A) → AllByRecursion P xs → AllByRecursion P ys → AllByRecursion P (xs ++ ys)
append_all P [] ys p q = q
append_all P (x ∷ xs) ys p q = (p.0, append_all P xs ys p.1 q)

part_short : {A : Type 0} (P : Spelling A) (f : A → List ℕ) → Least P f → (id : ℕ) (items : List A) (read : Option (List ℕ)) → FewBytes read → Lists P items read → AllByRecursion (λ s. Short s.content) (part id f items)
part_short P f least id [] read few spelled = tt
part_short P f least id (x ∷ items) None few spelled = absurd cc
part_short P f least id (x ∷ items) (Some content) few spelled = (omega (arith, vec_least P f least (x ∷ items) content spelled, few content refl), tt)

start_short : (start : Option ℕ) (read : Option (List ℕ)) → FewBytes read → Starts start read → AllByRecursion (λ s. Short s.content) (start_part start)
start_short None read few spelled = tt
start_short (Some f) None few spelled = absurd cc
start_short (Some f) (Some content) few spelled =
    let same : f ≡ spelled.0 = cc (spelled.1) in
    (omega (arith, few content refl, unsigned_shortest Wasm32 f content (subst (λ n. SpellsU32 n content) (sym same) spelled.2)), tt)

codes_few : (codes : List FuncCode) (bytes : List ℕ) → SpellsMany (SpellsCode false) codes bytes → AllByRecursion (λ c. sum_by (λ r. r.count) c.locals < 2 ^ 32) codes
codes_few [] bytes spelled = tt
codes_few (c ∷ codes) bytes spelled = (spelled.3.value.few, codes_few codes spelled.1 spelled.4)

locals_few : (codes : List FuncCode) (read : Option (List ℕ)) → Lists (SpellsCode false) codes read → AllByRecursion (λ c. sum_by (λ r. r.count) c.locals < 2 ^ 32) codes
locals_few [] read spelled = tt
locals_few (c ∷ codes) None spelled = absurd cc
locals_few (c ∷ codes) (Some content) spelled = codes_few (c ∷ codes) spelled.rest spelled.values

pub mod_fits : (m : Module) (bytes : List ℕ) → Mod false m bytes → IsModule m → Fits m
mod_fits m bytes h kept =
    let ss = h.sections in
    let all = contents_short ss h.rest h.spelled in
    let few : (id : ℕ) → FewBytes (content_of id ss) = λ id. found_short ss id all in
    let P : Section → Type 0 = λ s. Short s.content in
    let t11 : List Section = part 11 segment m.segments ++ [] in
    let s11 : AllByRecursion P t11 = append_all P (part 11 segment m.segments) [] (part_short (SpellsSegment false) segment segment_least 11 m.segments (content_of 11 ss) (few 11) h.segments) tt in
    let t10 : List Section = part 10 code m.codes ++ t11 in
    let s10 : AllByRecursion P t10 = append_all P (part 10 code m.codes) t11 (part_short (SpellsCode false) code code_least 10 m.codes (content_of 10 ss) (few 10) h.codes) s11 in
    let t9 : List Section = part 9 element m.elements ++ t10 in
    let s9 : AllByRecursion P t9 = append_all P (part 9 element m.elements) t10 (part_short (SpellsElement false) element element_least 9 m.elements (content_of 9 ss) (few 9) h.elements) s10 in
    let t8 : List Section = start_part m.start ++ t9 in
    let s8 : AllByRecursion P t8 = append_all P (start_part m.start) t9 (start_short m.start (content_of 8 ss) (few 8) h.start) s9 in
    let t7 : List Section = part 7 export m.exports ++ t8 in
    let s7 : AllByRecursion P t7 = append_all P (part 7 export m.exports) t8 (part_short SpellsExport export export_least 7 m.exports (content_of 7 ss) (few 7) h.exports) s8 in
    let t6 : List Section = part 6 global m.globals ++ t7 in
    let s6 : AllByRecursion P t6 = append_all P (part 6 global m.globals) t7 (part_short (SpellsGlobal false) global global_least 6 m.globals (content_of 6 ss) (few 6) h.globals) s7 in
    let t5 : List Section = part 5 limits m.memories ++ t6 in
    let s5 : AllByRecursion P t5 = append_all P (part 5 limits m.memories) t6 (part_short SpellsLimits limits limits_least 5 m.memories (content_of 5 ss) (few 5) h.memories) s6 in
    let t4 : List Section = part 4 table_type m.tables ++ t5 in
    let s4 : AllByRecursion P t4 = append_all P (part 4 table_type m.tables) t5 (part_short SpellsTableType table_type table_type_least 4 m.tables (content_of 4 ss) (few 4) h.tables) s5 in
    let t3 : List Section = part 3 unsigned_spelling m.functions ++ t4 in
    let s3 : AllByRecursion P t3 = append_all P (part 3 unsigned_spelling m.functions) t4 (part_short SpellsU32 unsigned_spelling u32_least 3 m.functions (content_of 3 ss) (few 3) h.functions) s4 in
    let t2 : List Section = part 2 import m.imports ++ t3 in
    let s2 : AllByRecursion P t2 = append_all P (part 2 import m.imports) t3 (part_short (SpellsImport false) import import_least 2 m.imports (content_of 2 ss) (few 2) h.imports) s3 in
    let t1 : List Section = part 1 func_type m.types ++ t2 in
    let s1 : AllByRecursion P t1 = append_all P (part 1 func_type m.types) t2 (part_short (SpellsFuncType false) func_type func_type_least 1 m.types (content_of 1 ss) (few 1) h.types) s2 in
    record {
      parts = kept;
      locals = All-from_recursion (λ c. sum_by (λ r. r.count) c.locals < 2 ^ 32) m.codes (locals_few m.codes (content_of 10 ss) h.codes);
      sizes = All-from_recursion P (sections m) s1;
    }
