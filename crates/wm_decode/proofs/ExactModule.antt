-- Modules are read exactly.
use Rattle.std.proofs.Common.{◌≡◌, ℕ, zero, suc, ◌<◌, ◌≤◌, Bool, true, false, ◌&&◌, cond, List, [], ◌∷◌, ◌++◌, length, take, drop, Option, Some, None, is_some, nat_eq, nat_lt, refl, sym, ap, subst, ◌∙◌, inl, inr, arith, lit<, eq-eqb, length-append}
use Rattle.std.proofs.lemmas.Bool.{eqb-true, ne_eqb, ltb-true, lt-ltb}
use Rattle.std.proofs.lemmas.List.{take-append-drop}
use Rattle.std.specs.Cmp.Lexicographic.{pointwise, same_text}
use Rattle.ic_base.specs.Reader.{Reader, ◌>>=◌, byte_at, whole}
use Rattle.ic_base.specs.Spelling.{Spelling, SpellsMany}
use Rattle.ic_base.specs.Exact.{Exact}
use Rattle.ic_base.proofs.Steps.{bind_some, some_is}
use Rattle.ic_base.proofs.Exact.{taken, reworded, byte_exact, whole_again, whole_takes}
use Rattle.wm_tree.specs.declared.parts.Module.{Module}
use Rattle.wm_decode.specs.Values.{SpellsU32, SpellsPair, SpellsList, SpellsBytes, SpellsName}
use Rattle.wm_decode.specs.Types.{SpellsFuncType, SpellsLimits, SpellsTableType}
use Rattle.wm_decode.specs.Parts.{SpellsImport, SpellsGlobal, SpellsExport, SpellsElement, SpellsCode, SpellsSegment}
use Rattle.wm_decode.specs.Mod.{magic, Section, SpellsSection, IsCustom, InOrder, place_of, content_of, Lists, Starts, Counts, Mod}
use Rattle.wm_decode.specs.Readers.{u32_at, list_at, vec_bytes_at, name_at, pair_at, func_type_at, limits_at, table_type_at, import_at, global_at, export_at, element_at, code_at, segment_at, section_at, placed, sections_at, list_in, number_in, agrees, module_in, magic_at, module_at}
use Rattle.wm_decode.proofs.ExactValues.{u32_exact, pair_exact, list_exact, carried, tested, vec_bytes_exact, name_exact}
use Rattle.wm_decode.proofs.ExactTypes.{func_type_exact, limits_exact, table_type_exact}
use Rattle.wm_decode.proofs.ExactParts.{import_exact, global_exact, export_exact, element_exact, code_exact, segment_exact}

-- ---- sections

section_exact : Exact SpellsSection section_at
unfolding section_at
section_exact =
    reworded (λ s. SpellsPair (λ b bytes. bytes ≡ b ∷ []) SpellsBytes (s.id, s.content)) SpellsSection section_at
    (λ s bytes p. record { front = s.id ∷ []; rest = p.rest; whole = p.whole; first = refl; second = p.behind })
    (λ s bytes p. record { rest = p.rest; whole = p.whole ∙ ap (λ (f : List ℕ). f ++ p.rest) p.first; behind = p.second })
    (carried (SpellsPair (λ b bytes. bytes ≡ b ∷ []) SpellsBytes) (pair_at byte_at vec_bytes_at)
    (λ p. record { id = p.0; content = p.1 }) (λ s. (s.id, s.content)) (λ _. refl) (λ _. refl)
    (pair_exact (λ b bytes. bytes ≡ b ∷ []) SpellsBytes byte_at vec_bytes_at byte_exact vec_bytes_exact))

-- the sections but the custom ones
abbrev kept : List Section → List Section
kept [] = []
kept (s ∷ sections) = cond (nat_eq s.id 0) (kept sections) (s ∷ kept sections)

-- a section that is no custom one is kept
content_of-kept : (id : ℕ) (sections : List Section) → 0 < id → content_of id (kept sections) ≡ content_of id sections
content_of-kept id [] above = refl
content_of-kept id (s ∷ sections) above =
    elim (nat_eq s.id 0) as (λ t. nat_eq s.id 0 ≡ t → content_of id (cond t (kept sections) (s ∷ kept sections)) ≡ cond (nat_eq s.id id) (Some s.content) (content_of id sections)) [
      | true ↦ λ zero_id.
          let other : nat_eq s.id id ≡ false = ne_eqb s.id id (λ same. omega (arith, eqb-true s.id 0 zero_id)) in
          content_of-kept id sections above ∙ rw other refl
      | false ↦ λ _. ap (cond (nat_eq s.id id) (Some s.content)) (content_of-kept id sections above)
    ] refl

named : (content : List ℕ) (name front rest : List ℕ) → content ≡ front ++ rest → SpellsName name front → is_some (name_at content) ≡ true
named content name front rest whole_is p = rw (whole_is, name_exact.again name front rest p) refl

-- a section that has a place is no custom one
no_place : (last id : ℕ) → last < place_of id → id ≡ 0 → ⊥
no_place last id above same = let below : last < 0 = subst (λ (n : ℕ). last < place_of n) same above in omega arith

-- one section may be here
placed_again : (more : ℕ → List ℕ → Option (List Section)) (last : ℕ) (s : Section) (sections : List Section) (rest : List ℕ)
    → InOrder last (s ∷ sections) → ((next : ℕ) → InOrder next sections → more next rest ≡ Some (kept sections))
    → placed more last s rest ≡ Some (kept (s ∷ sections))
placed_again more last s sections rest (inl p) ih =
    let c = p.0 in
    rw (c.zero, named s.content c.name c.front c.rest c.whole c.named) (ih last p.1)
placed_again more last s sections rest (inr p) ih =
    let not_custom : nat_eq s.id 0 ≡ false = ne_eqb s.id 0 (no_place last s.id p.0) in
    rw (not_custom, lt-ltb last (place_of s.id) p.0, ih (place_of s.id) p.1) refl

sections_again : (sections : List Section) (n last : ℕ) (bytes : List ℕ) → length sections ≤ n → SpellsMany SpellsSection sections bytes → InOrder last sections
    → sections_at n last bytes ≡ Some (kept sections)
unfolding sections_at
sections_again [] n last bytes few p order = rw p refl
sections_again (s ∷ sections) zero last bytes few p order = absurd (omega arith)
sections_again (s ∷ sections) (suc n) last bytes few p order =
    let first : bytes ≡ s.id ∷ (p.3.rest ++ p.1) = p.2 ∙ ap (λ (f : List ℕ). f ++ p.1) p.3.whole in
    let read : section_at (s.id ∷ (p.3.rest ++ p.1)) ≡ Some (s, p.1) = ap section_at (sym first ∙ p.2) ∙ section_exact.again s p.0 p.1 p.3 in
    rw (first, read) (placed_again (sections_at n) last s sections p.1 order (λ next o. sections_again sections n next p.1 (omega arith) p.4 o))

-- the sections that were read, with the custom ones
record Cut (last : ℕ) (bytes : List ℕ) (found : List Section) : Type 0 where
  sections : List Section
  kept_is : kept sections ≡ found
  spelled : SpellsMany SpellsSection sections bytes
  order : InOrder last sections

cut_more : (last next : ℕ) (s : Section) (front bytes rest : List ℕ) (found : List Section) → bytes ≡ front ++ rest → SpellsSection s front
    → (c : Cut next rest found) → InOrder last (s ∷ c.sections) → Cut last bytes (cond (nat_eq s.id 0) found (s ∷ found))
cut_more last next s front bytes rest found parts p c order =
    record { sections = s ∷ c.sections; kept_is = ap (λ k. cond (nat_eq s.id 0) k (s ∷ k)) c.kept_is; spelled = (front, rest, parts, p, c.spelled); order = order }

custom : (s : Section) → nat_eq s.id 0 ≡ true → is_some (name_at s.content) ≡ true → IsCustom s
custom s zero_id is_named =
    elim (name_at s.content) as (λ r. name_at s.content ≡ r → is_some r ≡ true → IsCustom s) [
      | Some z ↦ λ e _.
          let t = taken SpellsName name_at name_exact s.content z e in
          record { zero = eqb-true s.id 0 zero_id; name = z.0; front = t.front; rest = z.1; whole = t.parts; named = t.spelled }
      | None ↦ λ _ h. absurd cc
    ] refl is_named

both_true : (a b : Bool) → (a && b) ≡ true → (a ≡ true) × (b ≡ true)
both_true true b e = (refl, e)
both_true false b e = absurd cc

placed_takes : (more : ℕ → List ℕ → Option (List Section)) (last : ℕ) (s : Section) (front bytes rest : List ℕ) (found : List Section)
    → bytes ≡ front ++ rest → SpellsSection s front → ((next : ℕ) (others : List Section) → more next rest ≡ Some others → Cut next rest others)
    → placed more last s rest ≡ Some found → Cut last bytes found
placed_takes more last s front bytes rest found parts p ih e =
    elim (nat_eq s.id 0) as (λ t. nat_eq s.id 0 ≡ t
    → cond t (cond (is_some (name_at s.content)) (more last rest) None) (cond (nat_lt last (place_of s.id)) (more (place_of s.id) rest >>= λ sections. Some (s ∷ sections)) None) ≡ Some found
    → Cut last bytes found) [
      | true ↦ λ zero_id h.
          let g = tested (is_some (name_at s.content)) (more last rest) found h in
          let c = ih last found g.1 in
          subst (λ t. Cut last bytes (cond t found (s ∷ found))) zero_id
          (cut_more last last s front bytes rest found parts p c (inl (custom s zero_id g.0, c.order)))
      | false ↦ λ other h.
          let at = place_of s.id in
          let g = tested (nat_lt last at) (more at rest >>= λ sections. Some (s ∷ sections)) found h in
          let b = bind_some (more at rest) (λ sections. Some (s ∷ sections)) found g.1 in
          let found_is : s ∷ b.0 ≡ found = cc in
          let c = ih at b.0 b.1 in
          subst (Cut last bytes) found_is (subst (λ t. Cut last bytes (cond t b.0 (s ∷ b.0))) other
          (cut_more last at s front bytes rest b.0 parts p c (inr (ltb-true last at g.0, c.order))))
    ] refl e

sections_takes : (n last : ℕ) (bytes : List ℕ) (found : List Section) → sections_at n last bytes ≡ Some found → Cut last bytes found
unfolding sections_at
sections_takes n last [] found e =
    let found_is : [] ≡ found = cc in subst (Cut last []) found_is (record { sections = []; kept_is = refl; spelled = refl; order = tt })
sections_takes zero last (b ∷ bytes) found e = absurd cc
sections_takes (suc n) last (b ∷ bytes) found e =
    let a = bind_some (section_at (b ∷ bytes)) (λ s. placed (sections_at n) last s.0 s.1) found e in
    let t = taken SpellsSection section_at section_exact (b ∷ bytes) a.0 a.1 in
    placed_takes (sections_at n) last a.0.0 t.front (b ∷ bytes) a.0.1 found t.parts t.spelled (λ next others r. sections_takes n next a.0.1 others r) a.2

-- each section has a byte
sections_length : (sections : List Section) (bytes : List ℕ) → SpellsMany SpellsSection sections bytes → length sections ≤ length bytes
sections_length [] bytes p = omega arith
sections_length (s ∷ sections) bytes p =
    rw p.2 (omega (arith, ap length p.3.whole, sections_length sections p.1 p.4, length-append p.0 p.1))

-- ---- contents

lists_again : {A : Type 0} (P : Spelling A) (read : Reader A) → Exact P read → (items : List A) (content : Option (List ℕ)) → Lists P items content → list_in read content ≡ Some items
lists_again P read exact items None p = rw p refl
lists_again P read exact items (Some content) p = whole_again (SpellsList P) (list_at read) (list_exact P read exact) items content p

lists_takes : {A : Type 0} (P : Spelling A) (read : Reader A) → Exact P read → (items : List A) (content : Option (List ℕ)) → list_in read content ≡ Some items → Lists P items content
lists_takes {A} P read exact items None e = let items_are : items ≡ [] = cc in items_are
lists_takes P read exact items (Some content) e = whole_takes (SpellsList P) (list_at read) (list_exact P read exact) items content e

starts_again : (start : Option ℕ) (content : Option (List ℕ)) → Starts start content → number_in content ≡ Some start
starts_again start None p = rw p refl
starts_again start (Some content) p = rw (whole_again SpellsU32 u32_at u32_exact p.0 content p.2, p.1) refl

starts_takes : (start : Option ℕ) (content : Option (List ℕ)) → number_in content ≡ Some start → Starts start content
starts_takes start None e = cc
starts_takes start (Some content) e =
    let b = bind_some (whole u32_at content) (λ f. Some (Some f)) start e in
    (b.0, cc, whole_takes SpellsU32 u32_at u32_exact b.0 content b.1)

counts_again : (n : ℕ) (content : Option (List ℕ)) → Counts n content → (count : Option ℕ) × (number_in content ≡ Some count) × (agrees count n ≡ true)
counts_again n None p = (None, refl, refl)
counts_again n (Some content) p = (Some n, rw (whole_again SpellsU32 u32_at u32_exact n content p) refl, eq-eqb n n refl)

counts_takes : (n : ℕ) (content : Option (List ℕ)) (count : Option ℕ) → number_in content ≡ Some count → agrees count n ≡ true → Counts n content
counts_takes n None count e same = tt
counts_takes n (Some content) count e same =
    let s = starts_takes count (Some content) e in
    let n_is : s.0 ≡ n = eqb-true s.0 n (subst (λ (c : Option ℕ). agrees c n ≡ true) s.1 same) in
    subst (λ (k : ℕ). SpellsU32 k content) n_is s.2

-- ---- the module of the sections

-- the lists of a module are in the sections' contents
pub record Contents (float : Bool) (m : Module) (sections : List Section) : Type 0 where
  pub types : Lists (SpellsFuncType float) m.types (content_of 1 sections)
  pub imports : Lists (SpellsImport float) m.imports (content_of 2 sections)
  pub functions : Lists SpellsU32 m.functions (content_of 3 sections)
  pub tables : Lists SpellsTableType m.tables (content_of 4 sections)
  pub memories : Lists SpellsLimits m.memories (content_of 5 sections)
  pub globals : Lists (SpellsGlobal float) m.globals (content_of 6 sections)
  pub exports : Lists SpellsExport m.exports (content_of 7 sections)
  pub start : Starts m.start (content_of 8 sections)
  pub elements : Lists (SpellsElement float) m.elements (content_of 9 sections)
  pub count : Counts (length m.segments) (content_of 12 sections)
  pub codes : Lists (SpellsCode float) m.codes (content_of 10 sections)
  pub segments : Lists (SpellsSegment float) m.segments (content_of 11 sections)
  pub counts : length m.functions ≡ length m.codes

contents_again : (float : Bool) (m : Module) (sections : List Section) → Contents float m sections → module_in float sections ≡ Some m
unfolding module_in
contents_again float m sections p =
    let count = counts_again (length m.segments) (content_of 12 sections) p.count in rw (
      lists_again (SpellsFuncType float) (func_type_at float) (func_type_exact float) m.types (content_of 1 sections) p.types,
      lists_again (SpellsImport float) (import_at float) (import_exact float) m.imports (content_of 2 sections) p.imports,
      lists_again SpellsU32 u32_at u32_exact m.functions (content_of 3 sections) p.functions,
      lists_again SpellsTableType table_type_at table_type_exact m.tables (content_of 4 sections) p.tables,
      lists_again SpellsLimits limits_at limits_exact m.memories (content_of 5 sections) p.memories,
      lists_again (SpellsGlobal float) (global_at float) (global_exact float) m.globals (content_of 6 sections) p.globals,
      lists_again SpellsExport export_at export_exact m.exports (content_of 7 sections) p.exports,
      starts_again m.start (content_of 8 sections) p.start,
      lists_again (SpellsElement float) (element_at float) (element_exact float) m.elements (content_of 9 sections) p.elements,
      count.1,
      lists_again (SpellsCode float) (code_at float) (code_exact float) m.codes (content_of 10 sections) p.codes,
      lists_again (SpellsSegment float) (segment_at float) (segment_exact float) m.segments (content_of 11 sections) p.segments,
      eq-eqb (length m.functions) (length m.codes) p.counts,
      count.2,
    ) refl

contents_takes : (float : Bool) (m : Module) (sections : List Section) → module_in float sections ≡ Some m → Contents float m sections
unfolding module_in
contents_takes float m sections e =
    let a = bind_some (list_in (func_type_at float) (content_of 1 sections)) _ m e in
    let b = bind_some (list_in (import_at float) (content_of 2 sections)) _ m a.2 in
    let c = bind_some (list_in u32_at (content_of 3 sections)) _ m b.2 in
    let d = bind_some (list_in table_type_at (content_of 4 sections)) _ m c.2 in
    let f = bind_some (list_in limits_at (content_of 5 sections)) _ m d.2 in
    let g = bind_some (list_in (global_at float) (content_of 6 sections)) _ m f.2 in
    let h = bind_some (list_in export_at (content_of 7 sections)) _ m g.2 in
    let i = bind_some (number_in (content_of 8 sections)) _ m h.2 in
    let j = bind_some (list_in (element_at float) (content_of 9 sections)) _ m i.2 in
    let n = bind_some (number_in (content_of 12 sections)) _ m j.2 in
    let k = bind_some (list_in (code_at float) (content_of 10 sections)) _ m n.2 in
    let l = bind_some (list_in (segment_at float) (content_of 11 sections)) _ m k.2 in
    let t = tested (nat_eq (length c.0) (length k.0) && agrees n.0 (length l.0)) _ m l.2 in
    let same = both_true (nat_eq (length c.0) (length k.0)) (agrees n.0 (length l.0)) t.0 in
    let m_is = some_is _ m t.1 in
    subst (λ x. Contents float x sections) m_is (record {
      types = lists_takes (SpellsFuncType float) (func_type_at float) (func_type_exact float) a.0 (content_of 1 sections) a.1;
      imports = lists_takes (SpellsImport float) (import_at float) (import_exact float) b.0 (content_of 2 sections) b.1;
      functions = lists_takes SpellsU32 u32_at u32_exact c.0 (content_of 3 sections) c.1;
      tables = lists_takes SpellsTableType table_type_at table_type_exact d.0 (content_of 4 sections) d.1;
      memories = lists_takes SpellsLimits limits_at limits_exact f.0 (content_of 5 sections) f.1;
      globals = lists_takes (SpellsGlobal float) (global_at float) (global_exact float) g.0 (content_of 6 sections) g.1;
      exports = lists_takes SpellsExport export_at export_exact h.0 (content_of 7 sections) h.1;
      start = starts_takes i.0 (content_of 8 sections) i.1;
      elements = lists_takes (SpellsElement float) (element_at float) (element_exact float) j.0 (content_of 9 sections) j.1;
      count = counts_takes (length l.0) (content_of 12 sections) n.0 n.1 same.1;
      codes = lists_takes (SpellsCode float) (code_at float) (code_exact float) k.0 (content_of 10 sections) k.1;
      segments = lists_takes (SpellsSegment float) (segment_at float) (segment_exact float) l.0 (content_of 11 sections) l.1;
      counts = eqb-true (length c.0) (length k.0) same.0;
    })

-- the custom sections give nothing
contents_kept : (float : Bool) (m : Module) (sections : List Section) → Contents float m sections → Contents float m (kept sections)
contents_kept float m sections p = record {
  types = rw (content_of-kept 1 sections (lit< tt)) p.types;
  imports = rw (content_of-kept 2 sections (lit< tt)) p.imports;
  functions = rw (content_of-kept 3 sections (lit< tt)) p.functions;
  tables = rw (content_of-kept 4 sections (lit< tt)) p.tables;
  memories = rw (content_of-kept 5 sections (lit< tt)) p.memories;
  globals = rw (content_of-kept 6 sections (lit< tt)) p.globals;
  exports = rw (content_of-kept 7 sections (lit< tt)) p.exports;
  start = rw (content_of-kept 8 sections (lit< tt)) p.start;
  elements = rw (content_of-kept 9 sections (lit< tt)) p.elements;
  count = rw (content_of-kept 12 sections (lit< tt)) p.count;
  codes = rw (content_of-kept 10 sections (lit< tt)) p.codes;
  segments = rw (content_of-kept 11 sections (lit< tt)) p.segments;
  counts = p.counts;
}

-- ---- the bytes

magic_again : (rest : List ℕ) → magic_at (magic ++ rest) ≡ Some rest
unfolding magic_at
magic_again rest = refl

magic_takes : (bytes rest : List ℕ) → magic_at bytes ≡ Some rest → bytes ≡ magic ++ rest
unfolding magic_at
magic_takes bytes rest e =
    let t = tested (pointwise nat_eq (take 8 bytes) magic) (Some (drop 8 bytes)) rest e in
    let rest_is : drop 8 bytes ≡ rest = cc in
    sym (take-append-drop 8 bytes) ∙ ap (λ (front : List ℕ). front ++ drop 8 bytes) (same_text (take 8 bytes) magic (sym t.0)) ∙ ap (λ (r : List ℕ). magic ++ r) rest_is

pub module_again : (float : Bool) (m : Module) (bytes : List ℕ) → Mod float m bytes → module_at float bytes ≡ Some m
unfolding module_at
module_again float m bytes p =
    let all : Contents float m p.sections = record {
      types = p.types;
      imports = p.imports;
      functions = p.functions;
      tables = p.tables;
      memories = p.memories;
      globals = p.globals;
      exports = p.exports;
      start = p.start;
      elements = p.elements;
      count = p.count;
      codes = p.codes;
      segments = p.segments;
      counts = p.counts;
    } in
    rw (
      p.whole,
      magic_again p.rest,
      sections_again p.sections (length p.rest) 0 p.rest (sections_length p.sections p.rest p.spelled) p.spelled p.order,
    ) (contents_again float m (kept p.sections) (contents_kept float m p.sections all))

pub module_takes : (float : Bool) (m : Module) (bytes : List ℕ) → module_at float bytes ≡ Some m → Mod float m bytes
unfolding module_at
module_takes float m bytes e =
    let a = bind_some (magic_at bytes) (λ rest. sections_at (length rest) 0 rest >>= λ sections. module_in float sections) m e in
    let b = bind_some (sections_at (length a.0) 0 a.0) (λ sections. module_in float sections) m a.2 in
    let c = sections_takes (length a.0) 0 a.0 b.0 b.1 in
    let p = contents_takes float m b.0 b.2 in
    let same : (id : ℕ) → 0 < id → content_of id c.sections ≡ content_of id b.0 =
    λ id above. sym (content_of-kept id c.sections above) ∙ ap (content_of id) c.kept_is in
    record {
      rest = a.0;
      whole = magic_takes bytes a.0 a.1;
      sections = c.sections;
      spelled = c.spelled;
      order = c.order;
      types = rw (same 1 (lit< tt)) p.types;
      imports = rw (same 2 (lit< tt)) p.imports;
      functions = rw (same 3 (lit< tt)) p.functions;
      tables = rw (same 4 (lit< tt)) p.tables;
      memories = rw (same 5 (lit< tt)) p.memories;
      globals = rw (same 6 (lit< tt)) p.globals;
      exports = rw (same 7 (lit< tt)) p.exports;
      start = rw (same 8 (lit< tt)) p.start;
      elements = rw (same 9 (lit< tt)) p.elements;
      count = rw (same 12 (lit< tt)) p.count;
      codes = rw (same 10 (lit< tt)) p.codes;
      segments = rw (same 11 (lit< tt)) p.segments;
      counts = p.counts;
    }
