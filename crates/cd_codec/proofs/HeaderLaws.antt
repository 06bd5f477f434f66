-- Headers are read exactly.
use Rattle.std.proofs.Common.{◌≡◌, ℕ, ◌^◌, Bool, true, List, ◌++◌, length, take, drop, Some, refl, sym, ap, subst, ◌∙◌, append_assoc}
use Rattle.std.specs.Prelude.{nat_lt, nat_le}
use Rattle.std.specs.Str.{bytes_eq}
use Rattle.std.specs.Bool.{Decides}
use Rattle.std.proofs.lemmas.List.{take-append-drop}
use Rattle.std.proofs.lemmas.Option.{cond_some}
use Rattle.std.proofs.lemmas.Slice.Eq.{bytes_eq-Decides}
use Rattle.ic_base.specs.Reader.{Reader, ◌>>=◌, both_at, map_at, vec_at}
use Rattle.ic_base.specs.Spelling.{Spelling, SpellsBoth, SpellsVec}
use Rattle.ic_base.specs.Exact.{Exact}
use Rattle.ic_base.proofs.Steps.{bind_some, some_is}
use Rattle.ic_base.proofs.Exact.{Takes, exact_of, taken, both_exact, filter_map_exact, filter_exact, vec_exact}
use Rattle.ic_leb.specs.declared.width.Width.TheVariants.{Candid}
use Rattle.ic_leb.specs.Spells.{SpellsUnsigned, SpellsSigned}
use Rattle.ic_leb.specs.Reading.{unsigned_reader, signed_reader}
use Rattle.ic_leb.proofs.Readers.{unsigned_exact, signed_exact}
use Rattle.cd_types.specs.declared.entry.TyRef.{TyRef}
use Rattle.cd_types.specs.declared.entry.Entry.{Entry}
use Rattle.cd_types.specs.declared.entry.Entry.TheVariants.{Opt, Seq, Rec, Var, Func, Service}
use Rattle.cd_types.specs.IsTable.{is_table}
use Rattle.cd_codec.specs.declared.codes.Kind.{Kind}
use Rattle.cd_codec.specs.declared.codes.Kind.TheVariants as kinds
use Rattle.cd_codec.specs.Basic.{SpellsCounted, SpellsText}
use Rattle.cd_codec.specs.Codes.{reference_named, kind_named, kind_of}
use Rattle.cd_codec.specs.IsHeader.{magic, SpellsReference, SpellsTypes, SpellsId, SpellsField, SpellsMethod, SpellsBody, SpellsKind, SpellsEntry, SpellsFew, are_inside, IsHeader}
use Rattle.cd_codec.specs.ReadPlain.{counted_at, text_at}
use Rattle.cd_codec.specs.ReadHeader.{magic_at, reference_at, types_at, id_at, typed_field_at, fields_at, method_at, methods_at, signature_at, body_at, kind_at, row_at, few_at, table_at, arguments_at, header_at}
use Rattle.cd_codec.proofs.PlainLaws.{counted_exact, text_exact}

pub reference_exact : (floats : Bool) → Exact (SpellsReference floats) (reference_at floats)
unfolding reference_at
reference_exact floats = filter_map_exact (SpellsSigned Candid) (signed_reader Candid) (reference_named floats) (signed_exact Candid)

types_exact : (floats : Bool) → Exact (SpellsTypes floats) (types_at floats)
unfolding types_at
types_exact floats = vec_exact (SpellsUnsigned Candid) (SpellsReference floats) (unsigned_reader Candid) (reference_at floats) (unsigned_exact Candid) (reference_exact floats)

id_exact : Exact SpellsId id_at
unfolding id_at
id_exact = filter_exact (SpellsUnsigned Candid) (unsigned_reader Candid) (λ n. nat_lt n (2 ^ 32)) (unsigned_exact Candid)

fields_exact : (floats : Bool) → Exact (SpellsVec (SpellsUnsigned Candid) (SpellsField floats)) (fields_at floats)
unfolding fields_at typed_field_at
fields_exact floats =
    vec_exact (SpellsUnsigned Candid) (SpellsField floats) (unsigned_reader Candid) (typed_field_at floats) (unsigned_exact Candid)
    (both_exact SpellsId (λ _. SpellsReference floats) id_at (λ _. reference_at floats) id_exact (λ _. reference_exact floats))

methods_exact : (floats : Bool) → Exact (SpellsVec (SpellsUnsigned Candid) (SpellsMethod floats)) (methods_at floats)
unfolding methods_at method_at
methods_exact floats =
    vec_exact (SpellsUnsigned Candid) (SpellsMethod floats) (unsigned_reader Candid) (method_at floats) (unsigned_exact Candid)
    (both_exact SpellsText (λ _. SpellsReference floats) text_at (λ _. reference_at floats) text_exact (λ _. reference_exact floats))

signature_exact : (floats : Bool) → Exact (SpellsBoth (SpellsBoth (SpellsTypes floats) (λ _. SpellsTypes floats)) (λ _. SpellsCounted)) (signature_at floats)
unfolding signature_at
signature_exact floats =
    both_exact (SpellsBoth (SpellsTypes floats) (λ _. SpellsTypes floats)) (λ _. SpellsCounted) (both_at (types_at floats) (λ _. types_at floats)) (λ _. counted_at)
    (both_exact (SpellsTypes floats) (λ _. SpellsTypes floats) (types_at floats) (λ _. types_at floats) (types_exact floats) (λ _. types_exact floats)) (λ _. counted_exact)

kind_exact : Exact SpellsKind kind_at
unfolding kind_at
kind_exact = filter_map_exact (SpellsSigned Candid) (signed_reader Candid) kind_named (signed_exact Candid)

-- what follows the number of this kind
abbrev SpellsOfKind : Bool → Kind → Spelling Entry
SpellsOfKind floats kind entry bytes = (kind_of entry ≡ kind) × SpellsBody floats entry bytes

made : {A : Type 0} (floats : Bool) (kind : Kind) (f : A → Entry) (P : Spelling A) (read : Reader A) → Exact P read → ((x : A) (bytes : List ℕ) → P x bytes → SpellsOfKind floats kind (f x) bytes)
    → (bytes : List ℕ) (z : Entry × List ℕ) → map_at f read bytes ≡ Some z → Takes (SpellsOfKind floats kind) bytes z
made {A} floats kind f P read exact spells bytes z e =
    let a = bind_some (read bytes) (λ x. Some (f x.0, x.1)) z e in
    let t = taken P read exact bytes a.0 a.1 in
    subst (Takes (SpellsOfKind floats kind) bytes) (some_is {A = Entry × List ℕ} (f a.0.0, a.0.1) z a.2) (record { front = t.front; parts = t.parts; spelled = spells a.0.0 t.front t.spelled })

body_takes : (floats : Bool) (kind : Kind) (bytes : List ℕ) (z : Entry × List ℕ) → body_at floats kind bytes ≡ Some z → Takes (SpellsOfKind floats kind) bytes z
unfolding body_at
body_takes floats kinds.Opt bytes z e = made floats kinds.Opt (λ type. Opt type) (SpellsReference floats) (reference_at floats) (reference_exact floats) (λ x bs p. (refl, p)) bytes z e
body_takes floats kinds.Seq bytes z e = made floats kinds.Seq (λ type. Seq type) (SpellsReference floats) (reference_at floats) (reference_exact floats) (λ x bs p. (refl, p)) bytes z e
body_takes floats kinds.Rec bytes z e = made floats kinds.Rec (λ fields. Rec fields) (SpellsVec (SpellsUnsigned Candid) (SpellsField floats)) (fields_at floats) (fields_exact floats) (λ x bs p. (refl, p)) bytes z e
body_takes floats kinds.Var bytes z e = made floats kinds.Var (λ cases. Var cases) (SpellsVec (SpellsUnsigned Candid) (SpellsField floats)) (fields_at floats) (fields_exact floats) (λ x bs p. (refl, p)) bytes z e
body_takes floats kinds.Func bytes z e =
    made floats kinds.Func (λ f. Func f.0.0 f.0.1 f.1) (SpellsBoth (SpellsBoth (SpellsTypes floats) (λ _. SpellsTypes floats)) (λ _. SpellsCounted)) (signature_at floats) (signature_exact floats) (λ x bs p. (refl, p)) bytes z e
body_takes floats kinds.Service bytes z e =
    made floats kinds.Service (λ methods. Service methods) (SpellsVec (SpellsUnsigned Candid) (SpellsMethod floats)) (methods_at floats) (methods_exact floats) (λ x bs p. (refl, p)) bytes z e

body_again : (floats : Bool) (entry : Entry) (front rest : List ℕ) → SpellsBody floats entry front → body_at floats (kind_of entry) (front ++ rest) ≡ Some (entry, rest)
unfolding body_at
body_again floats (Opt type) front rest p = rw ((reference_exact floats).again type front rest p) refl
body_again floats (Seq type) front rest p = rw ((reference_exact floats).again type front rest p) refl
body_again floats (Rec fields) front rest p = rw ((fields_exact floats).again fields front rest p) refl
body_again floats (Var cases) front rest p = rw ((fields_exact floats).again cases front rest p) refl
body_again floats (Func args results notes) front rest p = rw ((signature_exact floats).again ((args, results), notes) front rest p) refl
body_again floats (Service methods) front rest p = rw ((methods_exact floats).again methods front rest p) refl

joined : (bytes front middle back rest : List ℕ) → bytes ≡ front ++ middle → middle ≡ back ++ rest → bytes ≡ (front ++ back) ++ rest
joined bytes front middle back rest e f = e ∙ ap (λ (r : List ℕ). front ++ r) f ∙ sym (append_assoc front back rest)

row_exact : (floats : Bool) → Exact (SpellsEntry floats) (row_at floats)
unfolding row_at
row_exact floats = exact_of (SpellsEntry floats) (row_at floats)
    (λ entry front rest p. rw (p.whole, append_assoc p.number p.rest rest, kind_exact.again (kind_of entry) p.number (p.rest ++ rest) p.kind) (body_again floats entry p.rest rest p.body))
    (λ bytes z e.
    let a = bind_some (kind_at bytes) (λ kind. body_at floats kind.0 kind.1) z e in
    let s = taken SpellsKind kind_at kind_exact bytes a.0 a.1 in
    let t = body_takes floats a.0.0 a.0.1 z a.2 in
    record {
      front = s.front ++ t.front;
      parts = joined bytes s.front a.0.1 t.front z.1 s.parts t.parts;
      spelled = record { number = s.front; rest = t.front; whole = refl; kind = subst (λ kind. SpellsKind kind s.front) (sym t.spelled.0) s.spelled; body = t.spelled.1 };
    })

few_exact : Exact SpellsFew few_at
unfolding few_at
few_exact = filter_exact (SpellsUnsigned Candid) (unsigned_reader Candid) (λ n. nat_le n 10000) (unsigned_exact Candid)

abbrev SpellsTable : Bool → Spelling (List Entry)
SpellsTable floats table bytes = (is_table table ≡ true) × SpellsVec SpellsFew (SpellsEntry floats) table bytes

table_exact : (floats : Bool) → Exact (SpellsTable floats) (table_at floats)
unfolding table_at
table_exact floats =
    filter_exact (SpellsVec SpellsFew (SpellsEntry floats)) (vec_at few_at (row_at floats)) is_table (vec_exact SpellsFew (SpellsEntry floats) few_at (row_at floats) few_exact (row_exact floats))

abbrev SpellsArguments : Bool → ℕ → Spelling (List TyRef)
SpellsArguments floats count types bytes = (are_inside count types ≡ true) × SpellsVec SpellsFew (SpellsReference floats) types bytes

arguments_exact : (floats : Bool) (count : ℕ) → Exact (SpellsArguments floats count) (arguments_at floats count)
unfolding arguments_at
arguments_exact floats count =
    filter_exact (SpellsVec SpellsFew (SpellsReference floats)) (vec_at few_at (reference_at floats)) (are_inside count)
    (vec_exact SpellsFew (SpellsReference floats) few_at (reference_at floats) few_exact (reference_exact floats))

magic_again : (rest : List ℕ) → magic_at (magic ++ rest) ≡ Some rest
unfolding magic_at
magic_again rest = refl

magic_takes : (bytes rest : List ℕ) → magic_at bytes ≡ Some rest → bytes ≡ magic ++ rest
unfolding magic_at
magic_takes bytes rest e =
    let g = cond_some (bytes_eq (take 4 bytes) magic) (drop 4 bytes) rest e in
    let front : take 4 bytes ≡ magic = (subst (λ b. Decides b (take 4 bytes ≡ magic)) g.0 (bytes_eq-Decides (take 4 bytes) magic)).0 refl in
    sym (take-append-drop 4 bytes) ∙ ap (λ (f : List ℕ). f ++ drop 4 bytes) front ∙ ap (λ (r : List ℕ). magic ++ r) g.1

-- a header of a pair of a table and types
abbrev pub SpellsHeader : Bool → Spelling (List Entry × List TyRef)
SpellsHeader floats header bytes = IsHeader floats header.0 header.1 bytes

pub header_exact : (floats : Bool) → Exact (SpellsHeader floats) (header_at floats)
unfolding header_at
header_exact floats = exact_of (SpellsHeader floats) (header_at floats)
    (λ header front rest p. rw (
      p.whole,
      append_assoc magic (p.entries ++ p.arguments) rest,
      append_assoc p.entries p.arguments rest,
      magic_again (p.entries ++ (p.arguments ++ rest)),
      (table_exact floats).again header.0 p.entries (p.arguments ++ rest) (p.well_formed, p.table_spelled),
      (arguments_exact floats (length header.0)).again header.1 p.arguments rest (p.inside, p.types_spelled),
    ) refl)
    (λ bytes z e.
    let m = bind_some (magic_at bytes) (λ rest. table_at floats rest >>= λ table. arguments_at floats (length table.0) table.1 >>= λ types. Some ((table.0, types.0), types.1)) z e in
    let a = bind_some (table_at floats m.0) (λ table. arguments_at floats (length table.0) table.1 >>= λ types. Some ((table.0, types.0), types.1)) z m.2 in
    let b = bind_some (arguments_at floats (length a.0.0) a.0.1) (λ types. Some ((a.0.0, types.0), types.1)) z a.2 in
    let s = taken (SpellsTable floats) (table_at floats) (table_exact floats) m.0 a.0 a.1 in
    let t = taken (SpellsArguments floats (length a.0.0)) (arguments_at floats (length a.0.0)) (arguments_exact floats (length a.0.0)) a.0.1 b.0 b.1 in
    subst (Takes (SpellsHeader floats) bytes) (some_is {A = (List Entry × List TyRef) × List ℕ} ((a.0.0, b.0.0), b.0.1) z b.2)
    (record {
      front = magic ++ (s.front ++ t.front);
      parts = joined bytes magic m.0 (s.front ++ t.front) b.0.1 (magic_takes bytes m.0 m.1) (joined m.0 s.front a.0.1 t.front b.0.1 s.parts t.parts);
      spelled = record { entries = s.front; arguments = t.front; whole = refl; table_spelled = s.spelled.1; well_formed = s.spelled.0; types_spelled = t.spelled.1; inside = t.spelled.0 };
    }))
