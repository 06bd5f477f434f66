-- What is written for a header is a header.
use Rattle.std.proofs.Common.{◌≡◌, ℕ, suc, ◌<◌, ◌≤◌, ◌^◌, Bool, true, false, List, [], ◌∷◌, ◌++◌, length, map, Some, refl, sym, ◌∙◌, append_assoc, length-append, arith}
use Rattle.std.specs.Prelude.{ℤ, pos, negsuc, FitsSigned, nat_lt, nat_le, ◌&&◌}
use Rattle.std.specs.Int.{w128}
use Rattle.std.specs.List.{AllByRecursion, flat_map, list_all}
use Rattle.std.specs.Str.{is_utf8}
use Rattle.std.proofs.lemmas.Bool.{ltb-true, lt-ltb, le-leb, leb-true}
use Rattle.std.proofs.lemmas.Int.{fits_signed_from_abs}
use Rattle.std.proofs.lemmas.List.Folds.{list_all-append}
use Rattle.ic_base.specs.Spelling.{Spelling, SpellsMany, SpellsVec}
use Rattle.ic_leb.specs.declared.width.Width.TheVariants.{Candid}
use Rattle.ic_leb.specs.Spelling.{unsigned_spelling, signed_spelling}
use Rattle.ic_leb.specs.Spells.{SpellsUnsigned}
use Rattle.ic_leb.proofs.Sizes.{some_bytes}
use Rattle.ic_leb.proofs.Shortest.{unsigned_spelled, signed_spelled, seven_one}
use Rattle.cd_types.specs.declared.primitive.Primitive.{Primitive}
use Rattle.cd_types.specs.declared.primitive.Primitive.TheVariants as primitives
use Rattle.cd_types.specs.declared.entry.TyRef.{TyRef}
use Rattle.cd_types.specs.declared.entry.TyRef.TheVariants.{Prim, Index}
use Rattle.cd_types.specs.declared.entry.Entry.{Entry}
use Rattle.cd_types.specs.declared.entry.Entry.TheVariants.{Opt, Seq, Rec, Var, Func, Service}
use Rattle.cd_types.specs.IsInside.{is_inside}
use Rattle.cd_types.specs.IsOrdered.{ids_rise_from, names_rise_after, names_rise, is_ordered}
use Rattle.cd_types.specs.IsTable.{names_inside, has_funcs, is_well_formed, is_table}
use Rattle.cd_codec.specs.declared.codes.Kind.{Kind}
use Rattle.cd_codec.specs.declared.codes.Kind.TheVariants as kinds
use Rattle.cd_codec.specs.Basic.{SpellsCounted}
use Rattle.cd_types.specs.PrimitiveCode.{primitive_code}
use Rattle.cd_codec.specs.Codes.{primitive_named, reference_number, kind_named, kind_code, kind_of}
use Rattle.cd_codec.specs.IsHeader.{magic, SpellsReference, SpellsTypes, SpellsField, SpellsMethod, SpellsBody, SpellsKind, SpellsEntry, SpellsFew, are_inside, IsHeader}
use Rattle.cd_codec.specs.Spelling.{counted}
use Rattle.cd_codec.specs.HeaderSpelling.{list_spelling, reference_spelling, field_spelling, method_spelling, kind_spelling, body_spelling, entry_spelling, header_spelling}
use Rattle.cd_types.proofs.FaultLemmas.{both_true}

-- fewer bytes than a count can say
abbrev pub Few : List ℕ → Type 0
Few bytes = length bytes < 2 ^ 128

pub few_front : (front rest : List ℕ) → Few (front ++ rest) → Few front
few_front front rest few = omega (arith, length-append front rest)

few_rest : (front rest : List ℕ) → Few (front ++ rest) → Few rest
few_rest front rest few = omega (arith, length-append front rest)

more_bytes : (front rest : List ℕ) → 0 < length front → 0 < length (front ++ rest)
more_bytes front rest some = omega (arith, length-append front rest)

unsigned_some : (n : ℕ) → 0 < length (unsigned_spelling n)
unfolding unsigned_spelling
unsigned_some n = some_bytes (unsigned_spelling n) (seven_one 128 false (suc n) n (omega arith) (omega arith))

signed_some : (z : ℤ) → 0 < length (signed_spelling z)
unfolding signed_spelling
signed_some (pos n) = some_bytes (signed_spelling (pos n)) (seven_one 64 false (suc n) n (omega arith) (omega arith))
signed_some (negsuc n) = some_bytes (signed_spelling (negsuc n)) (seven_one 64 true (suc n) n (omega arith) (omega arith))

counted_spelled : (s : List ℕ) → Few (counted s) → SpellsCounted s (counted s)
counted_spelled s few = record { count = unsigned_spelling (length s); whole = refl; counted = unsigned_spelled Candid (length s) (few_rest (unsigned_spelling (length s)) s few) }

-- ---- lists

many_spelled : {A : Type 0} (P : Spelling A) (f : A → List ℕ) (Holds : A → Type 0) → ((x : A) → Holds x → Few (f x) → P x (f x))
    → (items : List A) → AllByRecursion Holds items → Few (flat_map f items) → SpellsMany P items (flat_map f items)
many_spelled P f Holds each [] all few = refl
many_spelled P f Holds each (x ∷ items) all few =
    (f x, flat_map f items, refl, each x all.0 (few_front (f x) (flat_map f items) few), many_spelled P f Holds each items all.1 (few_rest (f x) (flat_map f items) few))

-- each item takes a byte
no_more_items : {A : Type 0} (f : A → List ℕ) → ((x : A) → 0 < length (f x)) → (items : List A) → length items ≤ length (flat_map f items)
no_more_items f some [] = omega arith
no_more_items f some (x ∷ items) = omega (arith, some x, no_more_items f some items, length-append (f x) (flat_map f items))

list_spelled : {A : Type 0} (P : Spelling A) (f : A → List ℕ) (Holds : A → Type 0) → ((x : A) → 0 < length (f x)) → ((x : A) → Holds x → Few (f x) → P x (f x))
    → (items : List A) → AllByRecursion Holds items → Few (list_spelling f items) → SpellsVec (SpellsUnsigned Candid) P items (list_spelling f items)
list_spelled P f Holds some each items all few =
    let count = unsigned_spelling (length items) in
    let rest = few_rest count (flat_map f items) few in
    record {
      front = count;
      rest = flat_map f items;
      whole = refl;
      count = unsigned_spelled Candid (length items) (omega (arith, rest, no_more_items f some items));
      values = many_spelled P f Holds each items all rest;
    }

-- a list of at most 10,000 items
short_list_spelled : {A : Type 0} (P : Spelling A) (f : A → List ℕ) (Holds : A → Type 0) → ((x : A) → Holds x → Few (f x) → P x (f x))
    → (items : List A) → length items ≤ 10000 → AllByRecursion Holds items → Few (list_spelling f items) → SpellsVec SpellsFew P items (list_spelling f items)
short_list_spelled P f Holds each items short all few =
    let count = unsigned_spelling (length items) in
    record {
      front = count;
      rest = flat_map f items;
      whole = refl;
      count = (le-leb (length items) 10000 short, unsigned_spelled Candid (length items) (omega arith));
      values = many_spelled P f Holds each items all (few_rest count (flat_map f items) few);
    }

-- what a test says of all, it says of each
each_of : {A : Type 0} (test : A → Bool) (items : List A) → list_all test items ≡ true → AllByRecursion (λ x. test x ≡ true) items
each_of test [] all = tt
each_of test (x ∷ items) all = let parts = both_true (test x) (list_all test items) all in (parts.0, each_of test items parts.1)

-- ---- references

primitive_again : (p : Primitive) → (primitive_named false (primitive_code p) ≡ Some p) × (primitive_code p < 24)
primitive_again primitives.Null = (refl, omega arith)
primitive_again primitives.Bool = (refl, omega arith)
primitive_again primitives.Nat = (refl, omega arith)
primitive_again primitives.Int = (refl, omega arith)
primitive_again primitives.Nat8 = (refl, omega arith)
primitive_again primitives.Nat16 = (refl, omega arith)
primitive_again primitives.Nat32 = (refl, omega arith)
primitive_again primitives.Nat64 = (refl, omega arith)
primitive_again primitives.Int8 = (refl, omega arith)
primitive_again primitives.Int16 = (refl, omega arith)
primitive_again primitives.Int32 = (refl, omega arith)
primitive_again primitives.Int64 = (refl, omega arith)
primitive_again primitives.Text = (refl, omega arith)
primitive_again primitives.Reserved = (refl, omega arith)
primitive_again primitives.Empty = (refl, omega arith)
primitive_again primitives.Principal = (refl, omega arith)

-- a type that a table of at most 10,000 entries has
abbrev IsType : ℕ → TyRef → Type 0
IsType count type = is_inside count type ≡ true

reference_spelled : (count : ℕ) → count ≤ 10000 → (type : TyRef) → IsType count type → SpellsReference false type (reference_spelling type)
reference_spelled count few (Prim p) inside =
    let again = primitive_again p in
    let fits : FitsSigned w128 (negsuc (primitive_code p)) = fits_signed_from_abs w128 (negsuc (primitive_code p)) (omega (arith, again.1)) in
    (negsuc (primitive_code p), rw again.0 refl, signed_spelled Candid (negsuc (primitive_code p)) fits)
reference_spelled count few (Index i) inside =
    let below : i < count = ltb-true i count inside in
    let narrow : nat_lt i (2 ^ 32) ≡ true = lt-ltb i (2 ^ 32) (omega arith) in
    (pos i, rw narrow refl, signed_spelled Candid (pos i) (fits_signed_from_abs w128 (pos i) (omega arith)))

types_spelled : (count : ℕ) → count ≤ 10000 → (types : List TyRef) → list_all (is_inside count) types ≡ true → Few (list_spelling reference_spelling types) → SpellsTypes false types (list_spelling reference_spelling types)
types_spelled count few types inside =
    list_spelled (SpellsReference false) reference_spelling (IsType count) (λ type. signed_some (reference_number type)) (λ type is _. reference_spelled count few type is) types (each_of (is_inside count) types inside)

-- ---- fields

-- a field whose id is below 2^32
abbrev IsField : ℕ → ℕ × TyRef → Type 0
IsField count field = (nat_lt field.0 (2 ^ 32) ≡ true) × IsType count field.1

field_spelled : (count : ℕ) → count ≤ 10000 → (field : ℕ × TyRef) → IsField count field → SpellsField false field (field_spelling field)
field_spelled count few field is = record {
  front = unsigned_spelling field.0;
  rest = reference_spelling field.1;
  whole = refl;
  first = (is.0, unsigned_spelled Candid field.0 (let below : field.0 < 2 ^ 32 = ltb-true field.0 (2 ^ 32) is.0 in omega arith));
  second = reference_spelled count few field.1 is.1;
}

each_field : (count least : ℕ) (fields : List (ℕ × TyRef)) → ids_rise_from least (map (λ f. f.0) fields) ≡ true → list_all (is_inside count) (map (λ f. f.1) fields) ≡ true → AllByRecursion (IsField count) fields
each_field count least [] rise inside = tt
each_field count least (field ∷ fields) rise inside =
    let here = both_true (is_inside count field.1) (list_all (is_inside count) (map (λ (f : ℕ × TyRef). f.1) fields)) inside in
    let ids = both_true (nat_le least field.0 && nat_lt field.0 (2 ^ 32)) (ids_rise_from (suc field.0) (map (λ (f : ℕ × TyRef). f.0) fields)) rise in
    (((both_true (nat_le least field.0) (nat_lt field.0 (2 ^ 32)) ids.0).1, here.0), each_field count (suc field.0) fields ids.1 here.1)

fields_spelled : (count : ℕ) → count ≤ 10000 → (fields : List (ℕ × TyRef)) → ids_rise_from 0 (map (λ f. f.0) fields) ≡ true → list_all (is_inside count) (map (λ f. f.1) fields) ≡ true
    → Few (list_spelling field_spelling fields) → SpellsVec (SpellsUnsigned Candid) (SpellsField false) fields (list_spelling field_spelling fields)
fields_spelled count few fields rise inside =
    list_spelled (SpellsField false) field_spelling (IsField count) (λ field. more_bytes (unsigned_spelling field.0) (reference_spelling field.1) (unsigned_some field.0)) (λ field is _. field_spelled count few field is) fields (each_field count 0 fields rise inside)

-- ---- methods

-- a method whose name is UTF-8
abbrev IsMethod : ℕ → List ℕ × TyRef → Type 0
IsMethod count method = (is_utf8 method.0 ≡ true) × IsType count method.1

method_spelled : (count : ℕ) → count ≤ 10000 → (method : List ℕ × TyRef) → IsMethod count method → Few (method_spelling method) → SpellsMethod false method (method_spelling method)
method_spelled count few method is small = record {
  front = counted method.0;
  rest = reference_spelling method.1;
  whole = refl;
  first = (is.0, counted_spelled method.0 (few_front (counted method.0) (reference_spelling method.1) small));
  second = reference_spelled count few method.1 is.1;
}

each_method_after : (count : ℕ) (last : List ℕ) (methods : List (List ℕ × TyRef)) → names_rise_after last (map (λ m. m.0) methods) ≡ true → list_all (is_inside count) (map (λ m. m.1) methods) ≡ true → AllByRecursion (IsMethod count) methods
each_method_after count last [] rise inside = tt
each_method_after count last (method ∷ methods) rise inside =
    let here = both_true (is_inside count method.1) (list_all (is_inside count) (map (λ (m : List ℕ × TyRef). m.1) methods)) inside in
    let names = both_true _ (names_rise_after method.0 (map (λ (m : List ℕ × TyRef). m.0) methods)) rise in
    (((both_true _ (is_utf8 method.0) names.0).1, here.0), each_method_after count method.0 methods names.1 here.1)

each_method : (count : ℕ) (methods : List (List ℕ × TyRef)) → names_rise (map (λ m. m.0) methods) ≡ true → list_all (is_inside count) (map (λ m. m.1) methods) ≡ true → AllByRecursion (IsMethod count) methods
each_method count [] rise inside = tt
each_method count (method ∷ methods) rise inside =
    let here = both_true (is_inside count method.1) (list_all (is_inside count) (map (λ (m : List ℕ × TyRef). m.1) methods)) inside in
    let names = both_true (is_utf8 method.0) (names_rise_after method.0 (map (λ (m : List ℕ × TyRef). m.0) methods)) rise in
    ((names.0, here.0), each_method_after count method.0 methods names.1 here.1)

method_some : (method : List ℕ × TyRef) → 0 < length (method_spelling method)
method_some method = more_bytes (counted method.0) (reference_spelling method.1) (more_bytes (unsigned_spelling (length method.0)) method.0 (unsigned_some (length method.0)))

methods_spelled : (count : ℕ) → count ≤ 10000 → (methods : List (List ℕ × TyRef)) → names_rise (map (λ m. m.0) methods) ≡ true → list_all (is_inside count) (map (λ m. m.1) methods) ≡ true
    → Few (list_spelling method_spelling methods) → SpellsVec (SpellsUnsigned Candid) (SpellsMethod false) methods (list_spelling method_spelling methods)
methods_spelled count few methods rise inside = list_spelled (SpellsMethod false) method_spelling (IsMethod count) method_some (method_spelled count few) methods (each_method count methods rise inside)

-- ---- entries

kind_again : (kind : Kind) → (kind_named (negsuc (kind_code kind)) ≡ Some kind) × (kind_code kind < 24)
kind_again kinds.Opt = (refl, omega arith)
kind_again kinds.Seq = (refl, omega arith)
kind_again kinds.Rec = (refl, omega arith)
kind_again kinds.Var = (refl, omega arith)
kind_again kinds.Func = (refl, omega arith)
kind_again kinds.Service = (refl, omega arith)

kind_spelled : (kind : Kind) → SpellsKind kind (kind_spelling kind)
kind_spelled kind =
    let again = kind_again kind in
    (negsuc (kind_code kind), again.0, signed_spelled Candid (negsuc (kind_code kind)) (fits_signed_from_abs w128 (negsuc (kind_code kind)) (omega (arith, again.1))))

body_spelled : (count : ℕ) → count ≤ 10000 → (entry : Entry) → names_inside count entry ≡ true → is_ordered entry ≡ true → Few (body_spelling entry) → SpellsBody false entry (body_spelling entry)
body_spelled count few (Opt type) inside ordered small = reference_spelled count few type (both_true (is_inside count type) true inside).0
body_spelled count few (Seq type) inside ordered small = reference_spelled count few type (both_true (is_inside count type) true inside).0
body_spelled count few (Rec fields) inside ordered small = fields_spelled count few fields ordered inside small
body_spelled count few (Var cases) inside ordered small = fields_spelled count few cases ordered inside small
body_spelled count few (Func args results notes) inside ordered small =
    let a = list_spelling reference_spelling args in
    let r = list_spelling reference_spelling results in
    let both = both_true (list_all (is_inside count) args) (list_all (is_inside count) results) (sym (list_all-append (is_inside count) args results) ∙ inside) in
    let rest : Few (r ++ counted notes) = few_rest a (r ++ counted notes) small in
    record {
      front = a ++ r;
      rest = counted notes;
      whole = sym (append_assoc a r (counted notes));
      first = record { front = a; rest = r; whole = refl; first = types_spelled count few args both.0 (few_front a (r ++ counted notes) small); second = types_spelled count few results both.1 (few_front r (counted notes) rest) };
      second = counted_spelled notes (few_rest r (counted notes) rest);
    }
body_spelled count few (Service methods) inside ordered small = methods_spelled count few methods ordered inside small

-- an entry of a well formed table
abbrev IsEntry : List Entry → Entry → Type 0
IsEntry table entry = is_well_formed table entry ≡ true

entry_spelled : (table : List Entry) → length table ≤ 10000 → (entry : Entry) → IsEntry table entry → Few (entry_spelling entry) → SpellsEntry false entry (entry_spelling entry)
entry_spelled table few entry well small =
    let count = length table in
    let parts = both_true (names_inside count entry && is_ordered entry) (has_funcs table entry) well in
    let both = both_true (names_inside count entry) (is_ordered entry) parts.0 in
    record {
      number = kind_spelling (kind_of entry);
      rest = body_spelling entry;
      whole = refl;
      kind = kind_spelled (kind_of entry);
      body = body_spelled count few entry both.0 both.1 (few_rest (kind_spelling (kind_of entry)) (body_spelling entry) small);
    }

-- what is written for a well formed table and types inside it is their header
pub header_spelled : (table : List Entry) (types : List TyRef) → is_table table ≡ true → length types ≤ 10000 → are_inside (length table) types ≡ true → Few (header_spelling table types)
    → IsHeader false table types (header_spelling table types)
header_spelled table types well short inside small =
    let t = list_spelling entry_spelling table in
    let a = list_spelling reference_spelling types in
    let parts = both_true (nat_le (length table) 10000) (list_all (is_well_formed table) table) well in
    let few : length table ≤ 10000 = leb-true (length table) 10000 parts.0 in
    let rest : Few (t ++ a) = few_rest magic (t ++ a) small in
    record {
      entries = t;
      arguments = a;
      whole = refl;
      table_spelled = short_list_spelled (SpellsEntry false) entry_spelling (IsEntry table) (entry_spelled table few) table few (each_of (is_well_formed table) table parts.1) (few_front t a rest);
      well_formed = well;
      types_spelled = short_list_spelled (SpellsReference false) reference_spelling (IsType (length table)) (λ type is _. reference_spelled (length table) few type is) types short (each_of (is_inside (length table)) types inside) (few_rest t a rest);
      inside = inside;
    }
