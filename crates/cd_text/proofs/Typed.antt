-- What a text says has the expected types.
use Rattle.std.proofs.Common.{◌≡◌, ℕ, zero, suc, ◌+◌, ◌*◌, ◌≤◌, ◌<◌, ◌^◌, Bool, true, false, List, [], ◌∷◌, ◌++◌, length, map, take, get_or, Option, Some, None, refl, sym, ap, subst, ◌∙◌, inl, inr, arith}
use Rattle.std.specs.Prelude.{ℤ, pos, negsuc, ◌==◌, codes, if◌then◌else◌, slice_get, FitsSigned, IsTrue, Result, Ok, Err, IfOk}
use Rattle.std.specs.Int.Digits.{number_from_digits}
use Rattle.std.specs.Int.Signed.{mag}
use mir.Val.{bits}
use Rattle.std.specs.Int.{Width, w8, w16, w32, w64, w128, byte_len, to_le_bytes, cast_unsigned}
use Rattle.std.specs.List.{AllByRecursion}
use Rattle.std.specs.Str.{is_utf8}
use Rattle.std.specs.Option.{option_or}
use Rattle.std.proofs.lemmas.Bool.{eqb-true, ltb-true}
use Rattle.std.proofs.lemmas.Str.{is_utf8-from_IsUtf8}
use Rattle.std.proofs.lemmas.Int.{to_z-of_z}
use Rattle.std.proofs.lemmas.List.{length-append, length-map, take_all}
use Rattle.std.proofs.lemmas.Str.{length-encode, len_utf8_bounds}
use Rattle.ic_base.specs.Reader.{◌>>=◌}
use Rattle.ic_base.proofs.Steps.{bind_some, some_is}
use Rattle.ic_leb.specs.declared.width.Width.TheVariants.{Candid}
use Rattle.ic_leb.specs.Spelling.{unsigned_spelling, signed_spelling}
use Rattle.ic_leb.proofs.Shortest.{unsigned_spelled, signed_spelled}
use Rattle.ic_principal.proofs.PrincipalLaws.{principal_of-tells}
use Rattle.cd_types.specs.declared.primitive.Primitive.{Primitive}
use Rattle.cd_types.specs.declared.primitive.Primitive.TheVariants as primitives
use Rattle.cd_types.specs.declared.entry.TyRef.{TyRef}
use Rattle.cd_types.specs.declared.entry.TyRef.TheVariants.{Prim, Index}
use Rattle.cd_types.specs.declared.entry.Entry.{Entry}
use Rattle.cd_types.specs.declared.entry.Entry.TheVariants.{Opt, Seq, Rec, Var, Func, Service}
use Rattle.cd_types.specs.IsOrdered.{is_ordered}
use Rattle.cd_types.specs.IsTable.{is_table}
use Rattle.cd_types.proofs.EntryLemmas.{entry_ordered, few_ids}
use Rattle.cd_types.specs.Shape.{Shape, primitive, compound, dangling, entry_shape, shape}
use Rattle.cd_codec.specs.Content.{Content, Plain, none, contents_of, parts_of, count_of}
use Rattle.cd_codec.specs.AreValues.{HasTypes}
use Rattle.cd_codec.specs.Basic.{SpellsInteger, SpellsCounted, SpellsText, SpellsPrincipal}
use Rattle.cd_codec.specs.Missing.{missing}
use Rattle.cd_codec.specs.Plain.{HasShape, SpellsPlain, bool_byte}
use Rattle.cd_codec.specs.Wire.{Wire, WireAll, WireParts}
use Rattle.cd_tokens.specs.declared.token.Token.{Token as Held}
use Rattle.cd_tokens.specs.View.{token_view, token_views}
use Rattle.cd_tokens.specs.Token.{Token, run, quoted, mark, arrow, IsToken}
use Rattle.cd_tokens.specs.Label.{IsNameOf}
use Rattle.cd_tokens.specs.Lexed.{IsTokens}
use Rattle.cd_tokens.specs.Unescaped.{Part, byte, letter, pair, scalar, SayParts, SaysPart, Unescaped}
use Rattle.cd_tokens.proofs.Firsts.{some_byte}
use Rattle.cd_tokens.proofs.Labels.{name_utf8}
use Rattle.cd_text.specs.Said.{Saying, Annotated, bare, annotated, SaysParts, InBraces, no_place, SaysByte, SaysBlob, type_of, SaysField, labelled, unlabelled, value_of, left_out, filled, place_of, SaysCase, valued, alone, SaysShape, Says}
use Rattle.cd_tokens.specs.ReadNumeral.{is_between}
use Rattle.cd_text.specs.Words.{name_of}
use Rattle.cd_text.specs.SaysPlain.{SaysPlain, IsPrincipalText}
use Rattle.cd_text.specs.Room.{size, room}
use Rattle.cd_text.specs.Whole.{SaysArgument, SaysArguments, Said}
use Rattle.cd_plain.proofs.Pieces.{seen_more}
use Rattle.cd_text.proofs.Arguments.{said_spoken}
use Rattle.cd_text.proofs.Values.{are_fields, fields_distinct}

-- ---- how much the tokens of a text may say

-- what they say can be spelled
abbrev Small : List Token → Type 0
Small tokens = room tokens < 2 ^ 128

room_both : (front rest : List Token) → room (front ++ rest) ≡ room front + room rest
room_both [] rest = omega arith
room_both (t ∷ front) rest = let n = room_both front rest in omega (arith, n)

-- the tokens of the program, one more at a time
pub room_seen : (items : List Held) (i : ℕ) (x : Held) → i < length items → x ≡ get_or items i x → room (token_views (take i items)) ≤ length (token_views (take i items)) * 2 ^ 63 → size (token_view x) < 2 ^ 63
    → room (token_views (take (i + 1) items)) ≤ length (token_views (take (i + 1) items)) * 2 ^ 63
room_seen items i x below is all one =
    let more = seen_more token_view items i x below ∙ ap (λ (y : Held). token_views (take i items) ++ token_view y ∷ []) (sym is) in
    let n = ap room more ∙ room_both (token_views (take i items)) (token_view x ∷ []) in
    let m = ap length more ∙ length-append (token_views (take i items)) (token_view x ∷ []) in
    omega (arith, n, m, all, one)

pub room_all : (items : List Held) (i : ℕ) → length items < 2 ^ 63 → length items ≤ i → room (token_views (take i items)) ≤ length (token_views (take i items)) * 2 ^ 63 → Small (token_views items)
room_all items i few past all =
    let whole : room (token_views items) ≤ length (token_views items) * 2 ^ 63 = subst (λ xs. room (token_views xs) ≤ length (token_views xs) * 2 ^ 63) (take_all i items past) all in
    let n = length-map items token_view in
    omega (arith, n, few, whole)

token_room : (t : Token) (front : List ℕ) → IsToken t front → suc (size t) ≤ 2 * length front
token_room (run r) front is = let n = some_byte (run r) front is in let m = ap length is.1 in omega (arith, n, m)
token_room (quoted s) front is = let n = ap length is.1 in let m = length-append s (34 ∷ []) in omega (arith, n, m)
token_room (mark m) front is = let n = ap length is.1 in omega (arith, n)
token_room arrow front is = let n = some_byte arrow front is in omega (arith, n)

text_room : (comments : Bool) (tokens : List Token) (bytes : List ℕ) → IsTokens comments tokens bytes → room tokens ≤ 2 * length bytes
text_room comments [] bytes is = omega arith
text_room comments (t ∷ tokens) bytes is =
    let n = ap length is.whole in
    let m = length-append is.gap (is.front ++ is.rest) in
    let k = length-append is.front is.rest in
    let first = token_room t is.front is.is_token in
    let others = text_room comments tokens is.rest is.follows in
    omega (arith, n, m, k, first, others)

part_short : (p : Part) (said written : List ℕ) → SaysPart p said written → length said ≤ length written
part_short (byte b) said written is = let n = ap length is.3 in let m = ap length is.4 in omega (arith, n, m)
part_short (letter b) said written is = let n = ap length is.2 in let m = ap length is.3 in omega (arith, n, m)
part_short (pair d e) said written is = let n = ap length is.3 in let m = ap length is.1 in omega (arith, n, m)
part_short (scalar ds) said written is =
    let n = ap length is.6 in
    let m = ap length is.1 in
    let k = length-append is.0 (125 ∷ []) in
    let c = number_from_digits 16 ds in
    let l = length-encode c in
    let most = (len_utf8_bounds c).1 in
    omega (arith, n, m, k, l, most)

parts_short : (ps : List Part) (said written : List ℕ) → SayParts ps said written → length said ≤ length written
parts_short [] said written is = let n = ap length is.0 in omega (arith, n)
parts_short (p ∷ ps) said written is =
    let n = ap length is.4 in
    let m = ap length is.5 in
    let k = length-append is.0 is.1 in
    let l = length-append is.2 is.3 in
    let first = part_short p is.0 is.2 is.6 in
    let others = parts_short ps is.1 is.3 is.7 in
    omega (arith, n, m, k, l, first, others)

said_short : (said written : List ℕ) → Unescaped said written → length said ≤ length written
said_short said written is = parts_short is.0 said written is.1

-- ---- values without parts

counted_bytes : (s : List ℕ) → length s < 2 ^ 128 → SpellsCounted s (unsigned_spelling (length s) ++ s)
counted_bytes s small = record { count = unsigned_spelling (length s); whole = refl; counted = unsigned_spelled Candid (length s) small }

principal_bytes : (p written : List ℕ) → IsPrincipalText p written → SpellsPrincipal p (1 ∷ (unsigned_spelling (length p) ++ p))
principal_bytes p written is =
    let short = (principal_of-tells is.0 p is.2).0.short in (unsigned_spelling (length p) ++ p, refl, (short, counted_bytes p (omega (arith, short))))

-- the value is one of the type, and some bytes spell it
abbrev IsSpelled : Shape → Plain → Type 0
IsSpelled s u = HasShape u s × ((bytes : List ℕ) × SpellsPlain u bytes)

between_mag : (half : ℕ) (z : ℤ) → is_between half z ≡ true → mag z < half
between_mag half (pos n) e = ltb-true n half e
between_mag half (negsuc n) e = ltb-true n half e

bits_below : (w : Width) (half : ℕ) (z : ℤ) → half ≤ 2 ^ bits w → is_between half z ≡ true → cast_unsigned w z < 2 ^ bits w
bits_below w half (pos n) room e = let h = ltb-true n half e in omega (arith, h, room)
bits_below w half (negsuc n) room e = let h = ltb-true n half e in omega (arith, h, room)

integer_spelled : (w : Width) (half : ℕ) (z : ℤ) → FitsSigned w z → cast_unsigned w z < 256 ^ byte_len w → (bytes : List ℕ) × SpellsInteger w z bytes
integer_spelled w half z fits less = (to_le_bytes w (cast_unsigned w z), (cast_unsigned w z, to_z-of_z w z fits, (less, refl)))

method_spelled : (method : List ℕ) (t : Token) → size t < 2 ^ 128 → IsNameOf method t → SpellsText method (unsigned_spelling (length method) ++ method)
method_spelled method (run r) small is =
    let n = ap length is.1 in
    (ap is_utf8 is.1 ∙ is_utf8-from_IsUtf8 r (name_utf8 r is.0), counted_bytes method (omega (arith, n, small)))
method_spelled method (quoted s) small is = let n = said_short method s is.0 in (is.1, counted_bytes method (omega (arith, n, small)))
method_spelled method (mark m) small is = absurd is
method_spelled method arrow small is = absurd is

plain_spelled : (p : Primitive) (u : Plain) (tokens : List Token) → Small tokens → SaysPlain p u tokens → IsSpelled (primitive p) u
plain_spelled primitives.Null u tokens small is = subst (IsSpelled (primitive primitives.Null)) (sym is.0) (refl, ([], refl))
plain_spelled primitives.Reserved u tokens small is = subst (IsSpelled (primitive primitives.Reserved)) (sym is.0) (refl, ([], refl))
plain_spelled primitives.Bool u tokens small is = elim is [
  | inl h ↦ subst (IsSpelled (primitive primitives.Bool)) (sym h.0) (refl, (bool_byte true ∷ [], refl))
  | inr h ↦ subst (IsSpelled (primitive primitives.Bool)) (sym h.0) (refl, (bool_byte false ∷ [], refl))
]
plain_spelled primitives.Nat u tokens small is = subst (IsSpelled (primitive primitives.Nat)) (sym is.1) (refl, (unsigned_spelling is.0, unsigned_spelled Candid is.0 is.2.3))
plain_spelled primitives.Nat8 u tokens small is = subst (IsSpelled (primitive primitives.Nat8)) (sym is.1) (refl, (to_le_bytes w8 is.0, (is.2.3, refl)))
plain_spelled primitives.Nat16 u tokens small is = subst (IsSpelled (primitive primitives.Nat16)) (sym is.1) (refl, (to_le_bytes w16 is.0, (is.2.3, refl)))
plain_spelled primitives.Nat32 u tokens small is = subst (IsSpelled (primitive primitives.Nat32)) (sym is.1) (refl, (to_le_bytes w32 is.0, (is.2.3, refl)))
plain_spelled primitives.Nat64 u tokens small is = subst (IsSpelled (primitive primitives.Nat64)) (sym is.1) (refl, (to_le_bytes w64 is.0, (is.2.3, refl)))
plain_spelled primitives.Int u tokens small is =
    let z = is.0 in
    let fits : FitsSigned w128 z = record { sfits = between_mag (2 ^ 127) z is.2.3 } in
    subst (IsSpelled (primitive primitives.Int)) (sym is.1) (refl, (signed_spelling z, signed_spelled Candid z fits))
plain_spelled primitives.Int8 u tokens small is =
    let z = is.0 in
    subst (IsSpelled (primitive primitives.Int8)) (sym is.1) (refl, (integer_spelled w8 (2 ^ 7) z (record { sfits = between_mag (2 ^ 7) z is.2.3 }) (bits_below w8 (2 ^ 7) z (omega arith) is.2.3)))
plain_spelled primitives.Int16 u tokens small is =
    let z = is.0 in
    subst (IsSpelled (primitive primitives.Int16)) (sym is.1) (refl, (integer_spelled w16 (2 ^ 15) z (record { sfits = between_mag (2 ^ 15) z is.2.3 }) (bits_below w16 (2 ^ 15) z (omega arith) is.2.3)))
plain_spelled primitives.Int32 u tokens small is =
    let z = is.0 in
    subst (IsSpelled (primitive primitives.Int32)) (sym is.1) (refl, (integer_spelled w32 (2 ^ 31) z (record { sfits = between_mag (2 ^ 31) z is.2.3 }) (bits_below w32 (2 ^ 31) z (omega arith) is.2.3)))
plain_spelled primitives.Int64 u tokens small is =
    let z = is.0 in
    subst (IsSpelled (primitive primitives.Int64)) (sym is.1) (refl, (integer_spelled w64 (2 ^ 63) z (record { sfits = between_mag (2 ^ 63) z is.2.3 }) (bits_below w64 (2 ^ 63) z (omega arith) is.2.3)))
plain_spelled primitives.Text u tokens small is =
    let s = is.0 in
    let n = said_short s is.1 is.4.0 in
    let m = ap room is.3 in
    subst (IsSpelled (primitive primitives.Text)) (sym is.2) (refl, (unsigned_spelling (length s) ++ s, (is.4.1, counted_bytes s (omega (arith, n, m, small)))))
plain_spelled primitives.Principal u tokens small is =
    subst (IsSpelled (primitive primitives.Principal)) (sym is.1) (refl, (1 ∷ (unsigned_spelling (length is.0) ++ is.0), principal_bytes is.0 is.2.0 is.2.2))
plain_spelled primitives.Empty u tokens small is = absurd is

-- ---- values

-- the value has the type: some bytes spell it
abbrev pub IsTyped : List Entry → TyRef → Content → Type 0
IsTyped table type v = (bytes : List ℕ) × Wire table type v bytes

annotated_parts : {Q : Type 0} (type : TyRef) (P : List Token → Type 0) (tokens : List Token) → Small tokens → ((front : List Token) → Small front → P front → Q) → Annotated type P tokens → Q
annotated_parts type P tokens small make (bare said) = make tokens small said
annotated_parts type P tokens small make (annotated p front is whole said) =
    let n = ap room whole ∙ room_both front (mark 58 ∷ run (name_of p) ∷ []) in make front (omega (arith, n, small)) said

-- what holds of each part, and how many there are
parts_each : {A : Type 0} (Q : A → Type 0) (separator end : Token) (P : ℕ → Saying A) (step : A → ℕ) → ((next : ℕ) (x : A) (front : List Token) → Small front → P next x front → Q x)
    → (xs : List A) (next : ℕ) (tokens : List Token) → Small tokens → SaysParts separator end P step next xs tokens → AllByRecursion Q xs × (length xs ≤ room tokens)
parts_each Q separator end P step make [] next tokens small is = (tt, omega arith)
parts_each Q separator end P step make (x ∷ xs) next tokens small is =
    let n = ap room is.2 ∙ room_both is.0 is.1 in
    let first = make next x is.0 (omega (arith, n, small)) is.3 in
    elim is.4 [
      | inl last ↦ rw last.0 (let m = ap room last.1 in ((first, tt), omega (arith, n, m)))
      | inr more ↦
          let m = ap room more.1 in
          let others = parts_each Q separator end P step make xs (step x) more.0 (omega (arith, n, m, small)) more.2 in
          ((first, others.0), omega (arith, n, m, others.1))
    ]

braces_each : {A : Type 0} (Q : A → Type 0) (word : List ℕ) (P : ℕ → Saying A) (step : A → ℕ) → ((next : ℕ) (x : A) (front : List Token) → Small front → P next x front → Q x)
    → (xs : List A) (tokens : List Token) → Small tokens → InBraces word P step xs tokens → AllByRecursion Q xs × (length xs < 2 ^ 128)
braces_each Q word P step make xs tokens small is =
    let n = ap room is.1 in
    let r = parts_each Q (mark 59) (mark 125) P step make xs 0 is.0 (omega (arith, n, small)) is.2 in
    (r.0, omega (arith, n, small, r.1))

blob_small : (item : TyRef) (depth : ℕ) (bytes : List ℕ) (tokens : List Token) → Small tokens → SaysBlob item depth bytes tokens → length bytes < 2 ^ 128
blob_small item depth bytes tokens small is = elim is [
  | inl h ↦ let n = said_short bytes h.0 h.2 in let m = ap room h.1 in omega (arith, n, m, small)
  | inr h ↦ (braces_each (λ b. Unit {0}) (codes "vec") (λ next b. Annotated item (SaysByte item depth b)) no_place (λ next b front s said. tt) bytes tokens small h).1
]

count_is : (us : List Content) → count_of (contents_of us) ≡ length us
count_is [] = refl
count_is (u ∷ us) = ap suc (count_is us)

all_wire : (table : List Entry) (item : TyRef) (us : List Content) → AllByRecursion (IsTyped table item) us → (out : List ℕ) × WireAll table item (contents_of us) out
all_wire table item [] all = ([], refl)
all_wire table item (u ∷ us) all = let rest = all_wire table item us all.1 in (all.0.0 ++ rest.0, (all.0.0, rest.0, refl, all.0.1, rest.1))

-- ---- records

-- each field has its type among these
abbrev pub Inside : List (ℕ × TyRef) → List (ℕ × TyRef) → Type 0
Inside all fields = AllByRecursion (λ f. type_of all f.0 ≡ Some f.1) fields

none_some : {A : Type 0} (x : A) (read : Option A) → read ≡ None → read ≡ Some x → ⊥
none_some x read e f = cc

same_id : (n : ℕ) → (n == n) ≡ true
same_id n = grind arith

still_inside : (f : ℕ × TyRef) (all fields : List (ℕ × TyRef)) → type_of all f.0 ≡ None → Inside all fields → Inside (f ∷ all) fields
still_inside f all [] other is = tt
still_inside f all (g ∷ fields) other is =
    elim (f.0 == g.0) as (λ (b : Bool). (f.0 == g.0) ≡ b → Inside (f ∷ all) (g ∷ fields)) [
      | true ↦ λ same. absurd (none_some g.1 (type_of all f.0) other (ap (type_of all) (eqb-true f.0 g.0 same) ∙ is.0))
      | false ↦ λ apart. (rw apart is.0, still_inside f all fields other is.1)
    ] refl

pub all_inside : (fields : List (ℕ × TyRef)) → are_fields fields → Inside fields fields
all_inside [] are = tt
all_inside (f ∷ fields) are = (rw (same_id f.0) refl, still_inside f fields fields are.0 (all_inside fields are.1))

-- a field that is said has the type of its id
abbrev IsField : List Entry → List (ℕ × TyRef) → ℕ × Content → Type 0
IsField table fields f = (type : TyRef) × (type_of fields f.0 ≡ Some type) × IsTyped table type f.1

said_typed : (table : List Entry) (fields : List (ℕ × TyRef)) (said : List (ℕ × Content)) (id : ℕ) (type : TyRef) (v : Content) → AllByRecursion (IsField table fields) said → type_of fields id ≡ Some type → value_of said id ≡ Some v → IsTyped table type v
said_typed table fields [] id type v each is e = absurd cc
said_typed table fields (x ∷ said) id type v each is e =
    elim (id == x.0) as (λ (b : Bool). (id == x.0) ≡ b → (if b then Some x.1 else value_of said id) ≡ Some v → IsTyped table type v) [
      | true ↦ λ same e.
          let h = each.0 in
          let type_is : h.0 ≡ type = some_is {A = TyRef} h.0 type (sym h.1 ∙ ap (type_of fields) (sym (eqb-true id x.0 same)) ∙ is) in
          subst (IsTyped table type) (some_is {A = Content} x.1 v e) (subst (λ t. IsTyped table t x.1) type_is h.2)
      | false ↦ λ apart e. said_typed table fields said id type v each.1 is e
    ] refl e

missing_typed : (table : List Entry) (type : TyRef) (s : Shape) (v : Content) → shape table type ≡ s → missing s ≡ Some v → IsTyped table type v
missing_typed table type (primitive primitives.Null) v is e = subst (IsTyped table type) (some_is _ v e) ([], (is, refl))
missing_typed table type (primitive primitives.Reserved) v is e = subst (IsTyped table type) (some_is _ v e) ([], (is, refl))
missing_typed table type (compound (Opt inner)) v is e = subst (IsTyped table type) (some_is none v e) (0 ∷ [], (inner, is, refl))
missing_typed table type _ v is e = absurd cc

left_typed : (table : List Entry) (depth : ℕ) (type : TyRef) (v : Content) → left_out depth (shape table type) ≡ Some v → IsTyped table type v
left_typed table zero type v e = absurd cc
left_typed table (suc depth) type v e = missing_typed table type (shape table type) v refl e

or_typed : (table : List Entry) (type : TyRef) (said out : Option Content) (v : Content) → ((u : Content) → said ≡ Some u → IsTyped table type u) → ((u : Content) → out ≡ Some u → IsTyped table type u) → option_or said out ≡ Some v → IsTyped table type v
or_typed table type None out v a b e = b v e
or_typed table type (Some u) out v a b e = a v e

filled_typed : (depth : ℕ) (table : List Entry) (said : List (ℕ × Content)) (all : List (ℕ × TyRef)) → AllByRecursion (IsField table all) said → (fields : List (ℕ × TyRef)) → Inside all fields
    → (ps : List (ℕ × Content)) → filled depth table said fields ≡ Some ps → (out : List ℕ) × WireParts table fields (parts_of ps) out
filled_typed depth table said all each [] inside ps e = subst (λ qs. (out : List ℕ) × WireParts table [] (parts_of qs) out) (some_is {A = List (ℕ × Content)} [] ps e) ([], (refl, refl))
filled_typed depth table said all each (f ∷ fields) inside ps e =
    let a = bind_some (option_or (value_of said f.0) (left_out depth (shape table f.1))) (λ v. filled depth table said fields >>= λ vs. Some ((f.0, v) ∷ vs)) ps e in
    let b = bind_some (filled depth table said fields) (λ vs. Some ((f.0, a.0) ∷ vs)) ps a.2 in
    let first = or_typed table f.1 (value_of said f.0) (left_out depth (shape table f.1)) a.0 (λ u is. said_typed table all said f.0 f.1 u each inside.0 is) (λ u is. left_typed table depth f.1 u is) a.1 in
    let rest = filled_typed depth table said all each fields inside.1 b.0 b.1 in
    subst (λ qs. (out : List ℕ) × WireParts table (f ∷ fields) (parts_of qs) out) (some_is {A = List (ℕ × Content)} ((f.0, a.0) ∷ b.0) ps b.2)
    (first.0 ++ rest.0, (f, fields, refl, refl, first.0, rest.0, refl, first.1, rest.1))

-- ---- variants

-- a case at its place
pub case_there : (cases : List (ℕ × TyRef)) (id place : ℕ) (type : TyRef) → place_of cases id ≡ Some place → type_of cases id ≡ Some type → (slice_get cases place ≡ Some (id, type)) × (place < length cases)
case_there [] id place type at is = absurd cc
case_there (c ∷ cases) id place type at is =
    elim (c.0 == id) as (λ (b : Bool). (c.0 == id) ≡ b → (if b then Some 0 else (place_of cases id >>= λ k. Some (suc k))) ≡ Some place → (if b then Some c.1 else type_of cases id) ≡ Some type
    → (slice_get (c ∷ cases) place ≡ Some (id, type)) × (place < length (c ∷ cases))) [
      | true ↦ λ same at is.
          let zero_is : 0 ≡ place = some_is {A = ℕ} 0 place at in
          let here : (c.0, c.1) ≡ (id, type) = ap (λ k. (k, c.1)) (eqb-true c.0 id same) ∙ ap (λ t. (id, t)) (some_is {A = TyRef} c.1 type is) in
          rw (sym zero_is) (ap (λ (x : ℕ × TyRef). Some x) here, omega arith)
      | false ↦ λ apart at is.
          let a = bind_some (place_of cases id) (λ k. Some (suc k)) place at in
          let r = case_there cases id a.0 type a.1 is in
          let place_is : suc a.0 ≡ place = some_is {A = ℕ} (suc a.0) place a.2 in
          rw (sym place_is) (r.0, omega (arith, r.1))
    ] refl at is

-- the entry that a type stands for is in order
pub shape_ordered : (table : List Entry) → IsTrue (is_table table) → (type : TyRef) (entry : Entry) → shape table type ≡ compound entry → is_ordered entry ≡ true
shape_ordered table is (Prim p) entry e = absurd cc
shape_ordered table is (Index i) entry e = entry_ordered table i entry is (looked_up (slice_get table i) entry e)
  where
    looked_up : (o : Option Entry) (entry : Entry) → entry_shape o ≡ compound entry → o ≡ Some entry
    looked_up None entry e = absurd cc
    looked_up (Some other) entry e = let same : other ≡ entry = cc in ap (λ (x : Entry). Some x) same

-- what is said within a depth has its type
abbrev TypesAt : List Entry → ℕ → Type 0
TypesAt table depth = (type : TyRef) (v : Content) (tokens : List Token) → Small tokens → Says table depth type v tokens → IsTyped table type v

field_typed : (table : List Entry) (depth : ℕ) → TypesAt table depth → (fields : List (ℕ × TyRef)) (next : ℕ) (f : ℕ × Content) (tokens : List Token) → Small tokens → SaysField (Says table depth) fields next f tokens → IsField table fields f
field_typed table depth law fields next f tokens small (labelled type label rest is_type is_label whole said) =
    let n = ap room whole in
    (type, is_type, annotated_parts type (Says table depth type f.1) rest (omega (arith, n, small)) (λ inner less p. law type f.1 inner less p) said)
field_typed table depth law fields next f tokens small (unlabelled type is_type is_next said) =
    (type, is_type, annotated_parts type (Says table depth type f.1) tokens small (λ inner less p. law type f.1 inner less p) said)

case_typed : (table : List Entry) (depth : ℕ) → TypesAt table depth → (type : TyRef) (v : Content) (tokens : List Token) → Small tokens → SaysCase depth table (Says table depth) type v tokens → IsTyped table type v
case_typed table depth law type v tokens small (valued rest whole said) =
    let n = ap room whole in annotated_parts type (Says table depth type v) rest (omega (arith, n, small)) (λ inner less p. law type v inner less p) said
case_typed table depth law type v tokens small (alone less deep is_null is nothing) = subst (IsTyped table type) (sym is) ([], (is_null, refl))

shape_typed : (table : List Entry) → IsTrue (is_table table) → (depth : ℕ) → TypesAt table depth → (type : TyRef) (s : Shape) → shape table type ≡ s → (v : Content) (tokens : List Token) → Small tokens → SaysShape depth table (Says table depth) s v tokens → IsTyped table type v
shape_typed table formed depth law type (primitive p) at v tokens small is =
    let u = plain_spelled p is.0 tokens small is.2 in
    subst (IsTyped table type) (sym is.1) (u.1.0, (subst (HasShape is.0) (sym at) u.0, u.1.1))
shape_typed table formed depth law type (compound (Opt inner)) at v tokens small (inl is) = subst (IsTyped table type) (sym is.0) (0 ∷ [], (inner, at, refl))
shape_typed table formed depth law type (compound (Opt inner)) at v tokens small (inr is) =
    let n = ap room is.3 in
    let part = law inner is.0 is.1 (omega (arith, n, small)) is.4 in
    subst (IsTyped table type) (sym is.2) (1 ∷ part.0, (inner, at, part.0, refl, part.1))
shape_typed table formed depth law type (compound (Seq item)) at v tokens small (inl is) =
    let few = blob_small item (suc depth) is.0 tokens small is.3 in
    subst (IsTyped table type) (sym is.2) (unsigned_spelling (length is.0) ++ is.0, (item, at, is.1, counted_bytes is.0 few))
shape_typed table formed depth law type (compound (Seq item)) at v tokens small (inr is) =
    let us = is.0 in
    let each = braces_each (IsTyped table item) (codes "vec") (λ next u. Annotated item (Says table depth item u)) no_place
    (λ next u front fits said. annotated_parts item (Says table depth item u) front fits (λ inner less p. law item u inner less p) said) us tokens small is.3 in
    let all = all_wire table item us each.0 in
    let count = unsigned_spelled Candid (count_of (contents_of us)) (let n = count_is us in omega (arith, n, each.1)) in
    subst (IsTyped table type) (sym is.2) (unsigned_spelling (count_of (contents_of us)) ++ all.0, (item, at, is.1, unsigned_spelling (count_of (contents_of us)), all.0, refl, count, all.1))
shape_typed table formed depth law type (compound (Rec fields)) at v tokens small is =
    let each = braces_each (IsField table fields) (codes "record") (SaysField (Says table depth) fields) (λ f. suc f.0) (λ next f front fits said. field_typed table depth law fields next f front fits said) is.said tokens small is.fields_said in
    let are = fields_distinct fields 0 (shape_ordered table formed type (Rec fields) at) in
    let all = filled_typed depth table is.said fields each.0 fields (all_inside fields are) is.parts is.all in
    subst (IsTyped table type) (sym is.is) (all.0, (fields, at, all.1))
shape_typed table formed depth law type (compound (Var cases)) at v tokens small is =
    let there = case_there cases is.id is.place is.type is.at_place is.has_type in
    let few = few_ids cases (shape_ordered table formed type (Var cases) at) in
    let n = ap room is.whole in
    let m = room_both is.front is.end in
    let part = case_typed table depth law is.type is.value is.front (omega (arith, n, m, small)) is.says in
    let place = unsigned_spelled Candid is.place (omega (arith, few, there.1)) in
    subst (IsTyped table type) (sym is.is) (unsigned_spelling is.place ++ part.0, (cases, at, (is.id, is.type), there.0, unsigned_spelling is.place, part.0, refl, place, part.1))
shape_typed table formed depth law type (compound (Func args results notes)) at v tokens small is =
    let f = is.3 in
    let n = ap room f.2 in
    let service_is = principal_bytes is.0 f.0 f.3 in
    let name_is = method_spelled is.1 f.1 (omega (arith, n, small)) f.4 in
    let front = 1 ∷ (unsigned_spelling (length is.0) ++ is.0) in
    let back = unsigned_spelling (length is.1) ++ is.1 in
    subst (IsTyped table type) (sym is.2) (1 ∷ (front ++ back), ((args, results, notes, at), (front ++ back, refl, (front, back, refl, service_is, name_is))))
shape_typed table formed depth law type (compound (Service methods)) at v tokens small is =
    subst (IsTyped table type) (sym is.1) (1 ∷ (unsigned_spelling (length is.0) ++ is.0), ((methods, at), principal_bytes is.0 is.2.0 is.2.2))
shape_typed table formed depth law type dangling at v tokens small is = absurd is

-- what is said at a type has the type
pub typed : (table : List Entry) → IsTrue (is_table table) → (depth : ℕ) (type : TyRef) (v : Content) (tokens : List Token) → Small tokens → Says table depth type v tokens → IsTyped table type v
typed table formed zero type v tokens small is = absurd is
typed table formed (suc depth) type v tokens small (inl is) = shape_typed table formed depth (typed table formed depth) type (shape table type) refl v tokens small is
typed table formed (suc depth) type v tokens small (inr is) =
    let n = ap room is.1 in
    let m = room_both is.0 (mark 41 ∷ []) in
    annotated_parts type (Says table depth type v) is.0 (omega (arith, n, m, small)) (λ inner less p. typed table formed depth type v inner less p) is.2

-- ---- the text

-- an argument has the type of its place
abbrev IsArgument : List Entry → List TyRef → ℕ × Content → Type 0
IsArgument table types x = (type : TyRef) × (slice_get types x.0 ≡ Some type) × IsTyped table type x.1

-- the arguments are at the places from `next` on
abbrev ArePlaced : ℕ → List (ℕ × Content) → Type 0
ArePlaced next [] = Unit {0}
ArePlaced next (x ∷ xs) = (x.0 ≡ next) × ArePlaced (suc next) xs

are_placed : (table : List Entry) (types : List TyRef) (xs : List (ℕ × Content)) (next : ℕ) (tokens : List Token) → SaysParts (mark 44) (mark 41) (SaysArgument table types) (λ x. suc x.0) next xs tokens → ArePlaced next xs
are_placed table types [] next tokens is = tt
are_placed table types (x ∷ xs) next tokens is =
    let here = is.3.0 in
    elim is.4 [
      | inl last ↦ (here, rw last.0 tt)
      | inr more ↦ (here, subst (λ k. ArePlaced k xs) (ap suc here) (are_placed table types xs (suc x.0) more.0 more.2))
    ]

each_wire : (table : List Entry) (types : List TyRef) (xs : List (ℕ × Content)) (next : ℕ) (more : List TyRef) → ((k : ℕ) → slice_get types (next + k) ≡ slice_get more k) → length xs ≡ length more → ArePlaced next xs → AllByRecursion (IsArgument table types) xs
    → HasTypes table more (map (λ x. x.1) xs)
each_wire table types [] next [] at many placed each = ([], (refl, refl))
each_wire table types [] next (t ∷ more) at many placed each = absurd (omega (arith, many))
each_wire table types (x ∷ xs) next [] at many placed each = absurd (omega (arith, many))
each_wire table types (x ∷ xs) next (t ∷ more) at many placed each =
    let n : next + 0 ≡ next = omega arith in
    let type_is : each.0.0 ≡ t = some_is {A = TyRef} each.0.0 t (sym each.0.1 ∙ ap (slice_get types) (placed.0 ∙ sym n) ∙ at 0) in
    let first = subst (λ u. IsTyped table u x.1) type_is each.0.2 in
    let rest = each_wire table types xs (suc next) more (λ k. let m : suc next + k ≡ next + suc k = omega arith in ap (slice_get types) m ∙ at (suc k)) (omega (arith, many)) placed.1 each.1 in
    (first.0 ++ rest.0, (t, more, refl, first.0, rest.0, refl, first.1, rest.1))

-- the values that tokens say have the types
pub arguments_typed : (table : List Entry) (types : List TyRef) (values : List Content) (tokens : List Token) → IsTrue (is_table table) → Small tokens → SaysArguments table types values tokens → HasTypes table types values
arguments_typed table types values tokens formed small s =
    let n = ap room s.whole in
    let each = parts_each (IsArgument table types) (mark 44) (mark 41) (SaysArgument table types) (λ x. suc x.0)
    (λ next x front few said. (said.1, ap (slice_get types) said.0 ∙ said.2, annotated_parts said.1 (Says table 128 said.1 x.1) front few (λ inner less p. typed table formed 128 said.1 x.1 inner less p) said.3)) s.arguments 0 s.inner (omega (arith, n, small)) s.said in
    subst (HasTypes table types) s.are (each_wire table types s.arguments 0 types (λ k. let n : 0 + k ≡ k = omega arith in ap (slice_get types) n) s.all (are_placed table types s.arguments 0 s.inner s.said) each.0)

-- so have those that a text says, which is no longer than memory
pub said_types : (table : List Entry) (types : List TyRef) (values : List Content) (bytes : List ℕ) → IsTrue (is_table table) → length bytes < 2 ^ 64 → Said table types values bytes → HasTypes table types values
said_types table types values bytes formed short s =
    let n = text_room false (mark 40 ∷ s.tokens) bytes s.lexed in
    arguments_typed table types values (mark 40 ∷ s.tokens) formed (omega (arith, n, short)) (said_spoken table types values bytes s)

pub typed_with : {A E : Type 0} (view_of : A → List Content) (table : List Entry) (types : List TyRef) (bytes : List ℕ) (r : Result A E) → IsTrue (is_table table) → length bytes < 2 ^ 64 → IfOk r (λ x. Said table types (view_of x) bytes) → IfOk r (λ x. HasTypes table types (view_of x))
typed_with view_of table types bytes (Ok x) formed short said = said_types table types (view_of x) bytes formed short said
typed_with view_of table types bytes (Err e) formed short said = tt

pub tokens_typed : {A E : Type 0} (view_of : A → List Content) (table : List Entry) (types : List TyRef) (tokens : List Token) (r : Result A E) → IsTrue (is_table table) → Small tokens → IfOk r (λ x. SaysArguments table types (view_of x) tokens) → IfOk r (λ x. HasTypes table types (view_of x))
tokens_typed view_of table types tokens (Ok x) formed small said = arguments_typed table types (view_of x) tokens formed small said
tokens_typed view_of table types tokens (Err e) formed small said = tt
