-- What is printed of values says them.
use Rattle.std.proofs.Common.{◌≡◌, ℕ, zero, suc, ◌+◌, ◌≤◌, ◌<◌, ◌^◌, Bool, true, false, List, [], ◌∷◌, ◌++◌, length, map, Option, Some, None, codes, refl, sym, ap, subst, ◌∙◌, append_assoc, inl, inr, arith}
use Rattle.std.specs.Prelude.{ℤ, pos, negsuc, ◌==◌, ◌&&◌, not, nat_lt, nat_le, slice_get, FitsSigned, IsTrue}
use Rattle.std.specs.Fmt.{decimal, signed_decimal}
use mir.Val.{bits}
use mir.ValLaws.{to_z-Fits}
use Rattle.std.specs.Int.{Width, w8, w16, w32, w64, cast_signed}
use Rattle.std.specs.Int.Signed.{mag}
use Rattle.std.specs.List.{AllByRecursion, flat_map, list_all}
use Rattle.std.specs.Str.{is_utf8}
use Rattle.std.proofs.lemmas.Bool.{ltb-true, lt-ltb, leb-true}
use Rattle.std.proofs.lemmas.List.{append-nil}
use Rattle.std.proofs.lemmas.Str.{is_utf8-from_IsUtf8}
use Rattle.ic_base.proofs.Steps.{some_is}
use Rattle.ic_principal.specs.IsPrincipal.{IsPrincipal}
use Rattle.ic_principal.specs.Text.{text_of as principal_text}
use Rattle.ic_principal.proofs.PrincipalLaws.{principal_of-text}
use Rattle.cd_types.specs.declared.primitive.Primitive.TheVariants as primitives
use Rattle.cd_types.specs.declared.entry.TyRef.{TyRef}
use Rattle.cd_types.specs.declared.entry.Entry.{Entry}
use Rattle.cd_types.specs.declared.entry.Entry.TheVariants.{Opt, Seq, Rec, Var}
use Rattle.cd_types.specs.FieldId.{field_id_of}
use Rattle.cd_types.specs.IsOrdered.{ids_rise_from}
use Rattle.cd_types.specs.IsTable.{is_table}
use Rattle.cd_types.specs.Shape.{Shape, primitive, compound, shape}
use Rattle.cd_codec.specs.Content.{Content, Plain, plain, null, bool, nat, int, nat8, nat16, nat32, nat64, int8, int16, int32, int64, text, reserved, func, service, principal, blob, none, some, list, record_of, variant, Contents, no_content, content, contents_of, Parts, no_part, part}
use Rattle.cd_codec.specs.AreValues.{WireEach, HasTypes}
use Rattle.cd_codec.specs.Measure.{nesting, nesting_all, nesting_parts, nesting_each, number_each}
use Rattle.cd_codec.specs.Plain.{HasShape, SpellsPlain}
use Rattle.cd_codec.specs.Wire.{Wire, WireAll, WireParts}
use Rattle.cd_codec.proofs.ValueAgain.{items_in, contents_in, parts_in, parts_made}
use Rattle.cd_names.specs.Names.{IdNames, name_for, HaveIds, AreTexts}
use Rattle.cd_tokens.specs.Bytes.{is_digit, is_word_byte}
use Rattle.cd_tokens.specs.Label.{is_name, IsLabel}
use Rattle.cd_tokens.specs.Lexed.{IsTokens}
use Rattle.cd_tokens.specs.ReadNumeral.{is_between}
use Rattle.cd_tokens.specs.Token.{Token, run, quoted, mark, is_run}
use Rattle.cd_text.specs.HoldsBytes.{HoldsBytes, HoldsBytesAll, HoldsBytesParts, NamesPrincipal}
use Rattle.cd_plain.specs.Printed.{hex_escape, escape, joined, braced, labelled as labelled_text, name_text, name_or_number, label_text, is_left_out, case_text, plain_text, value_text, item_texts, field_texts, argument_texts, printed_with}
use Rattle.cd_text.specs.Said.{Annotated, bare, SaysParts, no_place, type_of, SaysField, labelled, SaysCase, alone, value_of, is_absent, are_distinct, filled, place_of, valued, SaysShape, Says}
use Rattle.cd_text.specs.SaysPlain.{SaysNatural, SaysInteger, SaysPrincipal, SaysFunc, IsPrincipalText}
use Rattle.cd_plain.specs.Types.{inner_of, item_of, fields_of, nth_field, nth_type}
use Rattle.cd_text.specs.Whole.{SaysArgument, Said}
use Rattle.cd_text.specs.Placed.{placed}
use Rattle.cd_text.proofs.Arguments.{placed_values, placed_count}
use Rattle.cd_text.proofs.Decimals.{decimal_run, decimal_label, decimal_natural, signed_integer, signed_run}
use Rattle.cd_text.proofs.Escapes.{escapes_closed, escapes_utf8, escapes_text, hexes_closed, hexes_utf8, hex_says}
use Rattle.cd_text.proofs.PrincipalTexts.{principal_text_utf8}
use Rattle.cd_text.proofs.Prints.{Prints, IsApart, no_tokens, mark_before, blank_before, run_before, run_alone, string_before, both_print, IsWritten, AreWritten, parts_written, braces_written}
use Rattle.cd_tokens.proofs.Fronts.{true_or_false}
use Rattle.cd_text.proofs.Typed.{Inside, all_inside, shape_ordered}
use Rattle.cd_text.proofs.Values.{both, fields_distinct}

-- ---- values without parts

word_written : (word : List ℕ) (P : List Token → Type 0) → is_run word ≡ true → P (run word ∷ []) → IsWritten P word
word_written word P is says = record { tokens = run word ∷ []; prints = run_alone word is; says = says }

natural_written : (limit n : ℕ) (P : List Token → Type 0) → n < limit → n < 10 ^ 64 → ((tokens : List Token) → SaysNatural limit n tokens → P tokens) → IsWritten P (decimal n)
natural_written limit n P less wide says =
    word_written (decimal n) P (decimal_run n wide) (says (run (decimal n) ∷ []) (decimal n, refl, decimal_natural n wide, less))

between : (half : ℕ) (z : ℤ) → mag z < half → is_between half z ≡ true
between half (pos n) less = lt-ltb n half less
between half (negsuc n) less = lt-ltb n half less

integer_written : (half : ℕ) (z : ℤ) (P : List Token → Type 0) → mag z < half → mag z < 2 ^ 127 → ((tokens : List Token) → SaysInteger half z tokens → P tokens) → IsWritten P (signed_decimal z)
integer_written half z P less wide says =
    word_written (signed_decimal z) P (signed_run z wide) (says (run (signed_decimal z) ∷ []) (signed_decimal z, refl, signed_integer z wide, between half z less))

string_written : (s : List ℕ) (tokens : List Token) (bytes : List ℕ) → is_utf8 s ≡ true → Prints tokens bytes → Prints (quoted (flat_map escape s) ∷ tokens) (34 ∷ (flat_map escape s ++ (34 ∷ bytes)))
string_written s tokens bytes is p = string_before (flat_map escape s) tokens bytes (escapes_closed s) (escapes_utf8 s is) p

named : (p : List ℕ) → IsPrincipal p → IsPrincipalText p (flat_map escape (principal_text p))
named p is = (principal_text p, escapes_text (principal_text p) (principal_text_utf8 p), principal_of-text (principal_text p) p is refl)

principal_written : (word : List ℕ) (p : List ℕ) (P : List Token → Type 0) → is_run word ≡ true → IsPrincipal p → ((tokens : List Token) → SaysPrincipal word p tokens → P tokens) → IsWritten P (word ++ (32 ∷ 34 ∷ (flat_map escape (principal_text p) ++ 34 ∷ [])))
principal_written word p P is holds says = record {
  tokens = run word ∷ quoted (flat_map escape (principal_text p)) ∷ [];
  prints = run_before word (quoted (flat_map escape (principal_text p)) ∷ []) _ is (λ rest ends. refl) (blank_before (quoted (flat_map escape (principal_text p)) ∷ []) _ (string_written (principal_text p) [] [] (principal_text_utf8 p) no_tokens));
  says = says (run word ∷ quoted (flat_map escape (principal_text p)) ∷ []) (flat_map escape (principal_text p), refl, named p holds);
}

func_written : (p method : List ℕ) (P : List Token → Type 0) → IsPrincipal p → is_utf8 method ≡ true → ((tokens : List Token) → SaysFunc p method tokens → P tokens) → IsWritten P (plain_text (func p method))
unfolding plain_text
func_written p method P holds is says =
    let name = quoted (flat_map escape method) in
    let whole = run (codes "func") ∷ quoted (flat_map escape (principal_text p)) ∷ mark 46 ∷ name ∷ [] in
    let behind : Prints (mark 46 ∷ name ∷ []) (46 ∷ 34 ∷ (flat_map escape method ++ 34 ∷ [])) = mark_before 46 (name ∷ []) _ refl (string_written method [] [] is no_tokens) in
    let service_is : Prints (quoted (flat_map escape (principal_text p)) ∷ mark 46 ∷ name ∷ []) (34 ∷ (flat_map escape (principal_text p) ++ (34 ∷ 46 ∷ 34 ∷ (flat_map escape method ++ 34 ∷ [])))) =
    string_written (principal_text p) (mark 46 ∷ name ∷ []) _ (principal_text_utf8 p) behind in
    let prints = run_before (codes "func") (quoted (flat_map escape (principal_text p)) ∷ mark 46 ∷ name ∷ []) _ refl (λ rest ends. refl) (blank_before _ _ service_is) in
    let bytes_are : codes "func" ++ (32 ∷ 34 ∷ (flat_map escape (principal_text p) ++ (34 ∷ 46 ∷ 34 ∷ (flat_map escape method ++ 34 ∷ [])))) ≡ plain_text (func p method) =
    ap (λ (xs : List ℕ). codes "func " ++ (34 ∷ xs)) (sym (append_assoc (flat_map escape (principal_text p)) (34 ∷ []) (46 ∷ 34 ∷ (flat_map escape method ++ 34 ∷ [])))) in
    record {
      tokens = whole;
      prints = subst (Prints whole) bytes_are prints;
      says = says whole (flat_map escape (principal_text p), name, refl, named p holds, escapes_text method is);
    }

-- the value as one of a shape
abbrev AtShape : List Entry → ℕ → Shape → Plain → List ℕ → Type 0
AtShape table depth s v bytes = IsWritten (SaysShape depth table (Says table depth) s (plain v)) bytes

bool_written : (table : List Entry) (depth : ℕ) (b : Bool) → AtShape table depth (primitive primitives.Bool) (bool b) (plain_text (bool b))
unfolding plain_text
bool_written table depth true = word_written (codes "true") _ refl (bool true, refl, inl (refl, refl))
bool_written table depth false = word_written (codes "false") _ refl (bool false, refl, inr (refl, refl))

fixed_mag : (w : Width) (n : ℕ) (z : ℤ) → cast_signed w n ≡ z → n < 2 ^ bits w → FitsSigned w z
fixed_mag w n z is less = subst (FitsSigned w) is (to_z-Fits w n (record { fits = less }))

plain_written : (table : List Entry) (depth : ℕ) (s : Shape) (v : Plain) (bytes : List ℕ) → HasShape v s → SpellsPlain v bytes → NamesPrincipal v → AtShape table depth s v (plain_text v)
unfolding plain_text
plain_written table depth s null bytes is spelled holds = rw is (word_written (codes "null") _ refl (null, refl, (refl, refl)))
plain_written table depth s reserved bytes is spelled holds = rw is (word_written (codes "null") _ refl (reserved, refl, (refl, refl)))
plain_written table depth s (bool b) bytes is spelled holds = rw is (bool_written table depth b)
plain_written table depth s (nat n) bytes is spelled holds = rw is (let less : n < 2 ^ 128 = spelled.fits in natural_written (2 ^ 128) n _ less (omega (arith, less)) (λ tokens h. (nat n, refl, (n, refl, h))))
plain_written table depth s (nat8 n) bytes is spelled holds = rw is (let less : n < 2 ^ 8 = spelled.0 in natural_written (2 ^ 8) n _ less (omega (arith, less)) (λ tokens h. (nat8 n, refl, (n, refl, h))))
plain_written table depth s (nat16 n) bytes is spelled holds = rw is (let less : n < 2 ^ 16 = spelled.0 in natural_written (2 ^ 16) n _ less (omega (arith, less)) (λ tokens h. (nat16 n, refl, (n, refl, h))))
plain_written table depth s (nat32 n) bytes is spelled holds = rw is (let less : n < 2 ^ 32 = spelled.0 in natural_written (2 ^ 32) n _ less (omega (arith, less)) (λ tokens h. (nat32 n, refl, (n, refl, h))))
plain_written table depth s (nat64 n) bytes is spelled holds = rw is (let less : n < 2 ^ 64 = spelled.0 in natural_written (2 ^ 64) n _ less (omega (arith, less)) (λ tokens h. (nat64 n, refl, (n, refl, h))))
plain_written table depth s (int z) bytes is spelled holds = rw is (let less : mag z < 2 ^ 127 = spelled.fits.sfits in integer_written (2 ^ 127) z _ less less (λ tokens h. (int z, refl, (z, refl, h))))
plain_written table depth s (int8 z) bytes is spelled holds = rw is (let less : mag z < 2 ^ 7 = (fixed_mag w8 spelled.0 z spelled.1 spelled.2.0).sfits in integer_written (2 ^ 7) z _ less (omega (arith, less)) (λ tokens h. (int8 z, refl, (z, refl, h))))
plain_written table depth s (int16 z) bytes is spelled holds = rw is (let less : mag z < 2 ^ 15 = (fixed_mag w16 spelled.0 z spelled.1 spelled.2.0).sfits in integer_written (2 ^ 15) z _ less (omega (arith, less)) (λ tokens h. (int16 z, refl, (z, refl, h))))
plain_written table depth s (int32 z) bytes is spelled holds = rw is (let less : mag z < 2 ^ 31 = (fixed_mag w32 spelled.0 z spelled.1 spelled.2.0).sfits in integer_written (2 ^ 31) z _ less (omega (arith, less)) (λ tokens h. (int32 z, refl, (z, refl, h))))
plain_written table depth s (int64 z) bytes is spelled holds = rw is (let less : mag z < 2 ^ 63 = (fixed_mag w64 spelled.0 z spelled.1 spelled.2.0).sfits in integer_written (2 ^ 63) z _ less (omega (arith, less)) (λ tokens h. (int64 z, refl, (z, refl, h))))
plain_written table depth s (text t) bytes is spelled holds = rw is (record {
  tokens = quoted (flat_map escape t) ∷ [];
  prints = string_written t [] [] spelled.0 no_tokens;
  says = (text t, refl, (t, flat_map escape t, refl, refl, escapes_text t spelled.0));
})
plain_written table depth s (principal p) bytes is spelled holds = rw is (principal_written (codes "principal") p _ refl holds (λ tokens h. (principal p, refl, (p, refl, h))))
plain_written table depth s (service p) bytes is spelled holds = rw is.1 (principal_written (codes "service") p _ refl holds (λ tokens h. (p, refl, h)))
plain_written table depth s (func p method) bytes is spelled holds = rw is.3 (func_written p method _ holds spelled.2.4.0 (λ tokens h. (p, method, refl, h)))

-- ---- fields in their order

rises_more : (least id : ℕ) (ids : List ℕ) → ids_rise_from least (id ∷ ids) ≡ true → (least ≤ id) × (id < 2 ^ 32) × (ids_rise_from (suc id) ids ≡ true)
rises_more least id ids rise =
    let h = both (nat_le least id && nat_lt id (2 ^ 32)) (ids_rise_from (suc id) ids) rise in
    let i = both (nat_le least id) (nat_lt id (2 ^ 32)) h.0 in
    (leb-true _ _ i.0, ltb-true _ _ i.1, h.1)

absent_below : (id least : ℕ) (qs : List (ℕ × Content)) → ids_rise_from least (map (λ q. q.0) qs) ≡ true → id < least → is_absent id qs ≡ true
absent_below id least [] rise below = refl
absent_below id least (q ∷ qs) rise below =
    let h = rises_more least q.0 (map (λ x. x.0) qs) rise in
    let other : (id == q.0) ≡ false = let a = h.0 in grind (arith, a, below) in
    rw (other, absent_below id (suc q.0) qs h.2 (omega (arith, h.0, below))) refl

rising_distinct : (least : ℕ) (qs : List (ℕ × Content)) → ids_rise_from least (map (λ q. q.0) qs) ≡ true → are_distinct qs ≡ true
rising_distinct least [] rise = refl
rising_distinct least (q ∷ qs) rise =
    let h = rises_more least q.0 (map (λ x. x.0) qs) rise in rw (absent_below q.0 (suc q.0) qs h.2 (omega arith), rising_distinct (suc q.0) qs h.2) refl

-- each value is the one with its id
abbrev AreSaid : List (ℕ × Content) → List (ℕ × Content) → Type 0
AreSaid all qs = AllByRecursion (λ q. value_of all q.0 ≡ Some q.1) qs

same_number : (n : ℕ) → (n == n) ≡ true
same_number n = grind arith

said_behind : (q : ℕ × Content) (all qs : List (ℕ × Content)) → ids_rise_from (suc q.0) (map (λ x. x.0) qs) ≡ true → AreSaid all qs → AreSaid (q ∷ all) qs
said_behind q all qs rise are = go q.0 qs (suc q.0) rise (omega arith) are
  where
    go : (id : ℕ) (xs : List (ℕ × Content)) (least : ℕ) → ids_rise_from least (map (λ x. x.0) xs) ≡ true → q.0 < least → AreSaid all xs → AreSaid (q ∷ all) xs
    go id [] least rise below are = tt
    go id (x ∷ xs) least rise below are =
        let h = rises_more least x.0 (map (λ y. y.0) xs) rise in
        let other : (x.0 == q.0) ≡ false = let a = h.0 in grind (arith, a, below) in
        (rw other are.0, go id xs (suc x.0) h.2 (omega (arith, h.0, below)) are.1)

all_said : (least : ℕ) (qs : List (ℕ × Content)) → ids_rise_from least (map (λ q. q.0) qs) ≡ true → AreSaid qs qs
all_said least [] rise = tt
all_said least (q ∷ qs) rise =
    let h = rises_more least q.0 (map (λ x. x.0) qs) rise in (rw (same_number q.0) refl, said_behind q qs qs h.2 (all_said (suc q.0) qs h.2))

filled_again : (depth : ℕ) (table : List Entry) (all qs : List (ℕ × Content)) (fields : List (ℕ × TyRef)) → map (λ q. q.0) qs ≡ map (λ f. f.0) fields → AreSaid all qs → filled depth table all fields ≡ Some qs
filled_again depth table all [] [] same are = refl
filled_again depth table all [] (f ∷ fields) same are = let n = ap length same in absurd (omega (arith, n))
filled_again depth table all (q ∷ qs) [] same are = let n = ap length same in absurd (omega (arith, n))
filled_again depth table all (q ∷ qs) (f ∷ fields) same are =
    let id_is : q.0 ≡ f.0 = cc in
    let more : map (λ x. x.0) qs ≡ map (λ g. g.0) fields = cc in
    let value_is : value_of all f.0 ≡ Some q.1 = ap (value_of all) (sym id_is) ∙ are.0 in
    rw (value_is, filled_again depth table all qs fields more are.1) (ap (λ k. Some ((k, q.1) ∷ qs)) (sym id_is))

parts_ids : (table : List Entry) (ps : Parts) (fields : List (ℕ × TyRef)) (bytes : List ℕ) → WireParts table fields ps bytes → map (λ q. q.0) (parts_in ps) ≡ map (λ f. f.0) fields
unfolding parts_in
parts_ids table no_part fields bytes wire = ap (map (λ f. f.0)) (sym wire.0)
parts_ids table (part i v ps) fields bytes (field, more, is, id, front, rest, whole, first, wire) =
    ap (λ k. k ∷ map (λ q. q.0) (parts_in ps)) id ∙ ap (λ ks. field.0 ∷ ks) (parts_ids table ps more rest wire) ∙ ap (map (λ f. f.0)) (sym is)

-- a case at its place
case_at : (cases : List (ℕ × TyRef)) (place least : ℕ) (case : ℕ × TyRef) → ids_rise_from least (map (λ f. f.0) cases) ≡ true → slice_get cases place ≡ Some case
    → (place_of cases case.0 ≡ Some place) × (type_of cases case.0 ≡ Some case.1) × (case.0 < 2 ^ 32) × (least ≤ case.0)
case_at [] place least case rise at = absurd cc
case_at (c ∷ cases) zero least case rise at =
    let h = rises_more least c.0 (map (λ f. f.0) cases) rise in
    let is : c ≡ case = some_is {A = ℕ × TyRef} c case at in
    subst (λ (d : ℕ × TyRef). (place_of (c ∷ cases) d.0 ≡ Some 0) × (type_of (c ∷ cases) d.0 ≡ Some d.1) × (d.0 < 2 ^ 32) × (least ≤ d.0)) is (rw (same_number c.0) (refl, refl, h.1, h.0))
case_at (c ∷ cases) (suc place) least case rise at =
    let h = rises_more least c.0 (map (λ f. f.0) cases) rise in
    let r = case_at cases place (suc c.0) case h.2 at in
    let other : (c.0 == case.0) ≡ false = let a = r.3 in grind (arith, a) in
    let low : least ≤ case.0 = omega (arith, r.3, h.0) in
    let first : place_of (c ∷ cases) case.0 ≡ Some (suc place) = rw (other, r.0) refl in
    let second : type_of (c ∷ cases) case.0 ≡ Some case.1 = rw other r.1 in
    (first, second, r.2, low)

-- ---- values

some_level : (v : Content) → 0 < nesting v
some_level (plain p) = omega arith
some_level (blob s) = omega arith
some_level none = omega arith
some_level (some v) = omega arith
some_level (list vs) = omega arith
some_level (record_of ps) = omega arith
some_level (variant i v) = omega arith

shaped : (table : List Entry) (depth : ℕ) (type : TyRef) (s : Shape) (v : Content) (bytes : List ℕ) → shape table type ≡ s → IsWritten (SaysShape depth table (Says table depth) s v) bytes → IsWritten (Says table (suc depth) type v) bytes
shaped table depth type s v bytes is w = record {
  tokens = w.tokens;
  prints = w.prints;
  says = inl (subst (λ (x : Shape). SaysShape depth table (Says table depth) x v w.tokens) (sym is) w.says);
}

-- a label with this id, and how it is printed before other tokens
record IsLabelText (id : ℕ) (text : List ℕ) : Type 0 where
  pub label : Token
  pub is_label : IsLabel id label
  pub before : (tokens : List Token) (bytes : List ℕ) → IsApart bytes → Prints tokens bytes → Prints (label ∷ tokens) (text ++ bytes)

number_written : (id : ℕ) → id < 2 ^ 32 → IsLabelText id (decimal id)
number_written id small = record {
  label = run (decimal id);
  is_label = decimal_label id small;
  before = λ tokens bytes apart p. run_before (decimal id) tokens bytes (decimal_run id (omega (arith, small))) apart p;
}

name_run : (name : List ℕ) → is_name name ≡ true → is_run name ≡ true
name_run [] is = absurd cc
name_run (b ∷ bytes) is =
    let h = both (is_word_byte b && not (is_digit b)) (list_all is_word_byte bytes) is in
    let first = (both (is_word_byte b) (not (is_digit b)) h.0).0 in
    rw (first, h.1) refl

name_written : (id : ℕ) (name : List ℕ) → field_id_of name ≡ id → is_utf8 name ≡ true → IsLabelText id (name_text name)
name_written id name has is = elim (true_or_false (is_name name)) [
  | inl bare_is ↦ rw bare_is (record { label = run name; is_label = inr (name, (bare_is, refl), sym has); before = λ tokens bytes apart p. run_before name tokens bytes (name_run name bare_is) apart p })
  | inr other ↦ rw other (record {
    label = quoted (flat_map escape name);
    is_label = inr (name, escapes_text name is, sym has);
    before = λ tokens bytes apart p. subst (Prints (quoted (flat_map escape name) ∷ tokens)) (ap (λ (xs : List ℕ). 34 ∷ xs) (sym (append_assoc (flat_map escape name) (34 ∷ []) bytes))) (string_written name tokens bytes is p);
  })
]

-- the names that labels are printed by have their ids, and are texts
abbrev pub AreLabels : Option IdNames → Type 0
AreLabels None = Unit {0}
AreLabels (Some names) = HaveIds names × AreTexts names

label_written : (names : Option IdNames) → AreLabels names → (id : ℕ) → id < 2 ^ 32 → IsLabelText id (label_text names id)
label_written None are id small = number_written id small
label_written (Some names) are id small = of_name (name_for names id) refl
  where
    of_name : (found : Option (List ℕ)) → name_for names id ≡ found → IsLabelText id (name_or_number found id)
    of_name None e = number_written id small
    of_name (Some name) e = name_written id name (are.0 id name e) (are.1 id name e)

field_written : (names : Option IdNames) (table : List Entry) → AreLabels names → (depth : ℕ) (fields : List (ℕ × TyRef)) (next id : ℕ) (type : TyRef) (v : Content) (bytes : List ℕ) → id < 2 ^ 32 → type_of fields id ≡ Some type → IsWritten (Says table depth type v) bytes
    → IsWritten (SaysField (Says table depth) fields next (id, v)) (labelled_text (label_text names id) bytes)
field_written names table are depth fields next id type v bytes small is w =
    let l = label_written names are id small in
    record {
      tokens = l.label ∷ mark 61 ∷ w.tokens;
      prints = l.before (mark 61 ∷ w.tokens) (32 ∷ 61 ∷ 32 ∷ bytes) (λ rest ends. refl) (blank_before _ _ (mark_before 61 w.tokens _ refl (blank_before w.tokens bytes w.prints)));
      says = labelled type l.label w.tokens is l.is_label refl (bare w.says);
    }

-- ---- a case

-- a label and what says the value, printed before a closing brace
record IsCaseText (table : List Entry) (depth id : ℕ) (type : TyRef) (v : Content) (text : List ℕ) : Type 0 where
  pub label : Token
  pub front : List Token
  pub is_label : IsLabel id label
  pub says : SaysCase depth table (Says table depth) type v front
  pub prints : Prints (label ∷ (front ++ mark 125 ∷ [])) (text ++ codes " }")

ends_braces : Prints (mark 125 ∷ []) (codes " }")
ends_braces = blank_before (mark 125 ∷ []) (125 ∷ []) (mark_before 125 [] [] refl no_tokens)

left_is : (names : Option IdNames) (v : Content) → is_left_out names v ≡ true → v ≡ plain null
left_is None v e = absurd cc
left_is (Some names) (plain null) e = refl
left_is (Some names) _ e = absurd cc

one_less : (n : ℕ) → 0 < n → (m : ℕ) × (n ≡ suc m)
one_less zero deep = absurd (omega (arith, deep))
one_less (suc m) deep = (m, refl)

case_written : (names : Option IdNames) (table : List Entry) → AreLabels names → (depth id : ℕ) (type : TyRef) (v : Content) (bytes wire : List ℕ) → id < 2 ^ 32 → 0 < depth → Wire table type v wire → IsWritten (Says table depth type v) bytes
    → IsCaseText table depth id type v (case_text names id v bytes)
case_written names table are depth id type v bytes wire small deep spelled w =
    let l = label_written names are id small in
    elim (true_or_false (is_left_out names v)) [
      | inl left ↦
          let is = left_is names v left in
          let less = one_less depth deep in
          let null_shape : HasShape null (shape table type) = (subst (λ u. Wire table type u wire) is spelled).0 in
          rw left (record {
            label = l.label;
            front = [];
            is_label = l.is_label;
            says = alone less.0 less.1 null_shape is refl;
            prints = l.before (mark 125 ∷ []) (codes " }") (λ rest ends. refl) ends_braces;
          })
      | inr valued_is ↦ rw valued_is (record {
        label = l.label;
        front = mark 61 ∷ w.tokens;
        is_label = l.is_label;
        says = valued w.tokens refl (bare w.says);
        prints = subst (Prints (l.label ∷ mark 61 ∷ (w.tokens ++ mark 125 ∷ []))) (sym (append_assoc (label_text names id) (codes " = " ++ bytes) (codes " }")))
            (l.before (mark 61 ∷ (w.tokens ++ mark 125 ∷ [])) (32 ∷ 61 ∷ 32 ∷ (bytes ++ codes " }")) (λ rest ends. refl)
            (blank_before _ _ (mark_before 61 _ _ refl (blank_before _ _ (both_print w.tokens (mark 125 ∷ []) bytes (codes " }") (λ rest ends. refl) w.prints ends_braces)))));
      })
    ]

-- ---- places

-- from this place on, the fields are these
abbrev StandAt : {A : Type 0} → List A → ℕ → List A → Type 0
StandAt all place more = (k : ℕ) → slice_get all (place + k) ≡ slice_get more k

stand_next : {A : Type 0} (all : List A) (place : ℕ) (x : A) (more : List A) → StandAt all place (x ∷ more) → (slice_get all place ≡ Some x) × StandAt all (suc place) more
stand_next all place x more at =
    let n : place + 0 ≡ place = omega arith in
    (ap (slice_get all) (sym n) ∙ at 0, λ k. let m : suc place + k ≡ place + suc k = omega arith in ap (slice_get all) m ∙ at (suc k))

from_start : {A : Type 0} (all : List A) → StandAt all 0 all
from_start all k = let n : 0 + k ≡ k = omega arith in ap (slice_get all) n

mutual
  unfolding value_text items_in parts_in

  pub value_written : (names : Option IdNames) (table : List Entry) → AreLabels names → IsTrue (is_table table) → (v : Content) (type : TyRef) (depth : ℕ) (bytes : List ℕ) → Wire table type v bytes → HoldsBytes v → nesting v ≤ depth → IsWritten (Says table depth type v) (value_text names table type v)
  value_written names table are_labels formed v type zero bytes wire holds deep = let n = some_level v in absurd (omega (arith, n, deep))
  value_written names table are_labels formed (plain p) type (suc depth) bytes wire holds deep = shaped table depth type (shape table type) (plain p) (plain_text p) refl (plain_written table depth (shape table type) p bytes wire.0 wire.1 holds)
  value_written names table are_labels formed (blob s) type (suc depth) bytes wire holds deep =
      shaped table depth type (compound (Seq wire.0)) (blob s) _ wire.1 (record {
        tokens = run (codes "blob") ∷ quoted (flat_map hex_escape s) ∷ [];
        prints = run_before (codes "blob") (quoted (flat_map hex_escape s) ∷ []) _ refl (λ rest ends. refl) (blank_before _ _ (string_before (flat_map hex_escape s) [] [] (hexes_closed s) (hexes_utf8 s holds) no_tokens));
        says = inl (s, wire.2, refl, inl (flat_map hex_escape s, refl, hex_says s holds));
      })
  value_written names table are_labels formed none type (suc depth) bytes wire holds deep = shaped table depth type (compound (Opt wire.0)) none (codes "null") wire.1 (word_written (codes "null") _ refl (inl (refl, refl)))
  value_written names table are_labels formed (some v) type (suc depth) bytes wire holds deep =
      let inner = wire.0 in
      let w = value_written names table are_labels formed v inner depth wire.2 wire.4 holds (omega (arith, deep)) in
      let text_is : codes "opt " ++ value_text names table inner v ≡ value_text names table type (some v) = ap (λ (s : Shape). codes "opt " ++ value_text names table (inner_of s) v) (sym wire.1) in
      subst (IsWritten (Says table (suc depth) type (some v))) text_is (shaped table depth type (compound (Opt inner)) (some v) _ wire.1 (record {
        tokens = run (codes "opt") ∷ w.tokens;
        prints = run_before (codes "opt") w.tokens (32 ∷ value_text names table inner v) refl (λ rest ends. refl) (blank_before w.tokens (value_text names table inner v) w.prints);
        says = inr (v, w.tokens, refl, refl, w.says);
      }))
  value_written names table are_labels formed (list vs) type (suc depth) bytes wire holds deep =
      let item = wire.0 in
      let are = items_written names table are_labels formed vs item depth 0 wire.4 wire.7 holds (omega (arith, deep)) in
      let w = braces_written (codes "vec") (λ next u. Annotated item (Says table depth item u)) no_place refl (items_in vs) (item_texts names table item vs) are in
      let text_is : codes "vec " ++ braced (item_texts names table item vs) ≡ value_text names table type (list vs) = ap (λ (s : Shape). codes "vec " ++ braced (item_texts names table (item_of s) vs)) (sym wire.1) in
      subst (IsWritten (Says table (suc depth) type (list vs))) text_is (shaped table depth type (compound (Seq item)) (list vs) _ wire.1
      (record { tokens = w.tokens; prints = w.prints; says = inr (items_in vs, wire.2, ap (λ us. list us) (sym (contents_in vs)), w.says) }))
  value_written names table are_labels formed (record_of ps) type (suc depth) bytes wire holds deep =
      let fields = wire.0 in
      let rise = shape_ordered table formed type (Rec fields) wire.1 in
      let are = fields_written names table are_labels formed ps fields fields depth 0 0 bytes rise wire.2 holds (omega (arith, deep)) (from_start fields) (all_inside fields (fields_distinct fields 0 rise)) in
      let w = braces_written (codes "record") (SaysField (Says table depth) fields) (λ f. suc f.0) refl (parts_in ps) (field_texts names table fields 0 ps) are in
      let ids = parts_ids table ps fields bytes wire.2 in
      let said_rise : ids_rise_from 0 (map (λ q. q.0) (parts_in ps)) ≡ true = ap (ids_rise_from 0) ids ∙ rise in
      let text_is : codes "record " ++ braced (field_texts names table fields 0 ps) ≡ value_text names table type (record_of ps) = ap (λ (s : Shape). codes "record " ++ braced (field_texts names table (fields_of s) 0 ps)) (sym wire.1) in
      subst (IsWritten (Says table (suc depth) type (record_of ps))) text_is (shaped table depth type (compound (Rec fields)) (record_of ps) _ wire.1 (record {
        tokens = w.tokens;
        prints = w.prints;
        says = record {
          said = parts_in ps;
          parts = parts_in ps;
          fields_said = w.says;
          once = rising_distinct 0 (parts_in ps) said_rise;
          all = filled_again depth table (parts_in ps) (parts_in ps) fields ids (all_said 0 (parts_in ps) said_rise);
          is = ap record_of (sym (parts_made ps));
        };
      }))
  value_written names table are_labels formed (variant i v) type (suc depth) bytes wire holds deep =
      let cases = wire.0 in
      let case = wire.2 in
      let rise = shape_ordered table formed type (Var cases) wire.1 in
      let there = case_at cases i 0 case rise wire.3 in
      let w = value_written names table are_labels formed v case.1 depth wire.5 wire.8 holds (omega (arith, deep)) in
      let level = some_level v in
      let c = case_written names table are_labels depth case.0 case.1 v (value_text names table case.1 v) wire.5 there.2 (omega (arith, deep, level)) wire.8 w in
      let field : nth_field cases i ≡ case = rw wire.3 refl in
      let shape_field : nth_field (fields_of (shape table type)) i ≡ case = ap (λ (s : Shape). nth_field (fields_of s) i) wire.1 ∙ field in
      let text_is : codes "variant { " ++ (case_text names case.0 v (value_text names table case.1 v) ++ codes " }") ≡ value_text names table type (variant i v) =
      ap (λ (x : List ℕ). codes "variant { " ++ (x ++ codes " }")) (sym (append-nil (case_text names case.0 v (value_text names table case.1 v))))
      ∙ ap (λ (d : ℕ × TyRef). codes "variant " ++ braced (case_text names d.0 v (value_text names table d.1 v) ∷ [])) (sym shape_field) in
      subst (IsWritten (Says table (suc depth) type (variant i v))) text_is (shaped table depth type (compound (Var cases)) (variant i v) _ wire.1 (record {
        tokens = run (codes "variant") ∷ mark 123 ∷ c.label ∷ (c.front ++ mark 125 ∷ []);
        prints = run_before (codes "variant") _ (32 ∷ 123 ∷ 32 ∷ (case_text names case.0 v (value_text names table case.1 v) ++ codes " }")) refl (λ rest ends. refl) (blank_before _ _ (mark_before 123 _ _ refl (blank_before _ _ c.prints)));
        says = record {
          id = case.0;
          place = i;
          type = case.1;
          value = v;
          label = c.label;
          front = c.front;
          end = mark 125 ∷ [];
          whole = refl;
          is_label = c.is_label;
          at_place = there.0;
          has_type = there.1;
          says = c.says;
          ends = inl refl;
          is = refl;
        };
      }))

  items_written : (names : Option IdNames) (table : List Entry) → AreLabels names → IsTrue (is_table table) → (vs : Contents) (item : TyRef) (depth next : ℕ) (bytes : List ℕ) → WireAll table item vs bytes → HoldsBytesAll vs → nesting_all vs ≤ depth
      → AreWritten (λ next u. Annotated item (Says table depth item u)) no_place next (items_in vs) (item_texts names table item vs)
  items_written names table are_labels formed no_content item depth next bytes wire holds deep = refl
  items_written names table are_labels formed (content v vs) item depth next bytes wire holds deep =
      let w = value_written names table are_labels formed v item depth wire.0 wire.3 holds.0 (omega (arith, deep)) in
      (value_text names table item v, item_texts names table item vs, refl, record { tokens = w.tokens; prints = w.prints; says = bare w.says }, items_written names table are_labels formed vs item depth 0 wire.1 wire.4 holds.1 (omega (arith, deep)))

  fields_written : (names : Option IdNames) (table : List Entry) → AreLabels names → IsTrue (is_table table) → (ps : Parts) (all fields : List (ℕ × TyRef)) (depth next place : ℕ) (bytes : List ℕ) → ids_rise_from 0 (map (λ f. f.0) all) ≡ true → WireParts table fields ps bytes → HoldsBytesParts ps → nesting_parts ps ≤ depth
      → StandAt all place fields → Inside all fields → AreWritten (SaysField (Says table depth) all) (λ f. suc f.0) next (parts_in ps) (field_texts names table all place ps)
  fields_written names table are_labels formed no_part all fields depth next place bytes rise wire holds deep at inside = refl
  fields_written names table are_labels formed (part i v ps) all fields depth next place bytes rise (field, more, is, id, front, rest, whole, first, wire) holds deep at inside =
      let stand = stand_next all place field more (subst (StandAt all place) is at) in
      let inside_is = subst (Inside all) is inside in
      let there = case_at all place 0 field rise stand.0 in
      let w = value_written names table are_labels formed v field.1 depth front first holds.0 (omega (arith, deep)) in
      let field_is : nth_field all place ≡ field = rw stand.0 refl in
      let one = field_written names table are_labels depth all next field.0 field.1 v (value_text names table field.1 v) there.2 there.1 w in
      let same = subst (λ (k : ℕ). IsWritten (SaysField (Says table depth) all next (k, v)) (labelled_text (label_text names k) (value_text names table (nth_field all place).1 v))) (sym id) (subst (λ (d : ℕ × TyRef). IsWritten (SaysField (Says table depth) all next (field.0, v)) (labelled_text (label_text names field.0) (value_text names table d.1 v))) (sym field_is) one) in
      (labelled_text (label_text names i) (value_text names table (nth_field all place).1 v), field_texts names table all (suc place) ps, refl, same, fields_written names table are_labels formed ps all more depth (suc i) (suc place) rest rise wire holds.1 (omega (arith, deep)) stand.1 inside_is.1)

-- ---- the text

arguments_written : (names : Option IdNames) (table : List Entry) → AreLabels names → IsTrue (is_table table) → (types more : List TyRef) (vs : List Content) (place : ℕ) (bytes : List ℕ) → WireEach table more vs bytes → HoldsBytesAll (contents_of vs) → nesting_each vs ≤ 128 → StandAt types place more
    → AreWritten (SaysArgument table types) (λ x. suc x.0) place (placed place vs) (argument_texts names table types place vs)
arguments_written names table are_labels formed types more [] place bytes wire holds deep at = refl
arguments_written names table are_labels formed types more (v ∷ vs) place bytes (type, others, is, front, rest, whole, first, wire) holds deep at =
    let stand = stand_next types place type others (subst (StandAt types place) is at) in
    let w = value_written names table are_labels formed v type 128 front first holds.0 (omega (arith, deep)) in
    let type_is : nth_type types place ≡ type = rw stand.0 refl in
    let one : IsWritten (SaysArgument table types place (place, v)) (value_text names table type v) = record { tokens = w.tokens; prints = w.prints; says = (refl, type, stand.0, bare w.says) } in (
      value_text names table (nth_type types place) v,
      argument_texts names table types (suc place) vs,
      refl,
      subst (λ t. IsWritten (SaysArgument table types place (place, v)) (value_text names table t v)) (sym type_is) one,
      arguments_written names table are_labels formed types others vs (suc place) rest wire holds.1 (omega (arith, deep)) stand.1,
    )

wire_count : (table : List Entry) (types : List TyRef) (vs : List Content) (bytes : List ℕ) → WireEach table types vs bytes → length vs ≡ length types
wire_count table types [] bytes wire = ap length (sym wire.0)
wire_count table types (v ∷ vs) bytes (type, more, is, front, rest, whole, first, wire) = ap suc (wire_count table more vs rest wire) ∙ ap length (sym is)

all_prints : (tokens : List Token) (bytes : List ℕ) → Prints tokens bytes → IsTokens false tokens bytes × (is_utf8 bytes ≡ true)
all_prints tokens bytes p =
    (subst (λ ts. IsTokens false ts bytes) (append-nil tokens) (subst (IsTokens false (tokens ++ [])) (append-nil bytes) (p.lexed [] [] refl (inl ([], refl)))), is_utf8-from_IsUtf8 bytes p.utf8)

-- between parentheses
whole_written : (table : List Entry) (types : List TyRef) (xs : List (ℕ × Content)) (texts : List (List ℕ)) → AreWritten (SaysArgument table types) (λ x. suc x.0) 0 xs texts
    → IsWritten (λ tokens. SaysParts (mark 44) (mark 41) (SaysArgument table types) (λ x. suc x.0) 0 xs tokens) (joined (codes ", ") texts ++ 41 ∷ [])
whole_written table types [] texts nothing = record {
  tokens = mark 41 ∷ [];
  prints = subst (λ ts. Prints (mark 41 ∷ []) (joined (codes ", ") ts ++ 41 ∷ [])) (sym nothing) (mark_before 41 [] [] refl no_tokens);
  says = refl;
}
whole_written table types (x ∷ xs) texts are =
    let w = parts_written 44 41 (41 ∷ []) (SaysArgument table types) (λ x. suc x.0) refl refl (mark_before 41 [] [] refl no_tokens) (λ rest ends. refl) xs x 0 are.0 are.1 are.3 are.4 in
    subst (λ ts. IsWritten (λ tokens. SaysParts (mark 44) (mark 41) (SaysArgument table types) (λ y. suc y.0) 0 (x ∷ xs) tokens) (joined (codes ", ") ts ++ 41 ∷ [])) (sym are.2) w

-- within the limits, the text that is printed of values says them
pub printed_says : (names : Option IdNames) (table : List Entry) (types : List TyRef) (values : List Content) → AreLabels names → IsTrue (is_table table) → HasTypes table types values → HoldsBytesAll (contents_of values) → nesting_each values ≤ 128 → number_each values ≤ 1000000
    → Said table types values (printed_with names table types values)
printed_says names table types values are_labels formed typed holds deep many =
    let are = arguments_written names table are_labels formed types types values 0 typed.0 typed.1 holds deep (from_start types) in
    let w = whole_written table types (placed 0 values) (argument_texts names table types 0 values) are in
    let p = all_prints (mark 40 ∷ w.tokens) (printed_with names table types values) (mark_before 40 w.tokens _ refl w.prints) in
    record {
      tokens = w.tokens;
      arguments = placed 0 values;
      utf8 = p.1;
      lexed = p.0;
      said = w.says;
      all = placed_count 0 values ∙ wire_count table types values typed.0 typed.1;
      are = placed_values 0 values;
      many = many;
    }
