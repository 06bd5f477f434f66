-- What is written for a value spells it, at each type that it has.
use Rattle.std.proofs.Common.{◌≡◌, ℕ, suc, List, [], ◌∷◌, ◌++◌, length, refl, sym, ap, ◌∙◌}
use Rattle.std.specs.List.{flat_map}
use Rattle.std.proofs.lemmas.List.Concat.{flat_map-cons}
use Rattle.std.specs.Prelude.{ℤ}
use Rattle.std.specs.Int.{Width, w8, w16, w32, w64, to_le_bytes, cast_signed, cast_unsigned}
use Rattle.std.proofs.lemmas.Int.{of_z-to_z}
use Rattle.cd_types.specs.declared.entry.TyRef.{TyRef}
use Rattle.cd_types.specs.declared.entry.Entry.{Entry}
use Rattle.ic_leb.specs.declared.width.Width.TheVariants.{Candid}
use Rattle.ic_leb.specs.Spelling.{unsigned_spelling}
use Rattle.ic_leb.proofs.Shortest.{unsigned_spelled, signed_spelled}
use Rattle.cd_codec.specs.Content.{Plain, null, bool, nat, int, nat8, nat16, nat32, nat64, int8, int16, int32, int64, text, reserved, func, service, principal, Content, plain, blob, none, some, list, record_of, variant, Contents, no_content, content, Parts, no_part, part, count_of, contents_of, parts_of}
use Rattle.cd_codec.specs.Basic.{SpellsCounted}
use Rattle.cd_codec.specs.Plain.{SpellsPlain}
use Rattle.cd_codec.specs.Wire.{Wire, WireAll, WireParts}
use Rattle.cd_codec.specs.AreValues.{WireEach}
use Rattle.cd_codec.specs.Spelling.{counted, principal_spelling, plain_spelling, spelling, spelling_all, spelling_parts}

counted_spelled : (s bytes : List ℕ) → SpellsCounted s bytes → SpellsCounted s (counted s)
counted_spelled s bytes p = record { count = unsigned_spelling (length s); whole = refl; counted = unsigned_spelled Candid (length s) p.counted.fits }

-- the number of a signed number of fixed width
bits_are : (width : Width) (n : ℕ) (z : ℤ) → cast_unsigned width (cast_signed width n) ≡ n → cast_signed width n ≡ z → cast_unsigned width z ≡ n
bits_are width n z same e = ap (cast_unsigned width) (sym e) ∙ same

plain_spelled : (v : Plain) (bytes : List ℕ) → SpellsPlain v bytes → SpellsPlain v (plain_spelling v)
unfolding plain_spelling
plain_spelled null bytes p = refl
plain_spelled (bool b) bytes p = refl
plain_spelled (nat n) bytes p = unsigned_spelled Candid n p.fits
plain_spelled (int z) bytes p = signed_spelled Candid z p.fits
plain_spelled (nat8 n) bytes p = (p.0, refl)
plain_spelled (nat16 n) bytes p = (p.0, refl)
plain_spelled (nat32 n) bytes p = (p.0, refl)
plain_spelled (nat64 n) bytes p = (p.0, refl)
plain_spelled (int8 z) bytes p = (p.0, p.1, (p.2.0, ap (to_le_bytes w8) (bits_are w8 p.0 z (of_z-to_z w8 p.0 p.2.0) p.1)))
plain_spelled (int16 z) bytes p = (p.0, p.1, (p.2.0, ap (to_le_bytes w16) (bits_are w16 p.0 z (of_z-to_z w16 p.0 p.2.0) p.1)))
plain_spelled (int32 z) bytes p = (p.0, p.1, (p.2.0, ap (to_le_bytes w32) (bits_are w32 p.0 z (of_z-to_z w32 p.0 p.2.0) p.1)))
plain_spelled (int64 z) bytes p = (p.0, p.1, (p.2.0, ap (to_le_bytes w64) (bits_are w64 p.0 z (of_z-to_z w64 p.0 p.2.0) p.1)))
plain_spelled (text s) bytes p = (p.0, counted_spelled s bytes p.1)
plain_spelled reserved bytes p = refl
plain_spelled (func s m) bytes p =
    (principal_spelling s ++ counted m, refl, (principal_spelling s, counted m, refl, (counted s, refl, (p.2.3.2.0, counted_spelled s p.2.3.0 p.2.3.2.1)), (p.2.4.0, counted_spelled m p.2.1 p.2.4.1)))
plain_spelled (service s) bytes p = (counted s, refl, (p.2.0, counted_spelled s p.0 p.2.1))
plain_spelled (principal s) bytes p = (counted s, refl, (p.2.0, counted_spelled s p.0 p.2.1))

mutual
  unfolding spelling

  -- what is written for a value of a type spells it at the type
  pub value_spelled : (v : Content) (table : List Entry) (type : TyRef) (bytes : List ℕ) → Wire table type v bytes → Wire table type v (spelling v)
  value_spelled (plain p) table type bytes w = (w.0, plain_spelled p bytes w.1)
  value_spelled (blob s) table type bytes w = (w.0, w.1, w.2, counted_spelled s bytes w.3)
  value_spelled none table type bytes w = (w.0, w.1, refl)
  value_spelled (some v) table type bytes w = (w.0, w.1, spelling v, refl, value_spelled v table w.0 w.2 w.4)
  value_spelled (list vs) table type bytes w = (w.0, w.1, w.2, unsigned_spelling (count_of vs), spelling_all vs, refl, unsigned_spelled Candid (count_of vs) w.6.fits, all_spelled vs table w.0 w.4 w.7)
  value_spelled (record_of ps) table type bytes w = (w.0, w.1, parts_spelled ps table w.0 bytes w.2)
  value_spelled (variant i v) table type bytes w = (w.0, w.1, w.2, w.3, unsigned_spelling i, spelling v, refl, unsigned_spelled Candid i w.7.fits, value_spelled v table w.2.1 w.5 w.8)

  all_spelled : (vs : Contents) (table : List Entry) (item : TyRef) (bytes : List ℕ) → WireAll table item vs bytes → WireAll table item vs (spelling_all vs)
  all_spelled no_content table item bytes w = refl
  all_spelled (content v vs) table item bytes w = (spelling v, spelling_all vs, refl, value_spelled v table item w.0 w.3, all_spelled vs table item w.1 w.4)

  parts_spelled : (ps : Parts) (table : List Entry) (fields : List (ℕ × TyRef)) (bytes : List ℕ) → WireParts table fields ps bytes → WireParts table fields ps (spelling_parts ps)
  parts_spelled no_part table fields bytes w = (w.0, refl)
  parts_spelled (part i v ps) table fields bytes w = (w.0, w.1, w.2, w.3, spelling v, spelling_parts ps, refl, value_spelled v table w.0.1 w.4 w.7, parts_spelled ps table w.1 w.5 w.8)

-- what is written for values of these types spells them at the types
pub each_spelled : (vs : List Content) (table : List Entry) (types : List TyRef) (bytes : List ℕ) → WireEach table types vs bytes → WireEach table types vs (flat_map spelling vs)
each_spelled [] table types bytes w = (w.0, refl)
each_spelled (v ∷ vs) table types bytes w = (w.0, w.1, w.2, spelling v, flat_map spelling vs, flat_map-cons spelling v vs, value_spelled v table w.0 w.3 w.6, each_spelled vs table w.1 w.4 w.7)

-- ---- the lists that values and fields are made of

pub count_made : (vs : List Content) → count_of (contents_of vs) ≡ length vs
count_made [] = refl
count_made (v ∷ vs) = ap suc (count_made vs)

pub all_made : (vs : List Content) → spelling_all (contents_of vs) ≡ flat_map spelling vs
unfolding spelling
all_made [] = refl
all_made (v ∷ vs) = ap (λ (bytes : List ℕ). spelling v ++ bytes) (all_made vs) ∙ sym (flat_map-cons spelling v vs)

pub fields_made : (ps : List (ℕ × Content)) → spelling_parts (parts_of ps) ≡ flat_map (λ p. spelling p.1) ps
unfolding spelling
fields_made [] = refl
fields_made (p ∷ ps) = ap (λ (bytes : List ℕ). spelling p.1 ++ bytes) (fields_made ps) ∙ sym (flat_map-cons (λ (q : ℕ × Content). spelling q.1) p ps)
