-- Types that are made alike have the same values.
use Rattle.std.proofs.Common.{◌≡◌, ℕ, List, [], ◌∷◌, sym, ◌∙◌, subst}
use Rattle.cd_types.specs.declared.primitive.Primitive.{Primitive}
use Rattle.cd_types.specs.declared.primitive.Primitive.TheVariants as primitives
use Rattle.cd_types.specs.declared.entry.TyRef.{TyRef}
use Rattle.cd_types.specs.declared.entry.Entry.{Entry}
use Rattle.cd_types.specs.Shape.{Shape, primitive, shape}
use Rattle.cd_codec.specs.Content.{Content, Plain, null, bool, nat, int, nat8, nat16, nat32, nat64, int8, int16, int32, int64, text, reserved, func, service, principal, plain, blob, none, some, list, record_of, variant, Contents, no_content, content, Parts, no_part, part}
use Rattle.cd_codec.specs.Plain.{HasShape}
use Rattle.cd_codec.specs.Wire.{is_nat8, Wire, WireAll, WireParts}
use Rattle.cd_codec.specs.AreValues.{WireEach}
use Rattle.cd_part.proofs.Alike.{AlikeTypes, AlikeUnder, Alike, under_at}

module _ (R : TyRef → TyRef → Type 0) where
  module _ (s s' : Shape) (alike : Alike R s s') where
    as_primitive : (p : Primitive) → s ≡ primitive p → s' ≡ primitive p
    as_primitive p e = subst (λ (x : Shape). Alike R x s') e alike

    pub has_shape : (p : Plain) → HasShape p s → HasShape p s'
    has_shape null e = as_primitive primitives.Null e
    has_shape (bool b) e = as_primitive primitives.Bool e
    has_shape (nat n) e = as_primitive primitives.Nat e
    has_shape (int z) e = as_primitive primitives.Int e
    has_shape (nat8 n) e = as_primitive primitives.Nat8 e
    has_shape (nat16 n) e = as_primitive primitives.Nat16 e
    has_shape (nat32 n) e = as_primitive primitives.Nat32 e
    has_shape (nat64 n) e = as_primitive primitives.Nat64 e
    has_shape (int8 z) e = as_primitive primitives.Int8 e
    has_shape (int16 z) e = as_primitive primitives.Int16 e
    has_shape (int32 z) e = as_primitive primitives.Int32 e
    has_shape (int64 z) e = as_primitive primitives.Int64 e
    has_shape (text s) e = as_primitive primitives.Text e
    has_shape reserved e = as_primitive primitives.Reserved e
    has_shape (principal p) e = as_primitive primitives.Principal e
    has_shape (func p m) (args, results, notes, e) = let k = subst (λ (x : Shape). Alike R x s') e alike in (k.0, k.1, notes, k.2)
    has_shape (service p) (methods, e) = let k = subst (λ (x : Shape). Alike R x s') e alike in (k.0, k.1)

  module _ (nat8s : (a b : TyRef) → R a b → is_nat8 a ≡ is_nat8 b) (first second : List Entry) (alike : (a b : TyRef) → R a b → Alike R (shape first a) (shape second b)) where
    mutual
      -- bytes that spell a value at one type spell it at the other
      pub wire_alike : (v : Content) (t u : TyRef) (bytes : List ℕ) → R t u → Wire first t v bytes → Wire second u v bytes
      wire_alike (plain p) t u bytes r (has, spells) = (has_shape (shape first t) (shape second u) (alike t u r) p has, spells)
      wire_alike (blob s) t u bytes r (item, is, byte, spells) =
          let k = subst (λ (x : Shape). Alike R x (shape second u)) is (alike t u r) in
          (k.0, k.1, sym (nat8s item k.0 k.2) ∙ byte, spells)
      wire_alike none t u bytes r (inner, is, e) =
          let k = subst (λ (x : Shape). Alike R x (shape second u)) is (alike t u r) in (k.0, k.1, e)
      wire_alike (some v) t u bytes r (inner, is, rest, e, wire) =
          let k = subst (λ (x : Shape). Alike R x (shape second u)) is (alike t u r) in
          (k.0, k.1, rest, e, wire_alike v inner k.0 rest k.2 wire)
      wire_alike (list vs) t u bytes r (item, is, other, count, rest, e, spells, wire) =
          let k = subst (λ (x : Shape). Alike R x (shape second u)) is (alike t u r) in
          (k.0, k.1, sym (nat8s item k.0 k.2) ∙ other, count, rest, e, spells, all_alike vs item k.0 rest k.2 wire)
      wire_alike (record_of ps) t u bytes r (fields, is, wire) =
          let k = subst (λ (x : Shape). Alike R x (shape second u)) is (alike t u r) in
          (k.0, k.1, parts_alike ps fields k.0 bytes k.2 wire)
      wire_alike (variant i v) t u bytes r (cases, is, case, at, place, rest, e, spells, wire) =
          let k = subst (λ (x : Shape). Alike R x (shape second u)) is (alike t u r) in
          let c = under_at R cases k.0 i case k.2 at in
          (k.0, k.1, (case.0, c.0), c.1, place, rest, e, spells, wire_alike v case.1 c.0 rest c.2 wire)

      all_alike : (vs : Contents) (t u : TyRef) (bytes : List ℕ) → R t u → WireAll first t vs bytes → WireAll second u vs bytes
      all_alike no_content t u bytes r e = e
      all_alike (content v vs) t u bytes r (front, rest, e, wire, more) = (front, rest, e, wire_alike v t u front r wire, all_alike vs t u rest r more)

      parts_alike : (ps : Parts) (fs gs : List (ℕ × TyRef)) (bytes : List ℕ) → AlikeUnder R fs gs → WireParts first fs ps bytes → WireParts second gs ps bytes
      parts_alike no_part fs gs bytes same (e, empty) = (subst (λ (fs : List (ℕ × TyRef)). AlikeUnder R fs gs) e same, empty)
      parts_alike (part i v ps) fs gs bytes same (field, others, e, id, front, rest, whole, wire, more) =
          let k = subst (λ (fs : List (ℕ × TyRef)). AlikeUnder R fs gs) e same in
          ((field.0, k.0), k.1, k.2, id, front, rest, whole, wire_alike v field.1 k.0 front k.3 wire, parts_alike ps others k.1 rest k.4 more)

    pub each_alike : (vs : List Content) (ts us : List TyRef) (bytes : List ℕ) → AlikeTypes R ts us → WireEach first ts vs bytes → WireEach second us vs bytes
    each_alike [] ts us bytes same (e, empty) = (subst (λ (ts : List TyRef). AlikeTypes R ts us) e same, empty)
    each_alike (v ∷ vs) ts us bytes same (type, others, e, front, rest, whole, wire, more) =
        let k = subst (λ (ts : List TyRef). AlikeTypes R ts us) e same in
        (k.0, k.1, k.2, front, rest, whole, wire_alike v type k.0 front k.3 wire, each_alike vs others k.1 rest k.4 more)
