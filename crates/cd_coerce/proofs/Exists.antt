-- a value is read where its type is a subtype of the expected one, unless it has a nat of 2^127 or more
use Rattle.std.proofs.Common.{◌≡◌, ◌⊎◌, inl, inr, ℕ, zero, suc, Bool, true, false, List, [], ◌∷◌, map, Option, Some, None, ◌==◌, refl, sym, ◌∙◌, ap, subst, arith, slice_get, if◌then◌else◌}
use Rattle.std.specs.Prelude.{pos}
use Rattle.std.specs.List.{AllByRecursion}
use Rattle.std.specs.Ordering.{nat_cmp, is_eq}
use Rattle.std.proofs.lemmas.Bool.Decides.{nat_tests}
use Rattle.ic_base.proofs.Steps.{some_is}
use Rattle.cd_types.specs.declared.primitive.Primitive.{Primitive}
use Rattle.cd_types.specs.declared.primitive.Primitive.TheVariants.{Null, Reserved, Nat8, Empty}
use Rattle.cd_types.specs.declared.entry.TyRef.{TyRef}
use Rattle.cd_types.specs.declared.entry.TyRef.TheVariants.{Prim, Index}
use Rattle.cd_types.specs.declared.entry.Entry.{Entry}
use Rattle.cd_types.specs.declared.entry.Entry.TheVariants.{Opt, Seq, Rec, Var}
use Rattle.cd_types.specs.Shape.{Shape, primitive, compound, entry_shape, shape}
use Rattle.cd_sub.specs.MayMiss.{may_miss}
use Rattle.cd_sub.specs.Rule.{Rule, HasField, HasCase}
use Rattle.cd_sub.specs.TypeUnder.{type_under}
use Rattle.cd_codec.specs.Content.{Content, Plain, null, nat8, int, reserved, plain, blob, none, some, list, record_of, variant, Contents, no_content, content, Parts, no_part, part}
use Rattle.cd_codec.specs.Plain.{HasShape}
use Rattle.cd_codec.specs.Wire.{is_nat8, Wire, WireAll, WireParts}
use Rattle.cd_coerce.specs.Small.{IsSmallPlain, IsSmall, AreSmall, PartsAreSmall}
use Rattle.cd_coerce.specs.Missing.{missing}
use Rattle.cd_coerce.specs.Parts.{values_of, field_values, byte_value, is_constituent, with_fields, under, case_from}
use Rattle.cd_coerce.specs.Coerce.{Coerce, CoerceAll, CoerceFields}
use Rattle.cd_coerce.specs.Read.{Way, to_reserved, to_opt, to_own, way}
use Rattle.cd_coerce.proofs.ShapeLemmas.{way_reserved, way_opt, constituent_way}
use Rattle.cd_coerce.proofs.Typed.{nat8_is}
use Rattle.cd_coerce.proofs.RuleLemmas.{rule_opt, rule_seq, rule_rec, rule_var, rule_nat8, rule_plain, no_empty}

-- ---- looking up

same_test : (a b : ℕ) → is_eq (nat_cmp a b) ≡ (a == b)
same_test a b = grind (arith, nat_tests)

type_step : (id : ℕ) (g : ℕ × TyRef) (fs : List (ℕ × TyRef)) → type_under nat_cmp id (g ∷ fs) ≡ (if g.0 == id then Some g.1 else type_under nat_cmp id fs)
type_step id g fs = ap (λ (b : Bool). if b then Some g.1 else type_under nat_cmp id fs) (same_test g.0 id)

-- the expected case with the id
case_found : (gs : List (ℕ × TyRef)) (place id : ℕ) (type : TyRef) → type_under nat_cmp id gs ≡ Some type → (i : ℕ) × (case_from place id gs ≡ Some (i, type))
case_found [] place id type e = absurd cc
case_found (g ∷ gs) place id type e =
    elim (g.0 == id) as (λ (b : Bool). (if b then Some g.1 else type_under nat_cmp id gs) ≡ Some type → (i : ℕ) × ((if b then Some (place, g.1) else case_from (suc place) id gs) ≡ Some (i, type))) [
      | true ↦ λ e. (place, ap (λ (t : TyRef). Some (place, t)) (some_is g.1 type e))
      | false ↦ λ e. case_found gs (suc place) id type e
    ] (sym (type_step id g gs) ∙ e)

at_index : {A : Type 0} (P : A → Type 0) (xs : List A) (i : ℕ) (x : A) → AllByRecursion P xs → slice_get xs i ≡ Some x → P x
at_index P [] i x all e = absurd cc
at_index {A} P (y ∷ xs) zero x all e = subst P (some_is {A = A} y x e) all.0
at_index P (y ∷ xs) (suc i) x all e = at_index P xs i x all.1 e

-- what is under an id, where its type is known
Under : (type : Option TyRef) → Option (TyRef × Content) → Type 0
Under (Some type) found = (v : Content) × (found ≡ Some (type, v))
Under None found = found ≡ None

under_typed : (table : List Entry) (fs : List (ℕ × TyRef)) (ps : Parts) (bytes : List ℕ) (i : ℕ) → WireParts table fs ps bytes → Under (type_under nat_cmp i fs) (under i (with_fields fs (field_values ps)))
unfolding Under
under_typed table [] ps bytes i wire = refl
under_typed table (g ∷ fs) no_part bytes i wire = absurd (let k : g ∷ fs ≡ [] = wire.0 in cc)
under_typed table (g ∷ fs) (part j v ps) bytes i (field, more, is, id, front, rest, whole, first, wire) =
    let fs_is : more ≡ fs = cc in
    let others = under_typed table fs ps rest i (subst (λ (fs : List (ℕ × TyRef)). WireParts table fs ps rest) fs_is wire) in
    subst (λ (o : Option TyRef). Under o (under i (with_fields (g ∷ fs) (field_values (part j v ps))))) (sym (type_step i g fs))
    (elim (g.0 == i) as (λ (b : Bool). Under (if b then Some g.1 else type_under nat_cmp i fs) (if b then Some (g.1, v) else under i (with_fields fs (field_values ps)))) [
      | true ↦ (v, refl)
      | false ↦ others
    ])

missing_value : (s : Shape) → may_miss s ≡ true → (r : Content) × (missing s ≡ Some r)
missing_value (primitive Null) e = (plain null, refl)
missing_value (primitive Reserved) e = (plain reserved, refl)
missing_value (compound (Opt type)) e = (none, refl)
missing_value _ e = absurd cc

-- ---- values of no type, and references to nat8

no_value : (table : List Entry) (v : Content) (t : TyRef) (bytes : List ℕ) → shape table t ≡ primitive Empty → Wire table t v bytes → ⊥
no_value table (plain p) t bytes e wire = no_empty p (subst (HasShape p) e wire.0)
no_value table (blob s) t bytes e wire = let k : primitive Empty ≡ compound (Seq wire.0) = sym e ∙ wire.1 in cc
no_value table none t bytes e wire = let k : primitive Empty ≡ compound (Opt wire.0) = sym e ∙ wire.1 in cc
no_value table (some v) t bytes e wire = let k : primitive Empty ≡ compound (Opt wire.0) = sym e ∙ wire.1 in cc
no_value table (list vs) t bytes e wire = let k : primitive Empty ≡ compound (Seq wire.0) = sym e ∙ wire.1 in cc
no_value table (record_of ps) t bytes e wire = let k : primitive Empty ≡ compound (Rec wire.0) = sym e ∙ wire.1 in cc
no_value table (variant i v) t bytes e wire = let k : primitive Empty ≡ compound (Var wire.0) = sym e ∙ wire.1 in cc

byte_ref : (table : List Entry) (t : TyRef) → shape table t ≡ primitive Nat8 → is_nat8 t ≡ true
byte_ref table (Prim p) e = let k : p ≡ Nat8 = cc in ap (λ (p : Primitive). is_nat8 (Prim p)) k
byte_ref table (Index i) e = absurd (entry_clash (slice_get table i) e)
  where
    entry_clash : (o : Option Entry) → entry_shape o ≡ primitive Nat8 → ⊥
    entry_clash None e = cc
    entry_clash (Some entry) e = cc

-- ---- readings

module _ (B Back : TyRef → TyRef → Type 0) (lower upper : List Entry) (decide : (a b : TyRef) → B a b ⊎ (B a b → ⊥)) (rules : (a b : TyRef) → B a b → Rule B Back lower upper (shape lower a) (shape upper b)) where
  abbrev Reading : TyRef → Content → TyRef → Type 0
  Reading t v u = (r : Content) × Coerce B lower upper t v u r

  -- at reserved, at an opt, and at every other type
  around : (v : Content) (t u : TyRef) → B t u → ((w : TyRef) → way (shape upper w) ≡ to_own → B t w → Reading t v w) → ((w : TyRef) → shape upper u ≡ compound (Opt w) → Reading t v u) → Reading t v u
  around v t u below own opt = by_way (way (shape upper u)) refl
    where
      by_way : (k : Way) → way (shape upper u) ≡ k → Reading t v u
      by_way to_reserved is = (plain reserved, inl (refl, way_reserved (shape upper u) is))
      by_way (to_opt w) is = opt w (way_opt (shape upper u) w is)
      by_way to_own is = own u is below

  -- a value that is neither null, reserved nor an opt, at an opt
  constituent_opt_reading : (v : Content) (t u w : TyRef) → is_constituent v ≡ true → shape upper u ≡ compound (Opt w) → ((w : TyRef) → way (shape upper w) ≡ to_own → B t w → Reading t v w)
      → (m : Bool) → may_miss (shape upper w) ≡ m → B t w ⊎ (B t w → ⊥) → Reading t v u
  constituent_opt_reading v t u w is_it is own true e b = (none, (w, is, inr (inr (inr (inr (is_it, λ h. let k : true ≡ false = sym e ∙ h.0 in cc))))))
  constituent_opt_reading v t u w is_it is own false e (inl b) = let r = own w (constituent_way (shape upper w) e) b in (some r.0, (w, is, inr (is_it, e, b, r.1)))
  constituent_opt_reading v t u w is_it is own false e (inr not_below) = (none, (w, is, inr (inr (inr (inr (is_it, λ h. not_below h.1))))))

  constituent_reading : (v : Content) (t u : TyRef) → is_constituent v ≡ true → B t u → ((w : TyRef) → way (shape upper w) ≡ to_own → B t w → Reading t v w) → Reading t v u
  constituent_reading v t u is_it below own = around v t u below own (λ w is. constituent_opt_reading v t u w is_it is own (may_miss (shape upper w)) refl (decide t w))

  -- values without parts
  own_plain : (p : Plain) (t : TyRef) → HasShape p (shape lower t) → IsSmallPlain p → (u : TyRef) → way (shape upper u) ≡ to_own → B t u → Reading t (plain p) u
  own_plain p t has small u own below =
      elim (rule_plain B Back lower upper (shape lower t) (shape upper u) p own has (rules t u below)) [
        | inl h ↦ (plain p, inr (inl (refl, h)))
        | inr n ↦ (plain (int (pos n.0)), inr (inr (n.0, ap plain n.1, subst IsSmallPlain n.1 small, refl, n.2)))
      ]

  plain_reading : (p : Plain) (t : TyRef) → HasShape p (shape lower t) → IsSmallPlain p → (u : TyRef) → B t u → Reading t (plain p) u
  plain_reading null t has small u below = around (plain null) t u below (own_plain null t has small) (λ w is. (none, (w, is, inl refl)))
  plain_reading reserved t has small u below = around (plain reserved) t u below (own_plain reserved t has small) (λ w is. (none, (w, is, inr (inl refl))))
  plain_reading p t has small u below = constituent_reading (plain p) t u refl below (own_plain p t has small)

  -- bytes
  bytes_read : (s : List ℕ) (t u : TyRef) → shape lower t ≡ primitive Nat8 → B t u → (rs : Contents) × CoerceAll B lower upper t (map byte_value s) u rs
  bytes_read [] t u e below = (no_content, refl)
  bytes_read (b ∷ s) t u e below =
      let first = plain_reading (nat8 b) t e tt u below in
      let rest = bytes_read s t u e below in
      (content first.0 rest.0, (byte_value b, map byte_value s, refl, first.1, rest.1))

  own_blob : (s : List ℕ) (t item : TyRef) → shape lower t ≡ compound (Seq item) → is_nat8 item ≡ true → (u : TyRef) → way (shape upper u) ≡ to_own → B t u → Reading t (blob s) u
  own_blob s t item is byte u own below =
      let y = rule_seq B Back lower upper (shape lower t) (shape upper u) own item is (rules t u below) in
      by_item y.0 y.1 y.2 (is_nat8 y.0) refl
    where
      by_item : (y : TyRef) → shape upper u ≡ compound (Seq y) → B item y → (b : Bool) → is_nat8 y ≡ b → Reading t (blob s) u
      by_item y at below true e = (blob s, (item, y, is, at, e, inl refl))
      by_item y at below false e =
          let rs = bytes_read s item y (ap (shape lower) (nat8_is item byte)) below in
          (list rs.0, (item, y, is, at, e, map byte_value s, refl, rs.1))

  -- lists
  no_items : (vs : Contents) (item y : TyRef) (bytes : List ℕ) → is_nat8 item ≡ false → is_nat8 y ≡ true → B item y → WireAll lower item vs bytes → vs ≡ no_content
  no_items no_content item y bytes other byte below wire = refl
  no_items (content v vs) item y bytes other byte below (front, rest, whole, first, wire) =
      elim (rule_nat8 B Back lower upper (shape lower item) (shape upper y) (ap (shape upper) (nat8_is y byte)) (rules item y below)) [
        | inl e ↦ absurd (let k : true ≡ false = sym (byte_ref lower item e) ∙ other in cc)
        | inr e ↦ absurd (no_value lower v item front e first)
      ]

  own_list : (vs : Contents) (t item : TyRef) (bytes : List ℕ) → shape lower t ≡ compound (Seq item) → is_nat8 item ≡ false → WireAll lower item vs bytes
      → ((y : TyRef) → B item y → (rs : Contents) × CoerceAll B lower upper item (values_of vs) y rs) → (u : TyRef) → way (shape upper u) ≡ to_own → B t u → Reading t (list vs) u
  own_list vs t item bytes is other wire all u own below =
      let y = rule_seq B Back lower upper (shape lower t) (shape upper u) own item is (rules t u below) in
      by_item y.0 y.1 y.2 (is_nat8 y.0) refl
    where
      by_item : (y : TyRef) → shape upper u ≡ compound (Seq y) → B item y → (b : Bool) → is_nat8 y ≡ b → Reading t (list vs) u
      by_item y at below true e = (blob [], (item, y, is, at, e, inr (ap list (no_items vs item y bytes other e below wire), refl)))
      by_item y at below false e = let rs = all y below in (list rs.0, (item, y, is, at, e, values_of vs, refl, rs.1))

  -- records
  abbrev FieldReadings : List (ℕ × (TyRef × Content)) → Type 0
  FieldReadings qs = (i : ℕ) (f : TyRef × Content) → under i qs ≡ Some f → (u : TyRef) → B f.0 u → Reading f.0 f.1 u

  fields_read : (fs : List (ℕ × TyRef)) (ps : Parts) (bytes : List ℕ) (gs : List (ℕ × TyRef)) → WireParts lower fs ps bytes → FieldReadings (with_fields fs (field_values ps)) → AllByRecursion (HasField B upper fs) gs
      → (rs : Parts) × CoerceFields B lower upper (with_fields fs (field_values ps)) gs rs
  unfolding Under
  fields_read fs ps bytes [] wire reads all = (no_part, refl)
  fields_read fs ps bytes (g ∷ gs) wire reads (inl (type, at, below), all) =
      let v = subst (λ (o : Option TyRef). Under o (under g.0 (with_fields fs (field_values ps)))) at (under_typed lower fs ps bytes g.0 wire) in
      let first = reads g.0 (type, v.0) v.1 g.1 below in
      let rest = fields_read fs ps bytes gs wire reads all in
      (part g.0 first.0 rest.0, (g.1, gs, refl, inl ((type, v.0), v.1, first.1), rest.1))
  fields_read fs ps bytes (g ∷ gs) wire reads (inr (at, may), all) =
      let gone = subst (λ (o : Option TyRef). Under o (under g.0 (with_fields fs (field_values ps)))) at (under_typed lower fs ps bytes g.0 wire) in
      let first = missing_value (shape upper g.1) may in
      let rest = fields_read fs ps bytes gs wire reads all in
      (part g.0 first.0 rest.0, (g.1, gs, refl, inr (gone, first.1), rest.1))

  own_record : (ps : Parts) (t : TyRef) (fs : List (ℕ × TyRef)) (bytes : List ℕ) → shape lower t ≡ compound (Rec fs) → WireParts lower fs ps bytes → FieldReadings (with_fields fs (field_values ps))
      → (u : TyRef) → way (shape upper u) ≡ to_own → B t u → Reading t (record_of ps) u
  own_record ps t fs bytes is wire reads u own below =
      let gs = rule_rec B Back lower upper (shape lower t) (shape upper u) own fs is (rules t u below) in
      let rs = fields_read fs ps bytes gs.0 wire reads gs.2 in
      (record_of rs.0, (fs, gs.0, is, gs.1, ps, refl, rs.1))

  nothing_under : (fs : List (ℕ × TyRef)) (i : ℕ) (f : TyRef × Content) → under i (with_fields fs []) ≡ Some f → ⊥
  nothing_under [] i f e = cc
  nothing_under (g ∷ fs) i f e = cc

  -- variants
  own_variant : (i : ℕ) (v : Content) (t : TyRef) (cases : List (ℕ × TyRef)) (case : ℕ × TyRef) → shape lower t ≡ compound (Var cases) → slice_get cases i ≡ Some case
      → ((u : TyRef) → B case.1 u → Reading case.1 v u) → (u : TyRef) → way (shape upper u) ≡ to_own → B t u → Reading t (variant i v) u
  own_variant i v t cases case is get reads u own below =
      let gs = rule_var B Back lower upper (shape lower t) (shape upper u) own cases is (rules t u below) in
      let here = at_index (HasCase B gs.0) cases i case gs.2 get in
      let place = case_found gs.0 0 case.0 here.0 here.1 in
      let r = reads here.0 here.2 in
      (variant place.0 r.0, (cases, gs.0, is, gs.1, i, v, refl, case, get, here.0, place.1, r.1))

  -- some of a value, at an opt
  some_reading : (v : Content) (t inner u w : TyRef) → shape lower t ≡ compound (Opt inner) → shape upper u ≡ compound (Opt w) → ((w : TyRef) → B inner w → Reading inner v w)
      → B inner w ⊎ (B inner w → ⊥) → Reading t (some v) u
  some_reading v t inner u w at is reads (inl b) = let r = reads w b in (some r.0, (w, is, inl (inner, v, at, refl, b, r.1)))
  some_reading v t inner u w at is reads (inr not_below) = (none, (w, is, inr (inr (inr (inl (inner, v, at, refl, not_below))))))

  mutual
    -- what a value is read as
    pub exists : (v : Content) (t : TyRef) (bytes : List ℕ) → Wire lower t v bytes → IsSmall v → (u : TyRef) → B t u → (r : Content) × Coerce B lower upper t v u r
    exists (plain p) t bytes wire small u below = plain_reading p t wire.0 small u below
    exists (blob s) t bytes wire small u below = constituent_reading (blob s) t u refl below (own_blob s t wire.0 wire.1 wire.2)
    exists none t bytes wire small u below =
        around none t u below
        (λ w own b. absurd (rule_opt B Back lower upper (shape lower t) (shape upper w) own wire.0 wire.1 (rules t w b)))
        (λ w is. (none, (w, is, inr (inr (inl refl)))))
    exists (some v) t bytes wire small u below =
        around (some v) t u below
        (λ w own b. absurd (rule_opt B Back lower upper (shape lower t) (shape upper w) own wire.0 wire.1 (rules t w b)))
        (λ w is. some_reading v t wire.0 u w wire.1 is (λ w b. exists v wire.0 wire.2 wire.4 small w b) (decide wire.0 w))
    exists (list vs) t bytes wire small u below =
        constituent_reading (list vs) t u refl below (own_list vs t wire.0 wire.4 wire.1 wire.2 wire.7 (λ y b. exists_all vs wire.0 wire.4 wire.7 small y b))
    exists (record_of ps) t bytes wire small u below =
        constituent_reading (record_of ps) t u refl below (own_record ps t wire.0 bytes wire.1 wire.2 (exists_fields ps wire.0 bytes wire.2 small))
    exists (variant i v) t bytes wire small u below =
        constituent_reading (variant i v) t u refl below (own_variant i v t wire.0 wire.2 wire.1 wire.3 (λ w b. exists v wire.2.1 wire.5 wire.8 small w b))

    exists_all : (vs : Contents) (t : TyRef) (bytes : List ℕ) → WireAll lower t vs bytes → AreSmall vs → (u : TyRef) → B t u → (rs : Contents) × CoerceAll B lower upper t (values_of vs) u rs
    exists_all no_content t bytes wire small u below = (no_content, refl)
    exists_all (content v vs) t bytes (front, rest, whole, first, wire) small u below =
        let r = exists v t front first small.0 u below in
        let rs = exists_all vs t rest wire small.1 u below in
        (content r.0 rs.0, (v, values_of vs, refl, r.1, rs.1))

    exists_fields : (ps : Parts) (fs : List (ℕ × TyRef)) (bytes : List ℕ) → WireParts lower fs ps bytes → PartsAreSmall ps → FieldReadings (with_fields fs (field_values ps))
    exists_fields no_part fs bytes wire small i f e u below = absurd (nothing_under fs i f e)
    exists_fields (part j v ps) fs bytes (field, more, is, id, front, rest, whole, first, wire) small i f e u below =
        let found : under i (with_fields (field ∷ more) (v ∷ field_values ps)) ≡ Some f = ap (λ (fs : List (ℕ × TyRef)). under i (with_fields fs (v ∷ field_values ps))) (sym is) ∙ e in
        elim (field.0 == i) as (λ (b : Bool). (if b then Some (field.1, v) else under i (with_fields more (field_values ps))) ≡ Some f → Reading f.0 f.1 u) [
          | true ↦ λ e.
              let same = some_is {A = TyRef × Content} (field.1, v) f e in
              subst (λ (f : TyRef × Content). B f.0 u → Reading f.0 f.1 u) same (λ b. exists v field.1 front first small.0 u b) below
          | false ↦ λ e. exists_fields ps more rest wire small.1 i f e u below
        ] found
