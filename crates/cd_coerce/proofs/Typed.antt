-- what is read has the expected type: some bytes spell it
use Rattle.std.proofs.Common.{◌≡◌, inl, inr, ℕ, suc, ◌+◌, ◌^◌, ◌%◌, ◌<◌, ◌≤◌, Bool, true, false, List, [], ◌∷◌, ◌++◌, map, length, Some, ◌==◌, refl, sym, ◌∙◌, ap, subst, arith}
use Rattle.std.specs.Prelude.{pos, slice_get, FitsSigned, if◌then◌else◌}
use Rattle.std.specs.Int.{w8, w128}
use Rattle.std.specs.List.{AllByRecursion}
use Rattle.std.proofs.lemmas.Bool.{eqb-true}
use Rattle.std.proofs.lemmas.Int.{ints}
use Rattle.ic_base.proofs.Steps.{some_is}
use Rattle.ic_leb.specs.declared.width.Width.TheVariants.{Candid}
use Rattle.ic_leb.specs.Spells.{SpellsUnsigned}
use Rattle.ic_leb.specs.Spelling.{unsigned_spelling, signed_spelling}
use Rattle.ic_leb.proofs.Shortest.{unsigned_spelled, signed_spelled}
use Rattle.cd_types.specs.declared.primitive.Primitive.TheVariants.{Null, Reserved, Nat8}
use Rattle.cd_types.specs.declared.entry.TyRef.{TyRef}
use Rattle.cd_types.specs.declared.entry.TyRef.TheVariants.{Prim}
use Rattle.cd_types.specs.declared.entry.Entry.{Entry}
use Rattle.cd_types.specs.declared.entry.Entry.TheVariants.{Opt, Seq, Rec, Var}
use Rattle.cd_types.specs.Shape.{Shape, primitive, compound, shape}
use Rattle.cd_codec.specs.Content.{Content, Plain, plain, blob, none, some, list, record_of, variant, Contents, no_content, content, Parts, no_part, part, count_of}
use Rattle.cd_codec.specs.Basic.{SpellsNatural, SpellsCounted}
use Rattle.cd_codec.specs.Wire.{is_nat8, Wire, WireAll, WireParts}
use Rattle.cd_coerce.specs.Missing.{missing}
use Rattle.cd_coerce.specs.Parts.{values_of, field_values, byte_value, items_of, with_fields, under, case_from}
use Rattle.cd_coerce.specs.Coerce.{IsPlain, IsBlob, Coerce, CoerceAll, CoerceFields}

-- numbers that are bytes
abbrev pub AreBytes : List ℕ → Type 0
AreBytes bytes = AllByRecursion (λ b. b < 256) bytes

pub all_parts : (front rest : List ℕ) → AreBytes (front ++ rest) → AreBytes front × AreBytes rest
all_parts [] rest all = (tt, all)
all_parts (b ∷ front) rest all = let parts = all_parts front rest all.1 in ((all.0, parts.0), parts.1)

parts_of_bytes : (bytes front rest : List ℕ) → bytes ≡ front ++ rest → AreBytes bytes → AreBytes front × AreBytes rest
parts_of_bytes bytes front rest e all = all_parts front rest (subst AreBytes e all)

-- the value has the type
abbrev pub IsTyped : List Entry → TyRef → Content → Type 0
IsTyped table t v = (bytes : List ℕ) × Wire table t v bytes

-- no variant has more cases than there are ids
abbrev pub FewCases : List Entry → Type 0
FewCases table = (t : TyRef) (cases : List (ℕ × TyRef)) → shape table t ≡ compound (Var cases) → length cases ≤ 2 ^ 32

int_fits : (n : ℕ) → n < 2 ^ 127 → FitsSigned w128 (pos n)
int_fits n less = omega (arith, ints)

plain_typed : (lower upper : List Entry) (p : Plain) (v : Content) (t u : TyRef) (bytes : List ℕ) → IsPlain v (shape upper u) p → Wire lower t v bytes → IsTyped upper u (plain p)
plain_typed lower upper p v t u bytes (inl e) wire = subst (λ (p : Plain). IsTyped upper u (plain p)) (sym e.0) ([], (e.1, refl))
plain_typed lower upper p v t u bytes (inr (inl e)) wire = (bytes, (e.1, (subst (λ (v : Content). Wire lower t v bytes) e.0 wire).1))
plain_typed lower upper p v t u bytes (inr (inr (n, e, less, is, at))) wire =
    subst (λ (p : Plain). IsTyped upper u (plain p)) (sym is) (signed_spelling (pos n), (at, signed_spelled Candid (pos n) (int_fits n less)))

empty_counted : SpellsCounted [] (unsigned_spelling 0 ++ [])
empty_counted = record { count = unsigned_spelling 0; whole = refl; counted = unsigned_spelled Candid 0 (omega arith) }

blob_typed : (lower upper : List Entry) (s : List ℕ) (v : Content) (t u x : TyRef) (bytes : List ℕ) → shape upper u ≡ compound (Seq x) → is_nat8 x ≡ true → IsBlob v s → Wire lower t v bytes → IsTyped upper u (blob s)
blob_typed lower upper s v t u x bytes is byte (inl e) wire = (bytes, (x, is, byte, (subst (λ (v : Content). Wire lower t v bytes) e wire).3))
blob_typed lower upper s v t u x bytes is byte (inr e) wire = subst (λ (s : List ℕ). IsTyped upper u (blob s)) (sym e.1) (unsigned_spelling 0 ++ [], (x, is, byte, empty_counted))

pub same_opt : (s : Shape) (x y : TyRef) → s ≡ compound (Opt x) → s ≡ compound (Opt y) → x ≡ y
same_opt s x y e f = let k : compound (Opt x) ≡ compound (Opt y) = sym e ∙ f in cc

pub same_seq : (s : Shape) (x y : TyRef) → s ≡ compound (Seq x) → s ≡ compound (Seq y) → x ≡ y
same_seq s x y e f = let k : compound (Seq x) ≡ compound (Seq y) = sym e ∙ f in cc

pub same_rec : (s : Shape) (x y : List (ℕ × TyRef)) → s ≡ compound (Rec x) → s ≡ compound (Rec y) → x ≡ y
same_rec s x y e f = let k : compound (Rec x) ≡ compound (Rec y) = sym e ∙ f in cc

pub same_var : (s : Shape) (x y : List (ℕ × TyRef)) → s ≡ compound (Var x) → s ≡ compound (Var y) → x ≡ y
same_var s x y e f = let k : compound (Var x) ≡ compound (Var y) = sym e ∙ f in cc

pub nat8_is : (x : TyRef) → is_nat8 x ≡ true → x ≡ Prim Nat8
nat8_is (Prim Nat8) e = refl
nat8_is _ e = absurd cc

byte_spelled : (b : ℕ) → b < 256 → SpellsNatural w8 b (b ∷ [])
byte_spelled b less = (less, (let low : b ≡ b % 256 = omega arith in ap (λ (n : ℕ). n ∷ []) low))

-- the items have the type, as many as there are
abbrev AreTyped : List Entry → TyRef → List Content → Type 0
AreTyped table t vs = AllByRecursion (λ v. (bytes : List ℕ) × Wire table t v bytes × AreBytes bytes) vs

wire_items : (table : List Entry) (t : TyRef) (vs : Contents) (bytes : List ℕ) → WireAll table t vs bytes → AreBytes bytes → AreTyped table t (values_of vs)
wire_items table t no_content bytes wire all = tt
wire_items table t (content v vs) bytes (front, rest, e, first, more) all =
    let parts = parts_of_bytes bytes front rest e all in ((front, first, parts.0), wire_items table t vs rest more parts.1)

byte_items : (table : List Entry) (t : TyRef) (s : List ℕ) → t ≡ Prim Nat8 → AreBytes s → AreTyped table t (map byte_value s)
byte_items table t [] e all = tt
byte_items table t (b ∷ s) e all = ((b ∷ [], (ap (shape table) e, byte_spelled b all.0), (all.0, tt)), byte_items table t s e all.1)

values_count : (vs : Contents) → length (values_of vs) ≡ count_of vs
values_count no_content = refl
values_count (content v vs) = ap suc (values_count vs)

bytes_count : (s : List ℕ) → length (map byte_value s) ≡ length s
bytes_count [] = refl
bytes_count (b ∷ s) = ap suc (bytes_count s)

-- the items of a vec, and how many there are
items_typed : (table : List Entry) (t w : TyRef) (v : Content) (vs : List Content) (bytes : List ℕ) → shape table t ≡ compound (Seq w) → items_of v ≡ Some vs → Wire table t v bytes → AreBytes bytes
    → AreTyped table w vs × (count : List ℕ) × SpellsUnsigned Candid (length vs) count
items_typed table t w (blob s) vs bytes is e (item, at, byte, spelled) all =
    let same = same_seq (shape table t) w item is at in
    let vs_is = some_is (map byte_value s) vs e in
    let parts = parts_of_bytes bytes spelled.count s spelled.whole all in (
      subst (AreTyped table w) vs_is (byte_items table w s (same ∙ nat8_is item byte) parts.1),
      spelled.count,
      subst (λ (n : ℕ). SpellsUnsigned Candid n spelled.count) (sym (bytes_count s) ∙ ap length vs_is) spelled.counted,
    )
items_typed table t w (list ws) vs bytes is e (item, at, other, count, rest, whole, counted, wire) all =
    let same = same_seq (shape table t) w item is at in
    let vs_is = some_is (values_of ws) vs e in
    let parts = parts_of_bytes bytes count rest whole all in (
      subst (AreTyped table w) vs_is (subst (λ (w : TyRef). AreTyped table w (values_of ws)) (sym same) (wire_items table item ws rest wire parts.1)),
      count,
      subst (λ (n : ℕ). SpellsUnsigned Candid n count) (sym (values_count ws) ∙ ap length vs_is) counted,
    )
items_typed table t w _ vs bytes is e wire all = absurd cc

-- what is under an id has its type
under_typed : (table : List Entry) (fs : List (ℕ × TyRef)) (ps : Parts) (bytes : List ℕ) (i : ℕ) (f : TyRef × Content) → WireParts table fs ps bytes → AreBytes bytes
    → under i (with_fields fs (field_values ps)) ≡ Some f → (out : List ℕ) × Wire table f.0 f.1 out × AreBytes out
under_typed table [] ps bytes i f wire all e = absurd cc
under_typed table (g ∷ fs) no_part bytes i f wire all e = absurd cc
under_typed table (g ∷ fs) (part j v ps) bytes i f (field, more, is, id, front, rest, whole, first, wire) all e =
    let parts = parts_of_bytes bytes front rest whole all in
    let g_is : g ≡ field = cc in
    let fs_is : fs ≡ more = cc in
    let first_wire : Wire table g.1 v front = subst (λ (g : ℕ × TyRef). Wire table g.1 v front) (sym g_is) first in
    let more_wire : WireParts table fs ps rest = subst (λ (fs : List (ℕ × TyRef)). WireParts table fs ps rest) (sym fs_is) wire in
    elim (g.0 == i) as (λ (b : Bool). (if b then Some (g.1, v) else under i (with_fields fs (field_values ps))) ≡ Some f → (out : List ℕ) × Wire table f.0 f.1 out × AreBytes out) [
      | true ↦ λ e. subst (λ (f : TyRef × Content). (out : List ℕ) × Wire table f.0 f.1 out × AreBytes out) (some_is {A = TyRef × Content} (g.1, v) f e) (front, first_wire, parts.0)
      | false ↦ λ e. under_typed table fs ps rest i f more_wire parts.1 e
    ] e

pub missing_typed : (table : List Entry) (u : TyRef) (s : Shape) (r : Content) → shape table u ≡ s → missing s ≡ Some r → IsTyped table u r
missing_typed table u (primitive Null) r is e = subst (IsTyped table u) (some_is _ r e) ([], (is, refl))
missing_typed table u (primitive Reserved) r is e = subst (IsTyped table u) (some_is _ r e) ([], (is, refl))
missing_typed table u (compound (Opt type)) r is e = subst (IsTyped table u) (some_is none r e) (0 ∷ [], (type, is, refl))
missing_typed table u _ r is e = absurd cc

-- the case with an id is at its place
pub case_at : (gs : List (ℕ × TyRef)) (place id i : ℕ) (w : TyRef) → case_from place id gs ≡ Some (i, w) → (d : ℕ) × (i ≡ place + d) × (slice_get gs d ≡ Some (id, w)) × (d < length gs)
case_at [] place id i w e = absurd cc
case_at (g ∷ gs) place id i w e =
    elim (g.0 == id) as (λ (b : Bool). (g.0 == id) ≡ b → (if b then Some (place, g.1) else case_from (suc place) id gs) ≡ Some (i, w) → (d : ℕ) × (i ≡ place + d) × (slice_get (g ∷ gs) d ≡ Some (id, w)) × (d < length (g ∷ gs))) [
      | true ↦ λ same e. (
          let k = some_is {A = ℕ × TyRef} (place, g.1) (i, w) e in
          let id_is = eqb-true g.0 id same in
          let place_is : place ≡ i = ap (λ (x : ℕ × TyRef). x.0) k in
          let type_is : g.1 ≡ w = ap (λ (x : ℕ × TyRef). x.1) k in
          (0, omega arith, ap (λ (n : ℕ). Some (n, g.1)) id_is ∙ ap (λ (t : TyRef). Some (id, t)) type_is, omega arith))
      | false ↦ λ same e. (let k = case_at gs (suc place) id i w e in (suc k.0, omega (arith, k.1), k.2, omega (arith, k.3)))
    ] refl e

mutual
  -- what is read at a type has the type
  pub typed : (B : TyRef → TyRef → Type 0) (lower upper : List Entry) → FewCases upper → (r v : Content) (t u : TyRef) (bytes : List ℕ) → Coerce B lower upper t v u r → Wire lower t v bytes → AreBytes bytes
      → IsTyped upper u r
  typed B lower upper few (plain p) v t u bytes h wire all = plain_typed lower upper p v t u bytes h wire
  typed B lower upper few (blob s) v t u bytes (w, x, at, is, byte, h) wire all = blob_typed lower upper s v t u x bytes is byte h wire
  typed B lower upper few none v t u bytes (w, is, h) wire all = (0 ∷ [], (w, is, refl))
  typed B lower upper few (some r) v t u bytes (w, is, inl (x, y, at, e, below, h)) wire all =
      let inner = subst (λ (v : Content). Wire lower t v bytes) e wire in
      let same = same_opt (shape lower t) inner.0 x inner.1 at in
      let rest = subst AreBytes inner.3 all in
      let out = typed B lower upper few r y x w inner.2 h (subst (λ (x : TyRef). Wire lower x y inner.2) same inner.4) rest.1 in
      (1 ∷ out.0, (w, is, out.0, refl, out.1))
  typed B lower upper few (some r) v t u bytes (w, is, inr (is_it, solid, below, h)) wire all =
      let out = typed B lower upper few r v t w bytes h wire all in (1 ∷ out.0, (w, is, out.0, refl, out.1))
  typed B lower upper few (list rs) v t u bytes (w, x, at, is, other, vs, e, more) wire all =
      let items = items_typed lower t w v vs bytes at e wire all in
      let out = typed_all B lower upper few rs vs w x more items.0 in
      (items.1 ++ out.0, (x, is, other, items.1, out.0, refl, subst (λ (n : ℕ). SpellsUnsigned Candid n items.1) (sym out.1) items.2, out.2))
  typed B lower upper few (record_of rs) v t u bytes (fs, gs, at, is, ps, e, more) wire all =
      let inner = subst (λ (v : Content). Wire lower t v bytes) e wire in
      let same = same_rec (shape lower t) inner.0 fs inner.1 at in
      let parts : WireParts lower fs ps bytes = subst (λ (fs : List (ℕ × TyRef)). WireParts lower fs ps bytes) same inner.2 in
      let out = typed_fields B lower upper few rs (with_fields fs (field_values ps)) gs (λ i f found. under_typed lower fs ps bytes i f parts all found) more in
      (out.0, (gs, is, out.1))
  typed B lower upper few (variant i r) v t u bytes (fs, gs, at, is, j, y, e, f, get, w, found, h) wire all =
      let inner = subst (λ (v : Content). Wire lower t v bytes) e wire in
      let same = same_var (shape lower t) inner.0 fs inner.1 at in
      let case_is : inner.2 ≡ f = some_is {A = ℕ × TyRef} inner.2 f (sym inner.3 ∙ ap (λ (fs : List (ℕ × TyRef)). slice_get fs j) same ∙ get) in
      let rest = parts_of_bytes bytes inner.4 inner.5 inner.6 all in
      let out = typed B lower upper few r y f.1 w inner.5 h (subst (λ (f : ℕ × TyRef). Wire lower f.1 y inner.5) case_is inner.8) rest.1 in
      let k = case_at gs 0 f.0 i w found in
      let few_gs = few u gs is in
      let place_is : k.0 ≡ i = omega (arith, k.1) in
      (unsigned_spelling i ++ out.0, (gs, is, (f.0, w), ap (slice_get gs) (sym place_is) ∙ k.2, unsigned_spelling i, out.0, refl, unsigned_spelled Candid i (omega (arith, k.1, k.3)), out.1))

  typed_all : (B : TyRef → TyRef → Type 0) (lower upper : List Entry) → FewCases upper → (rs : Contents) (vs : List Content) (t u : TyRef) → CoerceAll B lower upper t vs u rs → AreTyped lower t vs
      → (out : List ℕ) × (count_of rs ≡ length vs) × WireAll upper u rs out
  typed_all B lower upper few no_content vs t u e all = ([], ap length (sym e), refl)
  typed_all B lower upper few (content r rs) vs t u (v, more, e, h, rest) all =
      let typed_vs = subst (AreTyped lower t) e all in
      let first = typed B lower upper few r v t u typed_vs.0.0 h typed_vs.0.1 typed_vs.0.2 in
      let others = typed_all B lower upper few rs more t u rest typed_vs.1 in
      (first.0 ++ others.0, ap suc others.1 ∙ ap length (sym e), (first.0, others.0, refl, first.1, others.2))

  typed_fields : (B : TyRef → TyRef → Type 0) (lower upper : List Entry) → FewCases upper → (rs : Parts) (qs : List (ℕ × (TyRef × Content))) (gs : List (ℕ × TyRef))
      → ((i : ℕ) (f : TyRef × Content) → under i qs ≡ Some f → (out : List ℕ) × Wire lower f.0 f.1 out × AreBytes out) → CoerceFields B lower upper qs gs rs
      → (out : List ℕ) × WireParts upper gs rs out
  typed_fields B lower upper few no_part qs gs wires e = ([], (e, refl))
  typed_fields B lower upper few (part i r rs) qs gs wires (u, more, e, inl (f, at, h), all) =
      let wire = wires i f at in
      let first = typed B lower upper few r f.1 f.0 u wire.0 h wire.1 wire.2 in
      let others = typed_fields B lower upper few rs qs more wires all in
      (first.0 ++ others.0, ((i, u), more, e, refl, first.0, others.0, refl, first.1, others.1))
  typed_fields B lower upper few (part i r rs) qs gs wires (u, more, e, inr (at, h), all) =
      let first = missing_typed upper u (shape upper u) r refl h in
      let others = typed_fields B lower upper few rs qs more wires all in
      (first.0 ++ others.0, ((i, u), more, e, refl, first.0, others.0, refl, first.1, others.1))
