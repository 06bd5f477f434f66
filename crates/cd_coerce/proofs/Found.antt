-- what the functions read is in the relation
use Rattle.std.proofs.Common.{◌≡◌, ◌⊎◌, inl, inr, ℕ, ◌^◌, Bool, true, false, ◌&&◌, not, List, [], ◌∷◌, map, Option, Some, None, ◌==◌, refl, sym, ◌∙◌, ap, subst}
use Rattle.std.specs.Prelude.{pos, nat_lt, slice_get, if◌then◌else◌}
use Rattle.std.proofs.lemmas.Bool.{ltb-true}
use Rattle.ic_base.specs.Reader.{◌>>=◌}
use Rattle.ic_base.proofs.Steps.{bind_some, some_is}
use Rattle.cd_types.specs.declared.primitive.Primitive.TheVariants.{Int}
use Rattle.cd_types.specs.declared.entry.TyRef.{TyRef}
use Rattle.cd_types.specs.declared.entry.Entry.TheVariants.{Opt, Seq}
use Rattle.cd_types.specs.Shape.{compound, shape}
use Rattle.cd_sub.specs.MayMiss.{may_miss}
use Rattle.cd_codec.specs.Content.{Content, Plain, null, nat, int, nat8, reserved, plain, blob, none, some, list, record_of, variant, Contents, no_content, content, contents_of, Parts, no_part, part, parts_of}
use Rattle.cd_codec.specs.Wire.{is_nat8}
use Rattle.cd_coerce.specs.Missing.{missing}
use Rattle.cd_coerce.specs.Parts.{values_of, field_values, byte_value, items_of, is_plain_constituent, is_constituent, with_fields, under, case_from}
use Rattle.cd_coerce.specs.Coerce.{IsBlob, IsNone, Coerce, CoerceAll, CoerceFields}
use Rattle.cd_coerce.specs.Decides.{Decides}
use Rattle.cd_coerce.specs.Read.{Setting, Way, to_reserved, to_opt, to_own, way, has_shape, is_primitive, as_int, AtTypes, Coercions, way_at, read_at, some_if, constituent_opt, by_constituent, null_at_opt, at_no_type, opt_of, seq_of, fields_of, cases_of, coercions_of_plain, plain_coercion, some_opt, coercions_of_opt, all_at, items_at, seq_at, bytes_of, field_at, fields_at, record_at, variant_at, coercions_of_byte, coercions, coercions_of_items, coercions_of_fields}
use Rattle.cd_coerce.proofs.ShapeLemmas.{primitive_is, has_shape_is, way_reserved, way_opt, opt_of_is, seq_of_is, fields_of_is, cases_of_is, if_holds_is, some_if_is}
use Rattle.cd_types.proofs.FaultLemmas.{both_true}

-- the relation in a setting
abbrev pub CoerceIn : (TyRef → TyRef → Type 0) → Setting → TyRef → Content → TyRef → Content → Type 0
CoerceIn B c t v u r = Coerce B c.wire c.expected t v u r

-- what the function reads is so related to v
abbrev pub Found : (TyRef → TyRef → Type 0) → Setting → Content → AtTypes → Type 0
Found B c v read = (t u : TyRef) (r : Content) → read t u ≡ Some r → CoerceIn B c t v u r

-- what the function reads at the opt of a type is so related to v
abbrev pub FoundOpt : (TyRef → TyRef → Type 0) → Setting → Content → AtTypes → Type 0
FoundOpt B c v read = (t u w : TyRef) (r : Content) → shape c.expected u ≡ compound (Opt w) → read t w ≡ Some r → CoerceIn B c t v u r

way_found : (B : TyRef → TyRef → Type 0) (c : Setting) (v : Content) (rs : Coercions) → Found B c v rs.own → FoundOpt B c v rs.opt
    → (t u : TyRef) (r : Content) (k : Way) → way (shape c.expected u) ≡ k → way_at (rs.own t u) (rs.opt t) k ≡ Some r → CoerceIn B c t v u r
way_found B c v rs own opt t u r to_reserved is e = subst (CoerceIn B c t v u) (some_is (plain reserved) r e) (inl (refl, way_reserved _ is))
way_found B c v rs own opt t u r (to_opt w) is e = opt t u w r (way_opt _ w is) e
way_found B c v rs own opt t u r to_own is e = own t u r e

read_found : (B : TyRef → TyRef → Type 0) (c : Setting) (v : Content) (rs : Coercions) → Found B c v rs.own → FoundOpt B c v rs.opt → Found B c v (read_at c rs)
read_found B c v rs own opt t u r e = way_found B c v rs own opt t u r (way (shape c.expected u)) refl e

pub yes : {B : TyRef → TyRef → Type 0} {below : TyRef → TyRef → Bool} → Decides B below → (a b : TyRef) → below a b ≡ true → B a b
yes decides a b e = elim (decides a b) [ inl p ↦ p.1 | inr p ↦ absurd (let k : true ≡ false = sym e ∙ p.0 in cc) ]

pub is_yes : {B : TyRef → TyRef → Type 0} {below : TyRef → TyRef → Bool} → Decides B below → (a b : TyRef) → B a b → below a b ≡ true
is_yes decides a b h = elim (decides a b) [ inl p ↦ p.0 | inr p ↦ absurd (p.1 h) ]

pub no : {B : TyRef → TyRef → Type 0} {below : TyRef → TyRef → Bool} → Decides B below → (a b : TyRef) → below a b ≡ false → B a b → ⊥
no decides a b e h = let k : true ≡ false = sym (is_yes decides a b h) ∙ e in cc

not_true : (b : Bool) → not b ≡ true → b ≡ false
not_true false e = refl
not_true true e = absurd cc

constituent_found : (B : TyRef → TyRef → Type 0) (c : Setting) → Decides B c.below → (v : Content) → is_constituent v ≡ true → (own : AtTypes) → Found B c v own → FoundOpt B c v (constituent_opt c own)
constituent_found B c decides v is_it own found t u w r is e =
    elim (some_if_is (not (may_miss (shape c.expected w)) && c.below t w) (own t w) r e) [
      | inl p ↦
          let tests = both_true (not (may_miss (shape c.expected w))) (c.below t w) p.0 in
          subst (CoerceIn B c t v u) p.3 (w, is, inr (is_it, not_true _ tests.0, yes decides t w tests.1, found t w p.1 p.2))
      | inr p ↦
          subst (CoerceIn B c t v u) p.1 (
            w,
            is,
            inr (inr (inr (inr (
              is_it,
              λ m.
                  let k : true ≡ false = sym (ap (λ (b : Bool). not b && c.below t w) m.0 ∙ is_yes decides t w m.1) ∙ p.0 in cc,
            )))),
          )
    ]

-- a value that is neither null, reserved nor an opt
constituent_reads : (B : TyRef → TyRef → Type 0) (c : Setting) → Decides B c.below → (v : Content) → is_constituent v ≡ true → (own : AtTypes) → Found B c v own → Found B c v (read_at c (by_constituent c own))
constituent_reads B c decides v is_it own found = read_found B c v (by_constituent c own) found (constituent_found B c decides v is_it own found)

-- null, reserved or none
null_reads : (B : TyRef → TyRef → Type 0) (c : Setting) (v : Content) → ((t w : TyRef) → IsNone B c.wire c.expected t v w) → (own : AtTypes) → Found B c v own → Found B c v (read_at c (null_at_opt own))
null_reads B c v is_none own found = read_found B c v (null_at_opt own) found (λ t u w r is e. subst (CoerceIn B c t v u) (some_is none r e) (w, is, is_none t w))

int_found : (B : TyRef → TyRef → Type 0) (c : Setting) (t u : TyRef) (p : Plain) (r : Content) → as_int p (shape c.expected u) ≡ Some r → CoerceIn B c t (plain p) u r
int_found B c t u (nat n) r e =
    let g = if_holds_is _ (plain (int (pos n))) r e in
    let tests = both_true (is_primitive Int (shape c.expected u)) (nat_lt n (2 ^ 127)) g.0 in
    subst (CoerceIn B c t (plain (nat n)) u) g.1 (inr (inr (n, refl, ltb-true n (2 ^ 127) tests.1, refl, primitive_is Int _ tests.0)))
int_found B c t u _ r e = absurd cc

plain_found_by : (B : TyRef → TyRef → Type 0) (c : Setting) (t u : TyRef) (p : Plain) (r : Content) (b : Bool) → has_shape p (shape c.expected u) ≡ b
    → (if b then Some (plain p) else as_int p (shape c.expected u)) ≡ Some r → CoerceIn B c t (plain p) u r
plain_found_by B c t u p r true is e = subst (CoerceIn B c t (plain p) u) (some_is (plain p) r e) (inr (inl (refl, has_shape_is p _ is)))
plain_found_by B c t u p r false is e = int_found B c t u p r e

plain_found : (B : TyRef → TyRef → Type 0) (c : Setting) (p : Plain) → Found B c (plain p) (plain_coercion c p)
plain_found B c p t u r e = plain_found_by B c t u p r (has_shape p (shape c.expected u)) refl e

null_plain : (p : Plain) → is_plain_constituent p ≡ false → (p ≡ null) ⊎ (p ≡ reserved)
null_plain null e = inl refl
null_plain reserved e = inr refl
null_plain _ e = absurd cc

plain_reads : (B : TyRef → TyRef → Type 0) (c : Setting) → Decides B c.below → (p : Plain) (b : Bool) → is_plain_constituent p ≡ b → Found B c (plain p) (read_at c (coercions_of_plain c b (plain_coercion c p)))
plain_reads B c decides p true is = constituent_reads B c decides (plain p) is (plain_coercion c p) (plain_found B c p)
plain_reads B c decides p false is =
    null_reads B c (plain p)
    (λ t w. elim (null_plain p is) [ inl e ↦ inl (ap plain e) | inr e ↦ inr (inl (ap plain e)) ])
    (plain_coercion c p) (plain_found B c p)

opt_found : (B : TyRef → TyRef → Type 0) (c : Setting) → Decides B c.below → (y : Content) (rs : Coercions) → Found B c y (read_at c rs) → FoundOpt B c (some y) (some_opt c rs)
opt_found B c decides y rs found t u w r is e =
    let x = bind_some (opt_of (shape c.wire t)) (λ x. some_if (c.below x w) (read_at c rs x w)) r e in
    let inner = opt_of_is _ x.0 x.1 in
    elim (some_if_is (c.below x.0 w) (read_at c rs x.0 w) r x.2) [
      | inl p ↦ subst (CoerceIn B c t (some y) u) p.3 (w, is, inl (x.0, y, inner, refl, yes decides x.0 w p.0, found x.0 w p.1 p.2))
      | inr p ↦ subst (CoerceIn B c t (some y) u) p.1 (w, is, inr (inr (inr (inl (x.0, y, inner, refl, no decides x.0 w p.0)))))
    ]

-- each function reads its value
abbrev pub AllFound : (TyRef → TyRef → Type 0) → Setting → List Content → List Coercions → Type 0
AllFound B c [] [] = Unit {0}
AllFound B c [] (rs ∷ more) = ⊥
AllFound B c (v ∷ vs) [] = ⊥
AllFound B c (v ∷ vs) (rs ∷ more) = Found B c v (read_at c rs) × AllFound B c vs more

all_found : (B : TyRef → TyRef → Type 0) (c : Setting) (t u : TyRef) (vs : List Content) (rds : List Coercions) (rs : List Content)
    → AllFound B c vs rds → all_at c t u rds ≡ Some rs → CoerceAll B c.wire c.expected t vs u (contents_of rs)
all_found B c t u [] [] rs found e = subst (λ (rs : List Content). CoerceAll B c.wire c.expected t [] u (contents_of rs)) (some_is [] rs e) refl
all_found B c t u [] (rd ∷ rds) rs found e = absurd found
all_found B c t u (v ∷ vs) [] rs found e = absurd found
all_found B c t u (v ∷ vs) (rd ∷ rds) rs found e =
    let x = bind_some (read_at c rd t u) (λ r. all_at c t u rds >>= λ rs. Some (r ∷ rs)) rs e in
    let y = bind_some (all_at c t u rds) (λ rs. Some (x.0 ∷ rs)) rs x.2 in
    subst (λ (rs : List Content). CoerceAll B c.wire c.expected t (v ∷ vs) u (contents_of rs)) (some_is (x.0 ∷ y.0) rs y.2)
    (v, vs, refl, found.0 t u x.0 x.1, all_found B c t u vs rds y.0 found.1 y.1)

items_found : (B : TyRef → TyRef → Type 0) (c : Setting) (v : Content) (vs : List Content) (rds : List Coercions) (bytes : Option (List ℕ))
    → items_of v ≡ Some vs → AllFound B c vs rds → ((s : List ℕ) → bytes ≡ Some s → IsBlob v s)
    → (t u w x : TyRef) (r : Content) → shape c.wire t ≡ compound (Seq w) → shape c.expected u ≡ compound (Seq x)
    → (b : Bool) → is_nat8 x ≡ b → items_at c bytes rds w x b ≡ Some r → CoerceIn B c t v u r
items_found B c v vs rds bytes is all are t u w x r lower upper true byte e =
    let s = bind_some bytes (λ s. Some (blob s)) r e in
    subst (CoerceIn B c t v u) (some_is (blob s.0) r s.2) (w, x, lower, upper, byte, are s.0 s.1)
items_found B c v vs rds bytes is all are t u w x r lower upper false other e =
    let rs = bind_some (all_at c w x rds) (λ rs. Some (list (contents_of rs))) r e in
    subst (CoerceIn B c t v u) (some_is (list (contents_of rs.0)) r rs.2) (w, x, lower, upper, other, vs, is, all_found B c w x vs rds rs.0 all rs.1)

seq_found : (B : TyRef → TyRef → Type 0) (c : Setting) (v : Content) (vs : List Content) (rds : List Coercions) (bytes : Option (List ℕ))
    → items_of v ≡ Some vs → AllFound B c vs rds → ((s : List ℕ) → bytes ≡ Some s → IsBlob v s) → Found B c v (seq_at c bytes rds)
seq_found B c v vs rds bytes is all are t u r e =
    let w = bind_some (seq_of (shape c.wire t)) (λ w. seq_of (shape c.expected u) >>= λ x. items_at c bytes rds w x (is_nat8 x)) r e in
    let x = bind_some (seq_of (shape c.expected u)) (λ x. items_at c bytes rds w.0 x (is_nat8 x)) r w.2 in
    items_found B c v vs rds bytes is all are t u w.0 x.0 r (seq_of_is _ w.0 w.1) (seq_of_is _ x.0 x.1) (is_nat8 x.0) refl x.2

-- what is under an id: the coercions of the value that is there
abbrev pub Matches : (TyRef → TyRef → Type 0) → Setting → Option (TyRef × Content) → Option (TyRef × Coercions) → Type 0
Matches B c None None = Unit {0}
Matches B c None (Some rd) = ⊥
Matches B c (Some f) None = ⊥
Matches B c (Some f) (Some rd) = (f.0 ≡ rd.0) × Found B c f.1 (read_at c rd.1)

under_found : (B : TyRef → TyRef → Type 0) (c : Setting) (fs : List (ℕ × TyRef)) (vs : List Content) (rds : List Coercions) (i : ℕ)
    → AllFound B c vs rds → Matches B c (under i (with_fields fs vs)) (under i (with_fields fs rds))
under_found B c [] vs rds i all = tt
under_found B c (f ∷ fs) [] [] i all = tt
under_found B c (f ∷ fs) [] (rd ∷ rds) i all = absurd all
under_found B c (f ∷ fs) (v ∷ vs) [] i all = absurd all
under_found B c (f ∷ fs) (v ∷ vs) (rd ∷ rds) i all =
    elim (f.0 == i) as (λ (b : Bool). Matches B c (if b then Some (f.1, v) else under i (with_fields fs vs)) (if b then Some (f.1, rd) else under i (with_fields fs rds))) [
      | true ↦ (refl, all.0)
      | false ↦ under_found B c fs vs rds i all.1
    ]

field_found : (B : TyRef → TyRef → Type 0) (c : Setting) (i : ℕ) (qs : List (ℕ × (TyRef × Content))) (u : TyRef) (r : Content) (f : Option (TyRef × Content)) (rd : Option (TyRef × Coercions))
    → under i qs ≡ f → Matches B c f rd → field_at c rd u ≡ Some r
    → ((f : TyRef × Content) × (under i qs ≡ Some f) × CoerceIn B c f.0 f.1 u r) ⊎ ((under i qs ≡ None) × (missing (shape c.expected u) ≡ Some r))
field_found B c i qs u r None None is m e = inr (is, e)
field_found B c i qs u r None (Some rd) is m e = absurd m
field_found B c i qs u r (Some f) None is m e = absurd m
field_found B c i qs u r (Some f) (Some rd) is m e = inl (f, is, subst (λ (t : TyRef). CoerceIn B c t f.1 u r) (sym m.0) (m.1 rd.0 u r e))

fields_found : (B : TyRef → TyRef → Type 0) (c : Setting) (qs : List (ℕ × (TyRef × Content))) (rds : List (ℕ × (TyRef × Coercions))) → ((i : ℕ) → Matches B c (under i qs) (under i rds))
    → (gs : List (ℕ × TyRef)) (rs : List (ℕ × Content)) → fields_at c rds gs ≡ Some rs → CoerceFields B c.wire c.expected qs gs (parts_of rs)
fields_found B c qs rds m [] rs e = subst (λ (rs : List (ℕ × Content)). CoerceFields B c.wire c.expected qs [] (parts_of rs)) (some_is [] rs e) refl
fields_found B c qs rds m (g ∷ gs) rs e =
    let x = bind_some (field_at c (under g.0 rds) g.1) (λ r. fields_at c rds gs >>= λ rs. Some ((g.0, r) ∷ rs)) rs e in
    let y = bind_some (fields_at c rds gs) (λ rs. Some ((g.0, x.0) ∷ rs)) rs x.2 in
    subst (λ (rs : List (ℕ × Content)). CoerceFields B c.wire c.expected qs (g ∷ gs) (parts_of rs)) (some_is ((g.0, x.0) ∷ y.0) rs y.2)
    (g.1, gs, refl, field_found B c g.0 qs g.1 x.0 (under g.0 qs) (under g.0 rds) refl (m g.0) x.1, fields_found B c qs rds m gs y.0 y.1)

record_found : (B : TyRef → TyRef → Type 0) (c : Setting) (ps : Parts) (rds : List Coercions) → AllFound B c (field_values ps) rds → Found B c (record_of ps) (record_at c rds)
record_found B c ps rds all t u r e =
    let fs = bind_some (fields_of (shape c.wire t)) (λ fs. fields_of (shape c.expected u) >>= λ gs. fields_at c (with_fields fs rds) gs >>= λ rs. Some (record_of (parts_of rs))) r e in
    let gs = bind_some (fields_of (shape c.expected u)) (λ gs. fields_at c (with_fields fs.0 rds) gs >>= λ rs. Some (record_of (parts_of rs))) r fs.2 in
    let rs = bind_some (fields_at c (with_fields fs.0 rds) gs.0) (λ rs. Some (record_of (parts_of rs))) r gs.2 in
    subst (CoerceIn B c t (record_of ps) u) (some_is (record_of (parts_of rs.0)) r rs.2) (
      fs.0,
      gs.0,
      fields_of_is _ fs.0 fs.1,
      fields_of_is _ gs.0 gs.1,
      ps,
      refl,
      fields_found B c (with_fields fs.0 (field_values ps)) (with_fields fs.0 rds) (λ i. under_found B c fs.0 (field_values ps) rds i all) gs.0 rs.0 rs.1,
    )

variant_found : (B : TyRef → TyRef → Type 0) (c : Setting) (j : ℕ) (y : Content) (rds : Coercions) → Found B c y (read_at c rds) → Found B c (variant j y) (variant_at c j rds)
variant_found B c j y rds found t u r e =
    let fs = bind_some (cases_of (shape c.wire t)) (λ fs. slice_get fs j >>= λ f. cases_of (shape c.expected u) >>= λ gs. case_from 0 f.0 gs >>= λ g. read_at c rds f.1 g.1 >>= λ r. Some (variant g.0 r)) r e in
    let f = bind_some (slice_get fs.0 j) (λ f. cases_of (shape c.expected u) >>= λ gs. case_from 0 f.0 gs >>= λ g. read_at c rds f.1 g.1 >>= λ r. Some (variant g.0 r)) r fs.2 in
    let gs = bind_some (cases_of (shape c.expected u)) (λ gs. case_from 0 f.0.0 gs >>= λ g. read_at c rds f.0.1 g.1 >>= λ r. Some (variant g.0 r)) r f.2 in
    let g = bind_some (case_from 0 f.0.0 gs.0) (λ g. read_at c rds f.0.1 g.1 >>= λ r. Some (variant g.0 r)) r gs.2 in
    let x = bind_some (read_at c rds f.0.1 g.0.1) (λ r. Some (variant g.0.0 r)) r g.2 in
    subst (CoerceIn B c t (variant j y) u) (some_is (variant g.0.0 x.0) r x.2)
    (fs.0, gs.0, cases_of_is _ fs.0 fs.1, cases_of_is _ gs.0 gs.1, j, y, refl, f.0, f.1, g.0.1, g.1, found f.0.1 g.0.1 x.0 x.1)

-- the bytes of a blob are read as such
bytes_found : (B : TyRef → TyRef → Type 0) (c : Setting) → Decides B c.below → (bytes : List ℕ) → AllFound B c (map byte_value bytes) (map (coercions_of_byte c) bytes)
bytes_found B c decides [] = tt
bytes_found B c decides (b ∷ bytes) = (constituent_reads B c decides (byte_value b) refl (plain_coercion c (nat8 b)) (plain_found B c (nat8 b)), bytes_found B c decides bytes)

-- a list without items is an empty blob
empty_found : (c : Setting) (vs : Contents) (s : List ℕ) → bytes_of (coercions_of_items c vs) ≡ Some s → IsBlob (list vs) s
empty_found c no_content s e = inr (refl, sym (some_is [] s e))
empty_found c (content v vs) s e = absurd cc

mutual
  -- what a value is read as is in the relation
  pub found : (B : TyRef → TyRef → Type 0) (c : Setting) → Decides B c.below → (v : Content) → Found B c v (read_at c (coercions c v))
  found B c decides (plain p) = plain_reads B c decides p (is_plain_constituent p) refl
  found B c decides (blob bytes) =
      constituent_reads B c decides (blob bytes) refl (seq_at c (Some bytes) (map (coercions_of_byte c) bytes))
      (seq_found B c (blob bytes) (map byte_value bytes) (map (coercions_of_byte c) bytes) (Some bytes) refl (bytes_found B c decides bytes) (λ s e. inl (ap blob (some_is bytes s e))))
  found B c decides none = null_reads B c none (λ t w. inr (inr (inl refl))) at_no_type (λ t u r e. absurd cc)
  found B c decides (some v) =
      read_found B c (some v) (coercions_of_opt c (coercions c v)) (λ t u r e. absurd cc) (opt_found B c decides v (coercions c v) (found B c decides v))
  found B c decides (list vs) =
      constituent_reads B c decides (list vs) refl (seq_at c (bytes_of (coercions_of_items c vs)) (coercions_of_items c vs))
      (seq_found B c (list vs) (values_of vs) (coercions_of_items c vs) (bytes_of (coercions_of_items c vs)) refl (found_all B c decides vs) (empty_found c vs))
  found B c decides (record_of ps) =
      constituent_reads B c decides (record_of ps) refl (record_at c (coercions_of_fields c ps)) (record_found B c ps (coercions_of_fields c ps) (found_parts B c decides ps))
  found B c decides (variant i v) =
      constituent_reads B c decides (variant i v) refl (variant_at c i (coercions c v)) (variant_found B c i v (coercions c v) (found B c decides v))

  found_all : (B : TyRef → TyRef → Type 0) (c : Setting) → Decides B c.below → (vs : Contents) → AllFound B c (values_of vs) (coercions_of_items c vs)
  found_all B c decides no_content = tt
  found_all B c decides (content v vs) = (found B c decides v, found_all B c decides vs)

  found_parts : (B : TyRef → TyRef → Type 0) (c : Setting) → Decides B c.below → (ps : Parts) → AllFound B c (field_values ps) (coercions_of_fields c ps)
  found_parts B c decides no_part = tt
  found_parts B c decides (part i v ps) = (found B c decides v, found_parts B c decides ps)
