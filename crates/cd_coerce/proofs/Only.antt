-- what is in the relation is what the functions read
use Rattle.std.proofs.Common.{◌≡◌, inl, inr, ℕ, ◌<◌, ◌^◌, Bool, true, false, ◌&&◌, not, List, [], ◌∷◌, map, Option, Some, None, ◌==◌, refl, sym, ◌∙◌, ap, subst}
use Rattle.std.specs.Prelude.{pos, slice_get, if◌then◌else◌}
use Rattle.std.proofs.lemmas.Bool.{lt-ltb}
use Rattle.ic_base.specs.Reader.{◌>>=◌}
use Rattle.ic_base.proofs.Steps.{some_is}
use Rattle.cd_types.specs.declared.primitive.Primitive.TheVariants.{Int}
use Rattle.cd_types.specs.declared.entry.TyRef.{TyRef}
use Rattle.cd_types.specs.declared.entry.Entry.TheVariants.{Opt, Seq, Rec, Var}
use Rattle.cd_types.specs.Shape.{Shape, primitive, compound, shape}
use Rattle.cd_sub.specs.MayMiss.{may_miss}
use Rattle.cd_codec.specs.Content.{Content, Plain, null, nat, int, reserved, plain, blob, none, some, list, record_of, variant, Contents, no_content, content, contents_of, Parts, no_part, part, parts_of}
use Rattle.cd_codec.specs.Plain.{HasShape}
use Rattle.cd_codec.specs.Wire.{is_nat8}
use Rattle.cd_coerce.specs.Parts.{values_of, field_values, byte_value, items_of, is_plain_constituent, is_constituent, with_fields, under, case_from}
use Rattle.cd_coerce.specs.Coerce.{IsPlain, IsBlob, IsNone, CoerceAll, CoerceFields}
use Rattle.cd_coerce.specs.Decides.{Decides}
use Rattle.cd_coerce.specs.Read.{Setting, to_own, way, as_int, plain_at, AtTypes, Coercions, way_at, read_at, some_if, constituent_opt, opt_of, coercions_of_plain, plain_coercion, all_at, items_at, seq_at, field_at, fields_at, record_at, variant_at, coercions_of_byte, coercions, coercions_of_items, coercions_of_fields}
use Rattle.cd_coerce.proofs.ShapeLemmas.{shape_had, constituent_way, plain_way}
use Rattle.cd_coerce.proofs.Found.{CoerceIn, is_yes}

-- the functions read r
abbrev pub Reads : Setting → Content → TyRef → TyRef → Content → Type 0
Reads c v t u r = read_at c (coercions c v) t u ≡ Some r

pub at_own : (c : Setting) (v : Coercions) (t u : TyRef) → way (shape c.expected u) ≡ to_own → read_at c v t u ≡ v.own t u
at_own c v t u is = ap (way_at (v.own t u) (v.opt t)) is

pub at_opt : (c : Setting) (v : Coercions) (t u w : TyRef) → shape c.expected u ≡ compound (Opt w) → read_at c v t u ≡ v.opt t w
at_opt c v t u w is = ap (λ (s : Shape). way_at (v.own t u) (v.opt t) (way s)) is

pub is_no : {B : TyRef → TyRef → Type 0} {below : TyRef → TyRef → Bool} → Decides B below → (a b : TyRef) → (B a b → ⊥) → below a b ≡ false
is_no decides a b h = elim (decides a b) [ inl p ↦ absurd (h p.1) | inr p ↦ p.0 ]

pub plain_own : (c : Setting) (b : Bool) (own : AtTypes) → (coercions_of_plain c b own).own ≡ own
plain_own c true own = refl
plain_own c false own = refl

itself_read : (c : Setting) (p : Plain) (t u : TyRef) → HasShape p (shape c.expected u) → Reads c (plain p) t u (plain p)
itself_read c p t u h = elim (plain_way p (shape c.expected u) h) [
  | inl is ↦ at_own c (coercions c (plain p)) t u is ∙ ap (λ (read : AtTypes). read t u) (plain_own c (is_plain_constituent p) (plain_coercion c p))
      ∙ ap (λ (b : Bool). if b then Some (plain p) else as_int p (shape c.expected u)) (shape_had p (shape c.expected u) h)
  | inr e ↦ ap (λ (s : Shape). way_at ((coercions c (plain p)).own t u) ((coercions c (plain p)).opt t) (way s)) e.1 ∙ ap (λ (q : Plain). Some (plain q)) (sym e.0)
]

int_read : (n : ℕ) → n < 2 ^ 127 → plain_at (nat n) (primitive Int) ≡ Some (plain (int (pos n)))
int_read n less = rw (lt-ltb n (2 ^ 127) less) refl

plain_only : (c : Setting) (p : Plain) (v : Content) (t u : TyRef) → IsPlain v (shape c.expected u) p → Reads c v t u (plain p)
plain_only c p v t u (inl e) = ap (λ (s : Shape). way_at ((coercions c v).own t u) ((coercions c v).opt t) (way s)) e.1 ∙ ap (λ (q : Plain). Some (plain q)) (sym e.0)
plain_only c p v t u (inr (inl e)) = subst (λ (v : Content). Reads c v t u (plain p)) (sym e.0) (itself_read c p t u e.1)
plain_only c p v t u (inr (inr (n, e, less, is, at))) =
    subst (λ (v : Content). Reads c v t u (plain p)) (sym e)
    (at_own c (coercions c (plain (nat n))) t u (ap way at) ∙ ap (plain_at (nat n)) at ∙ int_read n less ∙ ap (λ (q : Plain). Some (plain q)) (sym is))

seq_read : (c : Setting) (bytes : Option (List ℕ)) (vs : List Coercions) (t u w x : TyRef) → shape c.wire t ≡ compound (Seq w) → shape c.expected u ≡ compound (Seq x)
    → seq_at c bytes vs t u ≡ items_at c bytes vs w x (is_nat8 x)
seq_read c bytes vs t u w x lower upper = rw (lower, upper) refl

blob_only : (c : Setting) (s : List ℕ) (v : Content) (t u w x : TyRef) → shape c.wire t ≡ compound (Seq w) → shape c.expected u ≡ compound (Seq x) → is_nat8 x ≡ true
    → IsBlob v s → Reads c v t u (blob s)
blob_only c s v t u w x lower upper byte (inl e) =
    subst (λ (v : Content). Reads c v t u (blob s)) (sym e)
    (at_own c (coercions c (blob s)) t u (ap way upper) ∙ seq_read c (Some s) (map (coercions_of_byte c) s) t u w x lower upper ∙ ap (items_at c (Some s) (map (coercions_of_byte c) s) w x) byte)
blob_only c s v t u w x lower upper byte (inr e) =
    subst (λ (v : Content). Reads c v t u (blob s)) (sym e.0)
    (at_own c (coercions c (list no_content)) t u (ap way upper) ∙ seq_read c (Some []) [] t u w x lower upper ∙ ap (items_at c (Some []) [] w x) byte ∙ ap (λ (s : List ℕ). Some (blob s)) (sym e.1))

coercions_of_bytes : (c : Setting) (s : List ℕ) → map (coercions_of_byte c) s ≡ map (coercions c) (map byte_value s)
coercions_of_bytes c [] = refl
coercions_of_bytes c (b ∷ s) = ap (λ (rest : List Coercions). coercions_of_byte c b ∷ rest) (coercions_of_bytes c s)

list_coercions : (c : Setting) (vs : Contents) → coercions_of_items c vs ≡ map (coercions c) (values_of vs)
list_coercions c no_content = refl
list_coercions c (content v vs) = ap (λ (rest : List Coercions). coercions c v ∷ rest) (list_coercions c vs)

parts_coercions : (c : Setting) (ps : Parts) → coercions_of_fields c ps ≡ map (coercions c) (field_values ps)
parts_coercions c no_part = refl
parts_coercions c (part i v ps) = ap (λ (rest : List Coercions). coercions c v ∷ rest) (parts_coercions c ps)

-- a vec is read item by item
items_coercions : (c : Setting) (v : Content) (vs : List Content) → items_of v ≡ Some vs → (bytes : Option (List ℕ)) × ((coercions c v).own ≡ seq_at c bytes (map (coercions c) vs))
items_coercions c (blob s) vs is = (Some s, ap (seq_at c (Some s)) (coercions_of_bytes c s ∙ ap (map (coercions c)) (some_is (map byte_value s) vs is)))
items_coercions c (list vs') vs is = (_, ap (seq_at c _) (list_coercions c vs' ∙ ap (map (coercions c)) (some_is (values_of vs') vs is)))
items_coercions c _ vs is = absurd cc

contents_back : (rs : Contents) → contents_of (values_of rs) ≡ rs
contents_back no_content = refl
contents_back (content r rs) = ap (content r) (contents_back rs)

-- the fields of a record as a list
abbrev parts_list : Parts → List (ℕ × Content)
parts_list no_part = []
parts_list (part i v ps) = (i, v) ∷ parts_list ps

parts_back : (ps : Parts) → parts_of (parts_list ps) ≡ ps
parts_back no_part = refl
parts_back (part i v ps) = ap (part i v) (parts_back ps)

-- a value that is neither null, reserved nor an opt reads so at an opt
pub constituent_is : (c : Setting) (v : Content) → is_constituent v ≡ true → (coercions c v).opt ≡ constituent_opt c (coercions c v).own
constituent_is c (plain p) is = rw is refl
constituent_is c (blob s) is = refl
constituent_is c (list vs) is = refl
constituent_is c (record_of ps) is = refl
constituent_is c (variant i v) is = refl
constituent_is c none is = absurd cc
constituent_is c (some v) is = absurd cc

constituent_read : (c : Setting) (v : Content) (t u w : TyRef) (b : Bool) → shape c.expected u ≡ compound (Opt w) → is_constituent v ≡ true → (not (may_miss (shape c.expected w)) && c.below t w) ≡ b
    → read_at c (coercions c v) t u ≡ some_if b ((coercions c v).own t w)
constituent_read c v t u w b upper is test =
    at_opt c (coercions c v) t u w upper ∙ ap (λ (read : AtTypes). read t w) (constituent_is c v is) ∙ ap (λ (b : Bool). some_if b ((coercions c v).own t w)) test

untrue : (m b : Bool) → ((m ≡ false) × (b ≡ true) → ⊥) → (not m && b) ≡ false
untrue true b h = refl
untrue false true h = absurd (h (refl, refl))
untrue false false h = refl

inner_read : (c : Setting) (y : Content) (t u w x : TyRef) (b : Bool) → shape c.expected u ≡ compound (Opt w) → shape c.wire t ≡ compound (Opt x) → c.below x w ≡ b
    → read_at c (coercions c (some y)) t u ≡ some_if b (read_at c (coercions c y) x w)
inner_read c y t u w x b upper lower test =
    at_opt c (coercions c (some y)) t u w upper ∙ ap (λ (s : Shape). opt_of s >>= λ x. some_if (c.below x w) (read_at c (coercions c y) x w)) lower
    ∙ ap (λ (b : Bool). some_if b (read_at c (coercions c y) x w)) test

none_only : (B : TyRef → TyRef → Type 0) (c : Setting) → Decides B c.below → (v : Content) (t u w : TyRef) → shape c.expected u ≡ compound (Opt w) → IsNone B c.wire c.expected t v w → Reads c v t u none
none_only B c decides v t u w upper (inl e) = subst (λ (v : Content). Reads c v t u none) (sym e) (at_opt c (coercions c (plain null)) t u w upper)
none_only B c decides v t u w upper (inr (inl e)) = subst (λ (v : Content). Reads c v t u none) (sym e) (at_opt c (coercions c (plain reserved)) t u w upper)
none_only B c decides v t u w upper (inr (inr (inl e))) = subst (λ (v : Content). Reads c v t u none) (sym e) (at_opt c (coercions c none) t u w upper)
none_only B c decides v t u w upper (inr (inr (inr (inl (x, y, lower, e, h))))) =
    subst (λ (v : Content). Reads c v t u none) (sym e) (inner_read c y t u w x false upper lower (is_no decides x w h))
none_only B c decides v t u w upper (inr (inr (inr (inr (is, h))))) =
    constituent_read c v t u w false upper is
    (untrue (may_miss (shape c.expected w)) (c.below t w) (λ m. elim (decides t w) [ inl p ↦ h (m.0, p.1) | inr p ↦ let k : true ≡ false = sym m.1 ∙ p.0 in cc ]))

-- what is under an id, with what reads it
abbrev linked : Setting → Option (TyRef × Content) → Option (TyRef × Coercions)
linked c None = None
linked c (Some f) = Some (f.0, coercions c f.1)

under_linked : (c : Setting) (fs : List (ℕ × TyRef)) (vs : List Content) (i : ℕ) → under i (with_fields fs (map (coercions c) vs)) ≡ linked c (under i (with_fields fs vs))
under_linked c [] vs i = refl
under_linked c (f ∷ fs) [] i = refl
under_linked c (f ∷ fs) (v ∷ vs) i =
    elim (f.0 == i) as (λ (b : Bool). (if b then Some (f.1, coercions c v) else under i (with_fields fs (map (coercions c) vs))) ≡ linked c (if b then Some (f.1, v) else under i (with_fields fs vs))) [
      | true ↦ refl
      | false ↦ under_linked c fs vs i
    ]

record_read : (c : Setting) (vs : List Coercions) (t u : TyRef) (fs gs : List (ℕ × TyRef)) → shape c.wire t ≡ compound (Rec fs) → shape c.expected u ≡ compound (Rec gs)
    → record_at c vs t u ≡ (fields_at c (with_fields fs vs) gs >>= λ rs. Some (record_of (parts_of rs)))
record_read c vs t u fs gs lower upper = rw (lower, upper) refl

variant_read : (c : Setting) (j i : ℕ) (v : Coercions) (t u w : TyRef) (fs gs : List (ℕ × TyRef)) (f : ℕ × TyRef) (r : Content) → shape c.wire t ≡ compound (Var fs) → shape c.expected u ≡ compound (Var gs)
    → slice_get fs j ≡ Some f → case_from 0 f.0 gs ≡ Some (i, w) → read_at c v f.1 w ≡ Some r → variant_at c j v t u ≡ Some (variant i r)
variant_read c j i v t u w fs gs f r lower upper is at read = rw (lower, is, upper, at, read) refl

-- one field and the rest of them
fields_step : (c : Setting) (i : ℕ) (r : Content) (rs : Parts) (rds : List (ℕ × (TyRef × Coercions))) (gs : List (ℕ × TyRef)) (u : TyRef) (more : List (ℕ × TyRef)) → gs ≡ (i, u) ∷ more
    → field_at c (under i rds) u ≡ Some r → fields_at c rds more ≡ Some (parts_list rs) → fields_at c rds gs ≡ Some ((i, r) ∷ parts_list rs)
fields_step c i r rs rds gs u more e first rest =
    ap (fields_at c rds) e
    ∙ ap (λ (o : Option Content). o >>= λ r. fields_at c rds more >>= λ rs. Some ((i, r) ∷ rs)) first
    ∙ ap (λ (o : Option (List (ℕ × Content))). o >>= λ rs. Some ((i, r) ∷ rs)) rest

mutual
  -- a value in the relation is the one that is read
  pub only : (B : TyRef → TyRef → Type 0) (c : Setting) → Decides B c.below → (r v : Content) (t u : TyRef) → CoerceIn B c t v u r → Reads c v t u r
  only B c decides (plain p) v t u h = plain_only c p v t u h
  only B c decides (blob s) v t u (w, x, lower, upper, byte, is) = blob_only c s v t u w x lower upper byte is
  only B c decides none v t u (w, upper, is) = none_only B c decides v t u w upper is
  only B c decides (some r) v t u (w, upper, inl (x, y, lower, e, below, h)) =
      subst (λ (v : Content). Reads c v t u (some r)) (sym e)
      (inner_read c y t u w x true upper lower (is_yes decides x w below) ∙ ap (some_if true) (only B c decides r y x w h))
  only B c decides (some r) v t u (w, upper, inr (is, own, below, h)) =
      constituent_read c v t u w true upper is (ap (λ (m : Bool). not m && c.below t w) own ∙ is_yes decides t w below)
      ∙ ap (some_if true) (sym (at_own c (coercions c v) t w (constituent_way _ own)) ∙ only B c decides r v t w h)
  only B c decides (list rs) v t u (w, x, lower, upper, other, vs, is, all) =
      let own = items_coercions c v vs is in
      at_own c (coercions c v) t u (ap way upper) ∙ ap (λ (read : AtTypes). read t u) own.1 ∙ seq_read c own.0 (map (coercions c) vs) t u w x lower upper
      ∙ ap (items_at c own.0 (map (coercions c) vs) w x) other ∙ ap (λ (o : Option (List Content)). o >>= λ rs. Some (list (contents_of rs))) (only_all B c decides rs vs w x all)
      ∙ ap (λ (rs : Contents). Some (list rs)) (contents_back rs)
  only B c decides (record_of rs) v t u (fs, gs, lower, upper, ps, e, all) =
      subst (λ (v : Content). Reads c v t u (record_of rs)) (sym e)
      (at_own c (coercions c (record_of ps)) t u (ap way upper) ∙ ap (λ (vs : List Coercions). record_at c vs t u) (parts_coercions c ps)
      ∙ record_read c (map (coercions c) (field_values ps)) t u fs gs lower upper
      ∙ ap (λ (o : Option (List (ℕ × Content))). o >>= λ rs. Some (record_of (parts_of rs)))
      (only_fields B c decides rs (with_fields fs (field_values ps)) (with_fields fs (map (coercions c) (field_values ps))) (under_linked c fs (field_values ps)) gs all)
      ∙ ap (λ (rs : Parts). Some (record_of rs)) (parts_back rs))
  only B c decides (variant i r) v t u (fs, gs, lower, upper, j, y, e, f, is, w, at, h) =
      subst (λ (v : Content). Reads c v t u (variant i r)) (sym e)
      (at_own c (coercions c (variant j y)) t u (ap way upper) ∙ variant_read c j i (coercions c y) t u w fs gs f r lower upper is at (only B c decides r y f.1 w h))

  only_all : (B : TyRef → TyRef → Type 0) (c : Setting) → Decides B c.below → (rs : Contents) (vs : List Content) (t u : TyRef) → CoerceAll B c.wire c.expected t vs u rs
      → all_at c t u (map (coercions c) vs) ≡ Some (values_of rs)
  only_all B c decides no_content vs t u e = ap (λ (vs : List Content). all_at c t u (map (coercions c) vs)) e
  only_all B c decides (content r rs) vs t u (v, more, e, h, all) =
      ap (λ (vs : List Content). all_at c t u (map (coercions c) vs)) e
      ∙ ap (λ (o : Option Content). o >>= λ r. all_at c t u (map (coercions c) more) >>= λ rs. Some (r ∷ rs)) (only B c decides r v t u h)
      ∙ ap (λ (o : Option (List Content)). o >>= λ rs. Some (r ∷ rs)) (only_all B c decides rs more t u all)

  only_fields : (B : TyRef → TyRef → Type 0) (c : Setting) → Decides B c.below → (rs : Parts) (qs : List (ℕ × (TyRef × Content))) (rds : List (ℕ × (TyRef × Coercions)))
      → ((i : ℕ) → under i rds ≡ linked c (under i qs)) → (gs : List (ℕ × TyRef)) → CoerceFields B c.wire c.expected qs gs rs → fields_at c rds gs ≡ Some (parts_list rs)
  only_fields B c decides no_part qs rds is gs e = ap (fields_at c rds) e
  only_fields B c decides (part i r rs) qs rds is gs (u, more, e, inl (f, at, h), all) =
      fields_step c i r rs rds gs u more e (ap (λ (o : Option (TyRef × Coercions)). field_at c o u) (is i ∙ ap (linked c) at) ∙ only B c decides r f.1 f.0 u h)
      (only_fields B c decides rs qs rds is more all)
  only_fields B c decides (part i r rs) qs rds is gs (u, more, e, inr (at, h), all) =
      fields_step c i r rs rds gs u more e (ap (λ (o : Option (TyRef × Coercions)). field_at c o u) (is i ∙ ap (linked c) at) ∙ h)
      (only_fields B c decides rs qs rds is more all)
