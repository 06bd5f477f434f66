-- Values of a type have its form.
use Rattle.std.proofs.Common.{◌≡◌, ◌⊎◌, inl, inr, ℕ, ◌<◌, Bool, true, false, List, [], ◌∷◌, ◌++◌, Option, Some, None, refl, sym, ◌∙◌, ap, subst, arith}
use Rattle.std.specs.Prelude.{slice_get}
use Rattle.cd_types.specs.declared.primitive.Primitive.TheVariants as P
use Rattle.cd_types.specs.declared.entry.TyRef.{TyRef}
use Rattle.cd_types.specs.declared.entry.TyRef.TheVariants.{Prim, Index}
use Rattle.cd_types.specs.declared.entry.Entry.{Entry}
use Rattle.cd_types.specs.declared.entry.Entry.TheVariants.{Opt, Seq, Rec, Var, Func, Service}
use Rattle.cd_types.specs.Shape.{Shape, primitive, compound, dangling, shape}
use Rattle.cd_codec.specs.Content.{Content, Plain, null, bool, nat, int, nat8, nat16, nat32, nat64, int8, int16, int32, int64, text, reserved, func, service, principal, plain, blob, none, some, list, record_of, variant, Contents, no_content, content, Parts, no_part, part}
use Rattle.cd_codec.specs.Plain.{HasShape}
use Rattle.cd_codec.specs.Wire.{is_nat8, Wire, WireAll, WireParts}
use Rattle.cd_codec.specs.AreValues.{WireEach}
use Rattle.cd_coerce.proofs.Typed.{same_opt, same_seq, same_rec, same_var}
use Rattle.ic_base.specs.Reader.{◌>>=◌}
use Rattle.cd_coerce.specs.Parts.{values_of}
use Rattle.ic_mgmt_candid.specs.Picks.{as_principal, as_principals, as_bool, as_nat, as_bytes, as_list}

-- a number for each form of a type, and of a value
form : Shape → ℕ
form (compound (Opt t)) = 1
form (compound (Seq t)) = 2
form (compound (Rec fields)) = 3
form (compound (Var cases)) = 4
form (primitive P.Bool) = 5
form (primitive P.Principal) = 6
form (primitive P.Nat) = 7
form _ = 0

plain_form : Plain → ℕ
plain_form (bool b) = 5
plain_form (principal id) = 6
plain_form (nat n) = 7
plain_form _ = 0

content_form : Content → ℕ
content_form (plain p) = plain_form p
content_form (blob bytes) = 2
content_form none = 1
content_form (some v) = 1
content_form (list vs) = 2
content_form (record_of ps) = 3
content_form (variant i v) = 4

plain_fits : (p : Plain) (s : Shape) → HasShape p s → plain_form p ≡ form s
unfolding form plain_form
plain_fits (func a m) s h = sym (ap form h.3)
plain_fits (service a) s h = sym (ap form h.1)
plain_fits null s h = sym (ap form h)
plain_fits (bool b) s h = sym (ap form h)
plain_fits (nat n) s h = sym (ap form h)
plain_fits (int n) s h = sym (ap form h)
plain_fits (nat8 n) s h = sym (ap form h)
plain_fits (nat16 n) s h = sym (ap form h)
plain_fits (nat32 n) s h = sym (ap form h)
plain_fits (nat64 n) s h = sym (ap form h)
plain_fits (int8 n) s h = sym (ap form h)
plain_fits (int16 n) s h = sym (ap form h)
plain_fits (int32 n) s h = sym (ap form h)
plain_fits (int64 n) s h = sym (ap form h)
plain_fits (text n) s h = sym (ap form h)
plain_fits reserved s h = sym (ap form h)
plain_fits (principal n) s h = sym (ap form h)

fits : (table : List Entry) (t : TyRef) (v : Content) (bytes : List ℕ) → Wire table t v bytes → content_form v ≡ form (shape table t)
unfolding form content_form
fits table t (plain p) bytes w = plain_fits p (shape table t) w.0
fits table t (blob s) bytes w = sym (ap form w.1)
fits table t none bytes w = sym (ap form w.1)
fits table t (some v) bytes w = sym (ap form w.1)
fits table t (list vs) bytes w = sym (ap form w.1)
fits table t (record_of ps) bytes w = sym (ap form w.1)
fits table t (variant i v) bytes w = sym (ap form w.1)

not_plain : (p : Plain) (n : ℕ) → 0 < n → n < 5 → plain_form p ≡ n → ⊥
unfolding plain_form
not_plain (bool b) n l m e = omega (arith, l, m, e)
not_plain (principal id) n l m e = omega (arith, l, m, e)
not_plain (nat k) n l m e = omega (arith, l, m, e)
not_plain _ n l m e = omega (arith, l, m, e)

-- some bytes spell the value at the type
abbrev pub Has : List Entry → TyRef → Content → Type 0
Has table t v = (bytes : List ℕ) × Wire table t v bytes

-- some bytes spell the fields
abbrev pub HasParts : List Entry → List (ℕ × TyRef) → Parts → Type 0
HasParts table fields ps = (bytes : List ℕ) × WireParts table fields ps bytes

form_at : (table : List Entry) (t : TyRef) (v : Content) (n : ℕ) (s : Shape) → shape table t ≡ s → form s ≡ n → Has table t v → content_form v ≡ n
form_at table t v n s e is h = fits table t v h.0 h.1 ∙ ap form e ∙ is

bool_of : (v : Content) → content_form v ≡ 5 → (b : Bool) × (v ≡ plain (bool b))
unfolding content_form plain_form
bool_of (plain (bool b)) e = (b, refl)
bool_of _ e = absurd (omega (arith, e))

principal_of : (v : Content) → content_form v ≡ 6 → (id : List ℕ) × (v ≡ plain (principal id))
unfolding content_form plain_form
principal_of (plain (principal id)) e = (id, refl)
principal_of _ e = absurd (omega (arith, e))

pub is_bool : (table : List Entry) (t : TyRef) (v : Content) → shape table t ≡ primitive P.Bool → Has table t v → (b : Bool) × (as_bool v ≡ Some b)
unfolding form
is_bool table t v e h = let x = bool_of v (form_at table t v 5 (primitive P.Bool) e refl h) in (x.0, ap as_bool x.1)

pub is_principal : (table : List Entry) (t : TyRef) (v : Content) → shape table t ≡ primitive P.Principal → Has table t v → (id : List ℕ) × (as_principal v ≡ Some id)
unfolding form
is_principal table t v e h = let x = principal_of v (form_at table t v 6 (primitive P.Principal) e refl h) in (x.0, ap as_principal x.1)

nat_of : (v : Content) → content_form v ≡ 7 → (n : ℕ) × (v ≡ plain (nat n))
unfolding content_form plain_form
nat_of (plain (nat n)) e = (n, refl)
nat_of _ e = absurd (omega (arith, e))

pub is_nat : (table : List Entry) (t : TyRef) (v : Content) → shape table t ≡ primitive P.Nat → Has table t v → (n : ℕ) × (as_nat v ≡ Some n)
unfolding form
is_nat table t v e h = let x = nat_of v (form_at table t v 7 (primitive P.Nat) e refl h) in (x.0, ap as_nat x.1)

-- an opt is none, or some of a value of its type
abbrev pub IsOpt : List Entry → TyRef → Content → Type 0
IsOpt table t v = (v ≡ none) ⊎ ((w : Content) × (v ≡ some w) × Has table t w)

opt_of : (table : List Entry) (t u : TyRef) (v : Content) → shape table t ≡ compound (Opt u) → content_form v ≡ 1 → Has table t v → IsOpt table u v
unfolding content_form plain_form
opt_of table t u none e is h = inl refl
opt_of table t u (some v) e is (bytes, (inner, at, rest, whole, w)) = inr (v, refl, (rest, subst (λ (x : TyRef). Wire table x v rest) (same_opt (shape table t) inner u at e) w))
opt_of table t u (plain p) e is h = absurd (not_plain p 1 (omega arith) (omega arith) is)
opt_of table t u _ e is h = absurd (omega (arith, is))

pub is_opt : (table : List Entry) (t u : TyRef) (v : Content) → shape table t ≡ compound (Opt u) → Has table t v → IsOpt table u v
unfolding form
is_opt table t u v e h = opt_of table t u v e (form_at table t v 1 (compound (Opt u)) e refl h) h

blob_of : (table : List Entry) (t u : TyRef) (v : Content) → shape table t ≡ compound (Seq u) → is_nat8 u ≡ true → content_form v ≡ 2 → Has table t v → (bytes : List ℕ) × (as_bytes v ≡ Some bytes)
unfolding content_form plain_form
blob_of table t u (blob s) e byte is h = (s, refl)
blob_of table t u (list vs) e byte is (bytes, (item, at, not_byte, count, rest, whole, spelled, all)) =
    absurd (let k : true ≡ false = sym byte ∙ ap is_nat8 (same_seq (shape table t) u item e at) ∙ not_byte in cc)
blob_of table t u (plain p) e byte is h = absurd (not_plain p 2 (omega arith) (omega arith) is)
blob_of table t u _ e byte is h = absurd (omega (arith, is))

pub is_blob : (table : List Entry) (t u : TyRef) (v : Content) → shape table t ≡ compound (Seq u) → is_nat8 u ≡ true → Has table t v → (bytes : List ℕ) × (as_bytes v ≡ Some bytes)
unfolding form
is_blob table t u v e byte h = blob_of table t u v e byte (form_at table t v 2 (compound (Seq u)) e refl h) h

-- the principals of a list
each_principal : (table : List Entry) (u : TyRef) (vs : Contents) (bytes : List ℕ) → shape table u ≡ primitive P.Principal → WireAll table u vs bytes → (ids : List (List ℕ)) × (as_principals (values_of vs) ≡ Some ids)
each_principal table u no_content bytes e w = ([], refl)
each_principal table u (content v vs) bytes e (front, rest, whole, first, others) =
    let id = is_principal table u v e (front, first) in
    let ids = each_principal table u vs rest e others in
    (id.0 ∷ ids.0, rw id.1 (rw ids.1 refl))

principals_in : (table : List Entry) (t u : TyRef) (v : Content) → shape table t ≡ compound (Seq u) → is_nat8 u ≡ false → shape table u ≡ primitive P.Principal → content_form v ≡ 2 → Has table t v
    → (ids : List (List ℕ)) × ((as_list v >>= as_principals) ≡ Some ids)
unfolding content_form plain_form
principals_in table t u (list vs) e other item is (bytes, (own, at, not_byte, count, rest, whole, spelled, all)) =
    each_principal table u vs rest item (subst (λ (x : TyRef). WireAll table x vs rest) (same_seq (shape table t) own u at e) all)
principals_in table t u (blob s) e other item is (bytes, (own, at, byte, spelled)) =
    absurd (let k : true ≡ false = sym byte ∙ ap is_nat8 (same_seq (shape table t) own u at e) ∙ other in cc)
principals_in table t u (plain p) e other item is h = absurd (not_plain p 2 (omega arith) (omega arith) is)
principals_in table t u _ e other item is h = absurd (omega (arith, is))

pub are_principals : (table : List Entry) (t u : TyRef) (v : Content) → shape table t ≡ compound (Seq u) → is_nat8 u ≡ false → shape table u ≡ primitive P.Principal → Has table t v
    → (ids : List (List ℕ)) × ((as_list v >>= as_principals) ≡ Some ids)
unfolding form
are_principals table t u v e other item h = principals_in table t u v e other item (form_at table t v 2 (compound (Seq u)) e refl h) h

record_in : (table : List Entry) (t : TyRef) (fields : List (ℕ × TyRef)) (v : Content) → shape table t ≡ compound (Rec fields) → content_form v ≡ 3 → Has table t v
    → (ps : Parts) × (v ≡ record_of ps) × HasParts table fields ps
unfolding content_form plain_form
record_in table t fields (record_of ps) e is (bytes, (own, at, w)) =
    (ps, refl, (bytes, subst (λ (fs : List (ℕ × TyRef)). WireParts table fs ps bytes) (same_rec (shape table t) own fields at e) w))
record_in table t fields (plain p) e is h = absurd (not_plain p 3 (omega arith) (omega arith) is)
record_in table t fields _ e is h = absurd (omega (arith, is))

pub is_record : (table : List Entry) (t : TyRef) (fields : List (ℕ × TyRef)) (v : Content) → shape table t ≡ compound (Rec fields) → Has table t v
    → (ps : Parts) × (v ≡ record_of ps) × HasParts table fields ps
unfolding form
is_record table t fields v e h = record_in table t fields v e (form_at table t v 3 (compound (Rec fields)) e refl h) h

variant_in : (table : List Entry) (t : TyRef) (cases : List (ℕ × TyRef)) (v : Content) → shape table t ≡ compound (Var cases) → content_form v ≡ 4 → Has table t v
    → (i : ℕ) × (w : Content) × (v ≡ variant i w) × (case : ℕ × TyRef) × (slice_get cases i ≡ Some case) × Has table case.1 w
unfolding content_form plain_form
variant_in table t cases (variant i w) e is (bytes, (own, at, case, there, place, rest, whole, spelled, wire)) =
    (i, w, refl, case, subst (λ (cs : List (ℕ × TyRef)). slice_get cs i ≡ Some case) (same_var (shape table t) own cases at e) there, (rest, wire))
variant_in table t cases (plain p) e is h = absurd (not_plain p 4 (omega arith) (omega arith) is)
variant_in table t cases _ e is h = absurd (omega (arith, is))

pub is_variant : (table : List Entry) (t : TyRef) (cases : List (ℕ × TyRef)) (v : Content) → shape table t ≡ compound (Var cases) → Has table t v
    → (i : ℕ) × (w : Content) × (v ≡ variant i w) × (case : ℕ × TyRef) × (slice_get cases i ≡ Some case) × Has table case.1 w
unfolding form
is_variant table t cases v e h = variant_in table t cases v e (form_at table t v 4 (compound (Var cases)) e refl h) h

-- the first field, and the others
pub first_part : (table : List Entry) (field : ℕ × TyRef) (fields : List (ℕ × TyRef)) (ps : Parts) → HasParts table (field ∷ fields) ps
    → (v : Content) × (more : Parts) × (ps ≡ part field.0 v more) × Has table field.1 v × HasParts table fields more
first_part table field fields no_part (bytes, (e, empty)) = absurd (let k : field ∷ fields ≡ [] = e in cc)
first_part table field fields (part i v more) (bytes, (own, others, e, id, front, rest, whole, first, w)) =
    let k : field ∷ fields ≡ own ∷ others = e in
    let same : own ≡ field = cc in
    let rest_same : others ≡ fields = cc in (
      v,
      more,
      ap (λ (n : ℕ). part n v more) (id ∙ ap (λ (f : ℕ × TyRef). f.0) same),
      (front, subst (λ (f : ℕ × TyRef). Wire table f.1 v front) same first),
      (rest, subst (λ (fs : List (ℕ × TyRef)). WireParts table fs more rest) rest_same w),
    )

pub no_more : (table : List Entry) (ps : Parts) → HasParts table [] ps → ps ≡ no_part
no_more table no_part h = refl
no_more table (part i v more) (bytes, (own, others, e, id, front, rest, whole, first, w)) = absurd (let k : [] ≡ own ∷ others = e in cc)

-- the one value of a message with one argument
pub only_value : (table : List Entry) (t : TyRef) (values : List Content) (bytes : List ℕ) → WireEach table (t ∷ []) values bytes → (v : Content) × (values ≡ v ∷ []) × Has table t v
only_value table t [] bytes w = absurd (let k : t ∷ [] ≡ [] = w.0 in cc)
only_value table t (v ∷ []) bytes (own, others, e, front, rest, whole, first, w) =
    let k : t ∷ [] ≡ own ∷ others = e in
    let same : own ≡ t = cc in
    (v, refl, (front, subst (λ (x : TyRef). Wire table x v front) same first))
only_value table t (v ∷ x ∷ xs) bytes (own, others, e, front, rest, whole, first, (own', others', e', front', rest', whole', first', more')) =
    absurd (let k : t ∷ [] ≡ own ∷ others = e in let l : others ≡ own' ∷ others' = e' in cc)
