-- reading the parts of a value
use Rattle.std.proofs.Common.{◌≡◌, ℕ, suc, zero, ◌-◌, ◌^◌, ◌<◌, ◌≤◌, Bool, true, false, List, [], ◌∷◌, map, length, Option, Some, None, ◌==◌, refl, sym, ap, ◌∙◌, arith}
use Rattle.std.specs.Prelude.{slice_get, if◌then◌else◌}
use Rattle.ic_base.specs.Reader.{◌>>=◌}
use Rattle.cd_types.specs.declared.entry.TyRef.{TyRef}
use Rattle.cd_types.specs.Shape.{Shape, shape}
use Rattle.cd_codec.specs.declared.value.Value.{Value}
use Rattle.cd_codec.specs.Content.{Content, blob, list, record_of, variant, contents_of, parts_of}
use Rattle.cd_codec.specs.View.{view, views}
use Rattle.cd_codec.specs.Wire.{is_nat8}
use Rattle.cd_coerce.specs.Missing.{missing}
use Rattle.cd_coerce.specs.Parts.{byte_value, with_fields, under, case_from}
use Rattle.cd_coerce.specs.Read.{Setting, Coercions, read_at, seq_of, fields_of, cases_of, all_at, items_at, seq_at, bytes_of, empty_blob, field_at, fields_at, record_at, coercions_of_byte, coercions, coercions_of_items, coercions_of_fields, coerced}
use Rattle.cd_coerce.specs.Step.{parts_at, each_by, seconds, part_values, expected_at, target}
use Rattle.cd_coerce.proofs.Typed.{case_at}

coercions_parts : (c : Setting) (ps : List (ℕ × Content)) → coercions_of_fields c (parts_of ps) ≡ map (coercions c) (seconds ps)
coercions_parts c [] = refl
coercions_parts c (p ∷ ps) = ap (λ (rest : List Coercions). coercions c p.1 ∷ rest) (coercions_parts c ps)

all_each : {A : Type 0} (c : Setting) (t u : TyRef) (g : A → Content) (xs : List A) → all_at c t u (map (λ x. coercions c (g x)) xs) ≡ each_by (λ x. coerced c (g x) t u) xs
all_each c t u g [] = refl
all_each c t u g (x ∷ xs) = ap (λ (o : Option (List Content)). coerced c (g x) t u >>= λ r. o >>= λ rs. Some (r ∷ rs)) (all_each c t u g xs)

field_first : (o : Option Content) (id : ℕ) (rest : Option (List (ℕ × Content)))
    → (o >>= λ r. rest >>= λ rs. Some ((id, r) ∷ rs)) ≡ ((o >>= λ r. Some (id, r)) >>= λ x. rest >>= λ rs. Some (x ∷ rs))
field_first None id rest = refl
field_first (Some r) id rest = refl

-- an expected field whose value is read
pub expected_read : (c : Setting) (fs : List (ℕ × TyRef)) (vs : List Content) (g : ℕ × TyRef) (r : Content) → field_at c (under g.0 (with_fields fs (map (coercions c) vs))) g.1 ≡ Some r
    → expected_at c fs vs g ≡ Some (g.0, r)
expected_read c fs vs g r e = ap (λ (o : Option Content). o >>= λ r. Some (g.0, r)) e

fields_each : (c : Setting) (fs : List (ℕ × TyRef)) (vs : List Content) (gs : List (ℕ × TyRef)) → fields_at c (with_fields fs (map (coercions c) vs)) gs ≡ each_by (expected_at c fs vs) gs
fields_each c fs vs [] = refl
fields_each c fs vs (g ∷ gs) =
    field_first (field_at c (under g.0 (with_fields fs (map (coercions c) vs))) g.1) g.0 (fields_at c (with_fields fs (map (coercions c) vs)) gs)
    ∙ ap (λ (o : Option (List (ℕ × Content))). expected_at c fs vs g >>= λ x. o >>= λ rs. Some (x ∷ rs)) (fields_each c fs vs gs)

-- a vec between the item types
seq_items : (c : Setting) (bytes : Option (List ℕ)) (vs : List Coercions) (t u w x : TyRef) → Some w ≡ seq_of (shape c.wire t) → Some x ≡ seq_of (shape c.expected u)
    → seq_at c bytes vs t u ≡ items_at c bytes vs w x (is_nat8 x)
seq_items c bytes vs t u w x lower upper = rw (← lower, ← upper) refl

pub no_lower : (c : Setting) (bytes : Option (List ℕ)) (vs : List Coercions) (t u : TyRef) → None ≡ seq_of (shape c.wire t) → seq_at c bytes vs t u ≡ None
no_lower c bytes vs t u e = rw (← e) refl

pub blob_items : (c : Setting) (s : List ℕ) (t u w x : TyRef) → Some w ≡ seq_of (shape c.wire t) → Some x ≡ seq_of (shape c.expected u) → false ≡ is_nat8 x
    → parts_at c (blob s) t u ≡ (each_by (λ b. coerced c (byte_value b) w x) s >>= λ rs. Some (list (contents_of rs)))
blob_items c s t u w x lower upper other =
    seq_items c (Some s) (map (coercions_of_byte c) s) t u w x lower upper ∙ ap (items_at c (Some s) (map (coercions_of_byte c) s) w x) (sym other)
    ∙ ap (λ (o : Option (List Content)). o >>= λ rs. Some (list (contents_of rs))) (all_each c w x byte_value s)

coercions_values : (c : Setting) (values : List Value) → coercions_of_items c (contents_of (views values)) ≡ map (λ v. coercions c (view v)) values
coercions_values c [] = refl
coercions_values c (v ∷ values) = ap (λ (rest : List Coercions). coercions c (view v) ∷ rest) (coercions_values c values)

list_at : (c : Setting) (values : List Value) (t u : TyRef)
    → parts_at c (list (contents_of (views values))) t u ≡ seq_at c (bytes_of (map (λ v. coercions c (view v)) values)) (map (λ v. coercions c (view v)) values) t u
list_at c values t u = ap (λ (rds : List Coercions). seq_at c (bytes_of rds) rds t u) (coercions_values c values)

pub list_bytes : (c : Setting) (values : List Value) (t u w x : TyRef) → Some w ≡ seq_of (shape c.wire t) → Some x ≡ seq_of (shape c.expected u) → true ≡ is_nat8 x
    → parts_at c (list (contents_of (views values))) t u ≡ empty_blob (map (λ v. coercions c (view v)) values)
list_bytes c values t u w x lower upper byte =
    let rds = map (λ (v : Value). coercions c (view v)) values in
    list_at c values t u ∙ seq_items c (bytes_of rds) rds t u w x lower upper ∙ ap (items_at c (bytes_of rds) rds w x) (sym byte)

pub list_items : (c : Setting) (values : List Value) (t u w x : TyRef) → Some w ≡ seq_of (shape c.wire t) → Some x ≡ seq_of (shape c.expected u) → false ≡ is_nat8 x
    → parts_at c (list (contents_of (views values))) t u ≡ (each_by (λ v. coerced c (view v) w x) values >>= λ rs. Some (list (contents_of rs)))
list_items c values t u w x lower upper other =
    let rds = map (λ (v : Value). coercions c (view v)) values in
    list_at c values t u ∙ seq_items c (bytes_of rds) rds t u w x lower upper ∙ ap (items_at c (bytes_of rds) rds w x) (sym other)
    ∙ ap (λ (o : Option (List Content)). o >>= λ rs. Some (list (contents_of rs))) (all_each c w x view values)

-- what is under an id is at the place of that id
found_at : {A : Type 0} → ℕ → List A → Option (ℕ × TyRef) → Option (TyRef × A)
found_at place xs None = None
found_at place xs (Some p) = slice_get xs (p.0 - place) >>= λ x. Some (p.1, x)

none_at : {A : Type 0} (place : ℕ) (o : Option (ℕ × TyRef)) → found_at {A = A} place [] o ≡ None
unfolding found_at
none_at place None = refl
none_at place (Some p) = refl

next_at : {A : Type 0} (place id : ℕ) (x : A) (xs : List A) (fs : List (ℕ × TyRef)) (o : Option (ℕ × TyRef)) → case_from (suc place) id fs ≡ o → found_at (suc place) xs o ≡ found_at place (x ∷ xs) o
unfolding found_at
next_at place id x xs fs None e = refl
next_at {A} place id x xs fs (Some p) e =
    let k = case_at fs (suc place) id p.0 p.1 e in
    let more : p.0 - place ≡ suc (p.0 - suc place) = omega (arith, k.1) in
    ap (λ (n : ℕ). slice_get (x ∷ xs) n >>= λ x. Some (p.1, x)) (sym more)

under_is : {A : Type 0} (fs : List (ℕ × TyRef)) (xs : List A) (place id : ℕ) → under id (with_fields fs xs) ≡ found_at place xs (case_from place id fs)
unfolding found_at
under_is [] xs place id = refl
under_is (f ∷ fs) [] place id = sym (none_at place (case_from place id (f ∷ fs)))
under_is {A} (f ∷ fs) (x ∷ xs) place id =
    let none_between : place - place ≡ 0 = omega arith in
    elim (f.0 == id) as (λ (b : Bool). (if b then Some (f.1, x) else under id (with_fields fs xs)) ≡ found_at place (x ∷ xs) (if b then Some (place, f.1) else case_from (suc place) id fs)) [
      | true ↦ ap (λ (n : ℕ). slice_get (x ∷ xs) n >>= λ x. Some (f.1, x)) (sym none_between)
      | false ↦ under_is fs xs (suc place) id ∙ next_at place id x xs fs (case_from (suc place) id fs) refl
    ]

got : {A B : Type 0} (f : A → B) (xs : List A) (i : ℕ) → slice_get (map f xs) i ≡ (slice_get xs i >>= λ x. Some (f x))
got f [] i = refl
got f (x ∷ xs) zero = refl
got f (x ∷ xs) (suc i) = got f xs i

-- what reads the part at a place
part_got : (c : Setting) (parts : List (ℕ × Value)) (i : ℕ) → slice_get (map (coercions c) (part_values parts)) i ≡ (slice_get parts i >>= λ p. Some (coercions c (view p.1)))
part_got c [] i = refl
part_got c (p ∷ parts) zero = refl
part_got c (p ∷ parts) (suc i) = part_got c parts i

zero_less : (n : ℕ) → n - 0 ≡ n
zero_less n = omega arith

field_is : (c : Setting) (fs : List (ℕ × TyRef)) (parts : List (ℕ × Value)) (id place : ℕ) (t : TyRef) → Some (place, t) ≡ case_from 0 id fs
    → under id (with_fields fs (map (coercions c) (part_values parts))) ≡ ((slice_get parts place >>= λ p. Some (coercions c (view p.1))) >>= λ x. Some (t, x))
unfolding found_at
field_is c fs parts id place t e =
    under_is fs (map (coercions c) (part_values parts)) 0 id ∙ ap (found_at 0 (map (coercions c) (part_values parts))) (sym e)
    ∙ ap (λ (n : ℕ). slice_get (map (coercions c) (part_values parts)) n >>= λ x. Some (t, x)) (zero_less place)
    ∙ ap (λ (o : Option Coercions). o >>= λ x. Some (t, x)) (part_got c parts place)

pub field_there : (c : Setting) (fs : List (ℕ × TyRef)) (parts : List (ℕ × Value)) (id place : ℕ) (t u : TyRef) (part : ℕ × Value) → Some (place, t) ≡ case_from 0 id fs → slice_get parts place ≡ Some part
    → field_at c (under id (with_fields fs (map (coercions c) (part_values parts)))) u ≡ coerced c (view part.1) t u
field_there c fs parts id place t u part e got = rw (field_is c fs parts id place t e, got) refl

pub field_short : (c : Setting) (fs : List (ℕ × TyRef)) (parts : List (ℕ × Value)) (id place : ℕ) (t u : TyRef) → Some (place, t) ≡ case_from 0 id fs → slice_get parts place ≡ None
    → field_at c (under id (with_fields fs (map (coercions c) (part_values parts)))) u ≡ missing (shape c.expected u)
field_short c fs parts id place t u e got = rw (field_is c fs parts id place t e, got) refl

pub field_absent : (c : Setting) (fs : List (ℕ × TyRef)) (vs : List Content) (id : ℕ) (u : TyRef) → None ≡ case_from 0 id fs
    → field_at c (under id (with_fields fs (map (coercions c) vs))) u ≡ missing (shape c.expected u)
unfolding found_at
field_absent c fs vs id u e = ap (λ (o : Option (TyRef × Coercions)). field_at c o u) (under_is fs (map (coercions c) vs) 0 id ∙ ap (found_at 0 (map (coercions c) vs)) (sym e))

record_at_parts : (c : Setting) (ps : List (ℕ × Content)) (t u : TyRef) → parts_at c (record_of (parts_of ps)) t u ≡ record_at c (map (coercions c) (seconds ps)) t u
record_at_parts c ps t u = ap (λ (rds : List Coercions). record_at c rds t u) (coercions_parts c ps)

pub record_fields : (c : Setting) (ps : List (ℕ × Content)) (t u : TyRef) (fs gs : List (ℕ × TyRef)) → fields_of (shape c.wire t) ≡ Some fs → fields_of (shape c.expected u) ≡ Some gs
    → parts_at c (record_of (parts_of ps)) t u ≡ (each_by (expected_at c fs (seconds ps)) gs >>= λ rs. Some (record_of (parts_of rs)))
record_fields c ps t u fs gs lower upper =
    let shapes : record_at c (map (coercions c) (seconds ps)) t u ≡ (fields_at c (with_fields fs (map (coercions c) (seconds ps))) gs >>= λ rs. Some (record_of (parts_of rs))) = rw (lower, upper) refl in
    record_at_parts c ps t u ∙ shapes ∙ ap (λ (o : Option (List (ℕ × Content))). o >>= λ rs. Some (record_of (parts_of rs))) (fields_each c fs (seconds ps) gs)

-- a variant is read by the target of its case
abbrev on_target : Setting → Content → TyRef × ℕ × TyRef → Option Content
on_target c v x = coerced c v x.0 x.2 >>= λ r. Some (variant x.1 r)

by_place : (c : Setting) (v : Content) (f : ℕ × TyRef) (o : Option (ℕ × TyRef))
    → (o >>= λ g. read_at c (coercions c v) f.1 g.1 >>= λ r. Some (variant g.0 r)) ≡ ((o >>= λ g. Some (f.1, g.0, g.1)) >>= on_target c v)
by_place c v f None = refl
by_place c v f (Some g) = refl

by_expected : (c : Setting) (v : Content) (f : ℕ × TyRef) (o : Option (List (ℕ × TyRef)))
    → (o >>= λ gs. case_from 0 f.0 gs >>= λ g. read_at c (coercions c v) f.1 g.1 >>= λ r. Some (variant g.0 r)) ≡ ((o >>= λ gs. case_from 0 f.0 gs >>= λ g. Some (f.1, g.0, g.1)) >>= on_target c v)
by_expected c v f None = refl
by_expected c v f (Some gs) = by_place c v f (case_from 0 f.0 gs)

by_case : (c : Setting) (v : Content) (s : Shape) (o : Option (ℕ × TyRef))
    → (o >>= λ f. cases_of s >>= λ gs. case_from 0 f.0 gs >>= λ g. read_at c (coercions c v) f.1 g.1 >>= λ r. Some (variant g.0 r)) ≡ ((o >>= λ f. cases_of s >>= λ gs. case_from 0 f.0 gs >>= λ g. Some (f.1, g.0, g.1)) >>= on_target c v)
by_case c v s None = refl
by_case c v s (Some f) = by_expected c v f (cases_of s)

by_cases : (c : Setting) (v : Content) (s : Shape) (j : ℕ) (o : Option (List (ℕ × TyRef)))
    → (o >>= λ fs. slice_get fs j >>= λ f. cases_of s >>= λ gs. case_from 0 f.0 gs >>= λ g. read_at c (coercions c v) f.1 g.1 >>= λ r. Some (variant g.0 r)) ≡ ((o >>= λ fs. slice_get fs j >>= λ f. cases_of s >>= λ gs. case_from 0 f.0 gs >>= λ g. Some (f.1, g.0, g.1)) >>= on_target c v)
by_cases c v s j None = refl
by_cases c v s j (Some fs) = by_case c v s (slice_get fs j)

pub case_there : (c : Setting) (j place : ℕ) (v : Content) (t u from to : TyRef) → Some (from, place, to) ≡ target (shape c.wire t) (shape c.expected u) j
    → parts_at c (variant j v) t u ≡ (coerced c v from to >>= λ r. Some (variant place r))
case_there c j place v t u from to e = by_cases c v (shape c.expected u) j (cases_of (shape c.wire t)) ∙ ap (λ (o : Option (TyRef × ℕ × TyRef)). o >>= on_target c v) (sym e)

pub case_absent : (c : Setting) (j : ℕ) (v : Content) (t u : TyRef) → None ≡ target (shape c.wire t) (shape c.expected u) j → parts_at c (variant j v) t u ≡ None
case_absent c j v t u e = by_cases c v (shape c.expected u) j (cases_of (shape c.wire t)) ∙ ap (λ (o : Option (TyRef × ℕ × TyRef)). o >>= on_target c v) (sym e)

pub target_is : (s r : Shape) (j place : ℕ) (fs gs : List (ℕ × TyRef)) (f : ℕ × TyRef) (w : TyRef) → cases_of s ≡ Some fs → slice_get fs j ≡ Some f → cases_of r ≡ Some gs → Some (place, w) ≡ case_from 0 f.0 gs
    → Some (f.1, place, w) ≡ target s r j
target_is s r j place fs gs f w e get e' found = rw (e, get, e', ← found) refl

-- a place of a case is a number of 32 bits
pub place_fits : (gs : List (ℕ × TyRef)) (id place : ℕ) (w : TyRef) → length gs ≤ 2 ^ 32 → Some (place, w) ≡ case_from 0 id gs → place < 2 ^ 32
place_fits gs id place w few found = let k = case_at gs 0 id place w (sym found) in omega (arith, k.1, k.3)
