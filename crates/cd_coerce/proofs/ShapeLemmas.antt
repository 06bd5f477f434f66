-- what the tests of shapes say
use Rattle.std.proofs.Common.{◌≡◌, ◌⊎◌, inl, inr, ℕ, Bool, true, false, List, Option, Some, None, refl, sym, ◌∙◌, ap}
use Rattle.std.proofs.lemmas.Bool.{eq-eqb}
use Rattle.cd_types.specs.declared.primitive.Primitive.{Primitive}
use Rattle.cd_types.specs.declared.primitive.Primitive.TheVariants as primitives
use Rattle.cd_types.specs.declared.entry.TyRef.{TyRef}
use Rattle.cd_types.specs.declared.entry.Entry.TheVariants.{Opt, Seq, Rec, Var, Func, Service}
use Rattle.cd_types.specs.Shape.{Shape, primitive, compound, dangling}
use Rattle.cd_sub.specs.MayMiss.{may_miss}
use Rattle.cd_types.specs.PrimitiveCode.{primitive_code}
use Rattle.cd_types.proofs.PrimitiveCodes.{code_same}
use Rattle.cd_codec.specs.Content.{Content, Plain, null, bool, nat, int, nat8, nat16, nat32, nat64, int8, int16, int32, int64, text, reserved, func, service, principal, none, some}
use Rattle.cd_codec.specs.Plain.{HasShape}
use Rattle.cd_coerce.specs.Read.{to_reserved, to_opt, to_own, way, is_primitive, is_func, is_service, has_shape, if_holds, some_if, opt_of, seq_of, fields_of, cases_of}

pub primitive_is : (p : Primitive) (s : Shape) → is_primitive p s ≡ true → s ≡ primitive p
primitive_is p (primitive q) e = ap primitive (sym (code_same p q e))
primitive_is p (compound entry) e = absurd cc
primitive_is p dangling e = absurd cc

pub is_itself : (p : Primitive) (s : Shape) → s ≡ primitive p → is_primitive p s ≡ true
is_itself p s e = ap (is_primitive p) e ∙ eq-eqb (primitive_code p) (primitive_code p) refl

func_is : (s : Shape) → is_func s ≡ true → (args results : List TyRef) × (notes : List ℕ) × (s ≡ compound (Func args results notes))
func_is (compound (Func args results notes)) e = (args, results, notes, refl)
func_is _ e = absurd cc

service_is : (s : Shape) → is_service s ≡ true → (methods : List (List ℕ × TyRef)) × (s ≡ compound (Service methods))
service_is (compound (Service methods)) e = (methods, refl)
service_is _ e = absurd cc

-- the test says that the value has a type of the shape
pub has_shape_is : (p : Plain) (s : Shape) → has_shape p s ≡ true → HasShape p s
has_shape_is null s e = primitive_is primitives.Null s e
has_shape_is (bool b) s e = primitive_is primitives.Bool s e
has_shape_is (nat n) s e = primitive_is primitives.Nat s e
has_shape_is (int z) s e = primitive_is primitives.Int s e
has_shape_is (nat8 n) s e = primitive_is primitives.Nat8 s e
has_shape_is (nat16 n) s e = primitive_is primitives.Nat16 s e
has_shape_is (nat32 n) s e = primitive_is primitives.Nat32 s e
has_shape_is (nat64 n) s e = primitive_is primitives.Nat64 s e
has_shape_is (int8 z) s e = primitive_is primitives.Int8 s e
has_shape_is (int16 z) s e = primitive_is primitives.Int16 s e
has_shape_is (int32 z) s e = primitive_is primitives.Int32 s e
has_shape_is (int64 z) s e = primitive_is primitives.Int64 s e
has_shape_is (text t) s e = primitive_is primitives.Text s e
has_shape_is reserved s e = primitive_is primitives.Reserved s e
has_shape_is (func f m) s e = func_is s e
has_shape_is (service p) s e = service_is s e
has_shape_is (principal p) s e = primitive_is primitives.Principal s e

pub shape_had : (p : Plain) (s : Shape) → HasShape p s → has_shape p s ≡ true
shape_had null s h = is_itself primitives.Null s h
shape_had (bool b) s h = is_itself primitives.Bool s h
shape_had (nat n) s h = is_itself primitives.Nat s h
shape_had (int z) s h = is_itself primitives.Int s h
shape_had (nat8 n) s h = is_itself primitives.Nat8 s h
shape_had (nat16 n) s h = is_itself primitives.Nat16 s h
shape_had (nat32 n) s h = is_itself primitives.Nat32 s h
shape_had (nat64 n) s h = is_itself primitives.Nat64 s h
shape_had (int8 z) s h = is_itself primitives.Int8 s h
shape_had (int16 z) s h = is_itself primitives.Int16 s h
shape_had (int32 z) s h = is_itself primitives.Int32 s h
shape_had (int64 z) s h = is_itself primitives.Int64 s h
shape_had (text t) s h = is_itself primitives.Text s h
shape_had reserved s h = is_itself primitives.Reserved s h
shape_had (func f m) s h = ap is_func h.3
shape_had (service p) s h = ap is_service h.1
shape_had (principal p) s h = is_itself primitives.Principal s h

-- the way of a type
pub way_reserved : (s : Shape) → way s ≡ to_reserved → s ≡ primitive primitives.Reserved
way_reserved (primitive primitives.Reserved) e = refl
way_reserved (compound (Opt type)) e = absurd cc
way_reserved _ e = absurd cc

pub way_opt : (s : Shape) (w : TyRef) → way s ≡ to_opt w → s ≡ compound (Opt w)
way_opt (compound (Opt type)) w e = let k : type ≡ w = cc in ap (λ (x : TyRef). compound (Opt x)) k
way_opt (primitive primitives.Reserved) w e = absurd cc
way_opt _ w e = absurd cc

-- what may not be missing is read by its own rule
pub constituent_way : (s : Shape) → may_miss s ≡ false → way s ≡ to_own
constituent_way (primitive primitives.Reserved) e = absurd cc
constituent_way (primitive primitives.Null) e = absurd cc
constituent_way (compound (Opt type)) e = absurd cc
constituent_way _ e = refl

-- a plain value is read by its own rule unless its type is reserved
pub plain_way : (p : Plain) (s : Shape) → HasShape p s → (way s ≡ to_own) ⊎ ((p ≡ reserved) × (s ≡ primitive primitives.Reserved))
plain_way reserved s h = inr (refl, h)
plain_way (func f m) s h = inl (ap way h.3)
plain_way (service p) s h = inl (ap way h.1)
plain_way null s h = inl (ap way h)
plain_way (bool b) s h = inl (ap way h)
plain_way (nat n) s h = inl (ap way h)
plain_way (int z) s h = inl (ap way h)
plain_way (nat8 n) s h = inl (ap way h)
plain_way (nat16 n) s h = inl (ap way h)
plain_way (nat32 n) s h = inl (ap way h)
plain_way (nat64 n) s h = inl (ap way h)
plain_way (int8 z) s h = inl (ap way h)
plain_way (int16 z) s h = inl (ap way h)
plain_way (int32 z) s h = inl (ap way h)
plain_way (int64 z) s h = inl (ap way h)
plain_way (text t) s h = inl (ap way h)
plain_way (principal p) s h = inl (ap way h)

pub opt_of_is : (s : Shape) (x : TyRef) → opt_of s ≡ Some x → s ≡ compound (Opt x)
opt_of_is (compound (Opt type)) x e = let k : type ≡ x = cc in ap (λ (x : TyRef). compound (Opt x)) k
opt_of_is _ x e = absurd cc

pub seq_of_is : (s : Shape) (x : TyRef) → seq_of s ≡ Some x → s ≡ compound (Seq x)
seq_of_is (compound (Seq type)) x e = let k : type ≡ x = cc in ap (λ (x : TyRef). compound (Seq x)) k
seq_of_is _ x e = absurd cc

pub fields_of_is : (s : Shape) (fs : List (ℕ × TyRef)) → fields_of s ≡ Some fs → s ≡ compound (Rec fs)
fields_of_is (compound (Rec fields)) fs e = let k : fields ≡ fs = cc in ap (λ (x : List (ℕ × TyRef)). compound (Rec x)) k
fields_of_is _ fs e = absurd cc

pub cases_of_is : (s : Shape) (fs : List (ℕ × TyRef)) → cases_of s ≡ Some fs → s ≡ compound (Var fs)
cases_of_is (compound (Var cases)) fs e = let k : cases ≡ fs = cc in ap (λ (x : List (ℕ × TyRef)). compound (Var x)) k
cases_of_is _ fs e = absurd cc

pub if_holds_is : {A : Type 0} (b : Bool) (x y : A) → if_holds b x ≡ Some y → (b ≡ true) × (x ≡ y)
if_holds_is true x y e = (refl, cc)
if_holds_is false x y e = absurd cc

-- either some of what is read, or none
pub some_if_is : (b : Bool) (read : Option Content) (r : Content) → some_if b read ≡ Some r
    → ((b ≡ true) × (x : Content) × (read ≡ Some x) × (some x ≡ r)) ⊎ ((b ≡ false) × (none ≡ r))
some_if_is true (Some x) r e = inl (refl, x, refl, cc)
some_if_is true None r e = absurd cc
some_if_is false read r e = inr (refl, cc)
