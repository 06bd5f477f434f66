-- Candid specification, "Coercion", as functions, which `laws::one_reading` ties to `Coerce`: what a
-- value coerces to at an expected type other than reserved and opt, and what at an opt
use Rattle.std.specs.Prelude.{ℕ, ◌^◌, pos, Bool, true, false, not, ◌&&◌, ◌==◌, List, [], ◌∷◌, map, Option, Some, None, slice_get, nat_lt, if◌then◌else◌}
use Rattle.ic_base.specs.Reader.{◌>>=◌}
use Rattle.cd_types.specs.declared.primitive.Primitive.{Primitive}
use Rattle.cd_types.specs.declared.primitive.Primitive.TheVariants as primitives
use Rattle.cd_types.specs.declared.entry.TyRef.{TyRef}
use Rattle.cd_types.specs.declared.entry.Entry.{Entry}
use Rattle.cd_types.specs.declared.entry.Entry.TheVariants.{Opt, Seq, Rec, Var, Func, Service}
use Rattle.cd_types.specs.Shape.{Shape, primitive, compound, dangling, shape}
use Rattle.cd_sub.specs.MayMiss.{may_miss}
use Rattle.cd_types.specs.PrimitiveCode.{primitive_code}
use Rattle.cd_codec.specs.Content.{Content, Plain, null, bool, nat, int, nat8, nat16, nat32, nat64, int8, int16, int32, int64, text, reserved, func, service, principal, plain, blob, none, some, list, record_of, variant, Contents, no_content, content, contents_of, Parts, no_part, part, parts_of}
use Rattle.cd_codec.specs.Wire.{is_nat8}
pub use Rattle.cd_coerce.specs.declared.shapes.Way.{Way}
pub use Rattle.cd_coerce.specs.declared.shapes.Way.TheVariants.{Reserved as to_reserved, Opt as to_opt, Own as to_own}
use Rattle.cd_coerce.specs.Missing.{missing}
use Rattle.cd_coerce.specs.Parts.{is_plain_constituent, with_fields, under, case_from}

-- the table of the types on the wire, that of the expected types, and subtyping from the first to the second as a test
pub record Setting : Type 0 where
  pub wire : List Entry
  pub expected : List Entry
  pub below : TyRef → TyRef → Bool

-- how a type takes values: as reserved, at an opt, or by its own rule
abbrev pub way : Shape → Way
way (primitive primitives.Reserved) = to_reserved
way (compound (Opt type)) = to_opt type
way _ = to_own

-- whether the shape is this primitive type
abbrev pub is_primitive : Primitive → Shape → Bool
is_primitive p (primitive q) = primitive_code p == primitive_code q
is_primitive p (compound entry) = false
is_primitive p dangling = false

-- whether the shape is a function
abbrev pub is_func : Shape → Bool
is_func (compound (Func args results notes)) = true
is_func _ = false

-- whether the shape is a service
abbrev pub is_service : Shape → Bool
is_service (compound (Service methods)) = true
is_service _ = false

-- whether the value has a type of this shape
abbrev pub has_shape : Plain → Shape → Bool
has_shape null s = is_primitive primitives.Null s
has_shape (bool b) s = is_primitive primitives.Bool s
has_shape (nat n) s = is_primitive primitives.Nat s
has_shape (int z) s = is_primitive primitives.Int s
has_shape (nat8 n) s = is_primitive primitives.Nat8 s
has_shape (nat16 n) s = is_primitive primitives.Nat16 s
has_shape (nat32 n) s = is_primitive primitives.Nat32 s
has_shape (nat64 n) s = is_primitive primitives.Nat64 s
has_shape (int8 z) s = is_primitive primitives.Int8 s
has_shape (int16 z) s = is_primitive primitives.Int16 s
has_shape (int32 z) s = is_primitive primitives.Int32 s
has_shape (int64 z) s = is_primitive primitives.Int64 s
has_shape (text t) s = is_primitive primitives.Text s
has_shape reserved s = is_primitive primitives.Reserved s
has_shape (func f m) s = is_func s
has_shape (service p) s = is_service s
has_shape (principal p) s = is_primitive primitives.Principal s

-- the value, if the test holds
abbrev pub if_holds : {A : Type 0} → Bool → A → Option A
if_holds true x = Some x
if_holds false x = None

-- a nat below 2^127, as an int
abbrev pub as_int : Plain → Shape → Option Content
as_int (nat n) s = if_holds (is_primitive primitives.Int s && nat_lt n (2 ^ 127)) (plain (int (pos n)))
as_int _ s = None

-- a value without parts
abbrev pub plain_at : Plain → Shape → Option Content
plain_at p s = if has_shape p s then Some (plain p) else as_int p s

-- what a value coerces to, by its type on the wire and the expected type
abbrev pub AtTypes : Type 0
AtTypes = TyRef → TyRef → Option Content

-- what a value coerces to by the rule of its own type, and by the opt rules at the opt of a type
pub record Coercions : Type 0 where
  pub own : AtTypes
  pub opt : AtTypes

abbrev pub way_at : Option Content → (TyRef → Option Content) → Way → Option Content
way_at own opt to_reserved = Some (plain reserved)
way_at own opt (to_opt w) = opt w
way_at own opt to_own = own

-- the value, read at any type
abbrev pub read_at : Setting → Coercions → AtTypes
read_at c v t u = way_at (v.own t u) (v.opt t) (way (shape c.expected u))

-- some of what is read, if the test holds, else none
abbrev pub some_if : Bool → Option Content → Option Content
some_if true read = read >>= λ r. Some (some r)
some_if false read = Some none

-- the opt rule for a value that is neither null, reserved nor an opt: some of it at the constituent type, if its type is a
-- subtype of that one, and that one is not null, reserved or an opt; else none
abbrev pub constituent_opt : Setting → AtTypes → AtTypes
constituent_opt c own t w = some_if (not (may_miss (shape c.expected w)) && c.below t w) (own t w)

abbrev pub by_constituent : Setting → AtTypes → Coercions
by_constituent c own = record { own = own; opt = constituent_opt c own }

-- the opt rule for null, reserved and none: none
abbrev pub null_at_opt : AtTypes → Coercions
null_at_opt own = record { own = own; opt = λ t w. Some none }

-- the rule of the value's own type gives nothing
abbrev pub at_no_type : AtTypes
at_no_type t u = None

-- the type in an opt, a vec; the fields of a record; the cases of a variant
abbrev pub opt_of : Shape → Option TyRef
opt_of (compound (Opt type)) = Some type
opt_of _ = None

abbrev pub seq_of : Shape → Option TyRef
seq_of (compound (Seq type)) = Some type
seq_of _ = None

abbrev pub fields_of : Shape → Option (List (ℕ × TyRef))
fields_of (compound (Rec fields)) = Some fields
fields_of _ = None

abbrev pub cases_of : Shape → Option (List (ℕ × TyRef))
cases_of (compound (Var cases)) = Some cases
cases_of _ = None

-- a plain value, as the constituent of an opt or not
abbrev pub coercions_of_plain : Setting → Bool → AtTypes → Coercions
coercions_of_plain c true own = by_constituent c own
coercions_of_plain c false own = null_at_opt own

abbrev pub plain_coercion : Setting → Plain → AtTypes
plain_coercion c p t u = plain_at p (shape c.expected u)

-- the opt rule for some of a value
abbrev pub some_opt : Setting → Coercions → AtTypes
some_opt c v t w = opt_of (shape c.wire t) >>= λ x. some_if (c.below x w) (read_at c v x w)

abbrev pub coercions_of_opt : Setting → Coercions → Coercions
coercions_of_opt c v = record { own = at_no_type; opt = some_opt c v }

-- each of the values
abbrev pub all_at : Setting → TyRef → TyRef → List Coercions → Option (List Content)
all_at c t u [] = Some []
all_at c t u (v ∷ vs) = read_at c v t u >>= λ r. all_at c t u vs >>= λ rs. Some (r ∷ rs)

-- the items of a vec at an item type: bytes where it is nat8
abbrev pub items_at : Setting → Option (List ℕ) → List Coercions → TyRef → TyRef → Bool → Option Content
items_at c bytes vs w x true = bytes >>= λ s. Some (blob s)
items_at c bytes vs w x false = all_at c w x vs >>= λ rs. Some (list (contents_of rs))

-- a vec
abbrev pub seq_at : Setting → Option (List ℕ) → List Coercions → AtTypes
seq_at c bytes vs t u = seq_of (shape c.wire t) >>= λ w. seq_of (shape c.expected u) >>= λ x. items_at c bytes vs w x (is_nat8 x)

-- the bytes of a list, if it has no items
abbrev pub bytes_of : List Coercions → Option (List ℕ)
bytes_of [] = Some []
bytes_of (v ∷ vs) = None

-- an empty blob, for a list without items
abbrev pub empty_blob : List Coercions → Option Content
empty_blob vs = bytes_of vs >>= λ s. Some (blob s)

-- an expected field, read from the one with its id, or missing
abbrev pub field_at : Setting → Option (TyRef × Coercions) → TyRef → Option Content
field_at c None u = missing (shape c.expected u)
field_at c (Some f) u = read_at c f.1 f.0 u

-- the expected fields
abbrev pub fields_at : Setting → List (ℕ × (TyRef × Coercions)) → List (ℕ × TyRef) → Option (List (ℕ × Content))
fields_at c fields [] = Some []
fields_at c fields (g ∷ gs) = field_at c (under g.0 fields) g.1 >>= λ r. fields_at c fields gs >>= λ rs. Some ((g.0, r) ∷ rs)

-- a record
abbrev pub record_at : Setting → List Coercions → AtTypes
record_at c vs t u = fields_of (shape c.wire t) >>= λ fs. fields_of (shape c.expected u) >>= λ gs. fields_at c (with_fields fs vs) gs >>= λ rs. Some (record_of (parts_of rs))

-- a variant
abbrev pub variant_at : Setting → ℕ → Coercions → AtTypes
variant_at c j v t u = cases_of (shape c.wire t) >>= λ fs. slice_get fs j >>= λ f. cases_of (shape c.expected u) >>= λ gs. case_from 0 f.0 gs >>= λ g. read_at c v f.1 g.1 >>= λ r. Some (variant g.0 r)

-- a byte of a blob
abbrev pub coercions_of_byte : Setting → ℕ → Coercions
coercions_of_byte c b = by_constituent c (plain_coercion c (nat8 b))

abbrev mutual
  -- what a value coerces to
  pub coercions : Setting → Content → Coercions
  coercions c (plain p) = coercions_of_plain c (is_plain_constituent p) (plain_coercion c p)
  coercions c (blob bytes) = by_constituent c (seq_at c (Some bytes) (map (coercions_of_byte c) bytes))
  coercions c none = null_at_opt at_no_type
  coercions c (some v) = coercions_of_opt c (coercions c v)
  coercions c (list vs) = by_constituent c (seq_at c (bytes_of (coercions_of_items c vs)) (coercions_of_items c vs))
  coercions c (record_of ps) = by_constituent c (record_at c (coercions_of_fields c ps))
  coercions c (variant i v) = by_constituent c (variant_at c i (coercions c v))

  pub coercions_of_items : Setting → Contents → List Coercions
  coercions_of_items c no_content = []
  coercions_of_items c (content v vs) = coercions c v ∷ coercions_of_items c vs

  pub coercions_of_fields : Setting → Parts → List Coercions
  coercions_of_fields c no_part = []
  coercions_of_fields c (part i v ps) = coercions c v ∷ coercions_of_fields c ps

-- what a value of the first type coerces to at the second
abbrev pub coerced : Setting → Content → AtTypes
coerced c v = read_at c (coercions c v)
