-- The grammar of values as functions that read (Candid specification, "Binary Format", M): they read what Wire spells,
-- within a depth and with that many values allowed, which are limits of this replica.
use Rattle.std.specs.Prelude.{ℕ, zero, suc, Bool, true, false, List, [], ◌∷◌, Option, Some, None, slice_get}
use Rattle.ic_base.specs.Reader.{Reader, ◌>>=◌}
use Rattle.ic_leb.specs.declared.width.Width.TheVariants.{Candid}
use Rattle.ic_leb.specs.Reading.{unsigned_reader}
use Rattle.cd_types.specs.declared.entry.TyRef.{TyRef}
use Rattle.cd_types.specs.declared.entry.Entry.{Entry}
use Rattle.cd_types.specs.declared.entry.Entry.TheVariants.{Opt, Seq, Rec, Var, Func, Service}
use Rattle.cd_types.specs.Shape.{Shape, primitive, compound, dangling, shape}
use Rattle.cd_codec.specs.Content.{Content, func, service, plain, blob, none, some, list, record_of, variant, contents_of, parts_of}
use Rattle.cd_codec.specs.Wire.{is_nat8}
use Rattle.cd_codec.specs.ReadPlain.{counted_at, principal_at, func_at, primitive_at}

-- what reads a value: of the number of values allowed and the bytes, the value and what is left of both
abbrev pub Budgeted : Type 0 → Type 0
Budgeted A = ℕ → List ℕ → Option (A × ℕ × List ℕ)

-- a value that is read without parts
abbrev pub alone : {A : Type 0} → (A → Content) → Reader A → Budgeted Content
alone f read left bytes = do
  x ← read bytes
  Some (f x.0, left, x.1)

-- what f makes of the value
abbrev pub then_make : {A B : Type 0} → (A → B) → Option (A × ℕ × List ℕ) → Option (B × ℕ × List ℕ)
then_make f read = do
  x ← read
  Some (f x.0, x.1, x.2)

-- an opt: 00, or 01 and the value
unfoldable pub opt_at : Budgeted Content → Budgeted Content
opt_at read left [] = None
opt_at read left (zero ∷ rest) = Some (none, left, rest)
opt_at read left (suc zero ∷ rest) = then_make some (read left rest)
opt_at read left (suc (suc b) ∷ rest) = None

-- that many values
unfoldable pub items_at : Budgeted Content → ℕ → Budgeted (List Content)
items_at read zero left bytes = Some ([], left, bytes)
items_at read (suc n) left bytes = do
  x ← read left bytes
  then_make (λ vs. x.0 ∷ vs) (items_at read n x.1 x.2)

-- a vec: bytes, or a count and that many values
unfoldable pub seq_at : Bool → Budgeted Content → Budgeted Content
seq_at true read left bytes = alone blob counted_at left bytes
seq_at false read left bytes = do
  n ← unsigned_reader Candid bytes
  then_make (λ vs. list (contents_of vs)) (items_at read n.0 left n.1)

-- a value for each of the types
unfoldable pub each_at : {A B : Type 0} → (A → Budgeted B) → List A → Budgeted (List B)
each_at read [] left bytes = Some ([], left, bytes)
each_at read (type ∷ types) left bytes = do
  x ← read type left bytes
  then_make (λ vs. x.0 ∷ vs) (each_at read types x.1 x.2)

-- a field
abbrev pub field_at : (TyRef → Budgeted Content) → ℕ × TyRef → Budgeted (ℕ × Content)
field_at read field left bytes = then_make (λ v. (field.0, v)) (read field.1 left bytes)

-- a record: its fields in order
unfoldable pub record_at : (TyRef → Budgeted Content) → List (ℕ × TyRef) → Budgeted Content
record_at read fields left bytes = then_make (λ ps. record_of (parts_of ps)) (each_at (field_at read) fields left bytes)

-- the value of a case, where there is one at this place
abbrev pub case_at : (TyRef → Budgeted Content) → ℕ → Option (ℕ × TyRef) → Budgeted Content
case_at read i None left bytes = None
case_at read i (Some case) left bytes = then_make (λ v. variant i v) (read case.1 left bytes)

-- a variant: the place of the case, and its value
unfoldable pub variant_at : (TyRef → Budgeted Content) → List (ℕ × TyRef) → Budgeted Content
variant_at read cases left bytes = do
  n ← unsigned_reader Candid bytes
  case_at read n.0 (slice_get cases n.0) left n.1

-- a value of an entry, with a reader for its parts
unfoldable pub entry_at : (TyRef → Budgeted Content) → Entry → Budgeted Content
entry_at read (Opt type) = opt_at (read type)
entry_at read (Seq type) = seq_at (is_nat8 type) (read type)
entry_at read (Rec fields) = record_at read fields
entry_at read (Var cases) = variant_at read cases
entry_at read (Func args results notes) = alone (λ f. plain (func f.0 f.1)) func_at
entry_at read (Service methods) = alone (λ p. plain (service p)) principal_at

-- a value of a shape, with a reader for its parts
abbrev pub shape_at : (TyRef → Budgeted Content) → Shape → Budgeted Content
shape_at read (primitive p) = alone plain (primitive_at p)
shape_at read (compound entry) = entry_at read entry
shape_at read dangling = λ left bytes. None

-- a value of the type, nesting at most so deep
unfoldable pub value_at : List Entry → ℕ → TyRef → Budgeted Content
value_at table zero type left bytes = None
value_at table (suc depth) type zero bytes = None
value_at table (suc depth) type (suc left) bytes = shape_at (value_at table depth) (shape table type) left bytes

-- the values, where no byte is left
abbrev pub all_read : {A : Type 0} → A × ℕ × List ℕ → Option A
all_read (vs, left, []) = Some vs
all_read (vs, left, b ∷ bytes) = None

-- the values of a message, all of the bytes
unfoldable pub values_at : List Entry → List TyRef → List ℕ → Option (List Content)
values_at table types bytes = each_at (value_at table 128) types 1000000 bytes >>= all_read
