-- Candid specification, "Coercion", as functions: the step of a coercion that is settled without the
-- value's parts
use Rattle.std.specs.Prelude.{◌≡◌, ℕ, Result, Ok, Err, map, slice_get, Bool, true, false, List, [], ◌∷◌, Option, Some, None}
use Rattle.ic_base.specs.Reader.{◌>>=◌}
use Rattle.cd_types.specs.declared.entry.TyRef.{TyRef}
use Rattle.cd_types.specs.declared.entry.Entry.{Entry}
use Rattle.cd_types.specs.Shape.{Shape}
use Rattle.cd_sub.specs.Below.{below}
use Rattle.cd_codec.specs.declared.value.Value.{Value}
use Rattle.cd_codec.specs.Content.{Content, null, reserved, plain, blob, none, some, list, record_of, variant}
use Rattle.cd_codec.specs.Measure.{number}
use Rattle.cd_codec.specs.View.{view, views_of_fields}
use Rattle.cd_coerce.specs.declared.plain.OptRule.{OptRule}
use Rattle.cd_coerce.specs.declared.plain.OptRule.TheVariants.{ToNone, Inner, Constituent}
use Rattle.ic_base.specs.declared.read_error.ReadError.{ReadError}
use Rattle.ic_base.specs.declared.read_error.ReadError.TheVariants.{NoMemory, Refused}
use Rattle.cd_coerce.specs.declared.step.Step.{Step}
use Rattle.cd_coerce.specs.declared.step.Step.TheVariants.{Done, Inner as InnerStep, Parts as PartsStep}
use Rattle.cd_coerce.specs.Read.{Setting, AtTypes, plain_at, some_if, read_at, coercions, cases_of, field_at}
use Rattle.cd_coerce.specs.Parts.{under, with_fields, case_from}

-- which of the opt rules takes the value
abbrev pub opt_rule : Content → OptRule
opt_rule (plain null) = ToNone
opt_rule (plain reserved) = ToNone
opt_rule none = ToNone
opt_rule (some v) = Inner
opt_rule _ = Constituent

-- the content of a value, if there is one
abbrev pub view_within : Option Value → Option Content
view_within None = None
view_within (Some v) = Some (view v)

-- what a value without parts coerces to is the whole answer
abbrev pub answer_of_plain : Option Content → Option (Option Content)
answer_of_plain None = None
answer_of_plain (Some v) = Some (Some v)

-- a value without parts, read at a type; Some None where it has parts
abbrev pub plain_part : Content → Shape → Option (Option Content)
plain_part (plain p) s = answer_of_plain (plain_at p s)
plain_part _ s = Some None

-- two tables, with subtyping between their types
abbrev pub setting : List Entry → List Entry → Setting
setting wire expected = record {
  wire = wire;
  expected = expected;
  below = λ a b. below wire a expected b;
}

-- the value inside an opt, read
abbrev pub inner_at : Setting → Content → AtTypes
inner_at c (some v) t u = read_at c (coercions c v) t u
inner_at c _ t u = None

-- a value that has parts and is no opt, at a type that is no opt
abbrev pub parts_at : Setting → Content → AtTypes
parts_at c (plain p) t u = None
parts_at c none t u = None
parts_at c (some v) t u = None
parts_at c (blob bytes) t u = (coercions c (blob bytes)).own t u
parts_at c (list vs) t u = (coercions c (list vs)).own t u
parts_at c (record_of ps) t u = (coercions c (record_of ps)).own t u
parts_at c (variant i v) t u = (coercions c (variant i v)).own t u

-- some of what is read, where it is lifted
abbrev pub lifted : Bool → Option Content → Option Content
lifted true read = some_if true read
lifted false read = read

-- what the value coerces to by a step
abbrev pub coerced_by : Setting → Content → TyRef → Step → Option Content
coerced_by c v t (Done r) = Some (view r)
coerced_by c v t (InnerStep x w) = some_if true (inner_at c v x w)
coerced_by c v t (PartsStep w lift) = lifted lift (parts_at c v t w)

-- how many values are made where the value is settled by a step: its parts are not counted yet
abbrev pub number_by : Step → ℕ
number_by (Done r) = number (view r)
number_by (InnerStep x w) = 1
number_by (PartsStep w lift) = 1

-- the step that is answered gives what is to be read
abbrev pub Settles : Option Content → (Step → Option Content) → Result Step ReadError → Type 0
Settles read by (Ok step) = read ≡ by step
Settles read by (Err Refused) = read ≡ None
Settles read by (Err NoMemory) = Unit {0}

-- the second of each pair
abbrev pub seconds : {A B : Type 0} → List (A × B) → List B
seconds xs = map (λ x. x.1) xs

-- the type of the case at a place, and the place and the type of the expected case with its id
abbrev pub target : Shape → Shape → ℕ → Option (TyRef × ℕ × TyRef)
target s r j = cases_of s >>= λ fs. slice_get fs j >>= λ f. cases_of r >>= λ gs. case_from 0 f.0 gs >>= λ g. Some (f.1, g.0, g.1)

-- what f makes of what is read
abbrev pub made : {A B : Type 0} → (A → B) → Option A → Option B
made f read = read >>= λ x. Some (f x)

-- what f gives of each, if it gives something of each
abbrev pub each_by : {A B : Type 0} → (A → Option B) → List A → Option (List B)
each_by f [] = Some []
each_by f (x ∷ xs) = f x >>= λ r. each_by f xs >>= λ rs. Some (r ∷ rs)

-- the values of a record's fields
abbrev pub part_values : List (ℕ × Value) → List Content
part_values parts = seconds (views_of_fields parts)

-- an expected field, with its id
abbrev pub expected_at : Setting → List (ℕ × TyRef) → List Content → ℕ × TyRef → Option (ℕ × Content)
expected_at c fields values g = field_at c (under g.0 (with_fields fields (map (coercions c) values))) g.1 >>= λ r. Some (g.0, r)
