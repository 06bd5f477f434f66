-- Candid specification, "Values" and "Coercion": the parts of a value, each with its type
use Rattle.std.specs.Prelude.{ℕ, suc, ◌==◌, Bool, true, false, List, [], ◌∷◌, map, Option, Some, None, if◌then◌else◌}
use Rattle.cd_types.specs.declared.entry.TyRef.{TyRef}
use Rattle.cd_codec.specs.Content.{Content, Plain, null, reserved, nat8, plain, blob, none, some, list, Contents, no_content, content, Parts, no_part, part}

-- the values of a list
abbrev pub values_of : Contents → List Content
values_of no_content = []
values_of (content v vs) = v ∷ values_of vs

-- the values of a record's fields
abbrev pub field_values : Parts → List Content
field_values no_part = []
field_values (part i v ps) = v ∷ field_values ps

-- a byte of a blob
abbrev pub byte_value : ℕ → Content
byte_value b = plain (nat8 b)

-- the items of a vec; a blob is the list of its bytes
abbrev pub items_of : Content → Option (List Content)
items_of (blob bytes) = Some (map byte_value bytes)
items_of (list vs) = Some (values_of vs)
items_of _ = None

-- whether a plain value is neither null nor reserved
abbrev pub is_plain_constituent : Plain → Bool
is_plain_constituent null = false
is_plain_constituent reserved = false
is_plain_constituent _ = true

-- whether the value is neither null, reserved nor an opt
abbrev pub is_constituent : Content → Bool
is_constituent (plain p) = is_plain_constituent p
is_constituent none = false
is_constituent (some v) = false
is_constituent _ = true

-- the fields of a record type, each with what is at its place
abbrev pub with_fields : {A : Type 0} → List (ℕ × TyRef) → List A → List (ℕ × (TyRef × A))
with_fields [] xs = []
with_fields (field ∷ fields) [] = []
with_fields (field ∷ fields) (x ∷ xs) = (field.0, (field.1, x)) ∷ with_fields fields xs

-- what is under an id
abbrev pub under : {A : Type 0} → ℕ → List (ℕ × A) → Option A
under id [] = None
under id (x ∷ xs) = if x.0 == id then Some x.1 else under id xs

-- the case with an id, and its place, where the first case is at this place
abbrev pub case_from : ℕ → ℕ → List (ℕ × TyRef) → Option (ℕ × TyRef)
case_from place id [] = None
case_from place id (case ∷ cases) = if case.0 == id then Some (place, case.1) else case_from (suc place) id cases
