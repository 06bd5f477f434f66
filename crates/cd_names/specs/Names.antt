-- Names for the ids of fields and cases (Candid specification, "Shorthand: Symbolic Field Ids").
use Rattle.std.specs.Prelude.{◌≡◌, ℕ, Bool, true, false, ◌==◌, if◌then◌else◌, List, Option, Some, None, find}
use Rattle.std.specs.List.{list_any, filter_map}
use Rattle.std.specs.Map.{lookup}
use Rattle.std.specs.Str.{is_utf8}
use Rattle.cd_types.specs.FieldId.{field_id_of}
use Rattle.cd_types.specs.declared.entry.TyRef.{TyRef}
use Rattle.cd_types.specs.declared.entry.Entry.{Entry}
use Rattle.cd_types.specs.declared.entry.Entry.TheVariants.{Rec, Var}
use Rattle.cd_tokens.specs.Token.{Token}
use Rattle.cd_tokens.specs.ReadLabel.{name_of}

-- names, with the ids that they are for
abbrev pub IdNames : Type 0
IdNames = List (ℕ × List ℕ)

-- the name for an id
abbrev pub name_for : IdNames → ℕ → Option (List ℕ)
name_for names id = lookup (λ key. id == key) names

-- each name has the id that it is for
abbrev pub HaveIds : IdNames → Type 0
HaveIds names = (id : ℕ) (name : List ℕ) → name_for names id ≡ Some name → field_id_of name ≡ id

-- each name is UTF-8
abbrev pub AreTexts : IdNames → Type 0
AreTexts names = (id : ℕ) (name : List ℕ) → name_for names id ≡ Some name → is_utf8 name ≡ true

-- one of the fields or cases has the id
abbrev pub is_among : List (ℕ × TyRef) → ℕ → Bool
is_among fields id = list_any (λ field. field.0 == id) fields

-- the entry is a record or a variant, and has the id
abbrev pub has_id : ℕ → Entry → Bool
has_id id (Rec fields) = is_among fields id
has_id id (Var cases) = is_among cases id
has_id id _ = false

-- a record or a variant of the table has the id
abbrev pub is_used : List Entry → ℕ → Bool
is_used table id = list_any (has_id id) table

-- the words and the strings among the tokens
abbrev pub names_in : List Token → List (List ℕ)
names_in tokens = filter_map name_of tokens

-- the first of some names that has the id
abbrev pub first_with : ℕ → List (List ℕ) → Option (List ℕ)
first_with id names = find (λ name. field_id_of name == id) names

-- the name for an id, where it is wanted: the first word or string among the tokens whose id it is
abbrev pub named : (ℕ → Bool) → List Token → ℕ → Option (List ℕ)
named is_wanted tokens id = if is_wanted id then first_with id (names_in tokens) else None

-- each id of the table's records and variants has that name, and no other id has one
abbrev pub Names : List Entry → List Token → IdNames → Type 0
Names table tokens names = (id : ℕ) → name_for names id ≡ named (is_used table) tokens id
