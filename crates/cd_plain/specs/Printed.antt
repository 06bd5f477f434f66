-- The one printed text of values at their types, with labels by number or by name (Candid specification, "Core Grammar", values).
use Rattle.std.specs.Prelude.{ℕ, suc, ◌/◌, ◌%◌, ◌==◌, ◌||◌, Bool, true, false, nat_lt, if◌then◌else◌, List, [], ◌∷◌, ◌++◌, Option, Some, None, codes}
use Rattle.std.specs.List.{flat_map}
use Rattle.std.specs.Fmt.{decimal, signed_decimal}
use Rattle.std.specs.Char.{digit_char}
use Rattle.ic_principal.specs.Text.{text_of as principal_text}
use Rattle.cd_types.specs.declared.entry.TyRef.{TyRef}
use Rattle.cd_types.specs.declared.entry.Entry.{Entry}
use Rattle.cd_types.specs.Shape.{shape}
use Rattle.cd_tokens.specs.Label.{is_name}
use Rattle.cd_names.specs.Names.{IdNames, name_for}
use Rattle.cd_codec.specs.Content.{Content, Plain, null, bool, nat, int, nat8, nat16, nat32, nat64, int8, int16, int32, int64, text, reserved, func, service, principal, plain, blob, none, some, list, record_of, variant, Contents, no_content, content, Parts, no_part, part}
use Rattle.cd_plain.specs.Types.{inner_of, item_of, fields_of, nth_field, nth_type}

-- a byte by two lower hex digits after a backslash
abbrev pub hex_escape : ℕ → List ℕ
hex_escape b = 92 ∷ digit_char (b / 16) ∷ digit_char (b % 16) ∷ []

-- a byte of a text: " and \ after a backslash, control characters as hex, all else as it is
abbrev pub escape : ℕ → List ℕ
escape b = if b == 34 || b == 92 then 92 ∷ b ∷ [] else if nat_lt b 32 || b == 127 then hex_escape b else b ∷ []

-- a text between quotes
abbrev pub quoted : List ℕ → List ℕ
quoted s = 34 ∷ (flat_map escape s ++ 34 ∷ [])

-- texts with a separator between
abbrev pub joined : List ℕ → List (List ℕ) → List ℕ
joined separator [] = []
joined separator (first ∷ more) = first ++ flat_map (λ next. separator ++ next) more

-- parts in braces: {} without parts, else { a; b }
abbrev pub braced : List (List ℕ) → List ℕ
braced [] = codes "{}"
braced (first ∷ more) = codes "{ " ++ (joined (codes "; ") (first ∷ more) ++ codes " }")

-- a name as a label: bare where it is one word, in quotes else
abbrev pub name_text : List ℕ → List ℕ
name_text name = if is_name name then name else quoted name

abbrev pub name_or_number : Option (List ℕ) → ℕ → List ℕ
name_or_number None id = decimal id
name_or_number (Some name) id = name_text name

-- a label: without names by number, with names by the one for its id, where there is one
abbrev pub label_text : Option IdNames → ℕ → List ℕ
label_text None id = decimal id
label_text (Some names) id = name_or_number (name_for names id) id

-- a label, = and a value
abbrev pub labelled : List ℕ → List ℕ → List ℕ
labelled label value = label ++ (codes " = " ++ value)

-- with names, a case of null is printed without it
abbrev pub is_left_out : Option IdNames → Content → Bool
is_left_out None v = false
is_left_out (Some names) (plain null) = true
is_left_out (Some names) _ = false

-- a case of a variant
abbrev pub case_text : Option IdNames → ℕ → Content → List ℕ → List ℕ
case_text names id v value = if is_left_out names v then label_text names id else labelled (label_text names id) value

abbrev pub bool_text : Bool → List ℕ
bool_text true = codes "true"
bool_text false = codes "false"

-- a value without parts
unfoldable pub plain_text : Plain → List ℕ
plain_text null = codes "null"
plain_text (bool b) = bool_text b
plain_text (nat n) = decimal n
plain_text (int z) = signed_decimal z
plain_text (nat8 n) = decimal n
plain_text (nat16 n) = decimal n
plain_text (nat32 n) = decimal n
plain_text (nat64 n) = decimal n
plain_text (int8 z) = signed_decimal z
plain_text (int16 z) = signed_decimal z
plain_text (int32 z) = signed_decimal z
plain_text (int64 z) = signed_decimal z
plain_text (text s) = quoted s
plain_text reserved = codes "null"
plain_text (func p method) = codes "func " ++ (quoted (principal_text p) ++ (46 ∷ quoted method))
plain_text (service p) = codes "service " ++ quoted (principal_text p)
plain_text (principal p) = codes "principal " ++ quoted (principal_text p)

unfoldable mutual
  -- a value at its type
  pub value_text : Option IdNames → List Entry → TyRef → Content → List ℕ
  value_text names table type (plain p) = plain_text p
  value_text names table type (blob s) = codes "blob " ++ (34 ∷ (flat_map hex_escape s ++ 34 ∷ []))
  value_text names table type none = codes "null"
  value_text names table type (some v) = codes "opt " ++ value_text names table (inner_of (shape table type)) v
  value_text names table type (list vs) = codes "vec " ++ braced (item_texts names table (item_of (shape table type)) vs)
  value_text names table type (record_of ps) = codes "record " ++ braced (field_texts names table (fields_of (shape table type)) 0 ps)
  value_text names table type (variant i v) = let case = nth_field (fields_of (shape table type)) i in codes "variant " ++ braced (case_text names case.0 v (value_text names table case.1 v) ∷ [])

  -- the values of a vec
  pub item_texts : Option IdNames → List Entry → TyRef → Contents → List (List ℕ)
  item_texts names table item no_content = []
  item_texts names table item (content v vs) = value_text names table item v ∷ item_texts names table item vs

  -- the fields of a record, the first of which is at this place
  pub field_texts : Option IdNames → List Entry → List (ℕ × TyRef) → ℕ → Parts → List (List ℕ)
  field_texts names table fields place no_part = []
  field_texts names table fields place (part id v ps) = labelled (label_text names id) (value_text names table (nth_field fields place).1 v) ∷ field_texts names table fields (suc place) ps

-- each value at its type; the first is at this place
abbrev pub argument_texts : Option IdNames → List Entry → List TyRef → ℕ → List Content → List (List ℕ)
argument_texts names table types place [] = []
argument_texts names table types place (v ∷ vs) = value_text names table (nth_type types place) v ∷ argument_texts names table types (suc place) vs

-- the values between parentheses, with commas between
abbrev pub printed_with : Option IdNames → List Entry → List TyRef → List Content → List ℕ
printed_with names table types values = 40 ∷ (joined (codes ", ") (argument_texts names table types 0 values) ++ 41 ∷ [])

-- with labels by number
abbrev pub printed : List Entry → List TyRef → List Content → List ℕ
printed = printed_with None

-- with labels by name, and a case of null without it
abbrev pub printed_named : IdNames → List Entry → List TyRef → List Content → List ℕ
printed_named names = printed_with (Some names)
