-- The parts of a value that has a given form (Candid specification, "Values"). Fields stand by rising ids, as their type has them.
use Rattle.std.specs.Prelude.{ℕ, Bool, List, [], ◌∷◌, ◌++◌, Option, Some, None}
use Rattle.ic_base.specs.Reader.{◌>>=◌}
use Rattle.cd_codec.specs.declared.value.Value.{Value}
use Rattle.cd_codec.specs.Content.{Content, plain, bool, nat, principal, blob, none, some, list, record_of, variant, Parts, no_part, part}
use Rattle.cd_codec.specs.View.{view}
use Rattle.cd_coerce.specs.Parts.{values_of}

-- the one value of a list
abbrev pub only : List Content → Option Content
only (v ∷ []) = Some v
only _ = None

abbrev pub as_record : Content → Option Parts
as_record (record_of ps) = Some ps
as_record _ = None

-- the values of one field, of two and of four
abbrev pub one_part : Parts → Option Content
one_part (part i v no_part) = Some v
one_part _ = None

abbrev pub two_parts : Parts → Option (Content × Content)
two_parts (part i v (part j w no_part)) = Some (v, w)
two_parts _ = None

abbrev pub four_parts : Parts → Option (Content × Content × Content × Content)
four_parts (part i v (part j w (part k x (part l y no_part)))) = Some (v, w, x, y)
four_parts _ = None

abbrev pub one_field : Content → Option Content
one_field v = as_record v >>= one_part

abbrev pub two_fields : Content → Option (Content × Content)
two_fields v = as_record v >>= two_parts

abbrev pub four_fields : Content → Option (Content × Content × Content × Content)
four_fields v = as_record v >>= four_parts

-- the fields of the one record that a list is
abbrev pub only_field : List Content → Option Content
only_field values = only values >>= one_field

abbrev pub only_two : List Content → Option (Content × Content)
only_two values = only values >>= two_fields

abbrev pub only_four : List Content → Option (Content × Content × Content × Content)
only_four values = only values >>= four_fields

-- the value in an opt
abbrev pub as_opt : Content → Option (Option Content)
as_opt none = Some None
as_opt (some v) = Some (Some v)
as_opt _ = None

-- the items of a vec that is no vec nat8
abbrev pub as_list : Content → Option (List Content)
as_list (list vs) = Some (values_of vs)
as_list _ = None

-- the place of a variant's case, and its value
abbrev pub as_case : Content → Option (ℕ × Content)
as_case (variant i v) = Some (i, v)
as_case _ = None

abbrev pub as_principal : Content → Option (List ℕ)
as_principal (plain (principal id)) = Some id
as_principal _ = None

abbrev pub as_nat : Content → Option ℕ
as_nat (plain (nat n)) = Some n
as_nat _ = None

abbrev pub as_bool : Content → Option Bool
as_bool (plain (bool b)) = Some b
as_bool _ = None

abbrev pub as_bytes : Content → Option (List ℕ)
as_bytes (blob bytes) = Some bytes
as_bytes _ = None

-- the principals that values are
abbrev pub as_principals : List Content → Option (List (List ℕ))
as_principals [] = Some []
as_principals (v ∷ vs) = do
  id ← as_principal v
  ids ← as_principals vs
  Some (id ∷ ids)

-- ---- what code holds of these

abbrev pub view_case : ℕ × Value → ℕ × Content
view_case x = (x.0, view x.1)

abbrev pub view_two : Value × Value → Content × Content
view_two x = (view x.0, view x.1)

abbrev pub view_four : Value × Value × Value × Value → Content × Content × Content × Content
view_four x = (view x.0, view x.1, view x.2, view x.3)

-- what is read, after what was read before
abbrev pub with_front : List (List ℕ) → Option (List (List ℕ)) → Option (List (List ℕ))
with_front front None = None
with_front front (Some ids) = Some (front ++ ids)
