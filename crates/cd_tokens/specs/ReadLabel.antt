-- Names, texts and labels as functions that read them.
use Rattle.std.specs.Prelude.{ℕ, ◌^◌, if◌then◌else◌, List, Option, Some, None}
use Rattle.std.specs.Str.{is_utf8}
use Rattle.ic_base.specs.Reader.{◌>>=◌}
use Rattle.cd_types.specs.FieldId.{field_id_of}
use Rattle.cd_tokens.specs.ReadNumeral.{numeral_of, below}
use Rattle.cd_tokens.specs.ReadString.{unescaped_of}
use Rattle.cd_tokens.specs.Label.{is_name, is_plain_number}
use Rattle.cd_tokens.specs.Token.{Token, run, quoted, mark, arrow}

-- the bytes where they are UTF-8
abbrev pub utf8_of : List ℕ → Option (List ℕ)
utf8_of bytes = if is_utf8 bytes then Some bytes else None

-- the text that a string says
unfoldable pub text_of : List ℕ → Option (List ℕ)
text_of written = unescaped_of written >>= utf8_of

-- the name that a token is
unfoldable pub name_of : Token → Option (List ℕ)
name_of (run r) = if is_name r then Some r else None
name_of (quoted s) = text_of s
name_of (mark m) = None
name_of arrow = None

abbrev pub id_of : List ℕ → Option ℕ
id_of name = Some (field_id_of name)

-- the id of a label that is no string
abbrev pub run_label : List ℕ → Option ℕ
run_label r = if is_plain_number r then below (2 ^ 32) (numeral_of r) else if is_name r then id_of r else None

-- the id of a label
unfoldable pub label_of : Token → Option ℕ
label_of (run r) = run_label r
label_of (quoted s) = text_of s >>= id_of
label_of (mark m) = None
label_of arrow = None
