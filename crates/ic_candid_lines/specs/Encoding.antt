-- What a line that reads a text of Candid values prints.
use Rattle.std.specs.Prelude.{ℕ, ◌++◌, List, codes, Option, Some, None}
use Rattle.cd_codec.specs.Content.{Content}
use Rattle.cd_text.specs.ReadText.{values_of}
use Rattle.ic_candid_lines.specs.Decoding.{Types, types_of, message_text, bad_expected_text, newline}

-- for a text that says no values of the types
unfoldable pub not_text : List ℕ
not_text = codes "refused NotText" ++ newline

-- for values that a text says: their message
abbrev pub encoded_text : Types → List Content → List ℕ
encoded_text = message_text (codes "encoded")

-- for what a text says
abbrev pub said_text : Types → Option (List Content) → List ℕ
said_text expected None = not_text
said_text expected (Some values) = encoded_text expected values

-- for a text and the types that it is to be read at, where there are such types
abbrev pub encoding_text : Option Types → List ℕ → List ℕ
encoding_text None text = bad_expected_text
encoding_text (Some expected) text = said_text expected (values_of expected.0 expected.1 text)

-- what is printed for a text and the bytes that are to give the expected types
unfoldable pub encode_text : List ℕ → List ℕ → List ℕ
encode_text expected text = encoding_text (types_of expected) text
