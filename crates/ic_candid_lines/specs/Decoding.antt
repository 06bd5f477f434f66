-- What a line that reads a Candid message prints.
use Rattle.std.specs.Prelude.{ℕ, false, ◌++◌, List, [], ◌∷◌, codes, decimal, Option, Some, None, Result, Ok, Err}
use Rattle.hex.specs.Hex.{encode_lower}
use Rattle.cd_types.specs.declared.entry.TyRef.{TyRef}
use Rattle.cd_types.specs.declared.entry.Entry.{Entry}
use Rattle.cd_codec.specs.Content.{Content}
use Rattle.cd_codec.specs.Message.{message_spelling}
use Rattle.cd_codec.specs.ReadHeader.{header_at}
use Rattle.cd_coerce.specs.declared.fault.DidlFault.{DidlFault}
use Rattle.cd_coerce.specs.declared.fault.DidlFault.TheVariants.{NotHeader, Float, NotSubtype, BadValue, NoMemory}
use Rattle.cd_coerce.specs.Decoded.{decoded}
use Rattle.cd_plain.specs.Printed.{printed}

-- what ends a printed line
abbrev pub newline : List ℕ
newline = 10 ∷ []

-- a table and the types of arguments
abbrev pub Types : Type 0
Types = List Entry × List TyRef

-- what was read, where nothing is left
abbrev pub if_all : Option (Types × List ℕ) → Option Types
if_all None = None
if_all (Some (types, [])) = Some types
if_all (Some (types, byte ∷ bytes)) = None

-- the expected types that the bytes give: a header with nothing after it
unfoldable pub types_of : List ℕ → Option Types
types_of bytes = if_all (header_at false bytes)

-- for bytes that are no header of expected types
unfoldable pub bad_expected_text : List ℕ
bad_expected_text = codes "bad expected" ++ newline

-- the name of a fault; out of memory is never printed
abbrev pub fault_text : DidlFault → List ℕ
fault_text NotHeader = codes "NotHeader"
fault_text Float = codes "Float"
fault_text (NotSubtype argument) = codes "NotSubtype " ++ decimal argument
fault_text BadValue = codes "BadValue"
fault_text NoMemory = []

-- for a message that is not read
unfoldable pub refused_text : DidlFault → List ℕ
refused_text fault = codes "refused " ++ (fault_text fault ++ newline)

-- a word, and the message that values are at the expected types, in hexadecimal
unfoldable pub message_text : List ℕ → Types → List Content → List ℕ
message_text word expected values = word ++ (32 ∷ (encode_lower (message_spelling expected.0 expected.1 values) ++ newline))

-- for values that were read
abbrev pub decoded_text : Types → List Content → List ℕ
decoded_text = message_text (codes "decoded")

-- for values that were read: their text at the expected types
unfoldable pub shown_text : Types → List Content → List ℕ
shown_text expected values = codes "shown " ++ (printed expected.0 expected.1 values ++ newline)

-- for what a message is read as; `print` is for values
abbrev pub answer_text : (Types → List Content → List ℕ) → Types → Result (List Content) DidlFault → List ℕ
answer_text print expected (Ok values) = print expected values
answer_text print expected (Err fault) = refused_text fault

-- for a message and the types that it is to be read at, where there are such types
abbrev pub reading_text : (Types → List Content → List ℕ) → Option Types → List ℕ → List ℕ
reading_text print None message = bad_expected_text
reading_text print (Some expected) message = answer_text print expected (decoded expected message)

-- what is printed for a message and the bytes that are to give the expected types
unfoldable pub decode_text : List ℕ → List ℕ → List ℕ
decode_text expected message = reading_text decoded_text (types_of expected) message

-- the same, where the text of the values is wanted
unfoldable pub show_text : List ℕ → List ℕ → List ℕ
show_text expected message = reading_text shown_text (types_of expected) message
