-- Messages, of values of any nesting and number (Candid specification, "Binary Format", B).
use Rattle.std.specs.Prelude.{◌≡◌, ℕ, false, List, ◌++◌}
use Rattle.std.specs.List.{flat_map}
use Rattle.cd_types.specs.declared.entry.TyRef.{TyRef}
use Rattle.cd_types.specs.declared.entry.Entry.{Entry}
use Rattle.cd_codec.specs.Content.{Content}
use Rattle.cd_codec.specs.IsHeader.{IsHeader}
use Rattle.cd_codec.specs.AreValues.{WireEach}
use Rattle.cd_codec.specs.Spelling.{spelling}
use Rattle.cd_codec.specs.HeaderSpelling.{header_spelling}

-- how a message is written: each number in its shortest spelling
abbrev pub message_spelling : List Entry → List TyRef → List Content → List ℕ
message_spelling table types values = header_spelling table types ++ flat_map spelling values

-- the bytes are a message: a header without floats, and the values at its types
pub record IsMessage (table : List Entry) (types : List TyRef) (values : List Content) (bytes : List ℕ) : Type 0 where
  pub header : List ℕ
  pub rest : List ℕ
  pub whole : bytes ≡ header ++ rest
  pub begins : IsHeader false table types header
  pub follows : WireEach table types values rest
