-- The values that a text says, as a function that reads it.
use Rattle.std.specs.Prelude.{ℕ, false, List, Option, None, if◌then◌else◌}
use Rattle.std.specs.Str.{is_utf8}
use Rattle.ic_base.specs.Reader.{◌>>=◌}
use Rattle.cd_types.specs.declared.entry.TyRef.{TyRef}
use Rattle.cd_types.specs.declared.entry.Entry.{Entry}
use Rattle.cd_codec.specs.Content.{Content}
use Rattle.cd_tokens.specs.ReadTokens.{tokens_of}
use Rattle.cd_text.specs.ReadSaid.{arguments_at}

-- the values, one at each type
unfoldable pub values_of : List Entry → List TyRef → List ℕ → Option (List Content)
values_of table types text = if is_utf8 text then (tokens_of false text >>= arguments_at table types) else None
