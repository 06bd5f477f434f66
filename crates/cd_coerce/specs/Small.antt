-- Candid specification, "Coercion": the nats that are read as ints; that an int is below 2^127 is
-- this project's limit
use Rattle.std.specs.Prelude.{◌<◌, ◌^◌}
use Rattle.cd_codec.specs.Content.{Content, Plain, nat, plain, blob, none, some, list, record_of, variant, Contents, no_content, content, Parts, no_part, part}

-- a value without parts that is no nat of 2^127 or more
abbrev pub IsSmallPlain : Plain → Type 0
IsSmallPlain (nat n) = n < 2 ^ 127
IsSmallPlain _ = Unit {0}

abbrev mutual
  -- no nat of the value is 2^127 or more
  pub IsSmall : Content → Type 0
  IsSmall (plain p) = IsSmallPlain p
  IsSmall (blob bytes) = Unit {0}
  IsSmall none = Unit {0}
  IsSmall (some v) = IsSmall v
  IsSmall (list vs) = AreSmall vs
  IsSmall (record_of ps) = PartsAreSmall ps
  IsSmall (variant i v) = IsSmall v

  pub AreSmall : Contents → Type 0
  AreSmall no_content = Unit {0}
  AreSmall (content v vs) = IsSmall v × AreSmall vs

  pub PartsAreSmall : Parts → Type 0
  PartsAreSmall no_part = Unit {0}
  PartsAreSmall (part i v ps) = IsSmall v × PartsAreSmall ps
