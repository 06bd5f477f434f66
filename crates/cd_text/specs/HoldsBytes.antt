-- Values whose bytes are bytes: what each value of the program is.
use Rattle.std.specs.Prelude.{◌<◌}
use Rattle.std.specs.List.{AllByRecursion}
use Rattle.ic_principal.specs.IsPrincipal.{IsPrincipal}
use Rattle.cd_codec.specs.Content.{Content, Plain, func, service, principal, plain, blob, none, some, list, record_of, variant, Contents, no_content, content, Parts, no_part, part}

-- a principal is at most 29 bytes
abbrev pub NamesPrincipal : Plain → Type 0
NamesPrincipal (func p method) = IsPrincipal p
NamesPrincipal (service p) = IsPrincipal p
NamesPrincipal (principal p) = IsPrincipal p
NamesPrincipal _ = Unit {0}

abbrev mutual
  pub HoldsBytes : Content → Type 0
  HoldsBytes (plain p) = NamesPrincipal p
  HoldsBytes (blob s) = AllByRecursion (λ b. b < 256) s
  HoldsBytes none = Unit {0}
  HoldsBytes (some v) = HoldsBytes v
  HoldsBytes (list vs) = HoldsBytesAll vs
  HoldsBytes (record_of ps) = HoldsBytesParts ps
  HoldsBytes (variant i v) = HoldsBytes v

  pub HoldsBytesAll : Contents → Type 0
  HoldsBytesAll no_content = Unit {0}
  HoldsBytesAll (content v vs) = HoldsBytes v × HoldsBytesAll vs

  pub HoldsBytesParts : Parts → Type 0
  HoldsBytesParts no_part = Unit {0}
  HoldsBytesParts (part i v ps) = HoldsBytes v × HoldsBytesParts ps
