use Rattle.std.proofs.Common.{◌≡◌, ◌<◌, ◌^◌, true, drop}
use Rattle.cd_tokens.specs.ReadNumeral.{digits_from, below}
use Rattle.cd_tokens.proofs.number.digits_of.Given as goal

abbrev pub invariant-loop-byte : goal.invariant-loop-byte
invariant-loop-byte l = (l.digits.number < 2 ^ 128) × (below (2 ^ 128) (digits_from l.base l.digits.needs_digit l.digits.number (drop l.byte-index l.bytes)) ≡ below (2 ^ 128) (digits_from l.base true 0 l.bytes))
