use Rattle.std.proofs.Common.{◌≡◌, true, drop}
use Rattle.std.specs.Prelude.{is_some}
use Rattle.cd_tokens.specs.ReadNumeral.{digits_from}
use Rattle.cd_tokens.proofs.number.are_digits.Given as goal

abbrev pub invariant-loop-byte : goal.invariant-loop-byte
invariant-loop-byte l = is_some (digits_from l.base l.needs_digit 0 (drop l.byte-index l.bytes)) ≡ is_some (digits_from l.base true 0 l.bytes)
