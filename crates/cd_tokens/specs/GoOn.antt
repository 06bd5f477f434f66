-- What is read of digits, where some are read.
use Rattle.std.specs.Prelude.{ℕ, ◌^◌, Bool, false, List, Option, Some, None, is_some}
use Rattle.cd_tokens.specs.declared.number.Digits.{Digits}
use Rattle.cd_tokens.specs.ReadNumeral.{digits_from, below}

-- the number below 2^128 of the digits read and those that follow
abbrev pub go_on : ℕ → Option Digits → List ℕ → Option ℕ
go_on base None bytes = None
go_on base (Some digits) bytes = below (2 ^ 128) (digits_from base digits.needs_digit digits.number bytes)

-- whether the bytes are digits to their end, where it is known whether a digit must follow
abbrev pub ends_well : ℕ → Option Bool → List ℕ → Bool
ends_well base None bytes = false
ends_well base (Some needs) bytes = is_some (digits_from base needs 0 bytes)
