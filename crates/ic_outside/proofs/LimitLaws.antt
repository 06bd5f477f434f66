-- Laws of the limits of a script.
use Rattle.std.proofs.Common.{◌≡◌, ℕ, ◌+◌, ◌-◌, ◌≤◌, ◌<◌, ◌⊎◌, Some, None, arith}
use Rattle.std.proofs.lemmas.Bool.Decides.{nat_tests}
use Rattle.ic_outside.specs.Limits.{Limits, Excess, LongLine, LongScript, excess}

-- a piece that passes no limit is within both
pub excess-none : (limits : Limits) (offset line piece : ℕ) → excess limits offset line piece ≡ None → line ≤ piece
    → (line ≤ limits.line) × (offset + piece ≤ limits.script)
unfolding excess
excess-none limits offset line piece none shorter = grind (arith, nat_tests)

-- what the beginning of a line passes the whole line passes
pub excess-more : (limits : Limits) (offset begun line piece : ℕ) (limit : Excess) → excess limits offset begun begun ≡ Some limit
    → begun ≤ line → begun ≤ piece → excess limits offset line piece ≡ Some limit
unfolding excess
excess-more limits offset begun line piece limit passed longer wider = grind (arith, nat_tests)

-- what the tests of the reader say, whose room is what the script may still have
pub excess-line : (limits : Limits) (offset line piece : ℕ) → offset ≤ limits.script → limits.line < line
    → limits.line ≤ limits.script - offset → excess limits offset line piece ≡ Some LongLine
unfolding excess
excess-line limits offset line piece inside longer first = grind (arith, nat_tests)

pub excess-script : (limits : Limits) (offset line piece : ℕ) → offset ≤ limits.script
    → (line ≤ limits.line) ⊎ (limits.script - offset < limits.line) → limits.script - offset < piece
    → excess limits offset line piece ≡ Some LongScript
unfolding excess
excess-script limits offset line piece inside first wider = grind (arith, nat_tests)

pub excess-within : (limits : Limits) (offset line piece : ℕ) → offset ≤ limits.script
    → (line ≤ limits.line) ⊎ (limits.script - offset < limits.line) → piece ≤ limits.script - offset
    → excess limits offset line piece ≡ None
unfolding excess
excess-within limits offset line piece inside first within = grind (arith, nat_tests)
