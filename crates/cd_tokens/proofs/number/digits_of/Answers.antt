use Rattle.std.proofs.Common.{◌^◌, ap, sym, ◌∙◌}
use Rattle.std.specs.Prelude.{cond, Some, None}
use Rattle.cd_tokens.proofs.Numerals.{at_last}
use Rattle.cd_tokens.proofs.number.digits_of.Goals as goal

pub returns-then-digits : goal.returns-then-digits
returns-then-digits c =
    sym (at_last (2 ^ 128) c.args.base c.loop-byte.digits.needs_digit c.loop-byte.digits.number _ c.args.bytes.now _ c.loop-byte.invariant.0 c.loop-byte-test.false c.loop-byte.invariant.1 ∙ ap (λ b. cond b None (Some c.loop-byte.digits.number)) c.if-digits.true)

pub returns-else-digits : goal.returns-else-digits
returns-else-digits c =
    sym (at_last (2 ^ 128) c.args.base c.loop-byte.digits.needs_digit c.loop-byte.digits.number _ c.args.bytes.now _ c.loop-byte.invariant.0 c.loop-byte-test.false c.loop-byte.invariant.1 ∙ ap (λ b. cond b None (Some c.loop-byte.digits.number)) c.if-digits.false)
