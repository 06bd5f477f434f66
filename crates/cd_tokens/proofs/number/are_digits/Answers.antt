use Rattle.std.proofs.Common.{sym}
use Rattle.cd_tokens.proofs.AnySize.{at_last}
use Rattle.cd_tokens.proofs.number.are_digits.Goals as goal

pub returns : goal.returns
returns c = sym (at_last c.args.base c.loop-byte.needs_digit c.loop-byte.byte-index c.args.bytes.now _ c.loop-byte-test.false c.loop-byte.invariant)
