use Rattle.std.proofs.Common.{arith}
use Rattle.std.proofs.lemmas.Int.{ints}
use Rattle.ic_leb.proofs.OneByte.{signed_byte_low, signed_byte_high}
use Rattle.ic_leb.proofs.reading.signed_byte.Goals as goal

pub returns-then-byte-lt64 : goal.returns-then-byte-lt64
returns-then-byte-lt64 c = omega (arith, ints, signed_byte_low c.args.byte (omega arith))

pub returns-else-byte-lt64 : goal.returns-else-byte-lt64
returns-else-byte-lt64 c = omega (arith, ints, signed_byte_high c.args.byte (omega arith) (omega arith))
