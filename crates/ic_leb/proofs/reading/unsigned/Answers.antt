use Rattle.ic_leb.proofs.OneByte.{unsigned_byte}
use Rattle.ic_leb.proofs.reading.unsigned.Goals as goal

pub returns-in-Some-clause-exact : goal.returns-in-Some-clause-exact
returns-in-Some-clause-exact c =
    rw c.from.ensures (unsigned_byte c.args.width c.args.bytes.now c.args.at c.in-Some.byte.now c.in-Some.ensures.lookup.3.0 c.in-Some.ensures.lookup.1 c.if-byte-lt128.true)
