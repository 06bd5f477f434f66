use Rattle.std.proofs.Common.{rules}
use Rattle.std.specs.Prelude.{FitsSigned}
use Rattle.std.specs.Int.{w128}
use Rattle.std.proofs.lemmas.Int.{to_z-of_z}
use Rattle.ic_leb.proofs.OneByte.{signed_byte_read, signed_byte_fits}
use Rattle.ic_leb.proofs.reading.signed.Goals as goal

pub returns-in-Some-clause-exact : goal.returns-in-Some-clause-exact
returns-in-Some-clause-exact c =
    let fit : FitsSigned w128 c.signed_byte.result = search rules in
    rw (to_z-of_z w128 c.signed_byte.result fit, c.signed_byte.ensures)
    (signed_byte_read c.args.width c.args.bytes.now c.args.at c.in-Some.byte.now c.in-Some.ensures.lookup.3.0 c.in-Some.ensures.lookup.1 c.if-byte-lt128.true)

pub returns-in-Some-clause-fits : goal.returns-in-Some-clause-fits
returns-in-Some-clause-fits c =
    let fit : FitsSigned w128 c.signed_byte.result = search rules in
    rw (to_z-of_z w128 c.signed_byte.result fit, c.signed_byte.ensures) (signed_byte_fits c.args.width c.in-Some.byte.now c.if-byte-lt128.true)
