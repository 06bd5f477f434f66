use Rattle.std.proofs.Common.{ap, ◌∙◌, arith}
use Rattle.std.specs.List.{flat_map}
use Rattle.std.proofs.lemmas.List.{take_all}
use Rattle.ic_principal.specs.Bits.{bits_of}
use Rattle.ic_principal.proofs.base32.bytes_of.Goals as goal

pub returns-clause-bits : goal.returns-clause-bits
returns-clause-bits c =
    c.loop-value.invariant.bits ∙ ap (flat_map (bits_of 5)) (take_all c.loop-value.value-index c.args.values.now (omega arith))
