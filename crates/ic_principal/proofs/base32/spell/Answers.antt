use Rattle.std.proofs.Common.{length, map, take, ap, arith}
use Rattle.std.proofs.lemmas.List.{length-map, length-take}
use Rattle.ic_principal.specs.Base32.{character}
use Rattle.ic_principal.specs.Text.{dashed}
use Rattle.ic_principal.proofs.TextLaws.{length-dashed}
use Rattle.ic_principal.proofs.base32.spell.Goals as goal

pub loop-value-init : goal.loop-value-init
unfolding dashed
loop-value-init c = c.new-text.ensures

pub push_letter-requires-clause-room : goal.push_letter-requires-clause-room
push_letter-requires-clause-room c =
    let values = take c.loop-value.value-index c.args.values.now in
    omega (arith, ap length c.loop-value.invariant, length-dashed (map character values), length-map values character, length-take c.loop-value.value-index c.args.values.now, c.requires.few)
