use Rattle.std.proofs.Common.{◌≡◌, map, take}
use Rattle.ic_principal.specs.Base32.{character}
use Rattle.ic_principal.specs.Text.{dashed}
use Rattle.ic_principal.proofs.base32.spell.Given as goal

abbrev pub invariant-loop-value : goal.invariant-loop-value
invariant-loop-value l = l.text.bytes ≡ dashed (map character (take l.value-index l.values))
