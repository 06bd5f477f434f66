use Rattle.std.proofs.Common.{◌++◌, sym, ap, ◌∙◌}
use Rattle.std.specs.List.{flat_map}
use Rattle.ic_principal.specs.Bits.{bits_of}
use Rattle.ic_principal.proofs.BitLaws.{moved}
use Rattle.ic_principal.proofs.base32.push_value.Goals as goal

pub returns-clause-bits : goal.returns-clause-bits
returns-clause-bits c =
    let old = c.args.values.now.items in
    ap (λ l. flat_map (bits_of 5) l ++ c.pop.new.self) c.push.ensures.items ∙ moved (bits_of 5) old c.pop.result c.pop.new.self
    ∙ ap (λ q. flat_map (bits_of 5) old ++ q) (sym c.pop.ensures.bits)
