use Rattle.std.proofs.Common.{◌≡◌, sym, ap, ◌∙◌, arith}
use Rattle.std.specs.Prelude.{◌==◌}
use Rattle.std.specs.Int.{bit_at}
use Rattle.std.proofs.lemmas.Nat.{and_mask}
use Rattle.std.proofs.lemmas.Nat.Bits.{bit_at_lowest, bit_at-lt}
use Rattle.ic_principal.proofs.ChecksumLaws.{turned-set, turned-clear}
use Rattle.ic_principal.proofs.checksum.divided_by_bit.Goals as goal

pub returns-then-register-eq1 : goal.returns-then-register-eq1
returns-then-register-eq1 c bits =
    let r = c.args.register in
    turned-set r bits (omega arith) (ap (λ x. x == 1) (bit_at_lowest r ∙ sym (and_mask r 1) ∙ c.if-register-eq1.true))

pub returns-else-register-eq1 : goal.returns-else-register-eq1
returns-else-register-eq1 c bits =
    let r = c.args.register in
    let even : bit_at r 0 ≡ 0 = omega (arith, bit_at_lowest r, and_mask r 1, bit_at-lt r 0, c.if-register-eq1.false) in
    turned-clear r bits (omega arith) (ap (λ x. x == 1) even)
