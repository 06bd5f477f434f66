use Rattle.std.proofs.Common.{◌≡◌, suc, false, ◌++◌, replicate, reverse, sym, ap, ◌∙◌, arith}
use Rattle.ic_principal.specs.Bits.{bits_of}
use Rattle.ic_principal.specs.Checksum.{flipped, remainder}
use Rattle.ic_principal.proofs.checksum.divided_by_byte.Goals as goal

pub loop-init : goal.loop-init
loop-init c k bits e = let all : k ≡ 8 = omega arith in ap (λ n. remainder n (flipped (reverse (bits_of 32 c.args.register)) (replicate n false ++ bits))) all

pub loop-preserved : goal.loop-preserved
unfolding remainder
loop-preserved c k bits e =
    ap (λ l. remainder k l) (sym (c.divided_by_bit-rest.ensures (replicate k false ++ bits))) ∙ c.loop.invariant (suc k) bits (omega arith)

pub returns : goal.returns
unfolding remainder
returns c bits = sym (c.loop.invariant 0 bits (omega arith))
