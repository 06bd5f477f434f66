use Rattle.std.proofs.Common.{ℕ, ◌-◌, ◌*◌, ◌/◌, ◌%◌, ◌^◌, ◌≤◌, ◌++◌, length, bit_and, sym, ap, ◌∙◌, arith}
use Rattle.std.proofs.Math.Pow.{pow_mono}
use Rattle.std.proofs.lemmas.Nat.{one_shl, and_mask}
use Rattle.ic_principal.specs.Bits.{bits_of}
use Rattle.ic_principal.proofs.BitLaws.{length-bits_of, bits_of-cut, front-lt}
use Rattle.ic_principal.proofs.bit_queue.BitQueue.pop.Goals as goal

pub overflow_sub-rest : goal.overflow_sub-rest
overflow_sub-rest c = omega (arith, c.requires.some, ap length c.self.view_is, length-bits_of c.self.inside.count c.self.inside.value)

pub overflow_cast-result : goal.overflow_cast-result
overflow_cast-result c =
    let q = c.self.inside in
    let enough : c.args.width ≤ q.count = omega (arith, c.requires.some, ap length c.self.view_is, length-bits_of q.count q.value) in
    let widest : 2 ^ c.args.width ≤ 2 ^ 8 = pow_mono c.requires.narrow in
    omega (arith, front-lt q.count c.args.width q.value enough c.self.invariant.1, widest)

pub returns-clause-bits : goal.returns-clause-bits
returns-clause-bits c =
    let q = c.self.inside in let width = c.args.width in
    let enough : width ≤ q.count = omega (arith, c.requires.some, ap length c.self.view_is, length-bits_of q.count q.value) in
    let rest : ℕ = q.count - width in
    sym c.self.view_is ∙ bits_of-cut q.count width rest q.value (omega arith)
    ∙ ap (λ v. bits_of width (q.value / 2 ^ rest) ++ bits_of rest v) (sym (ap (λ m. bit_and q.value (m - 1)) (one_shl rest 16 (omega (arith, c.self.invariant.0))) ∙ and_mask q.value rest))

pub returns-clause-fits : goal.returns-clause-fits
returns-clause-fits c =
    let q = c.self.inside in
    front-lt q.count c.args.width q.value (omega (arith, c.requires.some, ap length c.self.view_is, length-bits_of q.count q.value)) c.self.invariant.1

pub returns-clause-len : goal.returns-clause-len
returns-clause-len c =
    let q = c.self.inside in
    omega (arith, c.requires.some, length-bits_of (q.count - c.args.width) (bit_and q.value (1 * 2 ^ (q.count - c.args.width) % 65536 - 1)), ap length c.self.view_is, length-bits_of q.count q.value)
