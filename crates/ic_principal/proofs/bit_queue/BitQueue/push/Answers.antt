use Rattle.std.proofs.Common.{◌+◌, ◌*◌, ◌%◌, ◌^◌, ◌≤◌, ◌++◌, length, bit_or, refl, ap, ◌∙◌, arith}
use Rattle.ic_principal.specs.Bits.{bits_of}
use Rattle.ic_principal.proofs.BitLaws.{length-bits_of, bits_of-cat, shifted_in, shifted_in-lt}
use Rattle.ic_principal.proofs.bit_queue.BitQueue.push.Goals as goal

pub invariant_of-self : goal.invariant_of-self
invariant_of-self c =
    let q = c.self.inside in let width = c.args.width in
    let room : q.count + width ≤ 12 = omega (arith, c.requires.room, ap length c.self.view_is, length-bits_of q.count q.value) in
    (room, shifted_in-lt q.value q.count width c.args.value c.self.invariant.1 (omega arith) c.requires.fits)

pub returns-clause-len : goal.returns-clause-len
returns-clause-len c =
    let q = c.self.inside in
    omega (arith, length-bits_of (q.count + c.args.width) (bit_or (q.value * 2 ^ c.args.width % 65536) c.args.value), ap length c.self.view_is, length-bits_of q.count q.value)

pub returns-clause-bits : goal.returns-clause-bits
returns-clause-bits c =
    let q = c.self.inside in let width = c.args.width in
    let room : q.count + width ≤ 12 = omega (arith, c.requires.room, ap length c.self.view_is, length-bits_of q.count q.value) in
    ap (λ v. bits_of (q.count + width) v) (shifted_in q.value q.count width c.args.value c.self.invariant.1 (omega arith) c.requires.fits)
    ∙ bits_of-cat (q.count + width) q.count width q.value c.args.value refl c.requires.fits
    ∙ ap (λ l. l ++ bits_of width c.args.value) c.self.view_is
