use Rattle.std.proofs.Common.{◌≡◌, false, length, replicate, sym, ap, ◌∙◌}
use Rattle.std.proofs.lemmas.Bool.Decides.{Decides-eqb}
use Rattle.ic_principal.specs.Bits.{bits_of, number}
use Rattle.ic_principal.proofs.BitLaws.{length-bits_of, number-bits_of, bits_of-zero, number-clear}
use Rattle.ic_principal.proofs.bit_queue.BitQueue.is_clear.Goals as goal

pub returns : goal.returns
returns c =
    let q = c.self.inside in
    let count : q.count ≡ length c.args.self.now = sym (length-bits_of q.count q.value) ∙ ap length c.self.view_is in (
      λ clear.
          sym c.self.view_is ∙ ap (bits_of q.count) ((Decides-eqb q.value 0).0 clear) ∙ bits_of-zero q.count ∙ ap (λ n. replicate n false) count,
      λ clear.
          (Decides-eqb q.value 0).1 (sym (number-bits_of q.count q.value c.self.invariant.1) ∙ ap number (c.self.view_is ∙ clear) ∙ number-clear (length c.args.self.now)),
    )
