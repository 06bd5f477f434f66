use Rattle.std.proofs.Common.{ℕ, ◌<◌, ◌++◌, length, get_or, refl, sym, subst, ap, ◌∙◌, arith}
use Rattle.std.specs.List.{All, flat_map}
use Rattle.arrayvec.specs.ArrayVec.{ArrayVec}
use Rattle.ic_principal.specs.Bits.{bits_of}
use Rattle.ic_principal.proofs.BitLaws.{waits}
use Rattle.ic_principal.proofs.base32.push_bytes.Goals as goal
use Rattle.ic_principal.proofs.base32.push_bytes.Goals.{then-len-ge5, else-len-ge5}

pub loop-byte-preserved : goal.loop-byte-preserved
loop-byte-preserved c =
    let i = c.loop-byte.byte-index in let bytes = c.args.bytes.now in let before = c.loop-byte.invariant in
    let start = flat_map (bits_of 5) c.args.values.now.items ++ c.args.queue.now in
    let whole = flat_map (bits_of 5) in
    let queued = waits (bits_of 8) (whole c.loop-byte.values.items) c.loop-byte.queue start bytes i (get_or bytes i 0) (omega arith) refl before.bits in
    let taken = c.push_value.ensures.bits ∙ ap (λ q. whole c.loop-byte.values.items ++ q) c.push.ensures.bits ∙ queued in
    let below = c.push_value.ensures.values before.values in
    let AllBelow : ArrayVec ℕ → Type 0 = λ v. All (λ x. x < 32) v.items in
    elim c.if-len-ge5.branch [
      | then-len-ge5 w ↦
          let more = w.push_value-then-len-ge5 in
          record {
            bits = ap (λ v. whole v.items ++ c.if-len-ge5.queue) w.values-is ∙ ap (λ q. whole more.new.values.items ++ q) w.queue-is ∙ more.ensures.bits ∙ taken;
            len = omega (arith, before.len, c.push.ensures.len, c.push_value.ensures, more.ensures, ap (λ v. length v.items) w.values-is, ap length w.queue-is);
            few = omega (arith, before.few, c.push.ensures.len, c.push_value.ensures, more.ensures, ap length w.queue-is);
            values = subst AllBelow (sym w.values-is) (more.ensures.values below);
          }
      | else-len-ge5 w ↦
          record {
            bits = ap (λ v. whole v.items ++ c.if-len-ge5.queue) w.values-is ∙ ap (λ q. whole c.push_value.new.values.items ++ q) w.queue-is ∙ taken;
            len = omega (arith, before.len, c.push.ensures.len, c.push_value.ensures, ap (λ v. length v.items) w.values-is, ap length w.queue-is);
            few = omega (arith, ap length w.queue-is, w.if-len-ge5.false, c.len.ensures.value);
            values = subst AllBelow (sym w.values-is) below;
          }
    ]
