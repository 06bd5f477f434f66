use Rattle.std.proofs.Common.{◌≡◌, ℕ, ◌*◌, List, length, ap, ◌∙◌, arith}
use Rattle.wm_store.specs.Held.{Held}
use Rattle.ic_keep.proofs.Turns.{length_bytes, stays, stable_writes}
use Rattle.ic_keep.proofs.turning.rewrite_stable.Goals.{then-from-i+in_ok-stable_write, else-from-i}
use Rattle.ic_keep.proofs.turning.rewrite_stable.Goals as goal

pub overflow_mul-i : goal.overflow_mul-i
overflow_mul-i c =
    let size : length c.args.store.now.lists.stable ≡ 4096 * length c.args.from.now = ap length c.requires.stable ∙ length_bytes c.args.ranges.now c.args.from.now c.are_distinct.ensures c.requires.from in
    omega (arith, size, c.requires.lengths, c.stable_pages-pages.ensures.whole, c.stable_pages-pages.ensures.few, c.loop-i-test.true)

pub loop-i-preserved : goal.loop-i-preserved
loop-i-preserved c =
    elim c.if-from-i.branch [
      | then-from-i+in_ok-stable_write w ↦ (
        ap (λ (s : Held). s.lists) w.store-is ∙ stable_writes c.args.ranges.now c.are_distinct.ensures c.args.from.now c.args.to.now c.requires.lengths c.requires.from c.requires.to
            c.loop-i.i _ c.loop-i-test.true c.args.store.now.lists c.loop-i.store.lists w.stable_write.new.self.lists w.range.result.now c.loop-i.invariant.0 w.range.ensures w.in_ok-stable_write.ensures.lists,
        ap (λ (s : Held). s.begun) w.store-is ∙ w.in_ok-stable_write.ensures.begun ∙ c.loop-i.invariant.1,
      )
      | else-from-i w ↦ (
        ap (λ (s : Held). s.lists) w.store-is ∙ c.loop-i.invariant.0 ∙ ap (λ (m : List ℕ). record c.args.store.now.lists { stable = m })
            (stays c.args.ranges.now c.are_distinct.ensures c.args.from.now c.args.to.now c.requires.lengths c.requires.from c.requires.to c.loop-i.i 0 c.loop-i-test.true w.if-from-i.false),
        ap (λ (s : Held). s.begun) w.store-is ∙ c.loop-i.invariant.1,
      )
    ]
