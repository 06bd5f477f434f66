use Rattle.std.proofs.Common.{ℕ, ◌+◌, ◌<◌, length, drop, sym, ap, ◌∙◌}
use Rattle.ic_exact.specs.Key.{mix}
use Rattle.ic_exact.specs.Ranges.{bytes_of}
use Rattle.ic_exact.proofs.Once.{each-at}
use Rattle.ic_keep.specs.Key.{with_memory}
use Rattle.ic_keep.proofs.Keys.{next_range}
use Rattle.ic_keep.proofs.key.with_memory.Goals as goal

pub key-requires : goal.key-requires
key-requires c = each-at (λ (n : ℕ). n < length c.args.ranges.now) c.args.numbers.now c.loop-number.number-index _ c.loop-number-test.true c.requires

pub loop-number-preserved : goal.loop-number-preserved
loop-number-preserved c =
    ap (λ k. with_memory k (bytes_of c.args.ranges.now (drop (c.loop-number.number-index + 1) c.args.numbers.now))) (c.mix-key.ensures ∙ ap (mix c.loop-number.key) c.key.ensures)
    ∙ sym (next_range c.args.ranges.now c.args.numbers.now c.loop-number.number-index _ c.loop-number.key c.are_distinct.ensures c.requires c.loop-number-test.true)
    ∙ c.loop-number.invariant
