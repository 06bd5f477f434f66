use Rattle.std.proofs.Common.{ℕ, ◌<◌, ◌++◌, length, ap, ◌∙◌}
use Rattle.ic_exact.proofs.Once.{each-at, more_bytes}
use Rattle.ic_exact.proofs.ranges.Ranges.bytes.Goals as goal

pub range-requires : goal.range-requires
range-requires c = each-at (λ (n : ℕ). n < length c.args.self.now) c.args.numbers.now c.loop-number.number-index _ c.loop-number-test.true c.requires

pub loop-number-preserved : goal.loop-number-preserved
loop-number-preserved c =
    more_bytes c.args.self.now c.args.numbers.now c.loop-number.number-index _ c.loop-number.bytes.items c.extend_from_slice.new.self.items c.loop-number-test.true c.loop-number.invariant
    (c.in_ok-extend_from_slice.ensures.items ∙ ap (λ l. c.loop-number.bytes.items ++ l) c.range.ensures)
