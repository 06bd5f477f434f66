use Rattle.std.proofs.Common.{◌≡◌, ◌*◌, ◌+◌, ◌-◌, take, drop, ap, arith}
use Rattle.ic_exact.proofs.Once.{one_more}
use Rattle.ic_exact.proofs.ranges.Ranges.keep.Goals as goal

pub loop-i-preserved : goal.loop-i-preserved
loop-i-preserved c =
    let size : 4096 * c.loop-i.i + 4096 - 4096 * c.loop-i.i ≡ 4096 = omega arith in
    one_more c.args.self.now c.loop-i.self c.number.new.self c.loop-i.numbers.items c.push.new.self.items c.in_ok-number.number c.args.bytes.now _ c.loop-i.i
    c.loop-i.invariant.0 c.number.ensures.stays c.loop-i.invariant.1 c.loop-i.invariant.2 c.in_ok-number.ensures.number
    (ap (λ k. take k (drop (4096 * c.loop-i.i) c.args.bytes.now)) size) c.in_ok-push.ensures.items
