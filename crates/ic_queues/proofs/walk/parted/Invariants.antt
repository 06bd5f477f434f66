use Rattle.std.proofs.Common.{◌≡◌}
use Rattle.std.specs.List.{filter}
use Rattle.std.specs.Ordering.{nat_cmp, is_le, is_gt}
use Rattle.ic_queues.proofs.walk.parted.Given as goal

abbrev pub invariant-loop-number : goal.invariant-loop-number
invariant-loop-number l = (l.ahead ≡ filter (λ n. is_le (nat_cmp l.fn.place n)) l.yielded) × (l.stay ≡ filter (λ n. is_gt (nat_cmp l.fn.place n)) l.yielded)
