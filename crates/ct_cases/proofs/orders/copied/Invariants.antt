use Rattle.std.proofs.Common.{◌≡◌, take}
use Rattle.ct_cases.proofs.orders.copied.Given as goal

abbrev pub invariant-loop-start : goal.invariant-loop-start
invariant-loop-start l = l.items.items ≡ take l.start-index l.starts
