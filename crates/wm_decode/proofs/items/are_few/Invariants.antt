use Rattle.std.proofs.Common.{◌≡◌, ◌+◌, ◌-◌, ◌≤◌, ◌^◌, drop}
use Rattle.std.specs.List.{sum_by}
use Rattle.wm_decode.proofs.items.are_few.Given as goal

-- the locals that are counted and those that are left are all of them
abbrev pub invariant-loop-run : goal.invariant-loop-run
invariant-loop-run l = record {
  fit : l.left ≤ 2 ^ 32 - 1;
  all : (2 ^ 32 - 1 - l.left) + sum_by (λ r. r.count) (drop l.run-index l.locals) ≡ sum_by (λ r. r.count) l.locals;
}
