use Rattle.std.proofs.Common.{◌≡◌, map, take}
use Rattle.ct_check.specs.declared.checked.CheckedStep.TheVariants.{Statement}
use Rattle.ct_run.specs.Runs.{without_interleaves}
use Rattle.ct_orders.proofs.tester.count_before.Given as goal

abbrev pub invariant-loop-place : goal.invariant-loop-place
invariant-loop-place l = take l.place l.steps ≡ map Statement (without_interleaves (take l.place l.steps))
