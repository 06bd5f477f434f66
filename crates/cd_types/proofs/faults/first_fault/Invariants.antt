use Rattle.std.proofs.Common.{◌≡◌, drop}
use Rattle.cd_types.specs.FaultOf.{least_fault}
use Rattle.cd_types.proofs.faults.first_fault.Given as goal

-- no fault so far
abbrev pub invariant-loop-place : goal.invariant-loop-place
invariant-loop-place l = least_fault l.entries l.place (drop l.place l.entries) ≡ least_fault l.entries 0 l.entries
