use Rattle.std.proofs.Common.{◌≡◌, drop, take, []}
use Rattle.cd_did.specs.Faults.{repeated}
use Rattle.cd_did.proofs.checks.repeated_of.Given as goal

-- no name was repeated so far
abbrev pub invariant-loop-place : goal.invariant-loop-place
invariant-loop-place l = repeated (take l.place l.names.definitions) l.place (drop l.place l.names.definitions) ≡ repeated [] 0 l.names.definitions
