use Rattle.std.proofs.Common.{drop}
use Rattle.ct_run.proofs.Walks.{Still}
use Rattle.ct_run.proofs.runner.Runner.statements.Given as goal

-- what is left to walk
abbrev pub invariant-loop-place : goal.invariant-loop-place
invariant-loop-place g l = Still l.self l.fn.world l.fn.names l.statements l.world l.names (drop l.place l.statements) l.place
