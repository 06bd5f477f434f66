use Rattle.std.proofs.Common.{◌≡◌, ◌++◌, length}
use Rattle.ic_queues.specs.Moving.{below, from}
use Rattle.ic_queues.proofs.moving.shift_below.Given as goal

abbrev pub invariant-loop-line : goal.invariant-loop-line
invariant-loop-line l = record {
  rest : from l.number l.line ≡ from l.number l.initial.line;
  all : l.all ++ below l.number l.line ≡ l.initial.all ++ below l.number l.initial.line;
}

abbrev pub decreases-loop-line : goal.decreases-loop-line
decreases-loop-line l = length l.line
