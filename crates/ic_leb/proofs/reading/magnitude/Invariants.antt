use Rattle.std.proofs.Common.{◌≡◌, ◌≤◌, drop}
use Rattle.ic_leb.specs.Magnitude.{magnitude_of}
use Rattle.ic_leb.proofs.reading.magnitude.Given as goal

abbrev pub invariant-loop-i : goal.invariant-loop-i
invariant-loop-i l = record {
  spelled : l.n ≡ magnitude_of l.negative (drop l.i l.number);
  bound : l.n ≤ l.largest;
}
