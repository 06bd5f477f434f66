use Rattle.std.proofs.Common.{◌≡◌, drop}
use Rattle.ic_script.specs.Words.{is_well_formed}
use Rattle.ic_script.proofs.Passes.{follows}
use Rattle.ic_script.proofs.words.is_well_formed.Given as goal

abbrev pub invariant-loop-byte : goal.invariant-loop-byte
invariant-loop-byte l = follows l.last (drop l.byte-index l.line) ≡ is_well_formed l.line
