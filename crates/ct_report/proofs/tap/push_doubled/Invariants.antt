use Rattle.std.proofs.Common.{◌≡◌, ◌++◌, take}
use Rattle.ct_report.specs.Texts.{doubled}
use Rattle.ct_report.proofs.tap.push_doubled.Given as goal

abbrev pub invariant-loop-byte : goal.invariant-loop-byte
invariant-loop-byte l = l.out.items ≡ l.fn.out.items ++ doubled (take l.byte-index l.text)
