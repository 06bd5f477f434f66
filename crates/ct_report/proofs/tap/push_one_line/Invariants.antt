use Rattle.std.proofs.Common.{◌≡◌, ◌++◌, take}
use Rattle.ct_report.specs.Texts.{one_line}
use Rattle.ct_report.proofs.tap.push_one_line.Given as goal

abbrev pub invariant-loop-byte : goal.invariant-loop-byte
invariant-loop-byte l = l.out.items ≡ l.fn.out.items ++ one_line (take l.byte-index l.text)
