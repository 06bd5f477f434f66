use Rattle.std.proofs.Common.{◌≡◌, ◌++◌, take}
use Rattle.ct_report.specs.Texts.{doubled, one_line}
use Rattle.ct_report.proofs.tap.push_entry_text.Given as goal

abbrev pub invariant-loop-byte : goal.invariant-loop-byte
invariant-loop-byte l = l.out.items ≡ l.fn.out.items ++ doubled (one_line (take l.byte-index l.text))
