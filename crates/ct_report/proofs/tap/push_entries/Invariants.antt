use Rattle.std.proofs.Common.{◌≡◌, ◌++◌, take}
use Rattle.ct_report.specs.Texts.{entries_text}
use Rattle.ct_report.proofs.tap.push_entries.Given as goal

abbrev pub invariant-loop-entry : goal.invariant-loop-entry
invariant-loop-entry l = l.out.items ≡ l.fn.out.items ++ entries_text (take l.entry-index l.entries)
