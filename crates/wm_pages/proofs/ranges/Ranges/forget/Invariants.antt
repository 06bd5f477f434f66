use Rattle.std.proofs.Common.{◌≡◌, length}
use Rattle.wm_pages.specs.Ranges.{AreSaved}
use Rattle.wm_pages.proofs.ranges.Ranges.forget.Given as goal

abbrev pub decreases-loop-kept : goal.decreases-loop-kept
decreases-loop-kept l = length l.self.kept.items

abbrev pub invariant-loop-kept : goal.invariant-loop-kept
invariant-loop-kept l = record {
  saved : AreSaved l.self;
  start : l.self.start ≡ l.fn.self.start;
  marks : length l.self.marks.items ≡ length l.fn.self.marks.items;
}
