use Rattle.std.proofs.Common.{◌≡◌, length}
use Rattle.wm_pages.specs.Ranges.{IsUndoable, bytes_before}
use Rattle.wm_pages.proofs.ranges.Ranges.restore.Given as goal

abbrev pub decreases-loop-kept : goal.decreases-loop-kept
decreases-loop-kept l = length l.self.kept.items

abbrev pub invariant-loop-kept : goal.invariant-loop-kept
invariant-loop-kept l = record {
  sound : IsUndoable l.bytes l.self;
  start : l.self.start ≡ l.fn.self.start;
  before : bytes_before l.self l.bytes ≡ bytes_before l.fn.self l.fn.bytes;
}
