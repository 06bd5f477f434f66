use Rattle.std.proofs.Common.{◌≡◌, ℕ, ◌+◌, ◌-◌, ◌*◌, ◌/◌, ◌<◌, ◌≤◌, true, length}
use Rattle.wm_pages.specs.Ranges.{IsUndoable, covers, bytes_before}
use Rattle.wm_pages.proofs.ranges.Ranges.save.Given as goal

abbrev pub invariant-loop-range : goal.invariant-loop-range
invariant-loop-range l = record {
  sound : IsUndoable l.bytes l.self;
  start : l.self.start ≡ l.fn.self.start;
  before : bytes_before l.self l.bytes ≡ bytes_before l.fn.self l.bytes;
  few : length l.self.kept.items ≤ length l.fn.self.kept.items + (l.range - l.at / 4096);
  rises : length l.fn.self.kept.items ≤ length l.self.kept.items;
  covered : (r : ℕ) → l.at / 4096 ≤ r → r < l.range → r < 16 * l.self.start → covers l.self.kept.items r ≡ true;
  idle : l.fn.self.start ≡ 0 → l.self.kept.items ≡ l.fn.self.kept.items;
}
