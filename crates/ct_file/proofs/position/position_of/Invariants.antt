use Rattle.std.proofs.Common.{◌≡◌, ◌≤◌, ◌+◌, suc, take}
use Rattle.std.specs.Prelude.{count_by}
use Rattle.std.specs.List.{suffix_len}
use Rattle.ct_file.specs.Position.{is_line_feed, is_inside_line}
use Rattle.ct_file.proofs.position.position_of.Given as goal

abbrev pub invariant-loop-byte : goal.invariant-loop-byte
invariant-loop-byte l = (l.line ≡ suc (count_by is_line_feed (take l.byte-index l.before))) × (l.column ≡ suc (suffix_len is_inside_line (take l.byte-index l.before))) × (l.line ≤ l.byte-index + 1) × (l.column ≤ l.byte-index + 1)
