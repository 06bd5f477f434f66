-- A parenthesis takes one from the depth.
use Rattle.std.proofs.Common.{◌+◌, ◌*◌}
use Rattle.ct_values.proofs.reader.Reader.+bytes.Given as goal

abbrev pub decreases-byte : goal.decreases-byte
decreases-byte l = 2 * l.depth

abbrev pub decreases-annotated_byte : goal.decreases-annotated_byte
decreases-annotated_byte l = 2 * l.depth + 1
