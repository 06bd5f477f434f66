use Rattle.std.proofs.Common.{◌+◌, ◌*◌}
use Rattle.cd_text.proofs.reading.+bytes.Given as goal

abbrev pub decreases-byte_of : goal.decreases-byte_of
decreases-byte_of l = 2 * l.depth

abbrev pub decreases-annotated_byte : goal.decreases-annotated_byte
decreases-annotated_byte l = 2 * l.depth + 1
