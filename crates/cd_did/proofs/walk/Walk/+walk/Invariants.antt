-- Each step down a type takes one from the depth; between two steps down the functions call each other in one order.
use Rattle.std.proofs.Common.{◌+◌, ◌*◌}
use Rattle.cd_did.proofs.walk.Walk.+walk.Given as goal

abbrev pub decreases-pass_type : goal.decreases-pass_type
decreases-pass_type l = 8 * l.depth

abbrev pub decreases-pass_method_type : goal.decreases-pass_method_type
decreases-pass_method_type l = 8 * l.depth

abbrev pub decreases-pass_row : goal.decreases-pass_row
decreases-pass_row l = 8 * l.depth + 1

abbrev pub decreases-pass_argument : goal.decreases-pass_argument
decreases-pass_argument l = 8 * l.depth + 1

abbrev pub decreases-pass_method : goal.decreases-pass_method
decreases-pass_method l = 8 * l.depth + 1

abbrev pub decreases-pass_rows : goal.decreases-pass_rows
decreases-pass_rows l = 8 * l.depth + 2

abbrev pub decreases-pass_tuple : goal.decreases-pass_tuple
decreases-pass_tuple l = 8 * l.depth + 2

abbrev pub decreases-pass_service : goal.decreases-pass_service
decreases-pass_service l = 8 * l.depth + 2

abbrev pub decreases-pass_function : goal.decreases-pass_function
decreases-pass_function l = 8 * l.depth + 3

abbrev pub decreases-pass_parts : goal.decreases-pass_parts
decreases-pass_parts l = 8 * l.depth + 4
