-- Each step down the value takes one from the depth; between two steps down the functions call each other in one order.
use Rattle.std.proofs.Common.{◌+◌, ◌*◌}
use Rattle.cd_text.proofs.walk.Walk.+walk.Given as goal

abbrev pub decreases-pass_indexed : goal.decreases-pass_indexed
decreases-pass_indexed l = 8 * l.depth

abbrev pub decreases-pass_value : goal.decreases-pass_value
decreases-pass_value l = 8 * l.depth + 1

abbrev pub decreases-pass_annotated : goal.decreases-pass_annotated
decreases-pass_annotated l = 8 * l.depth + 2

abbrev pub decreases-pass_opt : goal.decreases-pass_opt
decreases-pass_opt l = 8 * l.depth + 2

abbrev pub decreases-pass_list : goal.decreases-pass_list
decreases-pass_list l = 8 * l.depth + 3

abbrev pub decreases-pass_field : goal.decreases-pass_field
decreases-pass_field l = 8 * l.depth + 3

abbrev pub decreases-pass_variant : goal.decreases-pass_variant
decreases-pass_variant l = 8 * l.depth + 3

abbrev pub decreases-pass_record : goal.decreases-pass_record
decreases-pass_record l = 8 * l.depth + 4

abbrev pub decreases-pass_entry : goal.decreases-pass_entry
decreases-pass_entry l = 8 * l.depth + 5
