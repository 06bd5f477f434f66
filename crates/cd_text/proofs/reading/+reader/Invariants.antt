-- Each step down the value takes one from the depth; between two steps down the functions call each other in one order.
use Rattle.std.proofs.Common.{◌+◌, ◌-◌, ◌*◌}
use Rattle.cd_codec.specs.View.{views, views_of_fields}
use Rattle.cd_tokens.specs.View.{token_views}
use Rattle.cd_text.specs.ReadSaid.{braces_at, item_at, no_place_of, field_at, after_field, value_at}
use Rattle.cd_tokens.proofs.Loops.{Still}
use Rattle.cd_text.proofs.reading.+reader.Given as goal

abbrev pub decreases-value_of : goal.decreases-value_of
decreases-value_of l = 8 * l.level.depth

abbrev pub decreases-annotated_of : goal.decreases-annotated_of
decreases-annotated_of l = 8 * l.level.depth + 1

abbrev pub decreases-typed_of : goal.decreases-typed_of
decreases-typed_of l = 8 * l.level.depth + 2

abbrev pub decreases-field_of : goal.decreases-field_of
decreases-field_of l = 8 * l.level.depth + 3

abbrev pub decreases-fields_of : goal.decreases-fields_of
decreases-fields_of l = 8 * l.level.depth + 4

abbrev pub decreases-record_of : goal.decreases-record_of
decreases-record_of l = 8 * l.level.depth + 5

abbrev pub decreases-case_of : goal.decreases-case_of
decreases-case_of l = 8 * l.level.depth + 2

abbrev pub decreases-chosen_of : goal.decreases-chosen_of
decreases-chosen_of l = 8 * l.level.depth + 3

abbrev pub decreases-variant_of : goal.decreases-variant_of
decreases-variant_of l = 8 * l.level.depth + 4

abbrev pub decreases-items_of : goal.decreases-items_of
decreases-items_of l = 8 * l.level.depth + 2

abbrev pub decreases-list_of : goal.decreases-list_of
decreases-list_of l = 8 * l.level.depth + 3

abbrev pub decreases-opt_of : goal.decreases-opt_of
decreases-opt_of l = 8 * l.level.depth + 2

abbrev pub decreases-entry_of : goal.decreases-entry_of
decreases-entry_of l = 8 * l.level.depth + 6

abbrev pub invariant-items_of-loop : goal.invariant-items_of-loop
invariant-items_of-loop l =
    Still 59 125 (item_at l.ty (value_at l.level.table.now l.level.depth l.ty)) no_place_of (views l.items.items) (l.most - l.counter) 0 l.unread (token_views l.rest) (braces_at (item_at l.ty (value_at l.level.table.now l.level.depth l.ty)) no_place_of l.most l.fn.left (token_views l.tokens))

abbrev pub invariant-fields_of-loop : goal.invariant-fields_of-loop
invariant-fields_of-loop l =
    Still 59 125 (field_at (value_at l.level.table.now l.level.depth) l.fields) after_field (views_of_fields l.said.items) (l.most - l.counter) l.next l.unread (token_views l.rest) (braces_at (field_at (value_at l.level.table.now l.level.depth) l.fields) after_field l.most l.fn.left (token_views l.tokens))
