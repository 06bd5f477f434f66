-- Each step down the value takes one from the depth; between two steps down the functions call each other in one order.
use Rattle.std.proofs.Common.{◌≡◌, ◌+◌, ◌-◌, ◌*◌, drop}
use Rattle.cd_codec.specs.View.{views, views_of_fields}
use Rattle.cd_codec.specs.ReadValue.{items_at, each_at, field_at, value_at}
use Rattle.cd_codec.proofs.Loops.{with_front}
use Rattle.cd_codec.proofs.reading.+reader.Given as goal

abbrev pub decreases-value_of : goal.decreases-value_of
decreases-value_of l = 4 * l.depth

abbrev pub decreases-entry_of : goal.decreases-entry_of
decreases-entry_of l = 4 * l.depth + 3

abbrev pub decreases-opt_of : goal.decreases-opt_of
decreases-opt_of l = 4 * l.depth + 2

abbrev pub decreases-list_of : goal.decreases-list_of
decreases-list_of l = 4 * l.depth + 2

abbrev pub decreases-record_of : goal.decreases-record_of
decreases-record_of l = 4 * l.depth + 2

abbrev pub decreases-variant_of : goal.decreases-variant_of
decreases-variant_of l = 4 * l.depth + 2

abbrev pub decreases-items_of : goal.decreases-items_of
decreases-items_of l = 4 * l.depth + 1

abbrev pub decreases-parts_of : goal.decreases-parts_of
decreases-parts_of l = 4 * l.depth + 1

-- what was read and what is still read are what is to be read
abbrev pub invariant-items_of-loop : goal.invariant-items_of-loop
invariant-items_of-loop l = with_front (views l.items.items) (items_at (value_at l.table l.depth l.ty) (l.counted.0 - l.counter) l.unread l.rest) ≡ items_at (value_at l.table l.depth l.ty) l.counted.0 l.fn.left l.counted.1.now

abbrev pub invariant-parts_of-loop-id : goal.invariant-parts_of-loop-id
invariant-parts_of-loop-id l = with_front (views_of_fields l.parts.items) (each_at (field_at (value_at l.table l.depth)) (drop l.id-index l.fields) l.unread l.rest) ≡ each_at (field_at (value_at l.table l.depth)) l.fields l.fn.left l.bytes
