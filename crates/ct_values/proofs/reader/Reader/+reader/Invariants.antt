-- Each step down the value takes one from the depth; between two steps down the functions call each other in one order.
use Rattle.std.proofs.Common.{◌≡◌, ◌+◌, ◌-◌, ◌*◌}
use Rattle.ct_values.specs.Steps.{reading, said_view}
use Rattle.ct_values.specs.Spelled.{annotated_at, parts_at, fields_said_at, value_at}
use Rattle.ct_values.proofs.reader.Reader.+reader.Given as goal

abbrev pub decreases-value : goal.decreases-value
decreases-value l = 8 * l.depth

abbrev pub decreases-annotated : goal.decreases-annotated
decreases-annotated l = 8 * l.depth + 1

abbrev pub decreases-opt : goal.decreases-opt
decreases-opt l = 8 * l.depth + 1

abbrev pub decreases-items : goal.decreases-items
decreases-items l = 8 * l.depth + 2

abbrev pub decreases-field : goal.decreases-field
decreases-field l = 8 * l.depth + 2

abbrev pub decreases-case : goal.decreases-case
decreases-case l = 8 * l.depth + 2

abbrev pub decreases-list : goal.decreases-list
decreases-list l = 8 * l.depth + 3

abbrev pub decreases-said_fields : goal.decreases-said_fields
decreases-said_fields l = 8 * l.depth + 3

abbrev pub decreases-variant : goal.decreases-variant
decreases-variant l = 8 * l.depth + 3

abbrev pub decreases-record : goal.decreases-record
decreases-record l = 8 * l.depth + 4

abbrev pub decreases-entry : goal.decreases-entry
decreases-entry l = 8 * l.depth + 5

abbrev pub decreases-typed : goal.decreases-typed
decreases-typed l = 8 * l.depth + 6

-- what is still to be read is what is read in all
abbrev pub invariant-items-loop-ty : goal.invariant-items-loop-ty
invariant-items-loop-ty l =
    let read = annotated_at l.ty (value_at l.self.admitted l.self.table.now l.depth l.ty) in
    parts_at read (l.most - l.count) l.count (reading l.cursor) ≡ parts_at read l.most 0 (reading l.fn.cursor)

abbrev pub decreases-items-loop-ty : goal.decreases-items-loop-ty
decreases-items-loop-ty l = l.most - l.count

abbrev pub invariant-said_fields-loop-cursor : goal.invariant-said_fields-loop-cursor
invariant-said_fields-loop-cursor l =
    let read = value_at l.self.admitted l.self.table.now l.depth in
    fields_said_at l.self.admitted read l.fields (l.most - l.count) (said_view l.said) (reading l.cursor) ≡ fields_said_at l.self.admitted read l.fields l.most (said_view l.fn.said) (reading l.fn.cursor)

abbrev pub decreases-said_fields-loop-cursor : goal.decreases-said_fields-loop-cursor
decreases-said_fields-loop-cursor l = l.most - l.count
