-- Each step down a type takes one from the depth; between two steps down the functions call each other in one order.
use Rattle.std.proofs.Common.{◌+◌, ◌-◌, ◌*◌, ◌≤◌, ◌^◌}
use Rattle.cd_tokens.specs.View.{token_views}
use Rattle.cd_grammar.specs.Grammar.{no_place}
use Rattle.cd_grammar.specs.Read.{parts_at, row_at, after_row, argument_at, method_at, type_at, method_type_at}
use Rattle.cd_tokens.proofs.Loops.{Still}
use Rattle.cd_grammar.proofs.reading.+reader.Given as goal

abbrev pub decreases-type_of : goal.decreases-type_of
decreases-type_of l = 8 * l.depth

abbrev pub decreases-method_type_of : goal.decreases-method_type_of
decreases-method_type_of l = 8 * l.depth

abbrev pub decreases-typed_of : goal.decreases-typed_of
decreases-typed_of l = 8 * l.depth + 1

abbrev pub decreases-labelled_of : goal.decreases-labelled_of
decreases-labelled_of l = 8 * l.depth + 2

abbrev pub decreases-row_of : goal.decreases-row_of
decreases-row_of l = 8 * l.depth + 3

abbrev pub decreases-add_row : goal.decreases-add_row
decreases-add_row l = 8 * l.depth + 4

abbrev pub decreases-add_rows : goal.decreases-add_rows
decreases-add_rows l = 8 * l.depth + 5

abbrev pub decreases-rows_of : goal.decreases-rows_of
decreases-rows_of l = 8 * l.depth + 6

abbrev pub decreases-argument_of : goal.decreases-argument_of
decreases-argument_of l = 8 * l.depth + 1

abbrev pub decreases-add_argument : goal.decreases-add_argument
decreases-add_argument l = 8 * l.depth + 2

abbrev pub decreases-add_arguments : goal.decreases-add_arguments
decreases-add_arguments l = 8 * l.depth + 3

abbrev pub decreases-tuple_of : goal.decreases-tuple_of
decreases-tuple_of l = 8 * l.depth + 4

abbrev pub decreases-results_of : goal.decreases-results_of
decreases-results_of l = 8 * l.depth + 5

abbrev pub decreases-function_of : goal.decreases-function_of
decreases-function_of l = 8 * l.depth + 6

abbrev pub decreases-method_named : goal.decreases-method_named
decreases-method_named l = 8 * l.depth + 1

abbrev pub decreases-method_of : goal.decreases-method_of
decreases-method_of l = 8 * l.depth + 2

abbrev pub decreases-add_method : goal.decreases-add_method
decreases-add_method l = 8 * l.depth + 3

abbrev pub decreases-add_methods : goal.decreases-add_methods
decreases-add_methods l = 8 * l.depth + 4

abbrev pub decreases-service_of : goal.decreases-service_of
decreases-service_of l = 8 * l.depth + 5

abbrev pub decreases-opt_of : goal.decreases-opt_of
decreases-opt_of l = 8 * l.depth + 1

abbrev pub decreases-vec_of : goal.decreases-vec_of
decreases-vec_of l = 8 * l.depth + 1

abbrev pub decreases-after_word : goal.decreases-after_word
decreases-after_word l = 8 * l.depth + 7

abbrev pub invariant-add_rows-loop : goal.invariant-add_rows-loop
invariant-add_rows-loop l =
    (l.next ≤ 2 ^ 32 + l.counter) × Still 59 125 (row_at l.rows (type_at l.depth)) (after_row l.rows) l.items.items (l.most - l.counter) l.next l.reader.types.items (token_views l.reader.rest.now) (parts_at 59 125 (row_at l.rows (type_at l.depth)) (after_row l.rows) l.most 0 l.fn.reader.types.items (token_views l.fn.reader.rest.now))

abbrev pub invariant-add_arguments-loop : goal.invariant-add_arguments-loop
invariant-add_arguments-loop l =
    Still 44 41 (argument_at (type_at l.depth)) no_place l.parts.items (l.most - l.counter) 0 l.reader.types.items (token_views l.reader.rest.now) (parts_at 44 41 (argument_at (type_at l.depth)) no_place l.most 0 l.fn.reader.types.items (token_views l.fn.reader.rest.now))

abbrev pub invariant-add_methods-loop : goal.invariant-add_methods-loop
invariant-add_methods-loop l =
    Still 59 125 (method_at (method_type_at l.depth)) no_place l.methods.items (l.most - l.counter) 0 l.reader.types.items (token_views l.reader.rest.now) (parts_at 59 125 (method_at (method_type_at l.depth)) no_place l.most 0 l.fn.reader.types.items (token_views l.fn.reader.rest.now))
