use Rattle.std.proofs.Common.{◌≤◌, ◌+◌, ◌^◌, sym, ◌∙◌, inl, inr, arith}
use Rattle.std.proofs.lemmas.Result.{err_from_is_err_and}
use Rattle.cd_tokens.specs.View.{token_views}
use Rattle.cd_grammar.specs.Grammar.{no_place}
use Rattle.cd_grammar.specs.Read.{row_at, after_row, argument_at, method_at, type_at, method_type_at}
use Rattle.cd_tokens.proofs.Loops.{at_end, no_fuel}
use Rattle.cd_grammar.proofs.Loops.{no_part_there, last_part, no_separator, part_read, type_value, type_named}
use Rattle.cd_grammar.proofs.reading.+reader.Goals as goal

pub add_rows-returns-then-starts_mark : goal.add_rows-returns-then-starts_mark
add_rows-returns-then-starts_mark t c = rw c.rest_of-reader.ensures (at_end 59 125 (row_at c.args.rows (type_at c.args.depth)) (after_row c.args.rows) c.loop.items.items c.args.most c.loop.counter c.loop.next c.loop.reader.types.items (token_views c.loop.reader.rest.now) _ c.loop-test.true (sym c.starts_mark.ensures ∙ c.if-starts_mark.true) c.loop.invariant.1)

pub add_rows-returns-in_err-next : goal.add_rows-returns-in_err-next
add_rows-returns-in_err-next t c =
    let p = err_from_is_err_and c.from_residual.result c.from_residual.ensures.1 in
    rw (p.1, p.2) (no_part_there c.in_err-next.field-0.0 59 125 (row_at c.args.rows (type_at c.args.depth)) (after_row c.args.rows) c.loop.items.items c.args.most c.loop.counter c.loop.next c.loop.reader.types.items (token_views c.loop.reader.rest.now) _ c.loop-test.true (sym c.starts_mark.ensures ∙ c.if-starts_mark.false) c.in_err-next.ensures.value c.loop.invariant.1)

pub add_rows-returns-then-starts_mark-2 : goal.add_rows-returns-then-starts_mark-2
add_rows-returns-then-starts_mark-2 t c =
    rw c.rest_of-reader-then-starts_mark-2.ensures (last_part 59 125 (row_at c.args.rows (type_at c.args.depth)) (after_row c.args.rows) c.loop.items.items c.args.most c.loop.counter c.loop.next c.loop.reader.types.items (token_views c.loop.reader.rest.now) _ (c.add_row.new.items.items, c.in_ok-next.next, c.add_row.new.reader.types.items, token_views c.add_row.new.reader.rest.now) c.loop-test.true (sym c.starts_mark.ensures ∙ c.if-starts_mark.false) c.in_ok-next.ensures.value (sym c.starts_mark-in-loop.ensures ∙ c.if-starts_mark-2.true) c.loop.invariant.1)

pub add_rows-returns-then-not-starts_mark : goal.add_rows-returns-then-not-starts_mark
add_rows-returns-then-not-starts_mark t c =
    no_separator 59 125 (row_at c.args.rows (type_at c.args.depth)) (after_row c.args.rows) c.loop.items.items c.args.most c.loop.counter c.loop.next c.loop.reader.types.items (token_views c.loop.reader.rest.now) _ (c.add_row.new.items.items, c.in_ok-next.next, c.add_row.new.reader.types.items, token_views c.add_row.new.reader.rest.now) c.loop-test.true (sym c.starts_mark.ensures ∙ c.if-starts_mark.false) c.in_ok-next.ensures.value (sym c.starts_mark-in-loop.ensures ∙ c.if-starts_mark-2.false) (sym c.starts_mark-in-loop-2.ensures ∙ c.if-not-starts_mark.true) c.loop.invariant.1

pub add_rows-loop-preserved : goal.add_rows-loop-preserved
add_rows-loop-preserved t c =
    let bound : c.in_ok-next.next ≤ 2 ^ 32 + (c.loop.counter + 1) = elim c.in_ok-next.ensures.bound [ inl small ↦ omega (arith, small) | inr same ↦ omega (arith, same, c.loop.invariant.0) ] in
    (bound, rw c.rest_of-reader-in-loop.ensures (part_read 59 125 (row_at c.args.rows (type_at c.args.depth)) (after_row c.args.rows) c.loop.items.items c.args.most c.loop.counter c.loop.next c.loop.reader.types.items (token_views c.loop.reader.rest.now) _ (c.add_row.new.items.items, c.in_ok-next.next, c.add_row.new.reader.types.items, token_views c.add_row.new.reader.rest.now) c.loop-test.true (sym c.starts_mark.ensures ∙ c.if-starts_mark.false) c.in_ok-next.ensures.value (sym c.starts_mark-in-loop.ensures ∙ c.if-starts_mark-2.false) (sym c.starts_mark-in-loop-2.ensures ∙ c.if-not-starts_mark.false) c.loop.invariant.1))

pub add_rows-returns : goal.add_rows-returns
add_rows-returns t c = no_fuel 59 125 (row_at c.args.rows (type_at c.args.depth)) (after_row c.args.rows) c.loop.items.items c.args.most c.loop.counter c.loop.next c.loop.reader.types.items (token_views c.loop.reader.rest.now) _ c.loop-test.false c.loop.invariant.1

pub add_arguments-returns-then-starts_mark : goal.add_arguments-returns-then-starts_mark
add_arguments-returns-then-starts_mark t c = rw c.rest_of-reader.ensures (at_end 44 41 (argument_at (type_at c.args.depth)) no_place c.loop.parts.items c.args.most c.loop.counter 0 c.loop.reader.types.items (token_views c.loop.reader.rest.now) _ c.loop-test.true (sym c.starts_mark.ensures ∙ c.if-starts_mark.true) c.loop.invariant)

pub add_arguments-returns-in_err-add_argument : goal.add_arguments-returns-in_err-add_argument
add_arguments-returns-in_err-add_argument t c =
    let p = err_from_is_err_and c.from_residual.result c.from_residual.ensures.1 in
    rw (p.1, p.2) (no_part_there c.in_err-add_argument.field-0.0 44 41 (argument_at (type_at c.args.depth)) no_place c.loop.parts.items c.args.most c.loop.counter 0 c.loop.reader.types.items (token_views c.loop.reader.rest.now) _ c.loop-test.true (sym c.starts_mark.ensures ∙ c.if-starts_mark.false) c.in_err-add_argument.ensures c.loop.invariant)

pub add_arguments-returns-then-starts_mark-2 : goal.add_arguments-returns-then-starts_mark-2
add_arguments-returns-then-starts_mark-2 t c =
    rw c.rest_of-reader-then-starts_mark-2.ensures (last_part 44 41 (argument_at (type_at c.args.depth)) no_place c.loop.parts.items c.args.most c.loop.counter 0 c.loop.reader.types.items (token_views c.loop.reader.rest.now) _ (c.add_argument.new.parts.items, 0, c.add_argument.new.reader.types.items, token_views c.add_argument.new.reader.rest.now) c.loop-test.true (sym c.starts_mark.ensures ∙ c.if-starts_mark.false) c.in_ok-add_argument.ensures (sym c.starts_mark-in-loop.ensures ∙ c.if-starts_mark-2.true) c.loop.invariant)

pub add_arguments-returns-then-not-starts_mark : goal.add_arguments-returns-then-not-starts_mark
add_arguments-returns-then-not-starts_mark t c =
    no_separator 44 41 (argument_at (type_at c.args.depth)) no_place c.loop.parts.items c.args.most c.loop.counter 0 c.loop.reader.types.items (token_views c.loop.reader.rest.now) _ (c.add_argument.new.parts.items, 0, c.add_argument.new.reader.types.items, token_views c.add_argument.new.reader.rest.now) c.loop-test.true (sym c.starts_mark.ensures ∙ c.if-starts_mark.false) c.in_ok-add_argument.ensures (sym c.starts_mark-in-loop.ensures ∙ c.if-starts_mark-2.false) (sym c.starts_mark-in-loop-2.ensures ∙ c.if-not-starts_mark.true) c.loop.invariant

pub add_arguments-loop-preserved : goal.add_arguments-loop-preserved
add_arguments-loop-preserved t c =
    rw c.rest_of-reader-in-loop.ensures (part_read 44 41 (argument_at (type_at c.args.depth)) no_place c.loop.parts.items c.args.most c.loop.counter 0 c.loop.reader.types.items (token_views c.loop.reader.rest.now) _ (c.add_argument.new.parts.items, 0, c.add_argument.new.reader.types.items, token_views c.add_argument.new.reader.rest.now) c.loop-test.true (sym c.starts_mark.ensures ∙ c.if-starts_mark.false) c.in_ok-add_argument.ensures (sym c.starts_mark-in-loop.ensures ∙ c.if-starts_mark-2.false) (sym c.starts_mark-in-loop-2.ensures ∙ c.if-not-starts_mark.false) c.loop.invariant)

pub add_arguments-returns : goal.add_arguments-returns
add_arguments-returns t c = no_fuel 44 41 (argument_at (type_at c.args.depth)) no_place c.loop.parts.items c.args.most c.loop.counter 0 c.loop.reader.types.items (token_views c.loop.reader.rest.now) _ c.loop-test.false c.loop.invariant

pub add_methods-returns-then-starts_mark : goal.add_methods-returns-then-starts_mark
add_methods-returns-then-starts_mark t c = rw c.rest_of-reader.ensures (at_end 59 125 (method_at (method_type_at c.args.depth)) no_place c.loop.methods.items c.args.most c.loop.counter 0 c.loop.reader.types.items (token_views c.loop.reader.rest.now) _ c.loop-test.true (sym c.starts_mark.ensures ∙ c.if-starts_mark.true) c.loop.invariant)

pub add_methods-returns-in_err-add_method : goal.add_methods-returns-in_err-add_method
add_methods-returns-in_err-add_method t c =
    let p = err_from_is_err_and c.from_residual.result c.from_residual.ensures.1 in
    rw (p.1, p.2) (no_part_there c.in_err-add_method.field-0.0 59 125 (method_at (method_type_at c.args.depth)) no_place c.loop.methods.items c.args.most c.loop.counter 0 c.loop.reader.types.items (token_views c.loop.reader.rest.now) _ c.loop-test.true (sym c.starts_mark.ensures ∙ c.if-starts_mark.false) c.in_err-add_method.ensures c.loop.invariant)

pub add_methods-returns-then-starts_mark-2 : goal.add_methods-returns-then-starts_mark-2
add_methods-returns-then-starts_mark-2 t c =
    rw c.rest_of-reader-then-starts_mark-2.ensures (last_part 59 125 (method_at (method_type_at c.args.depth)) no_place c.loop.methods.items c.args.most c.loop.counter 0 c.loop.reader.types.items (token_views c.loop.reader.rest.now) _ (c.add_method.new.methods.items, 0, c.add_method.new.reader.types.items, token_views c.add_method.new.reader.rest.now) c.loop-test.true (sym c.starts_mark.ensures ∙ c.if-starts_mark.false) c.in_ok-add_method.ensures (sym c.starts_mark-in-loop.ensures ∙ c.if-starts_mark-2.true) c.loop.invariant)

pub add_methods-returns-then-not-starts_mark : goal.add_methods-returns-then-not-starts_mark
add_methods-returns-then-not-starts_mark t c =
    no_separator 59 125 (method_at (method_type_at c.args.depth)) no_place c.loop.methods.items c.args.most c.loop.counter 0 c.loop.reader.types.items (token_views c.loop.reader.rest.now) _ (c.add_method.new.methods.items, 0, c.add_method.new.reader.types.items, token_views c.add_method.new.reader.rest.now) c.loop-test.true (sym c.starts_mark.ensures ∙ c.if-starts_mark.false) c.in_ok-add_method.ensures (sym c.starts_mark-in-loop.ensures ∙ c.if-starts_mark-2.false) (sym c.starts_mark-in-loop-2.ensures ∙ c.if-not-starts_mark.true) c.loop.invariant

pub add_methods-loop-preserved : goal.add_methods-loop-preserved
add_methods-loop-preserved t c =
    rw c.rest_of-reader-in-loop.ensures (part_read 59 125 (method_at (method_type_at c.args.depth)) no_place c.loop.methods.items c.args.most c.loop.counter 0 c.loop.reader.types.items (token_views c.loop.reader.rest.now) _ (c.add_method.new.methods.items, 0, c.add_method.new.reader.types.items, token_views c.add_method.new.reader.rest.now) c.loop-test.true (sym c.starts_mark.ensures ∙ c.if-starts_mark.false) c.in_ok-add_method.ensures (sym c.starts_mark-in-loop.ensures ∙ c.if-starts_mark-2.false) (sym c.starts_mark-in-loop-2.ensures ∙ c.if-not-starts_mark.false) c.loop.invariant)

pub add_methods-returns : goal.add_methods-returns
add_methods-returns t c = no_fuel 59 125 (method_at (method_type_at c.args.depth)) no_place c.loop.methods.items c.args.most c.loop.counter 0 c.loop.reader.types.items (token_views c.loop.reader.rest.now) _ c.loop-test.false c.loop.invariant

pub type_of-returns-in-None : goal.type_of-returns-in-None
type_of-returns-in-None t c = rw (type_named c.args.depth c.args.reader.now.types.items (token_views c.args.reader.now.rest.now) (omega arith) (sym c.first_word.ensures ∙ c.in-None.is)) c.named_of.ensures

pub type_of-returns-in-Some : goal.type_of-returns-in-Some
type_of-returns-in-Some t c = rw (type_value c.args.depth c.args.reader.now.types.items (token_views c.args.reader.now.rest.now) (token_views c.rest_of-reader.result.now) c.in-Some.word (omega arith) (sym c.first_word.ensures ∙ c.in-Some.is) c.rest_of-reader.ensures) c.after_word.ensures
