use Rattle.std.proofs.Common.{sym, ◌∙◌, ◌-◌, arith}
use Rattle.std.proofs.lemmas.Result.{err_from_is_err_and}
use Rattle.cd_types.proofs.EntryLemmas.{entry_ordered}
use Rattle.ct_values.specs.Steps.{reading, said_view}
use Rattle.ct_values.specs.Spelled.{annotated_at, value_at}
use Rattle.ct_values.proofs.Loops.{at_end, too_many, no_part, no_separator, one_more, fields_end, no_others, others_there, too_many_fields, no_field, no_field_separator, one_more_field}
use Rattle.ct_values.proofs.reader.Reader.+reader.Goals as goal

pub typed-entry-requires-in-Some : goal.typed-entry-requires-in-Some
typed-entry-requires-in-Some t c = (omega arith, (entry_ordered c.args.self.now.table.now c.in-Index.index c.in-Some.entry.now c.entry.ensures.well_formed (sym c.in-Some.ensures.value), omega arith))

-- ---- the values of a list

pub items-returns-then-count-most : goal.items-returns-then-count-most
items-returns-then-count-most t c =
    too_many (annotated_at c.args.ty (value_at c.args.self.now.admitted c.args.self.now.table.now c.args.depth c.args.ty)) c.args.most c.loop-ty.count (reading c.loop-ty.cursor) _ (sym c.starts_mark.ensures ∙ c.loop-ty-test.true) c.if-count-most.true c.loop-ty.invariant

pub items-returns-in_err-annotated : goal.items-returns-in_err-annotated
items-returns-in_err-annotated t c =
    let p = err_from_is_err_and c.from_residual.result c.from_residual.ensures.1 in
    rw (p.1, p.2) (no_part c.in_err-annotated.field-0.0 (annotated_at c.args.ty (value_at c.args.self.now.admitted c.args.self.now.table.now c.args.depth c.args.ty)) c.args.most c.loop-ty.count (reading c.loop-ty.cursor) _ c.if-count-most.false (sym c.starts_mark.ensures ∙ c.loop-ty-test.true) c.in_err-annotated.ensures c.loop-ty.invariant)

pub items-returns-in_err-separator : goal.items-returns-in_err-separator
items-returns-in_err-separator t c =
    let p = err_from_is_err_and c.from_residual-in_err-separator.result c.from_residual-in_err-separator.ensures.1 in
    rw (p.1, p.2) (no_separator c.in_err-separator.field-0.0 (annotated_at c.args.ty (value_at c.args.self.now.admitted c.args.self.now.table.now c.args.depth c.args.ty)) c.args.most c.loop-ty.count (reading c.loop-ty.cursor) _ _ _ c.if-count-most.false (sym c.starts_mark.ensures ∙ c.loop-ty-test.true) c.in_ok-annotated.ensures c.in_err-separator.ensures c.loop-ty.invariant)

pub items-loop-ty-preserved : goal.items-loop-ty-preserved
items-loop-ty-preserved t c =
    one_more (annotated_at c.args.ty (value_at c.args.self.now.admitted c.args.self.now.table.now c.args.depth c.args.ty)) c.args.most c.loop-ty.count (reading c.loop-ty.cursor) _ _ _ _ c.if-count-most.false (sym c.starts_mark.ensures ∙ c.loop-ty-test.true) c.in_ok-annotated.ensures c.in_ok-separator.ensures c.loop-ty.invariant

pub items-returns : goal.items-returns
items-returns t c =
    at_end (annotated_at c.args.ty (value_at c.args.self.now.admitted c.args.self.now.table.now c.args.depth c.args.ty)) (c.args.most - c.loop-ty.count) c.loop-ty.count (reading c.loop-ty.cursor) _ (sym c.starts_mark.ensures ∙ c.loop-ty-test.false) c.loop-ty.invariant

-- ---- the fields of a record

pub said_fields-returns : goal.said_fields-returns
said_fields-returns t c = fields_end c.args.self.now.admitted (value_at c.args.self.now.admitted c.args.self.now.table.now c.args.depth) c.args.fields.now (c.args.most - c.loop-cursor.count) (said_view c.loop-cursor.said) (reading c.loop-cursor.cursor) _ (sym c.starts_mark.ensures ∙ c.loop-cursor-test.false) c.loop-cursor.invariant

pub said_fields-returns-in_err-others : goal.said_fields-returns-in_err-others
said_fields-returns-in_err-others t c =
    let p = err_from_is_err_and c.from_residual.result c.from_residual.ensures.1 in
    rw (p.1, p.2) (no_others c.in_err-others.field-0.0 c.args.self.now.admitted (value_at c.args.self.now.admitted c.args.self.now.table.now c.args.depth) c.args.fields.now (c.args.most - c.loop-cursor.count) (said_view c.loop-cursor.said) (reading c.loop-cursor.cursor) _ (sym c.starts_mark.ensures ∙ c.loop-cursor-test.true) (sym c.starts_others.ensures ∙ c.if-starts_others.true) c.in_err-others.ensures c.loop-cursor.invariant)

pub said_fields-returns-then-starts_others : goal.said_fields-returns-then-starts_others
said_fields-returns-then-starts_others t c = others_there c.args.self.now.admitted (value_at c.args.self.now.admitted c.args.self.now.table.now c.args.depth) c.args.fields.now (c.args.most - c.loop-cursor.count) (said_view c.loop-cursor.said) (reading c.loop-cursor.cursor) _ _ (sym c.starts_mark.ensures ∙ c.loop-cursor-test.true) (sym c.starts_others.ensures ∙ c.if-starts_others.true) c.in_ok-others.ensures c.loop-cursor.invariant

pub said_fields-returns-then-count-most : goal.said_fields-returns-then-count-most
said_fields-returns-then-count-most t c = too_many_fields c.args.self.now.admitted (value_at c.args.self.now.admitted c.args.self.now.table.now c.args.depth) c.args.fields.now c.args.most c.loop-cursor.count (said_view c.loop-cursor.said) (reading c.loop-cursor.cursor) _ (sym c.starts_mark.ensures ∙ c.loop-cursor-test.true) (sym c.starts_others.ensures ∙ c.if-starts_others.false) c.if-count-most.true c.loop-cursor.invariant

pub said_fields-returns-in_err-field : goal.said_fields-returns-in_err-field
said_fields-returns-in_err-field t c =
    let p = err_from_is_err_and c.from_residual-in_err-field.result c.from_residual-in_err-field.ensures.1 in
    rw (p.1, p.2) (no_field c.in_err-field.field-0.0 c.args.self.now.admitted (value_at c.args.self.now.admitted c.args.self.now.table.now c.args.depth) c.args.fields.now c.args.most c.loop-cursor.count (said_view c.loop-cursor.said) (reading c.loop-cursor.cursor) _ c.if-count-most.false (sym c.starts_mark.ensures ∙ c.loop-cursor-test.true) (sym c.starts_others.ensures ∙ c.if-starts_others.false) c.in_err-field.ensures c.loop-cursor.invariant)

pub said_fields-returns-in_err-separator : goal.said_fields-returns-in_err-separator
said_fields-returns-in_err-separator t c =
    let p = err_from_is_err_and c.from_residual-in_err-separator.result c.from_residual-in_err-separator.ensures.1 in
    rw (p.1, p.2) (no_field_separator c.in_err-separator.field-0.0 c.args.self.now.admitted (value_at c.args.self.now.admitted c.args.self.now.table.now c.args.depth) c.args.fields.now c.args.most c.loop-cursor.count (said_view c.loop-cursor.said) _ (reading c.loop-cursor.cursor) _ _ c.if-count-most.false (sym c.starts_mark.ensures ∙ c.loop-cursor-test.true) (sym c.starts_others.ensures ∙ c.if-starts_others.false) c.in_ok-field.ensures c.in_err-separator.ensures c.loop-cursor.invariant)

pub said_fields-loop-cursor-preserved : goal.said_fields-loop-cursor-preserved
said_fields-loop-cursor-preserved t c =
    one_more_field c.args.self.now.admitted (value_at c.args.self.now.admitted c.args.self.now.table.now c.args.depth) c.args.fields.now c.args.most c.loop-cursor.count (said_view c.loop-cursor.said) _ (reading c.loop-cursor.cursor) _ _ _ c.if-count-most.false (sym c.starts_mark.ensures ∙ c.loop-cursor-test.true) (sym c.starts_others.ensures ∙ c.if-starts_others.false) c.in_ok-field.ensures c.in_ok-separator.ensures c.loop-cursor.invariant
