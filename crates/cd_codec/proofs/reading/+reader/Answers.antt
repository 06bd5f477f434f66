use Rattle.std.proofs.Common.{◌≡◌, ◌++◌, ◌∷◌, [], true, sym, subst, ◌∙◌, arith}
use Rattle.std.proofs.lemmas.Result.{err_from_is_err_and}
use Rattle.std.proofs.lemmas.List.{map_push}
use Rattle.cd_codec.specs.View.{view, views, views_of_fields}
use Rattle.cd_codec.specs.ReadValue.{value_at, field_at}
use Rattle.cd_codec.proofs.Loops.{item_read, item_refused, items_done, each_read, each_refused, each_done, field_read, field_refused}
use Rattle.cd_types.specs.IsOrdered.{is_ordered}
use Rattle.cd_codec.proofs.Views.{part_push}
use Rattle.cd_types.proofs.EntryLemmas.{few_ids, entry_ordered}
use Rattle.cd_codec.proofs.Tables.{entry_value}
use Rattle.cd_codec.proofs.reading.+reader.Goals as goal

pub items_of-returns-in_err-value : goal.items_of-returns-in_err-value
items_of-returns-in_err-value t c =
    let p = err_from_is_err_and c.from_residual-in_err-value.result c.from_residual-in_err-value.ensures.1 in
    rw (p.1, p.2) (item_refused c.in_err-value.field-0.0 (value_at c.args.table.now c.args.depth c.args.ty) (views c.loop.items.items) c.args.counted.0 c.loop.counter c.loop.unread c.loop.rest.now _ c.loop-test.true c.in_err-value.ensures c.loop.invariant)

pub items_of-loop-preserved : goal.items_of-loop-preserved
items_of-loop-preserved t c =
    let more : views c.push.new.self.items ≡ views c.loop.items.items ++ view c.in_ok-value.value ∷ [] = rw c.in_ok-push.ensures.items (map_push _ c.loop.items.items c.in_ok-value.value) in
    rw more (item_read (value_at c.args.table.now c.args.depth c.args.ty) (views c.loop.items.items) c.args.counted.0 c.loop.counter c.loop.unread c.loop.rest.now (view c.in_ok-value.value) c.in_ok-value.left c.in_ok-value.after.now _ c.loop-test.true c.in_ok-value.ensures c.loop.invariant)

pub items_of-returns : goal.items_of-returns
items_of-returns t c = items_done (value_at c.args.table.now c.args.depth c.args.ty) (views c.loop.items.items) c.args.counted.0 c.loop.counter c.loop.unread c.loop.rest.now _ c.loop-test.false c.loop.invariant

pub parts_of-returns-in_err-value : goal.parts_of-returns-in_err-value
parts_of-returns-in_err-value t c =
    let p = err_from_is_err_and c.from_residual-in_err-value.result c.from_residual-in_err-value.ensures.1 in
    rw (p.1, p.2) (each_refused c.in_err-value.field-0.0 (field_at (value_at c.args.table.now c.args.depth)) (views_of_fields c.loop-id.parts.items) c.args.fields.now c.loop-id.id-index c.loop-id.unread c.loop-id.rest.now _ _ c.loop-id-test.true
    (field_refused _ (value_at c.args.table.now c.args.depth) _ _ _ c.in_err-value.ensures) c.loop-id.invariant)

pub parts_of-loop-id-preserved : goal.parts_of-loop-id-preserved
parts_of-loop-id-preserved t c =
    rw (part_push _ _ _ _ c.in_ok-push.ensures.items) (each_read (field_at (value_at c.args.table.now c.args.depth)) (views_of_fields c.loop-id.parts.items) c.args.fields.now c.loop-id.id-index c.loop-id.unread c.loop-id.rest.now _ _ c.in_ok-value.left c.in_ok-value.after.now _ c.loop-id-test.true
    (field_read (value_at c.args.table.now c.args.depth) _ _ _ _ _ _ c.in_ok-value.ensures) c.loop-id.invariant)

pub parts_of-returns : goal.parts_of-returns
parts_of-returns t c = each_done (field_at (value_at c.args.table.now c.args.depth)) (views_of_fields c.loop-id.parts.items) c.args.fields.now c.loop-id.id-index c.loop-id.unread c.loop-id.rest.now _ c.loop-id-test.false c.loop-id.invariant

pub value_of-returns-in-Some : goal.value_of-returns-in-Some
value_of-returns-in-Some t c =
    rw (entry_value c.args.table.now c.args.depth c.args.left c.in-Index.index c.args.ty c.in-Some.entry.now c.args.bytes.now (omega arith) (omega arith) c.in-Index.is (sym c.in-Some.ensures.value)) c.entry_of.ensures

pub value_of-entry_of-requires : goal.value_of-entry_of-requires
value_of-entry_of-requires t c = (omega arith, entry_ordered c.args.table.now c.in-Index.index c.in-Some.entry.now c.entry.ensures.well_formed (sym c.in-Some.ensures.value))

pub entry_of-variant_of-requires : goal.entry_of-variant_of-requires
entry_of-variant_of-requires t c = (
  omega arith,
  few_ids c.deref-in-Var.result.now
      (let is_cases : c.deref-in-Var.result.now ≡ c.in-Var.cases = c.deref-in-Var.ensures.value ∙ c.cases.view_is in
      rw is_cases (subst (λ e. is_ordered e ≡ true) c.in-Var.is c.requires)),
)
