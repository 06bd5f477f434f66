use Rattle.std.proofs.Common.{◌≡◌, ◌+◌, suc, ap, ◌++◌, ◌∷◌, [], true, false, refl, sym, subst, ◌∙◌, arith}
use Rattle.std.proofs.lemmas.Result.{err_from_is_err_and}
use Rattle.std.proofs.lemmas.List.{map_push}
use Rattle.cd_types.specs.IsOrdered.{is_ordered}
use Rattle.cd_types.proofs.EntryLemmas.{entry_ordered}
use Rattle.cd_codec.specs.View.{view, views, views_of_fields}
use Rattle.cd_codec.proofs.Views.{view-Null}
use Rattle.cd_plain.specs.ReadPlain.{is_mark, starts}
use Rattle.cd_text.specs.Said.{type_of, place_of}
use Rattle.cd_text.proofs.Narrow.{entry_value, not_ended, has_ended}
use Rattle.cd_tokens.proofs.Streams.{found_is, none_fails}
use Rattle.cd_codec.specs.Content.{plain, null}
use Rattle.cd_tokens.specs.View.{token_views}
use Rattle.cd_text.specs.ReadSaid.{item_at, no_place_of, field_at, after_field, value_at}
use Rattle.cd_tokens.proofs.Loops.{at_end, no_part_there, last_part, no_separator, part_read, no_fuel}
use Rattle.cd_text.proofs.reading.+reader.Goals as goal

pub items_of-returns-then-starts_mark : goal.items_of-returns-then-starts_mark
items_of-returns-then-starts_mark t c =
    rw c.rest_of.ensures (at_end 59 125 (item_at c.args.ty (value_at c.args.level.table.now c.args.level.depth c.args.ty)) no_place_of (views c.loop.items.items) c.args.most c.loop.counter 0 c.loop.unread (token_views c.loop.rest.now) _ c.loop-test.true (sym c.starts_mark.ensures ∙ c.if-starts_mark.true) c.loop.invariant)

pub items_of-returns-in_err-value : goal.items_of-returns-in_err-value
items_of-returns-in_err-value t c =
    let p = err_from_is_err_and c.from_residual.result c.from_residual.ensures.1 in
    rw (p.1, p.2) (no_part_there c.in_err-value.field-0.0 59 125 (item_at c.args.ty (value_at c.args.level.table.now c.args.level.depth c.args.ty)) no_place_of (views c.loop.items.items) c.args.most c.loop.counter 0 c.loop.unread (token_views c.loop.rest.now) _ c.loop-test.true (sym c.starts_mark.ensures ∙ c.if-starts_mark.false) c.in_err-value.ensures c.loop.invariant)

pub items_of-returns-then-starts_mark-2 : goal.items_of-returns-then-starts_mark-2
items_of-returns-then-starts_mark-2 t c =
    let more : views c.push.new.self.items ≡ views c.loop.items.items ++ view c.in_ok-value.value ∷ [] = rw c.in_ok-push.ensures.items (map_push _ c.loop.items.items c.in_ok-value.value) in
    rw (c.rest_of-then-starts_mark-2.ensures, more) (last_part 59 125 (item_at c.args.ty (value_at c.args.level.table.now c.args.level.depth c.args.ty)) no_place_of (views c.loop.items.items) c.args.most c.loop.counter 0 c.loop.unread (token_views c.loop.rest.now) _ (view c.in_ok-value.value) c.in_ok-value.left (token_views c.in_ok-value.after.now) c.loop-test.true (sym c.starts_mark.ensures ∙ c.if-starts_mark.false) c.in_ok-value.ensures (sym c.starts_mark-in-loop.ensures ∙ c.if-starts_mark-2.true) c.loop.invariant)

pub items_of-returns-then-not-starts_mark : goal.items_of-returns-then-not-starts_mark
items_of-returns-then-not-starts_mark t c =
    no_separator 59 125 (item_at c.args.ty (value_at c.args.level.table.now c.args.level.depth c.args.ty)) no_place_of (views c.loop.items.items) c.args.most c.loop.counter 0 c.loop.unread (token_views c.loop.rest.now) _ (view c.in_ok-value.value) c.in_ok-value.left (token_views c.in_ok-value.after.now) c.loop-test.true (sym c.starts_mark.ensures ∙ c.if-starts_mark.false) c.in_ok-value.ensures (sym c.starts_mark-in-loop.ensures ∙ c.if-starts_mark-2.false) (sym c.starts_mark-in-loop-2.ensures ∙ c.if-not-starts_mark.true) c.loop.invariant

pub items_of-loop-preserved : goal.items_of-loop-preserved
items_of-loop-preserved t c =
    let more : views c.push.new.self.items ≡ views c.loop.items.items ++ view c.in_ok-value.value ∷ [] = rw c.in_ok-push.ensures.items (map_push _ c.loop.items.items c.in_ok-value.value) in
    rw (c.rest_of-rest.ensures, more) (part_read 59 125 (item_at c.args.ty (value_at c.args.level.table.now c.args.level.depth c.args.ty)) no_place_of (views c.loop.items.items) c.args.most c.loop.counter 0 c.loop.unread (token_views c.loop.rest.now) _ (view c.in_ok-value.value) c.in_ok-value.left (token_views c.in_ok-value.after.now) c.loop-test.true (sym c.starts_mark.ensures ∙ c.if-starts_mark.false) c.in_ok-value.ensures (sym c.starts_mark-in-loop.ensures ∙ c.if-starts_mark-2.false) (sym c.starts_mark-in-loop-2.ensures ∙ c.if-not-starts_mark.false) c.loop.invariant)

pub items_of-returns : goal.items_of-returns
items_of-returns t c = no_fuel 59 125 (item_at c.args.ty (value_at c.args.level.table.now c.args.level.depth c.args.ty)) no_place_of (views c.loop.items.items) c.args.most c.loop.counter 0 c.loop.unread (token_views c.loop.rest.now) _ c.loop-test.false c.loop.invariant

pub fields_of-returns-then-starts_mark : goal.fields_of-returns-then-starts_mark
fields_of-returns-then-starts_mark t c =
    rw c.rest_of.ensures (at_end 59 125 (field_at (value_at c.args.level.table.now c.args.level.depth) c.args.fields.now) after_field (views_of_fields c.loop.said.items) c.args.most c.loop.counter c.loop.next c.loop.unread (token_views c.loop.rest.now) _ c.loop-test.true (sym c.starts_mark.ensures ∙ c.if-starts_mark.true) c.loop.invariant)

pub fields_of-returns-in_err-field : goal.fields_of-returns-in_err-field
fields_of-returns-in_err-field t c =
    let p = err_from_is_err_and c.from_residual.result c.from_residual.ensures.1 in
    rw (p.1, p.2) (no_part_there c.in_err-field.field-0.0 59 125 (field_at (value_at c.args.level.table.now c.args.level.depth) c.args.fields.now) after_field (views_of_fields c.loop.said.items) c.args.most c.loop.counter c.loop.next c.loop.unread (token_views c.loop.rest.now) _ c.loop-test.true (sym c.starts_mark.ensures ∙ c.if-starts_mark.false) c.in_err-field.ensures c.loop.invariant)

pub fields_of-returns-then-starts_mark-2 : goal.fields_of-returns-then-starts_mark-2
fields_of-returns-then-starts_mark-2 t c =
    let more : views_of_fields c.push.new.self.items ≡ views_of_fields c.loop.said.items ++ (c.in_ok-field.field.0, view c.in_ok-field.field.1) ∷ [] = rw c.in_ok-push.ensures.items (map_push _ c.loop.said.items c.in_ok-field.field) in
    rw (c.rest_of-then-starts_mark-2.ensures, more) (last_part 59 125 (field_at (value_at c.args.level.table.now c.args.level.depth) c.args.fields.now) after_field (views_of_fields c.loop.said.items) c.args.most c.loop.counter c.loop.next c.loop.unread (token_views c.loop.rest.now) _ (c.in_ok-field.field.0, view c.in_ok-field.field.1) c.in_ok-field.left (token_views c.in_ok-field.after.now) c.loop-test.true (sym c.starts_mark.ensures ∙ c.if-starts_mark.false) c.in_ok-field.ensures (sym c.starts_mark-in-loop.ensures ∙ c.if-starts_mark-2.true) c.loop.invariant)

pub fields_of-returns-then-not-starts_mark : goal.fields_of-returns-then-not-starts_mark
fields_of-returns-then-not-starts_mark t c =
    no_separator 59 125 (field_at (value_at c.args.level.table.now c.args.level.depth) c.args.fields.now) after_field (views_of_fields c.loop.said.items) c.args.most c.loop.counter c.loop.next c.loop.unread (token_views c.loop.rest.now) _ (c.in_ok-field.field.0, view c.in_ok-field.field.1) c.in_ok-field.left (token_views c.in_ok-field.after.now) c.loop-test.true (sym c.starts_mark.ensures ∙ c.if-starts_mark.false) c.in_ok-field.ensures (sym c.starts_mark-in-loop.ensures ∙ c.if-starts_mark-2.false) (sym c.starts_mark-in-loop-2.ensures ∙ c.if-not-starts_mark.true) c.loop.invariant

pub fields_of-loop-preserved : goal.fields_of-loop-preserved
fields_of-loop-preserved t c =
    let more : views_of_fields c.push.new.self.items ≡ views_of_fields c.loop.said.items ++ (c.in_ok-field.field.0, view c.in_ok-field.field.1) ∷ [] = rw c.in_ok-push.ensures.items (map_push _ c.loop.said.items c.in_ok-field.field) in
    let next : c.from-next.result + 1 ≡ suc c.in_ok-field.field.0 = omega (arith, c.from-next.ensures) in
    rw (c.rest_of-rest.ensures, more, next) (part_read 59 125 (field_at (value_at c.args.level.table.now c.args.level.depth) c.args.fields.now) after_field (views_of_fields c.loop.said.items) c.args.most c.loop.counter c.loop.next c.loop.unread (token_views c.loop.rest.now) _ (c.in_ok-field.field.0, view c.in_ok-field.field.1) c.in_ok-field.left (token_views c.in_ok-field.after.now) c.loop-test.true (sym c.starts_mark.ensures ∙ c.if-starts_mark.false) c.in_ok-field.ensures (sym c.starts_mark-in-loop.ensures ∙ c.if-starts_mark-2.false) (sym c.starts_mark-in-loop-2.ensures ∙ c.if-not-starts_mark.false) c.loop.invariant)

pub fields_of-returns : goal.fields_of-returns
fields_of-returns t c = no_fuel 59 125 (field_at (value_at c.args.level.table.now c.args.level.depth) c.args.fields.now) after_field (views_of_fields c.loop.said.items) c.args.most c.loop.counter c.loop.next c.loop.unread (token_views c.loop.rest.now) _ c.loop-test.false c.loop.invariant

pub value_of-entry_of-requires : goal.value_of-entry_of-requires
value_of-entry_of-requires t c = (omega arith, (entry_ordered c.args.level.table.now c.in-Index.index c.in-Some.entry.now c.entry.ensures.well_formed (sym c.in-Some.ensures.value), omega arith))

pub value_of-returns-in-Some : goal.value_of-returns-in-Some
value_of-returns-in-Some t c =
    rw (entry_value c.args.level.table.now c.args.level.depth c.args.left c.in-Index.index c.args.ty c.in-Some.entry.now (token_views c.args.tokens.now) (omega arith) (omega arith) c.in-Index.is (sym c.in-Some.ensures.value) (sym c.starts_mark.ensures ∙ c.if-starts_mark.false)) c.entry_of.ensures

pub entry_of-variant_of-requires : goal.entry_of-variant_of-requires
entry_of-variant_of-requires t c = (
  omega arith,
  (let is_cases : c.deref-in-Var.result.now ≡ c.in-Var.cases = c.deref-in-Var.ensures.value ∙ c.cases.view_is in
      rw is_cases (subst (λ e. is_ordered e ≡ true) c.in-Var.is c.requires.0)),
)

pub case_of-returns : goal.case_of-returns
case_of-returns t c =
    let s : starts (is_mark 61) (token_views c.args.tokens.now) ≡ false = sym c.starts_mark.ensures ∙ c.if-starts_mark.false in
    rw (s, found_is (λ less. (plain null, less, token_views c.args.tokens.now)) _ _ _ (c.without_null.ensures (token_views c.args.tokens.now)) c.in_ok-left.ensures.ok_part, view-Null) refl

pub chosen_of-returns-in_err-rest-in-Some : goal.chosen_of-returns-in_err-rest-in-Some
chosen_of-returns-in_err-rest-in-Some t c =
    let p = err_from_is_err_and c.from_residual-in_err-rest-in-Some.result c.from_residual-in_err-rest-in-Some.ensures.1 in
    rw p.1 (not_ended p.0 (value_at c.args.level.table.now c.args.level.depth) c.args.level.depth c.args.level.table.now c.args.cases.now c.args.id _ _ c.args.left (token_views c.args.tokens.now) _ _ _ (sym (ap (place_of c.args.cases.now) c.from.ensures) ∙ c.in-Some.ensures.place) (sym (ap (type_of c.args.cases.now) c.from.ensures) ∙ c.in-Some.ensures.field.0) c.in_ok-part-in-Some.ensures (none_fails p.0 (λ rest. (view c.in_ok-part-in-Some.part, c.in_ok-part-in-Some.left, token_views rest.now)) _ _ (c.past_variant.ensures _ _) c.in_err-rest-in-Some.ensures.ok_part))

pub chosen_of-returns-in_ok-value-in-Some : goal.chosen_of-returns-in_ok-value-in-Some
chosen_of-returns-in_ok-value-in-Some t c =
    rw c.in_ok-value-in-Some.ensures (has_ended (value_at c.args.level.table.now c.args.level.depth) c.args.level.depth c.args.level.table.now c.args.cases.now c.args.id _ _ c.args.left (token_views c.args.tokens.now) _ _ _ _ (sym (ap (place_of c.args.cases.now) c.from.ensures) ∙ c.in-Some.ensures.place) (sym (ap (type_of c.args.cases.now) c.from.ensures) ∙ c.in-Some.ensures.field.0) c.in_ok-part-in-Some.ensures (found_is (λ rest. (view c.in_ok-part-in-Some.part, c.in_ok-part-in-Some.left, token_views rest.now)) _ _ _ (c.past_variant.ensures _ _) c.in_ok-rest-in-Some.ensures.ok_part))
