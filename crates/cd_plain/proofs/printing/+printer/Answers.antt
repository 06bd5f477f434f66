use Rattle.std.specs.Prelude.{option_map}
use Rattle.cd_plain.specs.Printed.{value_text}
use Rattle.cd_plain.proofs.Pieces.{no_field, item_seen, items_seen, field_seen, fields_seen, list_text, variant_text}
use Rattle.cd_plain.proofs.printing.+printer.Goals as goal

pub write_value-returns-in-Seq : goal.write_value-returns-in-Seq
write_value-returns-in-Seq t c = rw (list_text (option_map (λ n. n.now) c.args.names) c.args.table.now c.args.ty c.args.value.now c.in-Seq.values.items _ c.item_of.result c.in-Seq.is c.deref-in-Seq.ensures.value c.item_of.ensures) c.write_list.ensures

pub write_value-returns-in-Var : goal.write_value-returns-in-Var
write_value-returns-in-Var t c =
    rw (variant_text (option_map (λ n. n.now) c.args.names) c.args.table.now c.args.ty c.args.value.now _ c.in-Var.position c.in-Var.part c.fields_of-in-Var.result.now c.nth_field-case.result c.in-Var.is c.deref-in-Var.ensures c.fields_of-in-Var.ensures c.nth_field-case.ensures) c.write_case.ensures

pub write_items-loop-place-preserved : goal.write_items-loop-place-preserved
write_items-loop-place-preserved t c =
    item_seen (value_text (option_map (λ n. n.now) c.args.names) c.args.table.now c.args.item) c.args.values.now c.loop-place.place c.index-values-place.result c.before-in-loop-place.result.now c.args.out.now.items c.loop-place.out.items c.extend_from_slice.new.self.items c.write_value.new.out.items
    c.loop-place-test.true c.index-values-place.is c.before-in-loop-place.ensures c.loop-place.invariant c.in_ok-extend_from_slice.ensures.items c.in_ok-write_value.ensures

pub write_items-returns : goal.write_items-returns
write_items-returns t c =
    items_seen (value_text (option_map (λ n. n.now) c.args.names) c.args.table.now c.args.item) c.args.values.now c.loop-place.place c.end_of_braces.result.now c.args.out.now.items c.loop-place.out.items c.extend_from_slice-2.new.self.items c.is_empty.result
    c.loop-place-test.false c.is_empty.ensures c.end_of_braces.ensures c.loop-place.invariant c.in_ok-extend_from_slice-2.ensures.items

pub write_fields-loop-place-preserved : goal.write_fields-loop-place-preserved
write_fields-loop-place-preserved t c =
    field_seen (option_map (λ n. n.now) c.args.names) c.args.table.now c.args.types.now c.args.fields.now c.loop-place.place c.index-fields-place.result c.nth_field-ty.result c.before-in-loop-place.result.now c.args.out.now.items c.loop-place.out.items c.extend_from_slice.new.self.items c.write_field.new.out.items
    c.loop-place-test.true c.index-fields-place.is c.nth_field-ty.ensures c.before-in-loop-place.ensures c.loop-place.invariant c.in_ok-extend_from_slice.ensures.items c.in_ok-write_field.ensures

pub write_fields-returns : goal.write_fields-returns
write_fields-returns t c =
    fields_seen (option_map (λ n. n.now) c.args.names) c.args.table.now c.args.types.now c.args.fields.now c.loop-place.place c.end_of_braces.result.now c.args.out.now.items c.loop-place.out.items c.extend_from_slice-2.new.self.items c.is_empty.result
    c.loop-place-test.false c.is_empty.ensures c.end_of_braces.ensures c.loop-place.invariant c.in_ok-extend_from_slice-2.ensures.items

pub write_fields-loop-place-init : goal.write_fields-loop-place-init
write_fields-loop-place-init t c = no_field (option_map (λ n. n.now) c.args.names) c.args.table.now c.args.types.now c.args.out.now.items
