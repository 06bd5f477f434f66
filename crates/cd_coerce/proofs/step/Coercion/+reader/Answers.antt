use Rattle.std.proofs.Common.{rules, ◌≡◌, ℕ, get_or, Some, None, subst, false, true, sym, refl, ◌∙◌, ap, arith}
use Rattle.std.proofs.lemmas.Result.{err_from_is_err_and}
use Rattle.std.proofs.lemmas.List.{map_push}
use Rattle.std.proofs.lemmas.Option.{slice_get_read, slice_get_past}
use Rattle.ic_base.specs.Gives.{Fails}
use Rattle.cd_types.specs.declared.primitive.Primitive.TheVariants.{Null}
use Rattle.cd_types.specs.declared.entry.TyRef.{TyRef}
use Rattle.cd_types.specs.declared.entry.TyRef.TheVariants.{Prim}
use Rattle.cd_types.specs.Shape.{shape}
use Rattle.cd_codec.proofs.Views.{layers, part_push}
use Rattle.cd_codec.specs.declared.value.Value.{Value}
use Rattle.cd_codec.specs.Content.{Content, blob, none, some, list, record_of, variant, contents_of, parts_of}
use Rattle.cd_codec.specs.View.{view, views, views_of_fields}
use Rattle.cd_codec.specs.Wire.{is_nat8}
use Rattle.cd_coerce.specs.Parts.{case_from}
use Rattle.cd_coerce.specs.Read.{seq_of, fields_of, coercions, coerced}
use Rattle.cd_coerce.specs.Step.{inner_at, part_values, expected_at, target}
use Rattle.cd_coerce.proofs.StepLemmas.{in_tables, settled_so, settled_none, coerced_by_none, coerced_by_empty, parts_read, inner_read_so}
use Rattle.cd_coerce.proofs.CountLemmas.{number_push, number_field}
use Rattle.cd_coerce.proofs.LoopLemmas.{one_read, one_refused, fails_then}
use Rattle.cd_coerce.proofs.PartsLemmas.{expected_read, field_there, field_short, field_absent, list_bytes, list_items, record_fields, case_there}
use Rattle.cd_coerce.proofs.ValueLemmas.{no_inner, no_parts, inside, empty}
use Rattle.cd_coerce.proofs.step.Coercion.+reader.Goals as goal

pub items-returns-in_err-value-clause-values : goal.items-returns-in_err-value-clause-values
items-returns-in_err-value-clause-values t c =
    let p = err_from_is_err_and c.from_residual-in_err-value.result c.from_residual-in_err-value.ensures.1 in
    let item = ap (λ (v : Value). coerced (in_tables c.loop-value.self.0) (view v) c.args.t c.args.u) c.value-item.is in
    rw (p.1, p.2)
    (one_refused c.in_err-value.field-0.0 (λ s v. coerced s (view v) c.args.t c.args.u) c.args.self.now.0 c.loop-value.self.0 (views c.loop-value.items.items) c.args.values.now c.loop-value.value-index c.value-item.result _
    c.loop-value.invariant.same c.loop-value-test.true (subst (Fails c.in_err-value.field-0.0) item c.in_err-value.ensures.value) c.loop-value.invariant.read)

pub items-loop-value-preserved : goal.items-loop-value-preserved
items-loop-value-preserved t c =
    let grown = ap views c.in_ok-push.ensures.items ∙ map_push view c.loop-value.items.items c.in_ok-value.value in
    let item = ap (λ (v : Value). coerced (in_tables c.loop-value.self.0) (view v) c.args.t c.args.u) c.value-item.is in
    let read = one_read (λ s v. coerced s (view v) c.args.t c.args.u) c.args.self.now.0 c.loop-value.self.0 (views c.loop-value.items.items) c.args.values.now c.loop-value.value-index c.value-item.result (view c.in_ok-value.value) _
    c.loop-value.invariant.same c.loop-value-test.true (sym item ∙ c.in_ok-value.ensures.value) c.loop-value.invariant.read in
    record { same = c.read.ensures.tables ∙ c.loop-value.invariant.same; read = rw grown read; counted = rw (grown, number_push (views c.loop-value.items.items) (view c.in_ok-value.value)) (omega (arith, c.in_ok-value.ensures.counted, c.loop-value.invariant.counted)) }

pub fields-returns-in_err-value-clause-values : goal.fields-returns-in_err-value-clause-values
fields-returns-in_err-value-clause-values t c =
    let p = err_from_is_err_and c.from_residual-in_err-value.result c.from_residual-in_err-value.ensures.1 in
    rw (p.1, p.2)
    (one_refused c.in_err-value.field-0.0 (λ s g. expected_at s c.args.fields.now (part_values c.args.parts.now) g) c.args.self.now.0 c.loop-id.self.0 (views_of_fields c.loop-id.items.items) c.args.expected.now c.loop-id.id-index _ _
    c.loop-id.invariant.same c.loop-id-test.true (fails_then c.in_err-value.field-0.0 _ _ c.in_err-value.ensures.value) c.loop-id.invariant.read)

pub fields-loop-id-preserved : goal.fields-loop-id-preserved
fields-loop-id-preserved t c =
    let field : ℕ × TyRef = get_or c.args.expected.now c.loop-id.id-index (0, Prim Null) in
    let grown = part_push c.loop-id.items.items c.push.new.self.items field.0 c.in_ok-value.value c.in_ok-push.ensures.items in
    let one = expected_read (in_tables c.loop-id.self.0) c.args.fields.now (part_values c.args.parts.now) field (view c.in_ok-value.value) c.in_ok-value.ensures.value in
    let read = one_read (λ s g. expected_at s c.args.fields.now (part_values c.args.parts.now) g) c.args.self.now.0 c.loop-id.self.0 (views_of_fields c.loop-id.items.items) c.args.expected.now c.loop-id.id-index (0, Prim Null) (field.0, view c.in_ok-value.value) _
    c.loop-id.invariant.same c.loop-id-test.true one c.loop-id.invariant.read in
    let more = number_field (views_of_fields c.loop-id.items.items) (views_of_fields c.push.new.self.items) field.0 (view c.in_ok-value.value) grown in
    record { same = c.field.ensures.tables ∙ c.loop-id.invariant.same; read = rw grown read; counted = omega (arith, more, c.in_ok-value.ensures.counted, c.loop-id.invariant.counted) }

pub list-returns-then-is_nat8-clause-value : goal.list-returns-then-is_nat8-clause-value
list-returns-then-is_nat8-clause-value t c =
    let lower : Some c.in-Some-Some.from ≡ seq_of (shape c.args.self.now.0.0 c.args.t) = search rules in
    let upper : Some c.in-Some-Some.to ≡ seq_of (shape c.args.self.now.0.1 c.args.u) = search rules in
    let byte : true ≡ is_nat8 c.in-Some-Some.to = search rules in
    rw (list_bytes (in_tables c.args.self.now.0) c.args.values.now c.args.t c.args.u c.in-Some-Some.from c.in-Some-Some.to lower upper byte)
    (c.no_bytes.ensures.value (λ (v : Value). coercions (in_tables c.args.self.now.0) (view v)))

pub list-returns-else-is_nat8-clause-value : goal.list-returns-else-is_nat8-clause-value
list-returns-else-is_nat8-clause-value t c =
    let lower : Some c.in-Some-Some.from ≡ seq_of (shape c.args.self.now.0.0 c.args.t) = search rules in
    let upper : Some c.in-Some-Some.to ≡ seq_of (shape c.args.self.now.0.1 c.args.u) = search rules in
    let other : false ≡ is_nat8 c.in-Some-Some.to = search rules in
    rw (list_items (in_tables c.args.self.now.0) c.args.values.now c.args.t c.args.u c.in-Some-Some.from c.in-Some-Some.to lower upper other) (c.list_read.ensures.value _ c.items.ensures.values)

pub field-returns-in-Some-get-clause-value : goal.field-returns-in-Some-get-clause-value
field-returns-in-Some-get-clause-value t c =
    let found : Some (c.in-Some.place, c.in-Some.t) ≡ case_from 0 c.args.id c.args.fields.now = search rules in
    let got = slice_get_read c.args.parts.now _ c.in-Some.place c.in-Some-get.field-0.now refl c.in-Some-get.ensures.lookup.3.0 c.in-Some-get.ensures.lookup.1 in
    rw (field_there (in_tables c.args.self.now.0) c.args.fields.now c.args.parts.now c.args.id c.in-Some.place c.in-Some.t c.args.u c.in-Some-get.field-0.now found got) (search rules)

pub field-returns-in-None-get-clause-value : goal.field-returns-in-None-get-clause-value
field-returns-in-None-get-clause-value t c =
    let found : Some (c.in-Some.place, c.in-Some.t) ≡ case_from 0 c.args.id c.args.fields.now = search rules in
    let past = slice_get_past c.args.parts.now c.in-Some.place c.in-None-get.ensures.lookup.3 in
    rw (field_short (in_tables c.args.self.now.0) c.args.fields.now c.args.parts.now c.args.id c.in-Some.place c.in-Some.t c.args.u found past) c.missing.ensures.value

pub field-returns-in-None-clause-value : goal.field-returns-in-None-clause-value
field-returns-in-None-clause-value t c =
    let absent : None ≡ case_from 0 c.args.id c.args.fields.now = search rules in
    rw (field_absent (in_tables c.args.self.now.0) c.args.fields.now (part_values c.args.parts.now) c.args.id c.args.u absent) c.missing-in-None.ensures.value

pub record-returns-in-Some-Some-clause-value : goal.record-returns-in-Some-Some-clause-value
record-returns-in-Some-Some-clause-value t c =
    let lower : fields_of (shape c.args.self.now.0.0 c.args.t) ≡ Some c.in-Some-Some.fields.now = search rules in
    let upper : fields_of (shape c.args.self.now.0.1 c.args.u) ≡ Some c.in-Some-Some.expected.now = search rules in
    rw (record_fields (in_tables c.args.self.now.0) (views_of_fields c.args.parts.now) c.args.t c.args.u c.in-Some-Some.fields.now c.in-Some-Some.expected.now lower upper) (c.record_read.ensures.value _ c.fields.ensures.values)

pub case-returns-in-Some-clause-value : goal.case-returns-in-Some-clause-value
case-returns-in-Some-clause-value t c =
    let at : Some (c.in-Some.from, c.in-Some.place, c.in-Some.to) ≡ target (shape c.args.self.now.0.0 c.args.t) (shape c.args.self.now.0.1 c.args.u) c.args.position = search rules in
    rw (case_there (in_tables c.args.self.now.0) c.args.position c.in-Some.place (view c.args.part.now) c.args.t c.args.u c.in-Some.from c.in-Some.to at) (c.variant_read.ensures.value _ c.read-read.ensures.value)

pub read-returns-in-Some-clause-value : goal.read-returns-in-Some-clause-value
read-returns-in-Some-clause-value t c =
    let is = inside c.args.value.now c.in-Opt.inner c.in-Some.part c.in-Opt.is c.in-Some.is ∙ ap (λ (v : Value). some (view v)) (sym c.deref.ensures) in
    settled_so c.args.self.now.0 c.count.new.self.0 c.settle.new.self.0 (view c.args.value.now) c.args.t c.args.u c.in_ok-done.field-0 c.some_read.result c.count.ensures.tables c.settle.ensures.tables c.in_ok-done.ensures.settles
    (inner_read_so (in_tables c.settle.new.self.0) (view c.args.value.now) (view c.deref.result.now) c.args.t c.in-Inner.x c.in-Inner.w c.in_ok-done.field-0 c.read-read.result c.some_read.result
    c.in-Inner.is is c.read-read.ensures.value c.some_read.ensures.lifts)

pub read-returns-in-None-clause-value : goal.read-returns-in-None-clause-value
read-returns-in-None-clause-value t c =
    let is : view c.args.value.now ≡ none = empty c.args.value.now c.in-Opt.inner c.in-Opt.is c.in-None.is in
    settled_none c.args.self.now.0 c.count.new.self.0 c.settle.new.self.0 (view c.args.value.now) c.args.t c.args.u c.in_ok-done.field-0 c.count.ensures.tables c.settle.ensures.tables c.in_ok-done.ensures.settles
    (coerced_by_empty (in_tables c.settle.new.self.0) (view c.args.value.now) c.args.t c.in-Inner.x c.in-Inner.w c.in_ok-done.field-0 c.in-Inner.is
    (ap (λ (x : Content). inner_at (in_tables c.settle.new.self.0) x c.in-Inner.x c.in-Inner.w) is))

pub read-returns-in_default-clause-value : goal.read-returns-in_default-clause-value
read-returns-in_default-clause-value t c =
    settled_none c.args.self.now.0 c.count.new.self.0 c.settle.new.self.0 (view c.args.value.now) c.args.t c.args.u c.in_ok-done.field-0 c.count.ensures.tables c.settle.ensures.tables c.in_ok-done.ensures.settles
    (coerced_by_empty (in_tables c.settle.new.self.0) (view c.args.value.now) c.args.t c.in-Inner.x c.in-Inner.w c.in_ok-done.field-0 c.in-Inner.is
    (no_inner (in_tables c.settle.new.self.0) c.args.value.now c.in-Inner.x c.in-Inner.w c.in_default.not-Opt))

pub read-returns-in-Blob-clause-value : goal.read-returns-in-Blob-clause-value
read-returns-in-Blob-clause-value t c =
    let is : view c.args.value.now ≡ blob c.deref-in-Blob.result.now = search (rules, layers) in
    settled_so c.args.self.now.0 c.count.new.self.0 c.settle.new.self.0 (view c.args.value.now) c.args.t c.args.u c.in_ok-done.field-0 c.wrap.result c.count.ensures.tables c.settle.ensures.tables c.in_ok-done.ensures.settles
    (parts_read (in_tables c.settle.new.self.0) (view c.args.value.now) (blob c.deref-in-Blob.result.now) c.args.t c.in-Parts.w c.in-Parts.lift c.in_ok-done.field-0 c.blob-read.result c.wrap.result
    c.in-Parts.is is c.blob-read.ensures.value c.wrap.ensures.lifts)

pub read-returns-in-Seq-clause-value : goal.read-returns-in-Seq-clause-value
read-returns-in-Seq-clause-value t c =
    let is : view c.args.value.now ≡ list (contents_of (views c.deref-in-Seq.result.now)) = search (rules, layers) in
    settled_so c.args.self.now.0 c.count.new.self.0 c.settle.new.self.0 (view c.args.value.now) c.args.t c.args.u c.in_ok-done.field-0 c.wrap-in-Seq.result c.count.ensures.tables c.settle.ensures.tables c.in_ok-done.ensures.settles
    (parts_read (in_tables c.settle.new.self.0) (view c.args.value.now) _ c.args.t c.in-Parts.w c.in-Parts.lift c.in_ok-done.field-0 c.list-read.result c.wrap-in-Seq.result
    c.in-Parts.is is c.list-read.ensures.value c.wrap-in-Seq.ensures.lifts)

pub read-returns-in-Rec-clause-value : goal.read-returns-in-Rec-clause-value
read-returns-in-Rec-clause-value t c =
    let is : view c.args.value.now ≡ record_of (parts_of (views_of_fields c.deref-in-Rec.result.now)) = search (rules, layers) in
    settled_so c.args.self.now.0 c.count.new.self.0 c.settle.new.self.0 (view c.args.value.now) c.args.t c.args.u c.in_ok-done.field-0 c.wrap-in-Rec.result c.count.ensures.tables c.settle.ensures.tables c.in_ok-done.ensures.settles
    (parts_read (in_tables c.settle.new.self.0) (view c.args.value.now) _ c.args.t c.in-Parts.w c.in-Parts.lift c.in_ok-done.field-0 c.record-read.result c.wrap-in-Rec.result
    c.in-Parts.is is c.record-read.ensures.value c.wrap-in-Rec.ensures.lifts)

pub read-returns-in-Var-clause-value : goal.read-returns-in-Var-clause-value
read-returns-in-Var-clause-value t c =
    let is : view c.args.value.now ≡ variant c.in-Var.position (view c.deref-in-Var.result.now) = search (rules, layers) in
    settled_so c.args.self.now.0 c.count.new.self.0 c.settle.new.self.0 (view c.args.value.now) c.args.t c.args.u c.in_ok-done.field-0 c.wrap-in-Var.result c.count.ensures.tables c.settle.ensures.tables c.in_ok-done.ensures.settles
    (parts_read (in_tables c.settle.new.self.0) (view c.args.value.now) _ c.args.t c.in-Parts.w c.in-Parts.lift c.in_ok-done.field-0 c.case-read.result c.wrap-in-Var.result
    c.in-Parts.is is c.case-read.ensures.value c.wrap-in-Var.ensures.lifts)

pub read-returns-in_default-value : goal.read-returns-in_default-value
read-returns-in_default-value t c = record {
  tables = c.settle.ensures.tables ∙ c.count.ensures.tables;
  value = settled_none c.args.self.now.0 c.count.new.self.0 c.settle.new.self.0 (view c.args.value.now) c.args.t c.args.u c.in_ok-done.field-0 c.count.ensures.tables c.settle.ensures.tables c.in_ok-done.ensures.settles
      (coerced_by_none (in_tables c.settle.new.self.0) (view c.args.value.now) c.args.t c.in-Parts.w c.in-Parts.lift c.in_ok-done.field-0 c.in-Parts.is
      (no_parts (in_tables c.settle.new.self.0) c.args.value.now c.args.t c.in-Parts.w c.in_default-value.not-Blob c.in_default-value.not-Seq c.in_default-value.not-Rec c.in_default-value.not-Var));
  counted = tt;
}
