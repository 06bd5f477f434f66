use Rattle.std.proofs.Common.{◌≡◌, ℕ, ◌-◌, Some, length, map, ◌∙◌, arith, refl}
use Rattle.std.proofs.lemmas.List.{length-map}
use Rattle.std.proofs.lemmas.Result.{err_from_is_err_and}
use Rattle.cd_codec.specs.declared.value.Value.{Value}
use Rattle.cd_codec.specs.Content.{Content, record_of, parts_of}
use Rattle.cd_codec.specs.View.{view, views_of_fields}
use Rattle.cd_text.specs.ReadSaid.{made, filled_slots, slot_view}
use Rattle.cd_text.proofs.Slots.{no_room_for, made_is, no_parts}
use Rattle.cd_text.proofs.fields.record_made.Goals as goal

pub returns-then-not-is_room : goal.returns-then-not-is_room
returns-then-not-is_room c =
    let n = length-map {B = ℕ × Content} c.args.said.items (λ (f : ℕ × Value). (f.0, view f.1)) in
    let many : c.len.result ≡ length (views_of_fields c.args.said.items) = omega (arith, c.len.ensures, c.args.said.ok.0, n) in
    no_room_for c.args.depth c.args.table.now c.args.fields.now (views_of_fields c.args.said.items) c.len.result c.args.left c.is_room.result c.requires many c.is_room.ensures c.if-not-is_room.true

pub returns-in_err-parts : goal.returns-in_err-parts
returns-in_err-parts c =
    let n = length-map {B = ℕ × Content} c.args.said.items (λ (f : ℕ × Value). (f.0, view f.1)) in
    let many : c.len.result ≡ length (views_of_fields c.args.said.items) = omega (arith, c.len.ensures, c.args.said.ok.0, n) in
    let again : c.len-2.result ≡ length (views_of_fields c.args.said.items) = omega (arith, c.len-2.ensures, c.args.said.ok.0, n) in
    let p = err_from_is_err_and c.from_residual-in_err-parts.result c.from_residual-in_err-parts.ensures.1 in
    rw p.1 (no_parts (λ (x : Value × ℕ). (view x.0, x.1)) p.0 (made c.args.depth c.args.table.now c.args.fields.now (views_of_fields c.args.said.items) c.args.left) (filled_slots c.args.depth c.args.table.now c.args.fields.now (map slot_view c.in_ok-slots.slots.items))
    (λ ps. Some (record_of (parts_of ps), c.args.left - (length c.args.fields.now - c.len-2.result))) (made_is c.args.depth c.args.table.now c.args.fields.now (views_of_fields c.args.said.items) _ c.len.result c.len-2.result c.args.left c.is_room.result c.requires many again c.is_room.ensures c.if-not-is_room.false c.in_ok-slots.ensures)
    (rw p.2 c.in_err-parts.ensures))

pub returns : goal.returns
returns c =
    let n = length-map {B = ℕ × Content} c.args.said.items (λ (f : ℕ × Value). (f.0, view f.1)) in
    let many : c.len.result ≡ length (views_of_fields c.args.said.items) = omega (arith, c.len.ensures, c.args.said.ok.0, n) in
    let again : c.len-2.result ≡ length (views_of_fields c.args.said.items) = omega (arith, c.len-2.ensures, c.args.said.ok.0, n) in
    made_is c.args.depth c.args.table.now c.args.fields.now (views_of_fields c.args.said.items) _ c.len.result c.len-2.result c.args.left c.is_room.result c.requires many again c.is_room.ensures c.if-not-is_room.false c.in_ok-slots.ensures
    ∙ rw (c.in_ok-parts.ensures, c.of_fields.ensures) refl
