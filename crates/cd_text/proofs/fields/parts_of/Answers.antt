use Rattle.std.proofs.Common.{◌≡◌, ◌++◌, ◌∷◌, [], ℕ, length, map, ◌∙◌, ap, arith, rules}
use Rattle.std.proofs.lemmas.List.{length-map, map_push}
use Rattle.std.proofs.lemmas.Result.{err_from_is_err_and}
use Rattle.std.specs.Global.{Vec}
use Rattle.cd_codec.specs.declared.value.Value.{Value}
use Rattle.cd_codec.specs.View.{view, views_of_fields}
use Rattle.cd_codec.proofs.Views.{part_push}
use Rattle.cd_text.specs.ReadSaid.{slot_view}
use Rattle.cd_tokens.proofs.Streams.{found_is, none_fails}
use Rattle.cd_text.proofs.Slots.{all_full, taken_next, none_next, parts_end}
use Rattle.cd_text.proofs.fields.parts_of.Goals as goal

pub loop-slot-init : goal.loop-slot-init
loop-slot-init c = rw c.in_ok-parts.ensures.items (all_full c.args.depth c.args.table.now c.args.fields.now (map slot_view c.args.slots.items) (length-map c.args.slots.items slot_view ∙ c.requires))

pub returns-in_err-value : goal.returns-in_err-value
returns-in_err-value c =
    let p = err_from_is_err_and c.from_residual-in_err-value.result c.from_residual-in_err-value.ensures.1 in
    let e : map slot_view c.loop-slot.slots.items ≡ map slot_view c.pop.new.self.items ++ slot_view c.in-Some.slot ∷ [] = ap (map slot_view) c.in-Some.ensures.items ∙ map_push slot_view c.pop.new.self.items c.in-Some.slot in
    let n = length-map c.pop.new.self.items slot_view in
    let k : c.len.result ≡ length (map slot_view c.pop.new.self.items) = omega (arith, c.len.ensures, c.pop.new.self.ok.0, n) in
    rw (p.1, p.2) (none_next (λ (ps : Vec (ℕ × Value)). views_of_fields ps.items) c.in_err-value.field-0.0 c.args.depth c.args.table.now c.args.fields.now (map slot_view c.pop.new.self.items) (map slot_view c.loop-slot.slots.items) _ (slot_view c.in-Some.slot) c.len.result _ _ e k (none_fails c.in_err-value.field-0.0 view _ _ c.said_or_left_out.ensures c.in_err-value.ensures.ok_part) c.loop-slot.invariant)

pub loop-slot-preserved : goal.loop-slot-preserved
loop-slot-preserved c =
    let e : map slot_view c.loop-slot.slots.items ≡ map slot_view c.pop.new.self.items ++ slot_view c.in-Some.slot ∷ [] = ap (map slot_view) c.in-Some.ensures.items ∙ map_push slot_view c.pop.new.self.items c.in-Some.slot in
    let n = length-map c.pop.new.self.items slot_view in
    let k : c.len.result ≡ length (map slot_view c.pop.new.self.items) = omega (arith, c.len.ensures, c.pop.new.self.ok.0, n) in
    taken_next c.args.depth c.args.table.now c.args.fields.now (map slot_view c.pop.new.self.items) (map slot_view c.loop-slot.slots.items) _ (slot_view c.in-Some.slot) c.len.result _ (view c.in_ok-value.value) (views_of_fields c.loop-slot.parts.items)
    (views_of_fields c.push.new.self.items) e k (found_is view _ _ _ c.said_or_left_out.ensures c.in_ok-value.ensures.ok_part) (part_push _ _ _ _ c.in_ok-push.ensures.items) c.loop-slot.invariant

pub returns : goal.returns
returns c =
    let none : c.loop-slot.slots.items ≡ [] = first_of (search rules, grind (arith, c.in_default.ensures)) in
    parts_end c.args.depth c.args.table.now c.args.fields.now c.loop-slot.slots.items _ c.loop-slot.parts.items c.reverse.new.self.items none c.reverse.ensures.items c.loop-slot.invariant
