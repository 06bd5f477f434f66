use Rattle.std.proofs.Common.{None, map, sym, ap, ◌∙◌}
use Rattle.std.proofs.lemmas.List.{map_push}
use Rattle.cd_codec.specs.View.{view, views_of_fields}
use Rattle.cd_codec.proofs.Views.{part_push}
use Rattle.cd_text.specs.Said.{place_of}
use Rattle.cd_text.specs.ReadSaid.{slot_view}
use Rattle.std.proofs.lemmas.List.{take_all}
use Rattle.cd_text.proofs.Values.{fields_distinct}
use Rattle.cd_text.proofs.Slots.{at_first, empty_slots, one_empty, no_place, taken_there, one_placed}
use Rattle.cd_text.proofs.fields.slots_of.Goals as goal

pub loop-preserved : goal.loop-preserved
loop-preserved c = one_empty c.args.fields.now c.loop.index (map slot_view c.loop.slots.items) _ c.loop-test.true c.loop.invariant (rw c.in_ok-push.ensures.items (map_push slot_view c.loop.slots.items None))

pub returns-in-None : goal.returns-in-None
returns-in-None c =
    no_place c.args.fields.now (views_of_fields c.pop.new.self.items) (views_of_fields c.loop-id.said.items) (c.in-Some.id, view c.in-Some.value) (map slot_view c.loop-id.slots.items) _
    (part_push c.pop.new.self.items c.loop-id.said.items c.in-Some.id c.in-Some.value c.in-Some.ensures.items) (sym (ap (place_of c.args.fields.now) c.from.ensures) ∙ c.in-None.ensures.place) c.loop-id.invariant

pub returns-then-not-put : goal.returns-then-not-put
returns-then-not-put c =
    taken_there c.args.fields.now (views_of_fields c.pop.new.self.items) (views_of_fields c.loop-id.said.items) (c.in-Some.id, view c.in-Some.value) c.in-Some-find.place (map slot_view c.loop-id.slots.items) _
    (part_push c.pop.new.self.items c.loop-id.said.items c.in-Some.id c.in-Some.value c.in-Some.ensures.items) (sym (ap (place_of c.args.fields.now) c.from.ensures) ∙ c.in-Some-find.ensures.place) (c.put.ensures.taken c.if-not-put.true) c.loop-id.invariant

pub loop-id-preserved : goal.loop-id-preserved
loop-id-preserved c =
    let p = c.put.ensures.free c.if-not-put.false in
    one_placed c.args.fields.now (views_of_fields c.pop.new.self.items) (views_of_fields c.loop-id.said.items) (c.in-Some.id, view c.in-Some.value) c.in-Some-find.place None (map slot_view c.loop-id.slots.items) _ _
    (fields_distinct c.args.fields.now 0 c.requires) (part_push c.pop.new.self.items c.loop-id.said.items c.in-Some.id c.in-Some.value c.in-Some.ensures.items) (sym (ap (place_of c.args.fields.now) c.from.ensures) ∙ c.in-Some-find.ensures.place) p.0 p.1 c.loop-id.invariant

pub loop-id-init : goal.loop-id-init
loop-id-init c = at_first c.args.fields.now (views_of_fields c.args.said.items) (map slot_view c.loop.slots.items) (c.loop.invariant ∙ ap empty_slots (take_all c.loop.index c.args.fields.now c.loop-test.false))
