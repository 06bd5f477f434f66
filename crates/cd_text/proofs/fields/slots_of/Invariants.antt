use Rattle.std.proofs.Common.{◌≡◌, length, map, take}
use Rattle.cd_codec.specs.View.{views_of_fields}
use Rattle.cd_text.specs.ReadSaid.{slot_view}
use Rattle.cd_text.proofs.Slots.{empty_slots, Filling}
use Rattle.cd_text.proofs.fields.slots_of.Given as goal

abbrev pub invariant-loop : goal.invariant-loop
invariant-loop l = map slot_view l.slots.items ≡ empty_slots (take l.index l.fields)

abbrev pub invariant-loop-id : goal.invariant-loop-id
invariant-loop-id l = Filling l.fields (views_of_fields l.said.items) (map slot_view l.slots.items) (views_of_fields l.fn.said.items)

abbrev pub decreases-loop-id : goal.decreases-loop-id
decreases-loop-id l = length l.said.items
