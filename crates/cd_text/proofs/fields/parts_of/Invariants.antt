use Rattle.std.proofs.Common.{length, map}
use Rattle.cd_codec.specs.View.{views_of_fields}
use Rattle.cd_text.specs.ReadSaid.{slot_view}
use Rattle.cd_text.proofs.Slots.{Emptying}
use Rattle.cd_text.proofs.fields.parts_of.Given as goal

abbrev pub invariant-loop-slot : goal.invariant-loop-slot
invariant-loop-slot l = Emptying l.depth l.table l.fields (map slot_view l.slots.items) (map slot_view l.fn.slots.items) (views_of_fields l.parts.items)

abbrev pub decreases-loop-slot : goal.decreases-loop-slot
decreases-loop-slot l = length l.slots.items
