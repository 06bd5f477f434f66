use Rattle.std.proofs.Common.{◌≡◌, ◌+◌, length, map}
use Rattle.std.specs.List.{fold}
use Rattle.ic_rounds.specs.Dealing.{slots_of}
use Rattle.ic_rounds.specs.Slots.{stored_of, slot_of, after_slot_in_place}
use Rattle.ic_rounds.proofs.InPlaces.{AreLeft}
use Rattle.ic_rounds.proofs.in_place.handle_in_place.Given as goal

abbrev pub invariant-loop-key : goal.invariant-loop-key
invariant-loop-key g l = record {
  left : AreLeft l.env (fold (after_slot_in_place l.env) (stored_of l.fn.parts) (map slot_of (slots_of l.fn.parts.canisters.entries l.fn.firsts.items))) l.parts l.firsts.items;
  place : l.number + length l.firsts.items ≡ length l.fn.firsts.items;
}

abbrev pub decreases-loop-key : goal.decreases-loop-key
decreases-loop-key g l = length l.firsts.items
