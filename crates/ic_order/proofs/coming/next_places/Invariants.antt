use Rattle.std.proofs.Common.{◌≡◌, take}
use Rattle.std.specs.List.{list_any, filter, range_with_len}
use Rattle.ic_order.specs.declared.way.Way.{Way}
use Rattle.ic_order.specs.Ways.{is_on, may_come}
use Rattle.ic_order.specs.Seen.{has_way}
use Rattle.ic_order.proofs.coming.next_places.Given as goal

-- the set has the ways of the messages so far, and the places are those of the first message of each way
abbrev pub invariant-loop-place : goal.invariant-loop-place
invariant-loop-place l =
    ((way : Way) → has_way l.ways way ≡ list_any (is_on way) (take l.place l.messages))
    × (l.places.items ≡ filter (may_come l.messages) (range_with_len 0 l.place))
