-- Messages way by way. No standard has this.
use Rattle.std.specs.Prelude.{List}
use Rattle.std.specs.declared.cmp.Ordering.{Ordering}
use Rattle.std.specs.List.Sorted.{IsSortedByKey, IsStableByKey}
use Rattle.ic_behaviour.specs.declared.call.Message.{Message}
use Rattle.ic_order.specs.declared.way.Way.{Way}
use Rattle.ic_order.specs.contracts.way.WayOrd.TheImpl as way_ord
use Rattle.ic_order.specs.Ways.{way_of}

-- the order of ways that code has
abbrev pub way_order : Way → Way → Ordering
way_order = (way_ord.ghosts).cmp

-- a stable sort by ways: those of one way are together, in the order that they had
pub record IsByWays (messages sorted : List Message) : Type 0 where
  pub rises : IsSortedByKey way_of way_order sorted
  pub stable : IsStableByKey way_of way_order messages sorted
