-- Sets of ways. No standard has this.
use Rattle.std.specs.Prelude.{Bool}
use Rattle.std.specs.List.{list_any}
use Rattle.std.specs.BTreeSet.{BTreeSet}
use Rattle.ic_order.specs.declared.way.Way.{Way}
use Rattle.ic_order.specs.Ways.{equal_ways}

-- the way is in the set
abbrev pub has_way : BTreeSet Way → Way → Bool
has_way ways way = list_any (equal_ways way) ways.keys
