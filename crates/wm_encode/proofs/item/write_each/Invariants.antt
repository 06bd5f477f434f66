use Rattle.std.proofs.Common.{◌≡◌, ◌++◌, take}
use Rattle.std.specs.List.{All, flat_map}
use Rattle.wm_encode.proofs.item.write_each.Given as goal

abbrev pub invariant-loop-item : goal.invariant-loop-item
invariant-loop-item g l = record {
  written : l.out.items ≡ l.fn.out.items ++ flat_map g.T.Encode.bytes (take l.item-index l.items);
  ranged : All g.T.Encode.Ranged (take l.item-index l.items);
}
