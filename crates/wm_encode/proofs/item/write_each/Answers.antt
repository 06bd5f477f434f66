use Rattle.std.proofs.Common.{arith}
use Rattle.wm_encode.proofs.Sizes.{item_within, one_written, one_holds}
use Rattle.wm_encode.proofs.item.write_each.Goals as goal

pub write-requires : goal.write-requires
write-requires g c =
    omega (arith, c.requires, item_within g.T.Encode.bytes c.args.items.now c.loop-item.item-index c.item-item.result c.loop-item-test.true c.item-item.is)

pub loop-item-preserved : goal.loop-item-preserved
loop-item-preserved g c = record {
  written = one_written g.T.Encode.bytes c.args.items.now c.loop-item.item-index c.item-item.result c.args.out.now.items c.loop-item.out.items c.write.new.out.items
      c.loop-item-test.true c.item-item.is c.loop-item.invariant.written c.in_ok-write.ensures.written;
  ranged = one_holds g.T.Encode.Ranged c.args.items.now c.loop-item.item-index c.item-item.result
      c.loop-item-test.true c.item-item.is c.loop-item.invariant.ranged c.in_ok-write.ensures.ranged;
}
