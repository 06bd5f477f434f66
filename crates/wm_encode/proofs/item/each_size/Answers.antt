use Rattle.std.proofs.Common.{arith}
use Rattle.wm_encode.proofs.Sizes.{item_within}
use Rattle.wm_encode.proofs.item.each_size.Goals as goal

pub size-size-requires : goal.size-size-requires
size-size-requires g c =
    omega (arith, c.requires, item_within g.T.Encode.bytes c.args.items.now c.loop-item.item-index c.item-item.result c.loop-item-test.true c.item-item.is)

pub overflow_add-size : goal.overflow_add-size
overflow_add-size g c =
    omega (arith, c.requires, c.loop-item.invariant, c.size-size.ensures, item_within g.T.Encode.bytes c.args.items.now c.loop-item.item-index c.item-item.result c.loop-item-test.true c.item-item.is)
