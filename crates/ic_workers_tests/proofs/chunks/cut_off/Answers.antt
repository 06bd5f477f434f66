use Rattle.std.proofs.Common.{arith}
use native.Mathlib.Nat.{div-le_self}
use Rattle.ic_workers_tests.proofs.chunks.cut_off.Goals as goal

pub split_off-requires : goal.split_off-requires
split_off-requires c = omega (arith, div-le_self c.args.share.slots.len c.args.share.workers, c.len.ensures)
