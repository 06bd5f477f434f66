use Rattle.std.proofs.Common.{arith}
use Rattle.ic_entry.proofs.Stores.{filled}
use Rattle.ic_entry.proofs.staging.fill_stable.Goals as goal

pub returns-clause-lists : goal.returns-clause-lists
returns-clause-lists c =
    filled c.from.result c.args.stable.now c.args.store.now.lists c.stable_grow.new.self.lists c.stable_write.new.self.lists c.requires.none
    (omega (arith, c.from.ensures)) (omega (arith, c.from.ensures)) c.in_ok-grown.ensures.lists c.in_ok-written.ensures.lists
