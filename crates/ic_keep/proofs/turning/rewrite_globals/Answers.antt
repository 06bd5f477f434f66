use Rattle.std.proofs.Common.{◌∙◌}
use Rattle.ic_keep.proofs.Turns.{globals_write}
use Rattle.ic_keep.proofs.turning.rewrite_globals.Goals as goal

pub loop-i-preserved : goal.loop-i-preserved
loop-i-preserved c = (
  globals_write c.args.store.now.lists c.loop-i.store.lists c.set_global.new.self.lists c.args.globals.now c.loop-i.i 0 c.loop-i-test.true c.requires.lengths c.loop-i.invariant.0 c.set_global.ensures.lists,
  c.set_global.ensures.begun ∙ c.loop-i.invariant.1,
)
