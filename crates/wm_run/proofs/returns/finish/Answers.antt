use Rattle.std.proofs.Common.{arith, reverse}
use Rattle.wm_run.proofs.Leaving.{function_there, can_finish_at, finish_follows_at, drops}
use Rattle.wm_run.proofs.UnderWay.{left}
use Rattle.wm_run.proofs.returns.finish.Goals as goal

pub frame_of-gives-requires : goal.frame_of-gives-requires
frame_of-gives-requires c =
    function_there c.args.valid.now c.args.here (reverse c.args.stacks.now.callers.items) c.args.stacks.now.operands.items c.requires.stopped.0 c.requires.stopped.1 c.requires.stopped.1 c.requires.stopped.2 c.requires.stopped.3.running

pub leave-requires : goal.leave-requires
leave-requires c =
    can_finish_at c.args.valid.now c.args.here (reverse c.args.stacks.now.callers.items) c.args.stacks.now.operands.items c.requires.stopped.0 c.requires.stopped.1 c.requires.stopped.1 c.requires.stopped.2 (omega arith) c.requires.stopped.3
    c.frame_of-gives.result c.frame_of-gives.ensures

pub returns-clause-follows : goal.returns-clause-follows
returns-clause-follows c =
    λ s used limit d within x.
    finish_follows_at c.args.valid.now c.args.here (reverse c.args.stacks.now.callers.items) c.args.stacks.now.operands.items s used limit d within x c.frame_of-gives.result c.frame_of-gives.ensures
    (reverse c.leave.new.stacks.callers.items) c.leave.new.stacks.operands.items c.leave.result c.leave.ensures

pub returns-clause-drops : goal.returns-clause-drops
returns-clause-drops c =
    drops c.args.stacks.now.callers.items c.leave.new.stacks.callers.items c.args.stacks.now.operands.items c.leave.new.stacks.operands.items c.args.here.top c.frame_of-gives.result.result c.leave.result c.leave.ensures

pub returns-clause-under_way : goal.returns-clause-under_way
returns-clause-under_way c =
    λ first u.
    left c.args.valid.now first c.args.here (reverse c.args.stacks.now.callers.items) (reverse c.leave.new.stacks.callers.items) c.args.stacks.now.operands.items c.leave.new.stacks.operands.items c.args.here.top
    c.frame_of-gives.result.result c.leave.result c.leave.ensures u
