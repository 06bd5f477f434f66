use Rattle.std.proofs.Common.{◌+◌, reverse, refl}
use Rattle.wm_semantics.specs.declared.trap.Trap.TheVariants as trap
use Rattle.wm_words.specs.Agree.{none_answers, alone_at}
use Rattle.wm_run.specs.Activations.{trapped_by}
use Rattle.wm_run.proofs.Follow.{charge_fits, charge_fails, follows_as}
use Rattle.wm_run.proofs.Leaving.{function_there, can_return_at, limit_return_at, return_follows_at}
use Rattle.wm_run.proofs.UnderWay.{traps, left}
use Rattle.wm_run.proofs.returns.return_early.Goals as goal

pub returns-then-not-charge-clause-follows : goal.returns-then-not-charge-clause-follows
returns-then-not-charge-clause-follows c =
    λ s d x.
    let v = c.args.valid.now in
    let limit = c.args.meter.now.limit in
    let used = c.args.meter.now.used in
    let callers = reverse c.args.stacks.now.callers.items in
    let p = charge_fails c.charge.result used limit 1 c.charge.new.self.used c.if-not-charge.true c.charge.ensures.fits c.charge.ensures.used in
    follows_as none_answers v limit (alone_at s used d) (trapped_by trap.Limit) c.trapped.result callers c.args.stacks.now.operands.items tt s used c.charge.new.self.used c.trapped.ensures p.1
    (limit_return_at v c.args.here callers c.args.stacks.now.operands.items s used limit p.0 d x)

pub frame_of-gives-requires : goal.frame_of-gives-requires
frame_of-gives-requires c =
    function_there c.args.valid.now c.args.here (reverse c.args.stacks.now.callers.items) c.args.stacks.now.operands.items c.requires.stopped.0 c.args.meter.now.used c.args.meter.now.limit c.requires.stopped.1 c.requires.stopped.2.running

pub leave-requires : goal.leave-requires
leave-requires c =
    can_return_at c.args.valid.now c.args.here (reverse c.args.stacks.now.callers.items) c.args.stacks.now.operands.items c.requires.stopped.0 c.args.meter.now.used c.args.meter.now.limit
    c.frame_of-gives.result c.frame_of-gives.ensures c.requires.stopped.1 c.requires.stopped.2

pub returns-clause-follows : goal.returns-clause-follows
returns-clause-follows c =
    λ s d x.
    let v = c.args.valid.now in
    let limit = c.args.meter.now.limit in
    let used = c.args.meter.now.used in
    let callers = reverse c.args.stacks.now.callers.items in
    let p = charge_fits c.charge.result used limit 1 c.charge.new.self.used c.if-not-charge.false c.charge.ensures.fits c.charge.ensures.used in
    follows_as none_answers v limit (alone_at s used d) c.leave.result c.leave.result (reverse c.leave.new.stacks.callers.items) c.leave.new.stacks.operands.items tt s (used + 1) c.charge.new.self.used refl p.1
    (return_follows_at v c.args.here callers c.args.stacks.now.operands.items s used limit p.0 c.frame_of-gives.result c.frame_of-gives.ensures (reverse c.leave.new.stacks.callers.items) c.leave.new.stacks.operands.items c.leave.result c.leave.ensures d x)

pub returns-then-not-charge-clause-under_way : goal.returns-then-not-charge-clause-under_way
returns-then-not-charge-clause-under_way c =
    λ first u.
    traps c.args.valid.now first c.args.here (reverse c.args.stacks.now.callers.items) trap.Limit c.trapped.result c.trapped.ensures u

pub returns-clause-under_way : goal.returns-clause-under_way
returns-clause-under_way c =
    λ first u.
    left c.args.valid.now first c.args.here (reverse c.args.stacks.now.callers.items) (reverse c.leave.new.stacks.callers.items) c.args.stacks.now.operands.items c.leave.new.stacks.operands.items c.args.here.top
    c.frame_of-gives.result.result c.leave.result c.leave.ensures u
