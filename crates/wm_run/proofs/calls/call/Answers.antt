use Rattle.std.proofs.Common.{◌+◌, reverse, refl}
use Rattle.wm_semantics.specs.declared.trap.Trap.TheVariants as trap
use Rattle.wm_words.specs.Agree.{none_answers, alone_at}
use Rattle.wm_run.specs.Activations.{trapped_by}
use Rattle.wm_run.proofs.Follow.{charge_fits, charge_fails, if_ok, follows_as}
use Rattle.wm_run.proofs.Calling.{can_call_at, limit_call_at, call_follows_at}
use Rattle.wm_run.proofs.UnderWay.{traps}
use Rattle.wm_run.proofs.calls.call.Goals as goal

pub returns-then-not-charge-clause-follows : goal.returns-then-not-charge-clause-follows
returns-then-not-charge-clause-follows c =
    λ s d x.
    let v = c.args.valid.now in
    let limit = c.args.meter.now.limit in
    let used = c.args.meter.now.used in
    let callers = reverse c.args.stacks.now.callers.items in
    let stack = c.args.stacks.now.operands.items in
    let p = charge_fails c.charge.result used limit 1 c.charge.new.self.used c.if-not-charge.true c.charge.ensures.fits c.charge.ensures.used in
    follows_as none_answers v limit (alone_at s used d) (trapped_by trap.Limit) c.trapped.result callers stack tt s used c.charge.new.self.used c.trapped.ensures p.1
    (limit_call_at v c.args.here callers stack s used limit c.args.function p.0 d x)

pub enter-requires-clause-can : goal.enter-requires-clause-can
enter-requires-clause-can c =
    can_call_at c.args.valid.now c.args.here (reverse c.args.stacks.now.callers.items) c.args.stacks.now.operands.items c.requires.stopped.0 c.args.meter.now.used c.args.meter.now.limit c.args.function c.requires.stopped.1 c.requires.stopped.2

pub returns-clause-follows : goal.returns-clause-follows
returns-clause-follows c =
    let v = c.args.valid.now in
    let limit = c.args.meter.now.limit in
    let used = c.args.meter.now.used in
    let callers = reverse c.args.stacks.now.callers.items in
    let stack = c.args.stacks.now.operands.items in
    let p = charge_fits c.charge.result used limit 1 c.charge.new.self.used c.if-not-charge.false c.charge.ensures.fits c.charge.ensures.used in
    if_ok c.enter.result _ _ (λ to e s d x.
    follows_as none_answers v limit (alone_at s used d) to to (reverse c.enter.new.stacks.callers.items) c.enter.new.stacks.operands.items tt s (used + 1) c.charge.new.self.used refl p.1
    (call_follows_at v c.args.here callers stack s used limit c.args.function p.0 (reverse c.enter.new.stacks.callers.items) c.enter.new.stacks.operands.items to e d x)) c.enter.ensures.entered

pub returns-then-not-charge-clause-under_way : goal.returns-then-not-charge-clause-under_way
returns-then-not-charge-clause-under_way c =
    λ first u.
    traps c.args.valid.now first c.args.here (reverse c.args.stacks.now.callers.items) trap.Limit c.trapped.result c.trapped.ensures u
