use Rattle.std.proofs.Common.{◌≤◌, ◌+◌, ℕ, sym, subst}
use Rattle.wm_semantics.specs.declared.trap.Trap.TheVariants as trap
use Rattle.wm_semantics.specs.Steps.{state}
use Rattle.wm_run.specs.Activations.{Follows, trapped_by}
use Rattle.wm_run.proofs.Follow.{charge_fits, charge_fails, if_ok, follows_as}
use Rattle.wm_run.proofs.Hosting.{asks_at, limit_host_at}
use Rattle.wm_run.proofs.UnderWay.{trap_same}
use Rattle.wm_run.proofs.hosts.call_host.Goals as goal

pub returns-then-not-charge-clause-follows : goal.returns-then-not-charge-clause-follows
returns-then-not-charge-clause-follows g c =
    λ v callers d x.
    let limit = c.args.meter.now.limit in
    let used = c.args.meter.now.used in
    let s = c.args.store.now.lists in
    let p = charge_fails c.charge.result used limit 1 c.charge.new.self.used c.if-not-charge.true c.charge.ensures.fits c.charge.ensures.used in
    follows_as g.H.Host.answers v limit (state c.args.host.now s used d) (trapped_by trap.Limit) c.trapped.result callers c.args.stack.now.items c.args.host.now s used c.charge.new.self.used c.trapped.ensures p.1
    (limit_host_at v c.args.here callers c.args.stack.now.items s used limit c.args.number g.H.Host.answers c.args.host.now p.0 d x)

pub ask-requires-clause-asking : goal.ask-requires-clause-asking
ask-requires-clause-asking g c =
    let x = c.requires.stopped in
    (x.0, x.1, x.2, asks_at x.0 c.args.here x.1 c.args.stack.now.items c.args.store.now.lists c.args.meter.now.used c.args.meter.now.limit c.args.number x.2 x.3)

pub ask-requires-clause-paid : goal.ask-requires-clause-paid
ask-requires-clause-paid g c =
    let p = charge_fits c.charge.result c.args.meter.now.used c.args.meter.now.limit 1 c.charge.new.self.used c.if-not-charge.false c.charge.ensures.fits c.charge.ensures.used in
    (c.args.meter.now.used, sym p.1)

pub returns-clause-follows : goal.returns-clause-follows
returns-clause-follows g c =
    let limit = c.args.meter.now.limit in
    let used = c.args.meter.now.used in
    let s = c.args.store.now.lists in
    let p = charge_fits c.charge.result used limit 1 c.charge.new.self.used c.if-not-charge.false c.charge.ensures.fits c.charge.ensures.used in
    if_ok c.ask.result _ _ (λ to e v callers d x.
    subst (λ (k : ℕ). Follows g.H.Host.answers v k (state c.args.host.now s used d) to callers c.ask.new.stack.items c.ask.new.host c.ask.new.store.lists c.ask.new.meter.used) c.charge.ensures.limit
    (e v callers d used (subst (λ (k : ℕ). used + 1 ≤ k) (sym c.charge.ensures.limit) p.0) (sym p.1)
    (asks_at v c.args.here callers c.args.stack.now.items s used limit c.args.number d x))) c.ask.ensures.follows

pub returns-then-not-charge-clause-same : goal.returns-then-not-charge-clause-same
returns-then-not-charge-clause-same g c = trap_same c.args.here trap.Limit c.trapped.result c.trapped.ensures
