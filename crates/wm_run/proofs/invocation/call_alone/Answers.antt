use Rattle.std.proofs.Common.{◌+◌, ℕ, refl, sym, subst}
use Rattle.wm_semantics.specs.declared.target.Ended.TheVariants.{Trapped}
use Rattle.wm_semantics.specs.declared.trap.Trap.TheVariants as trap
use Rattle.wm_semantics.specs.declared.host.HostAnswer.{HostAnswer}
use Rattle.wm_semantics.specs.declared.host.HostAnswer.TheVariants as answer
use Rattle.wm_semantics.specs.Steps.{state, outcome, Reaches}
use Rattle.wm_semantics.specs.Begin.{calling}
use Rattle.wm_run.specs.Firsts.{i32s}
use Rattle.wm_run.proofs.Follow.{charge_fits, charge_fails}
use Rattle.wm_run.proofs.Asking.{said_as}
use Rattle.wm_run.proofs.Firsts.{alone_limit, alone_reaches}
use Rattle.wm_run.proofs.invocation.call_alone.Goals as goal

pub returns-then-not-charge-clause-reaches : goal.returns-then-not-charge-clause-reaches
returns-then-not-charge-clause-reaches g c =
    λ v f a.
    let host = c.args.host.now in
    let limit = c.args.meter.now.limit in
    let used = c.args.meter.now.used in
    let s = c.args.store.now.lists in
    let p = charge_fails c.charge.result used limit 1 c.charge.new.self.used c.if-not-charge.true c.charge.ensures.fits c.charge.ensures.used in
    subst (λ (k : ℕ). Reaches g.H.Host.answers v.module limit (state host s used (calling f (i32s c.args.args.now))) (outcome (Trapped trap.Limit) host s k)) (sym p.1)
    (alone_limit g.H.Host.answers g.met.H.Host.lawful v limit host s used f c.args.args.now c.args.number a p.0)

pub returns-in-Nothing-clause-reaches : goal.returns-in-Nothing-clause-reaches
returns-in-Nothing-clause-reaches g c =
    λ v f a.
    let host = c.args.host.now in
    let limit = c.args.meter.now.limit in
    let used = c.args.meter.now.used in
    let s = c.args.store.now.lists in
    let args = c.args.args.now in
    let n = c.args.number in
    let p = charge_fits c.charge.result used limit 1 c.charge.new.self.used c.if-not-charge.false c.charge.ensures.fits c.charge.ensures.used in
    alone_reaches g.H.Host.answers g.met.H.Host.lawful v limit host s used f args n a p.0 answer.Nothing c.call.new.self c.call.new.store.lists c.call.new.meter.used
    (said_as g.H.Host.answers host n args args s limit c.charge.new.self.limit (used + 1) c.charge.new.self.used answer.Nothing c.call.new.self c.call.new.store.lists c.call.new.meter.used refl c.charge.ensures.limit p.1
    (subst (λ (x : HostAnswer). g.H.Host.answers host n args s c.charge.new.self.limit c.charge.new.self.used x c.call.new.self c.call.new.store.lists c.call.new.meter.used) c.in-Nothing.is c.in_ok-call.ensures.answers))

pub returns-in-Number-clause-reaches : goal.returns-in-Number-clause-reaches
returns-in-Number-clause-reaches g c =
    λ v f a.
    let host = c.args.host.now in
    let limit = c.args.meter.now.limit in
    let used = c.args.meter.now.used in
    let s = c.args.store.now.lists in
    let args = c.args.args.now in
    let n = c.args.number in
    let p = charge_fits c.charge.result used limit 1 c.charge.new.self.used c.if-not-charge.false c.charge.ensures.fits c.charge.ensures.used in
    alone_reaches g.H.Host.answers g.met.H.Host.lawful v limit host s used f args n a p.0 (answer.Number c.in-Number.field-0) c.call.new.self c.call.new.store.lists c.call.new.meter.used
    (said_as g.H.Host.answers host n args args s limit c.charge.new.self.limit (used + 1) c.charge.new.self.used (answer.Number c.in-Number.field-0) c.call.new.self c.call.new.store.lists c.call.new.meter.used refl c.charge.ensures.limit p.1
    (subst (λ (x : HostAnswer). g.H.Host.answers host n args s c.charge.new.self.limit c.charge.new.self.used x c.call.new.self c.call.new.store.lists c.call.new.meter.used) c.in-Number.is c.in_ok-call.ensures.answers))

pub returns-in-Trap-clause-reaches : goal.returns-in-Trap-clause-reaches
returns-in-Trap-clause-reaches g c =
    λ v f a.
    let host = c.args.host.now in
    let limit = c.args.meter.now.limit in
    let used = c.args.meter.now.used in
    let s = c.args.store.now.lists in
    let args = c.args.args.now in
    let n = c.args.number in
    let p = charge_fits c.charge.result used limit 1 c.charge.new.self.used c.if-not-charge.false c.charge.ensures.fits c.charge.ensures.used in
    alone_reaches g.H.Host.answers g.met.H.Host.lawful v limit host s used f args n a p.0 (answer.Trap c.in-Trap.trap) c.call.new.self c.call.new.store.lists c.call.new.meter.used
    (said_as g.H.Host.answers host n args args s limit c.charge.new.self.limit (used + 1) c.charge.new.self.used (answer.Trap c.in-Trap.trap) c.call.new.self c.call.new.store.lists c.call.new.meter.used refl c.charge.ensures.limit p.1
    (subst (λ (x : HostAnswer). g.H.Host.answers host n args s c.charge.new.self.limit c.charge.new.self.used x c.call.new.self c.call.new.store.lists c.call.new.meter.used) c.in-Trap.is c.in_ok-call.ensures.answers))
