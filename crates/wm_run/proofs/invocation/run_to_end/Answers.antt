use Rattle.wm_semantics.specs.Steps.{outcome}
use Rattle.wm_semantics.proofs.Unique.{invokes_once}
use Rattle.wm_semantics.proofs.ByFuel.{invoked_by_fuel}
use Rattle.wm_semantics.proofs.Beginnings.{invokes_on, invoked_well}
use Rattle.wm_run.proofs.Follow.{if_ok}
use Rattle.wm_run.proofs.invocation.run_to_end.Goals as goal

pub returns-clause-only : goal.returns-clause-only
returns-clause-only g c =
    if_ok c.run_target.result _ _ (λ halted i functional o j.
    invokes_once g.H.Host.answers functional c.args.valid.now.module c.args.meter.now.limit c.args.host.now c.args.store.now.lists c.args.meter.now.used c.args.target o
    (outcome halted.ended c.run_target.new.host c.run_target.new.store.lists c.run_target.new.meter.used) j i) c.run_target.ensures.outcome

pub returns-clause-function : goal.returns-clause-function
returns-clause-function g c =
    if_ok c.run_target.result _ _ (λ halted i reply rises agrees.
    invoked_by_fuel g.H.Host.answers reply rises agrees c.args.valid.now.module c.args.meter.now.limit c.args.host.now c.args.store.now.lists c.args.meter.now.used c.args.target
    (outcome halted.ended c.run_target.new.host c.run_target.new.store.lists c.run_target.new.meter.used) i) c.run_target.ensures.outcome

pub returns-clause-never : goal.returns-clause-never
returns-clause-never g c =
    invokes_on c.args.valid.now c.module-module.ensures.valid c.args.store.now.lists (record { fits = c.requires.fits; bytes = c.holds_bytes.ensures }) g.H.Host.answers g.met.H.Host.lawful
    c.args.meter.now.limit c.args.host.now c.args.meter.now.used c.args.target c.requires.target

pub returns-clause-fits : goal.returns-clause-fits
returns-clause-fits g c =
    if_ok c.run_target.result _ _ (λ halted i.
    (invoked_well c.args.valid.now c.module-module.ensures.valid c.args.store.now.lists (record { fits = c.requires.fits; bytes = c.holds_bytes.ensures }) g.H.Host.answers g.met.H.Host.lawful
    c.args.meter.now.limit c.args.host.now c.args.meter.now.used c.args.target c.requires.target
    (outcome halted.ended c.run_target.new.host c.run_target.new.store.lists c.run_target.new.meter.used) i).fits) c.run_target.ensures.outcome
