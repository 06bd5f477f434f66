use Rattle.ic_state.specs.Seen.{code_of}
use Rattle.ic_entry.proofs.Stages.{upgrade_is}
use Rattle.ic_entry.proofs.installing.steps.Goals as goal

pub returns-in-Upgrade-clause-steps : goal.returns-in-Upgrade-clause-steps
returns-in-Upgrade-clause-steps c =
    upgrade_is c.upgrade.result c.upgrade.new.meter.used c.args.asked.env c.args.canister.now c.args.asked.sender (code_of c.args.code.now) c.args.mode c.in-Upgrade.skip_pre_upgrade c.args.asked.arg c.args.meter.now.used
    c.in-Upgrade.is (c.requires.upgraded (rw c.in-Upgrade.is)) c.requires.fresh c.upgrade.ensures.steps
