use Rattle.std.proofs.Common.{ap, ◌∙◌, subst, rules, Ok}
use Rattle.wm_valid.specs.declared.entry.EntryName.TheVariants as entry
use Rattle.wm_store.specs.Held.{Held}
use Rattle.ic_state.specs.Seen.{code_of}
use Rattle.ic_behaviour.specs.Installing.{started}
use Rattle.ic_entry.specs.declared.staging.Draft.{Draft}
use Rattle.ic_entry.specs.Installed.{asked_of, stage_of, Drafts}
use Rattle.ic_entry.proofs.Stages.{upgrades}
use Rattle.ic_entry.proofs.upgrading.upgrade_steps.Goals as goal

pub returns-in_err-start_heard-clause-steps : goal.returns-in_err-start_heard-clause-steps
returns-in_err-start_heard-clause-steps c =
    let r = c.from_residual-in_err-start_heard.result in
    let now = stage_of c.run_pre_upgrade.new.canister.store.lists c.run_pre_upgrade.new.certified c.run_pre_upgrade.new.meter.used in
    let starts : Drafts r c.start_heard.new.meter.used (started (asked_of c.args.asked.env c.run_pre_upgrade.new.canister c.args.asked.sender) (code_of c.args.code.now) entry.PostUpgrade c.args.asked.arg (stage_of c.in_ok-store.store.lists now.certified now.used)) = search rules in
    λ old e. upgrades c.args.asked.env c.args.canister.now c.run_pre_upgrade.new.canister c.args.asked.sender c.args.asked.arg old (code_of c.args.code.now) c.args.skips c.in_ok-certified.certified c.stable.result.now c.in_ok-store.store c.args.meter.now.used now
    c.run_pre_upgrade.ensures.rest c.in_ok-certified.ensures (c.stable.ensures ∙ ap (λ (s : Held). s.lists.stable) c.get-2.ensures) (c.in_ok-run_pre_upgrade.ensures.steps old e) c.in_ok-store.ensures.made r c.start_heard.new.meter.used starts

pub returns-clause-steps : goal.returns-clause-steps
returns-clause-steps c =
    let now = stage_of c.run_pre_upgrade.new.canister.store.lists c.run_pre_upgrade.new.certified c.run_pre_upgrade.new.meter.used in
    λ old e. upgrades c.args.asked.env c.args.canister.now c.run_pre_upgrade.new.canister c.args.asked.sender c.args.asked.arg old (code_of c.args.code.now) c.args.skips c.in_ok-certified.certified c.stable.result.now c.in_ok-store.store c.args.meter.now.used now
    c.run_pre_upgrade.ensures.rest c.in_ok-certified.ensures (c.stable.ensures ∙ ap (λ (s : Held). s.lists.stable) c.get-2.ensures) (c.in_ok-run_pre_upgrade.ensures.steps old e) c.in_ok-store.ensures.made (Ok c.start_heard.new.draft) c.start_heard.new.meter.used
    (subst (λ (d : Draft). Drafts (Ok c.start_heard.new.draft) c.start_heard.new.meter.used (started (asked_of c.args.asked.env c.run_pre_upgrade.new.canister c.args.asked.sender) (code_of c.args.code.now) entry.PostUpgrade c.args.asked.arg (stage_of d.store.lists d.certified now.used)))
    c.in_ok-draft.ensures c.in_ok-start_heard.ensures.steps)
