use Rattle.std.proofs.Common.{sym, ap, ◌∙◌, subst}
use Rattle.ic_state.specs.declared.canister.Canister.{Canister}
use Rattle.ic_state.specs.IsCanister.{IsCanister}
use Rattle.ic_entry.specs.Installed.{with_draft, installation_of}
use Rattle.ic_entry.proofs.Installs.{installs, installed_keeps}
use Rattle.ic_entry.proofs.installing.install_in.Goals as goal

pub returns-clause-installed : goal.returns-clause-installed
returns-clause-installed c =
    let done = c.steps-ended.ensures in
    let o = c.args.order in
    let settled = c.in_ok-refusal.ensures.canister ∙ ap (λ code. with_draft c.steps-ended.new.canister code c.steps-ended.result) c.in_ok-code.ensures in
    ap (λ (x : Canister). installation_of (record { canister = x; refusal = c.in_ok-refusal.refusal; used = c.used.result })) settled
    ∙ installs c.args.env c.args.canister.now c.steps-ended.new.canister o.mode o.code o.arg o.sender c.steps-ended.result c.in_ok-refusal.refusal c.used.result done.rest done.same c.in_ok-refusal.ensures.refusal
    (rw (c.used.ensures.used, sym (c.get.ensures ∙ c.in_ok-code.ensures)) done.steps)

pub returns-clause-keeps : goal.returns-clause-keeps
returns-clause-keeps c =
    let done = c.steps-ended.ensures in
    let settled = c.in_ok-refusal.ensures.canister ∙ ap (λ code. with_draft c.steps-ended.new.canister code c.steps-ended.result) c.in_ok-code.ensures in
    subst IsCanister (sym settled)
    (installed_keeps c.args.canister.now c.steps-ended.new.canister c.args.order.code c.steps-ended.result c.requires.keeps done.rest done.same (rw (sym (c.get.ensures ∙ c.in_ok-code.ensures)) done.fits) done.idle)
