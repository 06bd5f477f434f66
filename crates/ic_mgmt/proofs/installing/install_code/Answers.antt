use Rattle.std.proofs.Common.{refl, sym, ap, ◌∙◌}
use Rattle.std.specs.Prelude.{Ok}
use Rattle.std.proofs.lemmas.Result.{err_from_is_err_and}
use Rattle.ic_behaviour.specs.State.{Canister, State}
use Rattle.ic_behaviour.specs.Counted.{dropped}
use Rattle.ic_behaviour.specs.Closing.{empty_reply}
use Rattle.ic_behaviour.specs.Installing.{enters_after}
use Rattle.ic_api.specs.System.{system_api}
use Rattle.ic_state.specs.declared.canister.Canister.{Canister as StoredCanister}
use Rattle.ic_state.specs.Seen.{seen, code_of as seen_code}
use Rattle.ic_mgmt_candid.specs.declared.denial.Unmet.TheVariants.{Denied}
use Rattle.ic_mgmt_laws.specs.Moves.{with_canister}
use Rattle.ic_mgmt_laws.specs.Rows.{installs}
use Rattle.ic_entry.specs.Installed.{installation_of}
use Rattle.ic_mgmt.proofs.Numbers.{same_true}
use Rattle.ic_mgmt.proofs.Refusals.{by_denial, refused_at}
use Rattle.ic_mgmt.proofs.Sends.{with_same, answers_only}
use Rattle.ic_mgmt.proofs.Installs.{no_code, unsuited, not_installed, is_installed, refuses, none_refused}
use Rattle.ic_mgmt.proofs.installing.install_code.Goals as goal

pub returns-in_err-code-clause-does : goal.returns-in_err-code-clause-does
returns-in_err-code-clause-does c =
    let call = c.args.call.now in
    let asked = c.args.install in
    let a = dropped (seen c.args.canister.now) in
    let row = λ (now s : State) (b : Canister). installs (enters_after system_api) c.args.env.limit (record now { time = c.args.env.time }) s call asked b in
    let p = err_from_is_err_and c.from_residual.result c.from_residual.ensures.1 in
    rw (p.1, p.2) (refused_at call asked.canister_id c.args.canister.now c.in_err-code.field-0.0 c.args.canister.now row (λ now s. by_denial seen_code _ c.in_err-code.field-0.0 call s (row now s a) c.in_err-code.ensures
    (λ denial is. no_code (enters_after system_api) c.args.env.limit (record now { time = c.args.env.time }) s call asked a denial is)) refl)

pub returns-in_err-unless_unsuited-clause-does : goal.returns-in_err-unless_unsuited-clause-does
returns-in_err-unless_unsuited-clause-does c =
    let call = c.args.call.now in
    let asked = c.args.install in
    let a = dropped (seen c.args.canister.now) in
    let row = λ (now s : State) (b : Canister). installs (enters_after system_api) c.args.env.limit (record now { time = c.args.env.time }) s call asked b in
    let p = err_from_is_err_and c.from_residual-in_err-unless_unsuited.result c.from_residual-in_err-unless_unsuited.ensures.1 in
    rw (p.1, p.2) (refused_at call asked.canister_id c.args.canister.now (Denied c.in_err-unless_unsuited.field-0.0) c.args.canister.now row
    (λ now s. (unsuited (enters_after system_api) c.args.env.limit (record now { time = c.args.env.time }) s call asked a (seen_code c.in_ok-code.code) c.in_ok-code.ensures c.in_err-unless_unsuited.field-0.0 (sym c.in_err-unless_unsuited.ensures.suits), refl)) refl)

pub returns-in_err-unless_refused-clause-does : goal.returns-in_err-unless_refused-clause-does
returns-in_err-unless_refused-clause-does c =
    let call = c.args.call.now in
    let asked = c.args.install in
    let a = dropped (seen c.args.canister.now) in
    let refusal = c.in_ok-refusal.refusal in
    let i = installation_of (record { canister = c.install_in.new.canister; refusal = refusal; used = c.in_ok-refusal.field-0-1 }) in
    let same = c.in_ok-refusal.ensures.refused (refuses refusal c.in_err-unless_refused.field-0.0 c.in_err-unless_refused.ensures) in
    let p = err_from_is_err_and c.from_residual-in_err-unless_refused.result c.from_residual-in_err-unless_refused.ensures.1 in
    rw (p.1, p.2) (λ now s stands. (
      not_installed (enters_after system_api) c.args.env.limit (record now { time = c.args.env.time }) s call asked a (seen_code c.in_ok-code.code) c.in_ok-code.ensures
          (sym c.in_ok-unless_unsuited.ensures.suits) i (seen c.args.canister.now) stands.counts c.in_ok-refusal.ensures.installed c.in_err-unless_refused.field-0.0 (sym c.in_err-unless_refused.ensures),
      ap (λ (x : StoredCanister). with_canister asked.canister_id (dropped (seen x)) s) same ∙ with_same s asked.canister_id a stands.found,
    ))

pub returns-clause-does : goal.returns-clause-does
returns-clause-does c = λ now s stands.
    let call = c.args.call.now in
    let asked = c.args.install in
    let a = dropped (seen c.args.canister.now) in
    let refusal = c.in_ok-refusal.refusal in
    let d = c.install_in.new.canister in
    let i = installation_of (record { canister = d; refusal = refusal; used = c.in_ok-refusal.field-0-1 }) in
    is_installed (enters_after system_api) c.args.env.limit (record now { time = c.args.env.time }) s call asked a (seen_code c.in_ok-code.code) c.in_ok-code.ensures
    (sym c.in_ok-unless_unsuited.ensures.suits) i (seen c.args.canister.now) stands.counts c.in_ok-refusal.ensures.installed (none_refused refusal c.in_ok-unless_refused.ensures)
    ∙ ap Ok (answers_only call c.in_ok-done.field-0 empty_reply call.cycles c.in_ok-done.ensures (with_canister asked.canister_id (dropped (seen d)) s))

pub returns-clause-counts : goal.returns-clause-counts
returns-clause-counts c = λ now is.
    let rest = c.in_ok-refusal.ensures.rest in
    same_true now c.args.install.canister_id (seen c.args.canister.now) (seen c.install_in.new.canister)
    (ap (λ (x : StoredCanister). x.contexts) rest) (ap (λ (x : StoredCanister). x.outstanding) rest) is
