use Rattle.std.proofs.Common.{ℕ, List, sym, ◌∙◌, subst}
use Rattle.std.specs.Prelude.{Err}
use Rattle.std.specs.List.{AllByRecursion}
use Rattle.std.specs.BTreeMap.{BTreeMap}
use Rattle.std.proofs.lemmas.Result.{IfOk-weaker}
use Rattle.ic_behaviour.specs.Installing.{enters_after}
use Rattle.ic_api.specs.System.{system_api}
use Rattle.ic_state.specs.declared.canister.Canister.{Canister}
use Rattle.ic_state.specs.Seen.{state_of}
use Rattle.ic_state.specs.IsCanister.{IsCanister}
use Rattle.ic_state.specs.IsWorld.{HasCounts}
use Rattle.ic_mgmt_candid.specs.declared.denial.Unmet.{Unmet}
use Rattle.ic_mgmt.specs.declared.ending.Ending.{Ending}
use Rattle.ic_mgmt.specs.Ending.{IfMemory, Does, Keeps}
use Rattle.ic_mgmt.specs.Changes.{obeyed}
use Rattle.ic_mgmt.proofs.Cycles.{holds}
use Rattle.ic_mgmt.proofs.Orders.{is_met, is_refused}
use Rattle.ic_mgmt.proofs.managing.carry_out.Goals as goal

pub obey-requires : goal.obey-requires
obey-requires c = record { holds = holds c.args.parts c.args.call c.requires.taken }

-- ---- the call is met

pub returns-in-Ok-clause-state : goal.returns-in-Ok-clause-state
returns-in-Ok-clause-state c = IfOk-weaker c.send.result _ _ (λ p sent now counts time.
    let s = state_of c.args.parts in
    sent ∙ is_met s (state_of c.obey.new.parts) c.args.call c.in-Ok.ending (obeyed (enters_after system_api) c.args.limit now s c.args.call) (c.in-Ok.ensures.does now counts time)) c.send.ensures.state

pub returns-in-Ok-clause-counts : goal.returns-in-Ok-clause-counts
returns-in-Ok-clause-counts c =
    IfOk-weaker c.send.result _ _
    (λ p same now counts. subst (λ (m : BTreeMap (List ℕ) Canister). AllByRecursion (HasCounts now) m.entries) (sym same) (c.in-Ok.ensures.keeps.counts now counts)) c.send.ensures.canisters

-- ---- it is refused

pub returns-in-Err-Denied-clause-state : goal.returns-in-Err-Denied-clause-state
returns-in-Err-Denied-clause-state c = IfOk-weaker c.send-in-Err-Denied.result _ _ (λ p sent now counts time.
    let s = state_of c.args.parts in
    let t = state_of c.obey.new.parts in
    let row = obeyed (enters_after system_api) c.args.limit now s c.args.call in
    let is = subst (λ (x : Unmet). Does (Err x) c.args.call s t row) c.in-Err-Denied.field-0-is (c.in-Err-Denied.ensures.does now counts time) in
    sent ∙ is_refused s t c.args.call c.in_ok-ending-in-Err-Denied.ending row c.in-Err-Denied.denial is c.in_ok-ending-in-Err-Denied.ensures) c.send-in-Err-Denied.ensures.state

pub returns-in-Err-Denied-clause-counts : goal.returns-in-Err-Denied-clause-counts
returns-in-Err-Denied-clause-counts c =
    let keeps = subst (λ (x : Unmet). IfMemory {A = Ending} (Err x) (Keeps c.args.parts c.obey.new.parts)) c.in-Err-Denied.field-0-is c.in-Err-Denied.ensures.keeps in
    IfOk-weaker c.send-in-Err-Denied.result _ _
    (λ p same now counts. subst (λ (m : BTreeMap (List ℕ) Canister). AllByRecursion (HasCounts now) m.entries) (sym same) (keeps.counts now counts)) c.send-in-Err-Denied.ensures.canisters

pub returns-in-Err-Denied-clause-keeps : goal.returns-in-Err-Denied-clause-keeps
returns-in-Err-Denied-clause-keeps c =
    let keeps = subst (λ (x : Unmet). IfMemory {A = Ending} (Err x) (Keeps c.args.parts c.obey.new.parts)) c.in-Err-Denied.field-0-is c.in-Err-Denied.ensures.keeps in
    IfOk-weaker c.send-in-Err-Denied.result _ _
    (λ p same. subst (λ (m : BTreeMap (List ℕ) Canister). AllByRecursion (λ (e : List ℕ × Canister). IsCanister e.1) m.entries) (sym same) keeps.canisters) c.send-in-Err-Denied.ensures.canisters
