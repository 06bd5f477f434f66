use Rattle.std.proofs.Common.{◌≡◌, ℕ, Some, sym, ap, ◌∙◌, subst, rules}
use Rattle.std.specs.Prelude.{Ok, Err}
use Rattle.ic_behaviour.specs.State.{Canister, State}
use Rattle.ic_behaviour.specs.Installing.{enters_after}
use Rattle.ic_api.specs.System.{system_api}
use Rattle.ic_state.specs.declared.canister.Canister.{Canister as StoredCanister}
use Rattle.ic_state.specs.Seen.{state_of}
use Rattle.ic_mgmt_candid.specs.declared.demand.Demand.{Demand}
use Rattle.ic_mgmt_candid.specs.declared.denial.Denial.TheVariants.{NoCanister}
use Rattle.ic_mgmt_candid.specs.declared.denial.Unmet.TheVariants.{Denied}
use Rattle.ic_mgmt_laws.specs.Rows.{provisional_creates, at_canister}
use Rattle.ic_mgmt.specs.Ending.{Does}
use Rattle.ic_mgmt.specs.Changes.{changes}
use Rattle.ic_mgmt.proofs.Orders.{amount_is, obeys, row_at}
use Rattle.ic_mgmt.proofs.Refusals.{both_memory}
use Rattle.ic_mgmt.proofs.Worlds.{at_none, is_canister, has_room, keeps_set, does_set}
use Rattle.ic_mgmt.proofs.managing.obey.Goals as goal

pub returns-in-CreateCanister-clause-does : goal.returns-in-CreateCanister-clause-does
returns-in-CreateCanister-clause-does c = λ now counts time.
    obeys c.create.result c.args.call.now c.args.limit now (state_of c.args.parts.now) (state_of c.create.new.parts) _ (c.in_ok-demand.ensures ∙ ap (λ (d : Demand). Ok d) c.in-CreateCanister.is) c.create.ensures.does

pub returns-in-ProvisionalCreateCanisterWithCycles-clause-does : goal.returns-in-ProvisionalCreateCanisterWithCycles-clause-does
returns-in-ProvisionalCreateCanisterWithCycles-clause-does c = λ now counts time.
    let r = c.provisional_create.result in
    let call = c.args.call.now in
    let s = state_of c.args.parts.now in
    let t = state_of c.provisional_create.new.parts in
    let p = c.in-ProvisionalCreateCanisterWithCycles in
    let amount = c.unwrap_or-amount.ensures ∙ amount_is p.amount in
    obeys r call c.args.limit now s t _ (c.in_ok-demand.ensures ∙ ap (λ (d : Demand). Ok d) p.is) (subst (λ (n : ℕ). Does r call s t (provisional_creates s call n p.controllers)) amount c.provisional_create.ensures.does)

pub returns-in-ProvisionalTopUpCanister-clause-does : goal.returns-in-ProvisionalTopUpCanister-clause-does
returns-in-ProvisionalTopUpCanister-clause-does c = λ now counts time.
    obeys c.top_up.result c.args.call.now c.args.limit now (state_of c.args.parts.now) (state_of c.top_up.new.parts) _ (c.in_ok-demand.ensures ∙ ap (λ (d : Demand). Ok d) c.in-ProvisionalTopUpCanister.is) c.top_up.ensures.does

pub returns-in-DeleteCanister-clause-does : goal.returns-in-DeleteCanister-clause-does
returns-in-DeleteCanister-clause-does c = λ now counts time.
    obeys c.delete.result c.args.call.now c.args.limit now (state_of c.args.parts.now) (state_of c.delete.new.parts) _ (c.in_ok-demand.ensures ∙ ap (λ (d : Demand). Ok d) c.in-DeleteCanister.is) c.delete.ensures.does

-- ---- at a canister

pub change-requires-clause-keeps : goal.change-requires-clause-keeps
change-requires-clause-keeps c =
    let found = sym c.in-Some-get_mut.ensures.value ∙ ap (λ (d : StoredCanister). Some d) (sym c.get_mut-in-Some-get_mut.ensures.canister) in
    is_canister c.args.parts.now c.in-Some.id c.get_mut-in-Some-get_mut.result.now found c.requires.holds.canisters

pub change-requires-clause-room : goal.change-requires-clause-room
change-requires-clause-room c =
    let found = sym c.in-Some-get_mut.ensures.value ∙ ap (λ (d : StoredCanister). Some d) (sym c.get_mut-in-Some-get_mut.ensures.canister) in
    has_room c.args.parts.now c.in-Some.id c.get_mut-in-Some-get_mut.result.now found c.args.call.now.cycles c.requires.holds

pub returns-in-Some-get_mut-clause-does : goal.returns-in-Some-get_mut-clause-does
returns-in-Some-get_mut-clause-does c = λ now counts time.
    let call = c.args.call.now in
    let p = c.args.parts.now in
    let s = state_of p in
    let id = c.in-Some.id in
    let asked = c.in_ok-demand.demand in
    let found = sym c.in-Some-get_mut.ensures.value ∙ ap (λ (d : StoredCanister). Some d) (sym c.get_mut-in-Some-get_mut.ensures.canister) in
    let d = c.change.new.canister in
    let t = state_of (record p { canisters = c.get_mut.follows.lender d }) in
    let rows = λ (time : ℕ) (now s : State) (a : Canister). changes (enters_after system_api) c.args.limit (record now { time = time }) s call id asked a in
    let does = does_set p id c.get_mut-in-Some-get_mut.result.now found d (c.get_mut.follows.lender d) (c.get_mut.follows.holds d).0 c.change.result call (rows p.time) c.change.ensures.does now counts in
    let there = subst (λ (u : ℕ). Does c.change.result call s t (at_canister s id (rows u now s))) (sym time) does in
    obeys c.change.result call c.args.limit now s t asked c.in_ok-demand.ensures
    (subst (Does c.change.result call s t) (sym (row_at (enters_after system_api) c.args.limit now s call id asked (sym c.target.ensures ∙ c.in-Some.is))) there)

pub returns-in-Some-get_mut-clause-keeps : goal.returns-in-Some-get_mut-clause-keeps
returns-in-Some-get_mut-clause-keeps c =
    let p = c.args.parts.now in
    let found = sym c.in-Some-get_mut.ensures.value ∙ ap (λ (d : StoredCanister). Some d) (sym c.get_mut-in-Some-get_mut.ensures.canister) in
    let d = c.change.new.canister in
    both_memory c.change.result _ _ _
    (λ is kept. keeps_set p c.in-Some.id c.get_mut-in-Some-get_mut.result.now found d (record p { canisters = c.get_mut.follows.lender d }) (c.get_mut.follows.holds d).0 c.requires.holds.canisters is kept)
    c.change.ensures.keeps c.change.ensures.counts

pub returns-in-None-clause-does : goal.returns-in-None-clause-does
returns-in-None-clause-does c = λ now counts time.
    let call = c.args.call.now in
    let s = state_of c.args.parts.now in
    let asked = c.in_ok-demand.demand in
    let is = row_at (enters_after system_api) c.args.limit now s call c.in-Some.id asked (sym c.target.ensures ∙ c.in-Some.is) in
    let none = is ∙ at_none c.args.parts.now c.in-Some.id (changes (enters_after system_api) c.args.limit now s call c.in-Some.id asked) (sym c.in-None.ensures.value) in
    let p = c.args.parts.now in
    let same : c.get_mut.follows.lender-at-none ≡ p.canisters = search rules in
    obeys (Err (Denied (NoCanister c.in-Some.id))) call c.args.limit now s (state_of (record p { canisters = c.get_mut.follows.lender-at-none })) asked c.in_ok-demand.ensures
    (none, ap (λ m. state_of (record p { canisters = m })) same)
