use Rattle.std.proofs.Common.{◌≡◌, ◌+◌, ◌-◌, ◌≤◌, ◌^◌, refl, sym, ◌∙◌, subst}
use Rattle.std.specs.Prelude.{IfSome}
use Rattle.std.proofs.lemmas.Result.{err_from_is_err_and}
use Rattle.std.specs.Map.{set_value}
use Rattle.ic_behaviour.specs.State.{at}
use Rattle.ic_state.specs.declared.canister.Canister.{Canister}
use Rattle.ic_state.specs.Seen.{state_of}
use Rattle.ic_mgmt_laws.specs.Rows.{tops_up}
use Rattle.ic_mgmt.proofs.Refusals.{denied}
use Rattle.ic_mgmt.proofs.Worlds.{at_none, at_some}
use Rattle.ic_mgmt.proofs.Makes.{absent, present, few_is, balance_fits, granted_is, tops_up_is, keeps_granted}
use Rattle.ic_mgmt.proofs.moving.top_up.Goals as goal

pub returns-then-not-contains_key-clause-does : goal.returns-then-not-contains_key-clause-does
returns-then-not-contains_key-clause-does c =
    (at_none c.args.parts.now c.args.id (tops_up (state_of c.args.parts.now) c.args.call.now c.args.id c.args.amount) (absent _ (sym c.contains_key.ensures ∙ c.if-not-contains_key.true)), refl)

pub returns-in_err-unless_above-clause-does : goal.returns-in_err-unless_above-clause-does
returns-in_err-unless_above-clause-does c =
    let call = c.args.call.now in
    let s = state_of c.args.parts.now in
    let there = present _ (sym c.contains_key.ensures ∙ c.if-not-contains_key.false) in
    let p = err_from_is_err_and c.from_residual.result c.from_residual.ensures.1 in
    rw (p.1, p.2) (at_some c.args.parts.now c.args.id there.0 there.1 (tops_up s call c.args.id c.args.amount) ∙ denied _ _ _ c.in_err-unless_above.ensures, refl)

pub grant-requires : goal.grant-requires
grant-requires c =
    let there = present _ (sym c.contains_key.ensures ∙ c.if-not-contains_key.false) in
    record {
      room = subst (λ o. IfSome o (λ (d : Canister). d.balance + c.args.amount ≤ 2 ^ 127 - 1)) (sym there.1)
          (balance_fits c.args.parts.now c.args.id c.args.call.now.cycles c.requires.holds there.0 there.1 c.args.amount (few_is c.args.parts.now.created c.args.amount _ (sym c.in_ok-unless_above.ensures)));
    }

pub returns-clause-does : goal.returns-clause-does
returns-clause-does c =
    let call = c.args.call.now in
    let s = state_of c.args.parts.now in
    let es = c.args.parts.now.canisters.entries in
    let there = present _ (sym c.contains_key.ensures ∙ c.if-not-contains_key.false) in
    let set = subst (λ o. IfSome o (λ (d : Canister). c.grant.new.canisters.entries ≡ set_value (at c.args.id) es (record d { balance = d.balance + c.args.amount }))) there.1 c.grant.ensures in
    at_some c.args.parts.now c.args.id there.0 there.1 (tops_up s call c.args.id c.args.amount)
    ∙ tops_up_is call c.args.parts.now c.args.id there.0 c.grant.new.canisters c.args.amount _ c.in_ok-done.field-0 (sym c.in_ok-unless_above.ensures)
    (granted_is call c.args.parts.now c.args.id there.0 c.grant.new.canisters c.args.amount set) c.in_ok-done.ensures

pub returns-clause-keeps : goal.returns-clause-keeps
returns-clause-keeps c =
    let es = c.args.parts.now.canisters.entries in
    let there = present _ (sym c.contains_key.ensures ∙ c.if-not-contains_key.false) in
    let set = subst (λ o. IfSome o (λ (d : Canister). c.grant.new.canisters.entries ≡ set_value (at c.args.id) es (record d { balance = d.balance + c.args.amount }))) there.1 c.grant.ensures in
    keeps_granted c.args.parts.now c.args.id c.args.call.now.cycles c.requires.holds there.0 there.1 c.args.amount _ (few_is c.args.parts.now.created c.args.amount _ (sym c.in_ok-unless_above.ensures)) set
