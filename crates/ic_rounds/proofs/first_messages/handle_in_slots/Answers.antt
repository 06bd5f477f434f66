use Rattle.std.proofs.Common.{◌≡◌, List, ℕ, map, length, refl, sym, ap, ◌∙◌, subst, arith}
use Rattle.std.specs.BTreeMap.{BTreeMap}
use Rattle.std.specs.List.{fold, AllByRecursion}
use Rattle.std.proofs.lemmas.Result.{IfOk-weaker}
use Rattle.ic_state.specs.declared.canister.Canister.{Canister}
use Rattle.ic_state.specs.declared.world.Parts.{Parts}
use Rattle.ic_state.specs.IsCanister.{IsCanister}
use Rattle.ic_rounds.specs.Dealing.{Dealing, deal, none_dealt, slots_of}
use Rattle.ic_rounds.specs.Slots.{seen_entry, stored_of, slot_of, after_slot, AreReady}
use Rattle.ic_rounds.proofs.Dealings.{count, idle_keep, in_their_places}
use Rattle.ic_rounds.proofs.InPlaces.{ready_too}
use Rattle.ic_rounds.proofs.first_messages.handle_in_slots.Goals as goal

pub handle_and_put_back-requires-clause-few : goal.handle_and_put_back-requires-clause-few
handle_and_put_back-requires-clause-few g c κs within =
    let p = c.args.parts in
    let es = p.canisters.entries in
    let firsts = c.args.firsts.items in
    let dealing = c.in_ok-deal_out.ensures ∙ ap (λ (m : BTreeMap (List ℕ) Canister). fold deal (none_dealt m.entries) firsts) c.replace-canisters.ensures.value in
    let slots : c.open-canisters.result.1.items ≡ slots_of es firsts = c.open-canisters.ensures.slots ∙ ap (λ (d : Dealing). d.slots) dealing in
    omega (arith, c.open-canisters.result.1.ok.0, ap length slots, count es firsts c.requires.firsts, c.args.firsts.ok.0, c.requires.few)

pub handle_and_put_back-requires-clause-ready : goal.handle_and_put_back-requires-clause-ready
handle_and_put_back-requires-clause-ready g c κs within =
    let p = c.args.parts in
    let es = p.canisters.entries in
    let firsts = c.args.firsts.items in
    let dealing = c.in_ok-deal_out.ensures ∙ ap (λ (m : BTreeMap (List ℕ) Canister). fold deal (none_dealt m.entries) firsts) c.replace-canisters.ensures.value in
    let slots : c.open-canisters.result.1.items ≡ slots_of es firsts = c.open-canisters.ensures.slots ∙ ap (λ (d : Dealing). d.slots) dealing in
    let q : Parts = record p { canisters = c.open-canisters.result.0 } in
    subst (AreReady c.args.env (stored_of q)) (sym slots) (ready_too c.args.env (stored_of p) (stored_of q) (slots_of es firsts) refl c.requires.ready)

pub handle_and_put_back-requires-clause-keep : goal.handle_and_put_back-requires-clause-keep
handle_and_put_back-requires-clause-keep g c κs within =
    let p = c.args.parts in
    let es = p.canisters.entries in
    let firsts = c.args.firsts.items in
    let dealing = c.in_ok-deal_out.ensures ∙ ap (λ (m : BTreeMap (List ℕ) Canister). fold deal (none_dealt m.entries) firsts) c.replace-canisters.ensures.value in
    let idle : c.open-canisters.result.0.entries ≡ (fold deal (none_dealt es) firsts).canisters = c.open-canisters.ensures.canisters ∙ ap (λ (d : Dealing). d.canisters) dealing in
    subst (AllByRecursion (λ (e : List ℕ × Canister). IsCanister e.1)) (sym idle) (idle_keep es firsts c.requires.firsts c.requires.keep)

pub returns-clause-stored : goal.returns-clause-stored
returns-clause-stored g c =
    let p = c.args.parts in
    let es = p.canisters.entries in
    let firsts = c.args.firsts.items in
    let dealing = c.in_ok-deal_out.ensures ∙ ap (λ (m : BTreeMap (List ℕ) Canister). fold deal (none_dealt m.entries) firsts) c.replace-canisters.ensures.value in
    let slots : c.open-canisters.result.1.items ≡ slots_of es firsts = c.open-canisters.ensures.slots ∙ ap (λ (d : Dealing). d.slots) dealing in
    let idle : c.open-canisters.result.0.entries ≡ (fold deal (none_dealt es) firsts).canisters = c.open-canisters.ensures.canisters ∙ ap (λ (d : Dealing). d.canisters) dealing in
    let w = stored_of p in
    IfOk-weaker c.handle_and_put_back.result _ _
    (λ q is. is ∙ (λ i. fold (after_slot c.args.env) (record w { canisters = map seen_entry (idle i) }) (map slot_of (slots i))) ∙ in_their_places es firsts c.requires.firsts c.args.env w refl)
    c.handle_and_put_back.ensures.stored
