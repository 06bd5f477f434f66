use Rattle.std.proofs.Common.{sym, ap, ◌∙◌, Some}
use Rattle.std.proofs.lemmas.Map.Steps.{set_value_same}
use Rattle.wm_store.specs.Held.{Held}
use Rattle.ic_behaviour.specs.State.{at}
use Rattle.ic_state.specs.declared.canister.Canister.{Canister}
use Rattle.ic_state.proofs.world.take_heard_in.Goals as goal

pub returns-in-Some : goal.returns-in-Some
returns-in-Some c =
    let lent = c.get_mut-in-Some.result.now in
    let same = ap (λ (s : Held). record lent { store = s }) c.take_heard.ensures ∙ c.get_mut-in-Some.ensures.canister in
    let w = record lent { store = c.take_heard.new.self } in
    (c.get_mut.follows.holds w).0
    ∙ set_value_same (at c.args.id.now) c.args.canisters.now.entries w (sym c.in-Some.ensures.value ∙ ap (λ (d : Canister). Some d) (sym same))
