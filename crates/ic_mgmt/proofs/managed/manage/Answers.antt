use Rattle.std.proofs.Common.{◌≡◌, suc, List, [], ◌∷◌, false, take, drop, sym, ap, ◌∙◌, subst}
use Rattle.std.specs.Prelude.{is_some}
use Rattle.std.specs.List.{remove}
use Rattle.std.specs.Map.{lookup}
use Rattle.ic_behaviour.specs.declared.call.Message.{Message}
use Rattle.ic_behaviour.specs.State.{at, callee_of, State}
use Rattle.ic_state.specs.declared.world.Parts.{Parts}
use Rattle.ic_state.specs.Seen.{state_of}
use Rattle.ic_state.specs.IsWorld.{IsWorld}
use Rattle.ic_behaviour.specs.Steps.{step}
use Rattle.ic_mgmt_laws.specs.Managed.{managed_rules}
use Rattle.ic_mgmt.specs.Sweeping.{among, Delivers}
use Rattle.ic_mgmt.proofs.Singles.{single, single_absent, single_met, single_keeps, single_state}
use Rattle.ic_mgmt.proofs.managed.manage.Goals as goal

pub deliver_outside-requires-clause-next : goal.deliver_outside-requires-clause-next
deliver_outside-requires-clause-next c =
    let p = c.open.result in
    let m = c.remove-message.result in
    let all : c.messages.inside.items.items ≡ p.messages = c.messages.view_is ∙ c.taken_apart-rest.ensures.messages in
    let it = single p c.args.world c.args.place m c.messages.inside.items.items c.open.ensures.state all c.requires.call c.remove-message.ensures.value in (
      take c.args.place p.messages,
      (
        drop (suc c.args.place) p.messages,
        subst (λ (r : Parts). IsWorld (among (take c.args.place p.messages) (m ∷ drop (suc c.args.place) p.messages) r)) (sym c.taken_apart-rest.ensures.rest)
            (single_met c.args.limit p c.args.place m it.is_m c.open.ensures.keeps),
      ),
    )

pub deliver_outside-requires-clause-absent : goal.deliver_outside-requires-clause-absent
deliver_outside-requires-clause-absent c =
    let p = c.open.result in
    let m = c.remove-message.result in
    let all : c.messages.inside.items.items ≡ p.messages = c.messages.view_is ∙ c.taken_apart-rest.ensures.messages in
    let it = single p c.args.world c.args.place m c.messages.inside.items.items c.open.ensures.state all c.requires.call c.remove-message.ensures.value in
    subst (λ (r : Parts). is_some (lookup (at (callee_of m)) r.canisters.entries) ≡ false) (sym c.taken_apart-rest.ensures.rest)
    (single_absent p c.args.place m c.open.ensures.keeps it)

pub seal-requires : goal.seal-requires
seal-requires c =
    let p = c.open.result in
    let m = c.remove-message.result in
    let all : c.messages.inside.items.items ≡ p.messages = c.messages.view_is ∙ c.taken_apart-rest.ensures.messages in
    let it = single p c.args.world c.args.place m c.messages.inside.items.items c.open.ensures.state all c.requires.call c.remove-message.ensures.value in
    let done = subst (λ (r : Parts). Delivers c.args.limit (take c.args.place p.messages) m (drop (suc c.args.place) p.messages) r c.in_ok-rest.rest) c.taken_apart-rest.ensures.rest
    (c.in_ok-rest.ensures (take c.args.place p.messages) (drop (suc c.args.place) p.messages) (subst (λ (r : Parts). IsWorld (among (take c.args.place p.messages) (m ∷ drop (suc c.args.place) p.messages) r)) (sym c.taken_apart-rest.ensures.rest)
    (single_met c.args.limit p c.args.place m it.is_m c.open.ensures.keeps))) in
    let left = c.remove-message.ensures.items ∙ ap (λ (l : List Message). remove l c.args.place) all in
    let parts = c.in_ok-parts.ensures ∙ ap (λ (l : List Message). among l [] c.in_ok-rest.rest) left in
    subst IsWorld (sym parts) (single_keeps c.args.limit p c.args.place m it.is_m c.in_ok-rest.rest done)

pub returns : goal.returns
returns c = λ price.
    let p = c.open.result in
    let m = c.remove-message.result in
    let all : c.messages.inside.items.items ≡ p.messages = c.messages.view_is ∙ c.taken_apart-rest.ensures.messages in
    let it = single p c.args.world c.args.place m c.messages.inside.items.items c.open.ensures.state all c.requires.call c.remove-message.ensures.value in
    let done = subst (λ (r : Parts). Delivers c.args.limit (take c.args.place p.messages) m (drop (suc c.args.place) p.messages) r c.in_ok-rest.rest) c.taken_apart-rest.ensures.rest
    (c.in_ok-rest.ensures (take c.args.place p.messages) (drop (suc c.args.place) p.messages) (subst (λ (r : Parts). IsWorld (among (take c.args.place p.messages) (m ∷ drop (suc c.args.place) p.messages) r)) (sym c.taken_apart-rest.ensures.rest)
    (single_met c.args.limit p c.args.place m it.is_m c.open.ensures.keeps))) in
    let left = c.remove-message.ensures.items ∙ ap (λ (l : List Message). remove l c.args.place) all in
    let parts = c.in_ok-parts.ensures ∙ ap (λ (l : List Message). among l [] c.in_ok-rest.rest) left in
    c.seal.ensures ∙ ap state_of parts ∙ single_state c.args.limit p c.args.place m it.is_m price c.in_ok-rest.rest done
    ∙ ap (λ (s : State). step (managed_rules c.args.limit price) s c.args.place) c.open.ensures.state
