use Rattle.std.proofs.Common.{◌≡◌, ℕ, ◌+◌, ◌<◌, List, [], ◌∷◌, length, get_or, drop, drop_of_length-le, sym, ap, ◌∙◌, subst, arith}
use Rattle.std.proofs.lemmas.List.{drop_more, length_push}
use Rattle.std.proofs.lemmas.Iterator.Consumers.{YieldsList-turn, YieldsList-end}
use Rattle.std.proofs.lemmas.Iterator.Adapters.{YieldsList-from_vec}
use Rattle.ic_behaviour.specs.declared.call.Message.{Message}
use Rattle.ic_state.specs.declared.world.Parts.{Parts}
use Rattle.ic_state.specs.IsWorld.{IsWorld}
use Rattle.ic_mgmt.specs.Sweeping.{among, Reaches}
use Rattle.ic_mgmt.proofs.Sweeps.{reaches_start}
use Rattle.ic_mgmt.proofs.second.all_met.Goals as goal

-- those to come, and the one that is met
next_of : (items all yielded : List Message) (m : Message) → items ≡ all → (length yielded < length items) × (m ≡ get_or items (length yielded) m)
    → drop (length yielded) all ≡ m ∷ drop (length yielded + 1) all
next_of items all yielded m same here =
    subst (λ (l : List Message). drop (length yielded) l ≡ m ∷ drop (length yielded + 1) l) same
    (drop_more items (length yielded) m here.0 ∙ ap (λ x. x ∷ drop (length yielded + 1) items) (sym here.1))

pub loop-message-init : goal.loop-message-init
loop-message-init c = record {
  reaches =
      subst (λ (kept : List Message). Reaches c.args.limit c.args.parts kept c.args.parts.messages c.start-sweep.result.rest c.start-sweep.result.handled) (sym c.start-sweep.ensures.kept)
      (subst (λ (rest : Parts). Reaches c.args.limit c.args.parts [] c.args.parts.messages rest c.start-sweep.result.handled) (sym (c.start-sweep.ensures.rest ∙ c.taken_apart-rest.ensures.rest))
      (subst (λ (n : ℕ). Reaches c.args.limit c.args.parts [] c.args.parts.messages (record c.args.parts { messages = [] }) n) (sym c.start-sweep.ensures.handled)
      (reaches_start c.args.limit c.args.parts c.requires.keeps)));
  ways = c.start-sweep.ensures.ways;
  few = omega (arith, c.start-sweep.ensures.handled);
}

pub meet-requires-clause-next : goal.meet-requires-clause-next
meet-requires-clause-next c =
    let gives = c.into_iter-message-iterator.ensures.into_iter_gives in
    let road = YieldsList-from_vec {s = c.into_iter-message-iterator.result} c.messages.inside.items.items gives.0 (gives.1 ∙ c.messages.inside.items.ok.0) in
    let here = YieldsList-turn road c.loop-message.yielded c.loop-message.message-iterator c.loop-message.yielded_by c.next.result c.next.new.self c.in-Some.message c.in-Some.is c.next.ensures.steps in
    let turn = next_of c.messages.inside.items.items c.args.parts.messages c.loop-message.yielded c.in-Some.message (c.messages.view_is ∙ c.taken_apart-rest.ensures.messages) here in (
      drop (length c.loop-message.yielded + 1) c.args.parts.messages,
      subst (λ (todo : List Message). IsWorld (among c.loop-message.sweep.kept todo c.loop-message.sweep.rest)) turn c.loop-message.invariant.reaches.keeps,
    )

pub loop-message-preserved : goal.loop-message-preserved
loop-message-preserved c =
    let gives = c.into_iter-message-iterator.ensures.into_iter_gives in
    let road = YieldsList-from_vec {s = c.into_iter-message-iterator.result} c.messages.inside.items.items gives.0 (gives.1 ∙ c.messages.inside.items.ok.0) in
    let here = YieldsList-turn road c.loop-message.yielded c.loop-message.message-iterator c.loop-message.yielded_by c.next.result c.next.new.self c.in-Some.message c.in-Some.is c.next.ensures.steps in
    let turn = next_of c.messages.inside.items.items c.args.parts.messages c.loop-message.yielded c.in-Some.message (c.messages.view_is ∙ c.taken_apart-rest.ensures.messages) here in
    let so_far = subst (λ (todo : List Message). Reaches c.args.limit c.args.parts c.loop-message.sweep.kept todo c.loop-message.sweep.rest c.loop-message.sweep.handled) turn c.loop-message.invariant.reaches in
    let longer = length_push c.loop-message.yielded c.in-Some.message in
    record {
      reaches = subst (λ (n : ℕ). Reaches c.args.limit c.args.parts c.in_ok-sweep.sweep.kept (drop n c.args.parts.messages) c.in_ok-sweep.sweep.rest c.in_ok-sweep.sweep.handled) (sym longer)
          (c.in_ok-sweep.ensures.reaches c.args.parts (drop (length c.loop-message.yielded + 1) c.args.parts.messages) so_far);
      ways = c.in_ok-sweep.ensures.ways;
      few = omega (arith, longer, c.in_ok-sweep.ensures.few, c.loop-message.invariant.few);
    }

pub returns-clause-reaches : goal.returns-clause-reaches
returns-clause-reaches c =
    let gives = c.into_iter-message-iterator.ensures.into_iter_gives in
    let all : c.messages.inside.items.items ≡ c.args.parts.messages = c.messages.view_is ∙ c.taken_apart-rest.ensures.messages in
    let road = YieldsList-from_vec {s = c.into_iter-message-iterator.result} c.messages.inside.items.items gives.0 (gives.1 ∙ c.messages.inside.items.ok.0) in
    let end = YieldsList-end road c.loop-message.yielded c.loop-message.message-iterator c.loop-message.yielded_by c.next.result c.next.new.self c.in-None.is c.next.ensures.steps in
    let over : drop (length c.loop-message.yielded) c.args.parts.messages ≡ [] = drop_of_length-le c.args.parts.messages (omega (arith, end.1, ap length all)) in
    subst (λ (todo : List Message). Reaches c.args.limit c.args.parts c.loop-message.sweep.kept todo c.loop-message.sweep.rest c.loop-message.sweep.handled) over c.loop-message.invariant.reaches
