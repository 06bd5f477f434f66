use Rattle.std.proofs.Common.{◌≡◌, ◌≤◌, ◌++◌, ◌∷◌, [], List, length, sym, ap, ◌∙◌, arith, append_assoc, drop_of_length-le}
use Rattle.ic_behaviour.specs.declared.call.Message.{Message}
use Rattle.ic_rounds.proofs.taken.put_before.Goals as goal

pub loop-message-preserved : goal.loop-message-preserved
loop-message-preserved c =
    ap (λ (l : List Message). c.pop.new.self.items ++ l) c.in_ok-push_front.ensures.items
    ∙ sym (append_assoc c.pop.new.self.items (c.in-Some.message ∷ []) c.loop-message.back.items)
    ∙ ap (λ (l : List Message). l ++ c.loop-message.back.items) (sym c.in-Some.ensures.items)
    ∙ c.loop-message.invariant

pub returns : goal.returns
returns c =
    let few : length c.loop-message.front.items ≤ 0 = omega (arith, c.in_default.ensures.cases.0, c.loop-message.front.ok.0) in
    let none : c.loop-message.front.items ≡ [] = drop_of_length-le c.loop-message.front.items few in
    ap (λ (l : List Message). l ++ c.loop-message.back.items) (sym none) ∙ c.loop-message.invariant
