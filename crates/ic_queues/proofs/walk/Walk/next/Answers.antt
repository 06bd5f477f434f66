use Rattle.std.proofs.Common.{◌<◌, ◌+◌, ℕ, List, length, drop, sym, ap, ◌∙◌, subst, arith, rules}
use Rattle.std.specs.List.{list_all}
use Rattle.std.specs.Map.{values_of}
use Rattle.std.proofs.lemmas.Bool.{false≢true}
use Rattle.ic_queues.specs.Queued.{Walked, GoesPast, Steps, is_inside}
use Rattle.ic_queues.specs.Walking.{IsWalked, coming}
use Rattle.ic_queues.proofs.Walks.{view, stays, leaves, over, popped-first, nothing_popped, number_below}
use Rattle.ic_queues.proofs.walk.Walk.next.Goals as goal

pub overflow_add-place : goal.overflow_add-place
overflow_add-place c =
    let l = c.self.inside.lists in
    let first = popped-first l.outside c.in-Some.number (sym c.pop.ensures.first ∙ c.in-Some.is) in
    let less = number_below _ l.messages.entries c.in-Some.number l.messages.next (drop 1 l.outside) c.self.inside.place c.self.invariant.below (sym c.self.invariant.ahead ∙ first) in
    let small : l.messages.next < 18446744073709551616 = search rules in
    record { fits = omega (arith, less, small) }

pub invariant_of-result : goal.invariant_of-result
invariant_of-result c =
    let l = c.self.inside.lists in
    let first = popped-first l.outside c.in-Some.number (sym c.pop.ensures.first ∙ c.in-Some.is) in
    let ends = stays l.messages.entries l.waiting.entries l.outside c.self.inside.stay l.messages.next c.self.inside.place c.self.invariant c.in-Some.number (drop 1 l.outside) first c.push.new.self
    (sym c.is_blocked.ensures ∙ c.if-is_blocked.true) c.in_ok-push-in-Some.ensures in
    subst (λ (ns : List ℕ). IsWalked l.messages.entries l.waiting.entries ns c.push.new.self l.messages.next (c.in-Some.number + 1)) (sym c.pop.ensures.rest) ends.walked

pub invariant_of-result-else-is_blocked : goal.invariant_of-result-else-is_blocked
invariant_of-result-else-is_blocked c =
    let l = c.self.inside.lists in
    let first = popped-first l.outside c.in-Some.number (sym c.pop.ensures.first ∙ c.in-Some.is) in
    let ends = leaves l.messages.entries l.waiting.entries l.outside c.self.inside.stay l.messages.next c.self.inside.place c.self.invariant c.in-Some.number (drop 1 l.outside) first
    c.taken_out-message.result c.taken_out-message.new.messages.entries (sym c.is_blocked.ensures ∙ c.if-is_blocked.false) c.taken_out-message.ensures.entries c.taken_out-message.ensures.message in
    subst (λ (ns : List ℕ). IsWalked c.taken_out-message.new.messages.entries l.waiting.entries ns c.self.inside.stay c.taken_out-message.new.messages.next c.in-Some.number) (sym c.pop.ensures.rest)
    (subst (λ (n : ℕ). IsWalked c.taken_out-message.new.messages.entries l.waiting.entries (drop 1 l.outside) c.self.inside.stay n c.in-Some.number) (sym c.taken_out-message.ensures.next) ends.walked)

pub returns-in_ok-push-in-Some-clause-steps : goal.returns-in_ok-push-in-Some-clause-steps
returns-in_ok-push-in-Some-clause-steps c =
    let l = c.self.inside.lists in
    let first = popped-first l.outside c.in-Some.number (sym c.pop.ensures.first ∙ c.in-Some.is) in
    let ends = stays l.messages.entries l.waiting.entries l.outside c.self.inside.stay l.messages.next c.self.inside.place c.self.invariant c.in-Some.number (drop 1 l.outside) first c.push.new.self
    (sym c.is_blocked.ensures ∙ c.if-is_blocked.true) c.in_ok-push-in-Some.ensures in
    subst (λ (w : Walked). GoesPast w (view l.messages.entries l.waiting.entries (c.in-Some.number + 1))) c.self.view_is ends.steps

pub returns-in_ok-push-in-Some-clause-fewer : goal.returns-in_ok-push-in-Some-clause-fewer
returns-in_ok-push-in-Some-clause-fewer c =
    let l = c.self.inside.lists in
    let first = popped-first l.outside c.in-Some.number (sym c.pop.ensures.first ∙ c.in-Some.is) in
    let ends = stays l.messages.entries l.waiting.entries l.outside c.self.inside.stay l.messages.next c.self.inside.place c.self.invariant c.in-Some.number (drop 1 l.outside) first c.push.new.self
    (sym c.is_blocked.ensures ∙ c.if-is_blocked.true) c.in_ok-push-in-Some.ensures in
    subst (λ (w : Walked). length (values_of (coming (c.in-Some.number + 1) l.messages.entries)) < length w.todo) c.self.view_is ends.fewer

pub returns-else-is_blocked-clause-steps : goal.returns-else-is_blocked-clause-steps
returns-else-is_blocked-clause-steps c =
    let l = c.self.inside.lists in
    let first = popped-first l.outside c.in-Some.number (sym c.pop.ensures.first ∙ c.in-Some.is) in
    let ends = leaves l.messages.entries l.waiting.entries l.outside c.self.inside.stay l.messages.next c.self.inside.place c.self.invariant c.in-Some.number (drop 1 l.outside) first
    c.taken_out-message.result c.taken_out-message.new.messages.entries (sym c.is_blocked.ensures ∙ c.if-is_blocked.false) c.taken_out-message.ensures.entries c.taken_out-message.ensures.message in
    subst (λ (w : Walked). Steps w (view c.taken_out-message.new.messages.entries l.waiting.entries c.in-Some.number) c.taken_out-message.result) c.self.view_is ends.steps

pub returns-else-is_blocked-clause-fewer : goal.returns-else-is_blocked-clause-fewer
returns-else-is_blocked-clause-fewer c =
    let l = c.self.inside.lists in
    let first = popped-first l.outside c.in-Some.number (sym c.pop.ensures.first ∙ c.in-Some.is) in
    let ends = leaves l.messages.entries l.waiting.entries l.outside c.self.inside.stay l.messages.next c.self.inside.place c.self.invariant c.in-Some.number (drop 1 l.outside) first
    c.taken_out-message.result c.taken_out-message.new.messages.entries (sym c.is_blocked.ensures ∙ c.if-is_blocked.false) c.taken_out-message.ensures.entries c.taken_out-message.ensures.message in
    subst (λ (w : Walked). length (values_of (coming c.in-Some.number c.taken_out-message.new.messages.entries)) < length w.todo) c.self.view_is ends.fewer

pub returns-in-None-clause-fewer : goal.returns-in-None-clause-fewer
returns-in-None-clause-fewer c =
    let l = c.self.inside.lists in
    let none = nothing_popped l.outside (sym c.pop.ensures.first ∙ c.in-None.is) in
    let all = over l.messages.entries l.waiting.entries l.outside c.self.inside.stay l.messages.next c.self.inside.place c.self.invariant in
    absurd (false≢true (sym c.requires.more ∙ sym (ap (λ (w : Walked). list_all (is_inside w.canisters) w.todo) c.self.view_is) ∙ sym all ∙ none))
