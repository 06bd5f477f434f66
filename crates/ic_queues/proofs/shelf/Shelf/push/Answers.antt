use Rattle.std.proofs.Common.{◌≡◌, ◌<◌, refl, arith, ◌+◌, ◌⊎◌, inl, inr, length, ◌++◌, ◌∷◌, [], ap, ◌∙◌, rules}
use Rattle.ic_queues.specs.Shelved.{Shelved}
use Rattle.ic_queues.proofs.Shelves.{Pushed, pushed, few_messages}
use Rattle.ic_queues.proofs.shelf.Shelf.push.Goals.{then-self-len, else-self-len}
use Rattle.ic_queues.proofs.shelf.Shelf.push.Goals as goal

pub overflow_add-self : goal.overflow_add-self
overflow_add-self c =
    let small : c.in-Some.after < 18446744073709551616 = search rules in
    let next : c.in-Some.after ≡ c.self.inside.next + 1 = search rules in
    record { fits = omega (arith, small, next, c.self.invariant.numbers, c.self.invariant.counted, few_messages c.self.inside.first c.self.inside.places.items) }

full_is : (c : goal.After-self-3-1) → ((c.self.inside.full ≡ length c.self.inside.places.items) × (c.if-self-len.full ≡ c.self.inside.full + 1)) ⊎ (c.if-self-len.full ≡ c.self.inside.full)
full_is c = elim c.if-self-len.branch [
  | then-self-len w ↦ inl (w.if-self-len.true ∙ c.len.ensures ∙ c.self.inside.places.ok.0, w.full-is)
  | else-self-len w ↦ inr w.full-is
]

ends : (c : goal.After-self-3-1) → Pushed c.self.inside.first c.self.inside.next c.self.inside.count c.in-Some.after (c.self.inside.count + 1) c.if-self-len.full c.self.inside.places.items c.push_back.new.self.items c.args.message
ends c =
    pushed c.self.inside.first c.self.inside.next c.self.inside.count c.self.inside.full c.in-Some.after (c.self.inside.count + 1) c.if-self-len.full c.self.inside.places.items c.push_back.new.self.items c.args.message c.self.invariant
    c.in_ok-push_back.ensures.items (search rules) refl (full_is c)

pub invariant_of-self-2 : goal.invariant_of-self-2
invariant_of-self-2 c = (ends c).shelf

pub returns-clause-pushed : goal.returns-clause-pushed
returns-clause-pushed c =
    (ends c).view ∙ ap (λ (s : Shelved). record { entries = s.entries ++ (s.next, c.args.message) ∷ []; next = s.next + 1 }) c.self.view_is
