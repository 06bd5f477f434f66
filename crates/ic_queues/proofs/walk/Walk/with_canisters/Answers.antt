use Rattle.std.proofs.Common.{ℕ, List, sym, subst}
use Rattle.ic_queues.specs.Lines.{IsQueued}
use Rattle.ic_queues.specs.Walking.{IsWalked}
use Rattle.ic_queues.proofs.Walks.{joined-queues, parted-walk}
use Rattle.ic_queues.proofs.walk.Walk.with_canisters.Goals as goal

pub moved-requires-clause-queued : goal.moved-requires-clause-queued
moved-requires-clause-queued c =
    let l = c.self.inside.lists in
    subst (λ (ns : List ℕ). IsQueued l.messages.entries l.waiting.entries ns l.messages.next) (sym c.in_ok-append.ensures)
    (joined-queues l.messages.entries l.waiting.entries l.outside c.self.inside.stay l.messages.next c.self.inside.place c.self.invariant)

pub invariant_of-result : goal.invariant_of-result
invariant_of-result c =
    let all = c.in_ok-lists.lists in
    let parts = c.in_ok-lists-2.lists in
    let walked = parted-walk all.messages.entries all.waiting.entries all.outside parts.outside c.in_ok-lists-2.stay all.messages.next c.self.inside.place c.in_ok-lists.ensures.keeps
    c.in_ok-lists-2.ensures.ahead c.in_ok-lists-2.ensures.stay in
    subst (λ m. IsWalked m.entries parts.waiting.entries parts.outside c.in_ok-lists-2.stay m.next c.self.inside.place) (sym c.in_ok-lists-2.ensures.same.0)
    (subst (λ ws. IsWalked all.messages.entries ws.entries parts.outside c.in_ok-lists-2.stay all.messages.next c.self.inside.place) (sym c.in_ok-lists-2.ensures.same.1) walked)
