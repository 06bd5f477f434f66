use Rattle.std.proofs.Common.{◌≡◌, ℕ, List, sym, ap, ◌∙◌, subst}
use Rattle.std.specs.List.Sorted.{IsStrictlySortedBy}
use Rattle.std.specs.Ordering.{nat_cmp}
use Rattle.std.specs.Map.{keys_of, values_of}
use Rattle.ic_queues.specs.Shelved.{Shelved}
use Rattle.ic_queues.specs.Lines.{IsQueued, is_out}
use Rattle.ic_behaviour.specs.declared.call.Message.{Message}
use Rattle.ic_queues.proofs.Places.{not-found}
use Rattle.ic_queues.proofs.Numbers.{numbers-rise}
use Rattle.ic_queues.proofs.Queueing.{LeaveEnds, leave_ends, line-rises}
use Rattle.ic_queues.proofs.lists.Lists.take_number.Goals as goal

pub leave_line-requires-clause-theirs : goal.leave_line-requires-clause-theirs
leave_line-requires-clause-theirs c = λ line found. line-rises c.args.self.now.messages.entries c.args.self.now.waiting.entries c.args.self.now.outside c.args.self.now.messages.next c.requires c.callee-callee.result line found

pub leave_line-requires-clause-others : goal.leave_line-requires-clause-others
leave_line-requires-clause-others c =
    subst (λ (l : List ℕ). IsStrictlySortedBy nat_cmp l) (sym c.requires.others) (numbers-rise (is_out (keys_of c.args.self.now.waiting.entries)) c.args.self.now.messages.entries c.requires.ordered)

ends : (c : goal.After-take-in-Some)
    → LeaveEnds c.args.self.now.messages.entries c.args.self.now.waiting.entries c.args.self.now.outside c.args.self.now.messages.next c.take.new.self.entries c.leave_line.new.waiting.entries c.leave_line.new.outside
ends c =
    let before = c.args.self.now in
    leave_ends before.messages.entries before.waiting.entries before.outside before.messages.next c.args.number c.in-Some.held c.callee-callee.result
    c.take.new.self.entries c.leave_line.new.waiting.entries c.leave_line.new.outside c.requires (sym c.take.ensures.message ∙ c.in-Some.is) c.callee-callee.ensures
    (ap (λ (s : Shelved). s.entries) c.take.ensures.rest) c.leave_line.ensures.waiting c.leave_line.ensures.outside

pub returns-in-Some-clause-keeps : goal.returns-in-Some-clause-keeps
returns-in-Some-clause-keeps c =
    subst (λ (n : ℕ). IsQueued c.take.new.self.entries c.leave_line.new.waiting.entries c.leave_line.new.outside n) (sym (ap (λ (s : Shelved). s.next) c.take.ensures.rest)) (ends c).queued

pub returns-in-Some-clause-messages : goal.returns-in-Some-clause-messages
returns-in-Some-clause-messages c = ap (λ (s : Shelved). values_of s.entries) c.take.ensures.rest

pub returns-in-Some-clause-rest : goal.returns-in-Some-clause-rest
returns-in-Some-clause-rest c = (ends c).rest

pub returns-in-None-clause-keeps : goal.returns-in-None-clause-keeps
returns-in-None-clause-keeps c =
    let before = c.args.self.now in
    let same = not-found c.args.number before.messages.entries (sym c.take.ensures.message ∙ c.in-None.is) in
    let entries : before.messages.entries ≡ c.take.new.self.entries = sym (ap (λ (s : Shelved). s.entries) c.take.ensures.rest ∙ same) in
    let next : before.messages.next ≡ c.take.new.self.next = sym (ap (λ (s : Shelved). s.next) c.take.ensures.rest) in
    subst (λ (n : ℕ). IsQueued c.take.new.self.entries before.waiting.entries before.outside n) next
    (subst (λ (l : List (ℕ × Message)). IsQueued l before.waiting.entries before.outside before.messages.next) entries c.requires)
