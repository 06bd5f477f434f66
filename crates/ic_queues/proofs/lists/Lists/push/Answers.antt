use Rattle.std.proofs.Common.{◌≡◌, ℕ, sym, ap, ◌∙◌}
use Rattle.std.specs.Map.{lookup, keys_of}
use Rattle.std.specs.BTreeMap.{insert_entry}
use Rattle.std.specs.Ordering.{nat_cmp}
use Rattle.ic_behaviour.specs.State.{at}
use Rattle.ic_queues.specs.Shelved.{Shelved}
use Rattle.ic_queues.specs.Lines.{waiting_with, outside_with}
use Rattle.ic_queues.proofs.Entries.{insert_last}
use Rattle.ic_queues.proofs.Numbers.{all_above}
use Rattle.ic_queues.proofs.Queueing.{PushEnds, push_ends}
use Rattle.ic_queues.proofs.lists.Lists.push.Goals as goal

ends : (c : goal.In_ok-line_up)
    → PushEnds c.args.self.now.messages.entries c.args.self.now.waiting.entries c.args.message c.push.new.self.entries c.line_up.new.waiting.entries c.line_up.new.outside c.push.new.self.next
ends c =
    let before = c.args.self.now in
    let callee = c.callee-callee.result in
    let o = lookup (at callee) before.waiting.entries in
    let entries : c.push.new.self.entries ≡ insert_entry nat_cmp before.messages.entries before.messages.next c.args.message =
    ap (λ (s : Shelved). s.entries) c.in_ok-number.ensures.pushed
    ∙ sym (insert_last nat_cmp before.messages.next c.args.message before.messages.entries (all_above before.messages.next (keys_of before.messages.entries) c.requires.below)) in
    push_ends before.messages.entries before.waiting.entries before.outside before.messages.next c.args.message callee
    c.push.new.self.entries c.line_up.new.waiting.entries c.line_up.new.outside c.push.new.self.next
    c.requires c.callee-callee.ensures entries
    (c.in_ok-line_up.ensures.waiting ∙ ap (λ (n : ℕ). waiting_with before.waiting.entries callee n o) c.in_ok-number.ensures.number)
    (c.in_ok-line_up.ensures.outside ∙ ap (λ (n : ℕ). outside_with before.outside n o) c.in_ok-number.ensures.number)
    (ap (λ (s : Shelved). s.next) c.in_ok-number.ensures.pushed)

pub returns-clause-keeps : goal.returns-clause-keeps
returns-clause-keeps c = (ends c).queued

pub returns-clause-queues : goal.returns-clause-queues
returns-clause-queues c = (ends c).queues
