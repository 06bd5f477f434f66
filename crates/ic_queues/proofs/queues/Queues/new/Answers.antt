use Rattle.std.proofs.Common.{ℕ, sym, ap, subst}
use Rattle.ic_queues.specs.Lines.{IsQueued}
use Rattle.ic_queues.specs.Shelved.{Shelved}
use Rattle.ic_queues.proofs.Starts.{NewEnd, new_end}
use Rattle.ic_queues.proofs.queues.Queues.new.Goals as goal

ends : (c : goal.After-new-2) → NewEnd c.args.canisters.items c.in_ok-empty_lines.field-0.entries c.new.result.entries c.new-2.result
ends c =
    new_end c.args.canisters.items c.in_ok-empty_lines.field-0.entries c.new.result.entries c.new-2.result c.requires.rising c.in_ok-empty_lines.ensures (ap (λ (s : Shelved). s.entries) c.new.ensures) c.new-2.ensures

pub invariant_of-result : goal.invariant_of-result
invariant_of-result c =
    subst (λ (n : ℕ). IsQueued c.new.result.entries c.in_ok-empty_lines.field-0.entries c.new-2.result n) (sym (ap (λ (s : Shelved). s.next) c.new.ensures)) (ends c).queued

pub returns : goal.returns
returns c = (ends c).queues
