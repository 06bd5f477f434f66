use Rattle.std.proofs.Common.{sym, ap, ◌∙◌, Some, ◌≡◌, subst}
use Rattle.ic_behaviour.proofs.Ties.{tallied}
use Rattle.ic_behaviour.specs.State.{callee_of}
use Rattle.ic_behaviour.specs.Counted.{CountedCanister, counted, dropped}
use Rattle.ic_behaviour.specs.Deliver.{deliver}
use Rattle.ic_run_laws.proofs.Counts.{counts_others, counts_own, own_stands}
use Rattle.ic_run_laws.proofs.laws.delivery_keeps_counts.Goals as goal

pub returns-clause-others : goal.returns-clause-others
returns-clause-others c = λ enters outside limit price s place m key b keeps out is is_m differs. counts_others enters keeps outside out limit price s place m (tallied s is) is_m key b differs

pub returns-clause-own : goal.returns-clause-own
returns-clause-own c = λ enters outside limit price s place m before after keeps out is is_m found is_after.
    subst (λ (b : CountedCanister). counted (deliver enters outside limit price s place) (callee_of m) (dropped b) ≡ b) (sym is_after) (counts_own enters keeps outside out limit price s place m (tallied s is) is_m before found)

pub returns-clause-stands : goal.returns-clause-stands
returns-clause-stands c = λ enters outside limit price s place m before after is_m found is_after.
    own_stands enters outside limit price s place m is_m before found ∙ ap (λ (b : CountedCanister). Some (dropped b)) (sym is_after)
