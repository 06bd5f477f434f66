use Rattle.std.proofs.Common.{length, sym, ◌∙◌, arith}
use Rattle.std.proofs.lemmas.Bool.{eqb-true, eqb-false}
use Rattle.ic_queue_rounds.proofs.Roundings.{Rounding-more, Rounding-none, Rounding-all}
use Rattle.ic_queue_rounds.proofs.rounds.rounds_in_queues.Goals as goal

pub loop-made-preserved : goal.loop-made-preserved
loop-made-preserved g c =
    Rounding-more _ _ _ _ c.loop-made.world c.loop-made.invariant c.loop-made-test.true
    (λ none. eqb-false (length c.loop-made.world.messages) 0 (sym c.is_empty.ensures ∙ c.if-is_empty.false) none) c.in_ok-world.world c.in_ok-world.ensures

pub returns-then-is_empty-clause-state : goal.returns-then-is_empty-clause-state
returns-then-is_empty-clause-state g c =
    (Rounding-none _ _ _ _ c.loop-made.world c.loop-made.invariant (eqb-true (length c.loop-made.world.messages) 0 (sym c.is_empty.ensures ∙ c.if-is_empty.true))).0

pub returns-then-is_empty-clause-made : goal.returns-then-is_empty-clause-made
returns-then-is_empty-clause-made g c =
    (Rounding-none _ _ _ _ c.loop-made.world c.loop-made.invariant (eqb-true (length c.loop-made.world.messages) 0 (sym c.is_empty.ensures ∙ c.if-is_empty.true))).1

pub returns-clause-state : goal.returns-clause-state
returns-clause-state g c = (Rounding-all _ _ _ _ c.loop-made.world c.loop-made.invariant (omega arith)).0

pub returns-clause-made : goal.returns-clause-made
returns-clause-made g c = (Rounding-all _ _ _ _ c.loop-made.world c.loop-made.invariant (omega arith)).1
