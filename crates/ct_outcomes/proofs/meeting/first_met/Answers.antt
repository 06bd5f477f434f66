use Rattle.std.proofs.Common.{sym, ◌∙◌}
use Rattle.ct_outcomes.specs.Types.{types_at}
use Rattle.ct_outcomes.proofs.Found.{first_there, first_not}
use Rattle.ct_outcomes.proofs.meeting.first_met.Goals as goal

pub returns-then-is_some : goal.returns-then-is_some
returns-then-is_some c = λ came is.
    first_there (types_at c.args.at) c.args.names.now c.args.outcomes.now c.loop-outcome.outcome-index c.outcome-item.result came c.in_ok-bound.bound c.loop-outcome-test.true c.outcome-item.is (c.loop-outcome.invariant came is) (sym c.is_some.ensures ∙ c.if-is_some.true) (c.in_ok-bound.ensures came is)

pub loop-outcome-preserved : goal.loop-outcome-preserved
loop-outcome-preserved c = λ came is.
    first_not (types_at c.args.at) c.args.names.now c.args.outcomes.now c.loop-outcome.outcome-index c.outcome-item.result came c.in_ok-bound.bound c.loop-outcome-test.true c.outcome-item.is (c.loop-outcome.invariant came is) (sym c.is_some.ensures ∙ c.if-is_some.false) (c.in_ok-bound.ensures came is)
