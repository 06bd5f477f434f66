use Rattle.std.proofs.Common.{◌+◌, drop, arith}
use Rattle.std.proofs.lemmas.Result.{err_from_is_err_and}
use Rattle.ct_check.specs.Holds.{outcome}
use Rattle.ct_check.proofs.Loops.{there, past, at_end, at_fault, goes_on}
use Rattle.ct_check.proofs.checker.Checker.outcomes_of.Goals as goal

pub returns-in_err-outcome : goal.returns-in_err-outcome
returns-in_err-outcome c =
    let p = err_from_is_err_and c.from_residual.result c.from_residual.ensures.1 in
    let all = c.args.outcomes.now in
    rw (p.1, p.2) (at_fault c.in_err-outcome.field-0.0 (outcome c.args.lets c.args.at.now) c.loop-outcome.items.items c.loop-outcome.self (drop c.loop-outcome.outcome-index all) c.outcome-item.result (drop (c.loop-outcome.outcome-index + 1) all) _
    (there all c.loop-outcome.outcome-index c.outcome-item.result c.loop-outcome-test.true c.outcome-item.is) c.in_err-outcome.ensures c.loop-outcome.invariant)

pub loop-outcome-preserved : goal.loop-outcome-preserved
loop-outcome-preserved c =
    let all = c.args.outcomes.now in
    rw c.in_ok-push.ensures.items (goes_on (outcome c.args.lets c.args.at.now) c.loop-outcome.items.items c.loop-outcome.self c.outcome.new.self (drop c.loop-outcome.outcome-index all) c.outcome-item.result (drop (c.loop-outcome.outcome-index + 1) all) _ _
    (there all c.loop-outcome.outcome-index c.outcome-item.result c.loop-outcome-test.true c.outcome-item.is) c.in_ok-outcome.ensures c.loop-outcome.invariant)

pub returns : goal.returns
returns c =
    let all = c.args.outcomes.now in
    at_end (outcome c.args.lets c.args.at.now) c.loop-outcome.items.items c.loop-outcome.self (drop c.loop-outcome.outcome-index all) _ (past all c.loop-outcome.outcome-index (omega (arith, c.loop-outcome-test.false))) c.loop-outcome.invariant
