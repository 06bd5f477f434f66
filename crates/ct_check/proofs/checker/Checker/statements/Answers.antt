use Rattle.std.proofs.Common.{◌+◌, drop, arith}
use Rattle.std.proofs.lemmas.Result.{err_from_is_err_and}
use Rattle.ct_check.specs.Holds.{statement}
use Rattle.ct_check.proofs.Loops.{there, past, at_end, at_fault, goes_on}
use Rattle.ct_check.proofs.checker.Checker.statements.Goals as goal

pub returns-in_err-statement : goal.returns-in_err-statement
returns-in_err-statement c =
    let p = err_from_is_err_and c.from_residual.result c.from_residual.ensures.1 in
    let all = c.args.statements.now in
    rw (p.1, p.2) (at_fault c.in_err-statement.field-0.0 statement c.loop-statement.items.items c.loop-statement.self (drop c.loop-statement.statement-index all) c.statement-item.result (drop (c.loop-statement.statement-index + 1) all) _
    (there all c.loop-statement.statement-index c.statement-item.result c.loop-statement-test.true c.statement-item.is) c.in_err-statement.ensures c.loop-statement.invariant)

pub loop-statement-preserved : goal.loop-statement-preserved
loop-statement-preserved c =
    let all = c.args.statements.now in
    rw c.in_ok-push.ensures.items (goes_on statement c.loop-statement.items.items c.loop-statement.self c.statement.new.self (drop c.loop-statement.statement-index all) c.statement-item.result (drop (c.loop-statement.statement-index + 1) all) _ _
    (there all c.loop-statement.statement-index c.statement-item.result c.loop-statement-test.true c.statement-item.is) c.in_ok-statement.ensures c.loop-statement.invariant)

pub returns : goal.returns
returns c =
    let all = c.args.statements.now in
    at_end statement c.loop-statement.items.items c.loop-statement.self (drop c.loop-statement.statement-index all) _ (past all c.loop-statement.statement-index (omega (arith, c.loop-statement-test.false))) c.loop-statement.invariant
