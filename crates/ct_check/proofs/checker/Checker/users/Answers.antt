use Rattle.std.proofs.Common.{◌+◌, drop, arith}
use Rattle.std.proofs.lemmas.Result.{err_from_is_err_and}
use Rattle.ct_check.specs.Holds.{user}
use Rattle.ct_check.proofs.Loops.{there, past, at_end, at_fault, goes_on}
use Rattle.ct_check.proofs.checker.Checker.users.Goals as goal

pub returns-in_err-user : goal.returns-in_err-user
returns-in_err-user c =
    let p = err_from_is_err_and c.from_residual.result c.from_residual.ensures.1 in
    let all = c.args.users.now in
    rw (p.1, p.2) (at_fault c.in_err-user.field-0.0 user c.loop-user.items.items c.loop-user.self (drop c.loop-user.user-index all) c.user-item.result (drop (c.loop-user.user-index + 1) all) _
    (there all c.loop-user.user-index c.user-item.result c.loop-user-test.true c.user-item.is) c.in_err-user.ensures c.loop-user.invariant)

pub loop-user-preserved : goal.loop-user-preserved
loop-user-preserved c =
    let all = c.args.users.now in
    rw c.in_ok-push.ensures.items (goes_on user c.loop-user.items.items c.loop-user.self c.user.new.self (drop c.loop-user.user-index all) c.user-item.result (drop (c.loop-user.user-index + 1) all) _ _
    (there all c.loop-user.user-index c.user-item.result c.loop-user-test.true c.user-item.is) c.in_ok-user.ensures c.loop-user.invariant)

pub returns : goal.returns
returns c =
    let all = c.args.users.now in
    at_end user c.loop-user.items.items c.loop-user.self (drop c.loop-user.user-index all) _ (past all c.loop-user.user-index (omega (arith, c.loop-user-test.false))) c.loop-user.invariant
