use Rattle.std.proofs.Common.{◌+◌, drop, arith}
use Rattle.std.proofs.lemmas.Result.{err_from_is_err_and}
use Rattle.ct_check.specs.declared.statement.Where.TheVariants.{Interleave}
use Rattle.ct_check.specs.Holds.{made_move}
use Rattle.ct_check.proofs.Loops.{there, past, at_end, at_fault, goes_on}
use Rattle.ct_check.proofs.checker.Checker.moves.Goals as goal

pub returns-in_err-made_move : goal.returns-in_err-made_move
returns-in_err-made_move c =
    let p = err_from_is_err_and c.from_residual.result c.from_residual.ensures.1 in
    let all = c.args.moves.now in
    rw (p.1, p.2) (at_fault c.in_err-made_move.field-0.0 (made_move Interleave) c.loop-written.items.items c.loop-written.self (drop c.loop-written.written-index all) c.written-item.result (drop (c.loop-written.written-index + 1) all) _
    (there all c.loop-written.written-index c.written-item.result c.loop-written-test.true c.written-item.is) c.in_err-made_move.ensures c.loop-written.invariant)

pub loop-written-preserved : goal.loop-written-preserved
loop-written-preserved c =
    let all = c.args.moves.now in
    rw c.in_ok-push.ensures.items (goes_on (made_move Interleave) c.loop-written.items.items c.loop-written.self c.made_move.new.self (drop c.loop-written.written-index all) c.written-item.result (drop (c.loop-written.written-index + 1) all) _ _
    (there all c.loop-written.written-index c.written-item.result c.loop-written-test.true c.written-item.is) c.in_ok-made_move.ensures c.loop-written.invariant)

pub returns : goal.returns
returns c =
    let all = c.args.moves.now in
    at_end (made_move Interleave) c.loop-written.items.items c.loop-written.self (drop c.loop-written.written-index all) _ (past all c.loop-written.written-index (omega (arith, c.loop-written-test.false))) c.loop-written.invariant
