use Rattle.wm_valid.proofs.VisitLemmas.{visited_typed, visited_untyped, visited_deep}
use Rattle.wm_valid.proofs.bodies.visit.Goals as goal

pub returns-in-Ok-clause-visited : goal.returns-in-Ok-clause-visited
returns-in-Ok-clause-visited c =
    rw c.in_ok-push-in-Ok.ensures.items
    (visited_typed c.args.scope.now.«module».now c.args.number (c.args.function.index, c.args.function.code.now) c.requires.here c.args.untyped c.args.codes.now.items c.in-Ok.flat c.requires.before c.in-Ok.ensures.shallow c.in-Ok.ensures.typed c.in-Ok.ensures.suits)

pub returns-in-Err-Nesting-clause-faults : goal.returns-in-Err-Nesting-clause-faults
returns-in-Err-Nesting-clause-faults c =
    let fault = rw c.in-Err-Nesting.field-0-is at c.in-Err-Nesting.ensures.faults in
    visited_deep c.args.scope.now.«module».now c.args.number (c.args.function.index, c.args.function.code.now) c.requires.here c.args.untyped c.args.codes.now.items c.requires.before fault

pub returns-in-Err-Untyped-clause-visited : goal.returns-in-Err-Untyped-clause-visited
returns-in-Err-Untyped-clause-visited c =
    let fault = rw c.in-Err-Untyped.field-0-is at c.in-Err-Untyped.ensures.faults in
    rw c.or.ensures
    (visited_untyped c.args.scope.now.«module».now c.args.number (c.args.function.index, c.args.function.code.now) c.requires.here c.args.untyped c.args.codes.now.items c.requires.before fault.0 fault.1)
