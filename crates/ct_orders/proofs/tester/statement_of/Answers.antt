use Rattle.ct_orders.proofs.Stepping.{statement_next, statement_stops}
use Rattle.ct_orders.proofs.tester.statement_of.Goals as goal

pub returns-in-On-clause-held : goal.returns-in-On-clause-held
returns-in-On-clause-held g c = let goes = rw c.in-On.is at c.in_ok-failing.ensures.goes in goes.0

pub returns-in-On-clause-next : goal.returns-in-On-clause-next
returns-in-On-clause-next g c = λ steps left place so_far at.
    let goes = rw c.in-On.is at c.in_ok-failing.ensures.goes in
    statement_next c.args.tester.now.setting c.args.tester.now.most steps left c.args.tables.now c.statement.new.tables c.args.course.cases.items c.args.statement.now c.args.course.undecided so_far
    c.one_meeting.ensures c.in-On.cases.items goes

pub returns-in-Fails-clause-next : goal.returns-in-Fails-clause-next
returns-in-Fails-clause-next g c = λ steps left place so_far at.
    let goes = rw c.in-Fails.is at c.in_ok-failing.ensures.goes in
    statement_stops c.args.tester.now.setting c.args.tester.now.most steps left c.args.tables.now c.statement.new.tables c.args.course.cases.items c.args.statement.now c.args.course.undecided so_far
    c.in-Fails.failing place goes at
