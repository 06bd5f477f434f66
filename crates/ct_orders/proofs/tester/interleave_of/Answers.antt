use Rattle.std.proofs.Common.{List, sym, subst}
use Rattle.ct_cases.specs.declared.case.Case.{Case}
use Rattle.ct_cases.specs.Cases.{all_reached}
use Rattle.ct_cases.specs.Answers.{IsInterleaved}
use Rattle.ct_orders.specs.Course.{IsSoFar}
use Rattle.ct_orders.proofs.Stepping.{no_cases, interleave_next, interleave_fails}
use Rattle.ct_orders.proofs.tester.interleave_of.Goals as goal

pub returns-then-has_none-clause-next : goal.returns-then-has_none-clause-next
returns-then-has_none-clause-next g c = λ steps left so_far at.
    let none = rw c.if-has_none.true at c.has_none.ensures in
    no_cases c.args.tester.now.setting c.args.tester.now.most steps left c.args.tables.now c.args.course.cases.items c.args.interleave.now c.args.course.undecided none so_far

pub returns-in-Some-clause-next : goal.returns-in-Some-clause-next
returns-in-Some-clause-next g c = λ steps left so_far at.
    let setting = c.args.tester.now.setting in
    let most = c.args.tester.now.most in
    let new = c.interleave.new.tables in
    let of = c.in_ok-cases.field-0 in
    let done =
    subst (λ (cs : List Case). IsInterleaved setting most c.args.tables.now new cs c.args.interleave.now of.cases.items of.failing of.all) c.deref.ensures.value c.in_ok-cases.ensures.interleaved in
    interleave_fails setting most steps left c.args.tables.now new c.args.course.cases.items of.cases.items c.args.interleave.now of.all c.args.course.undecided so_far
    of.failing c.in-Some.failing c.in-Some.is done c.args.part at

pub returns-clause-next : goal.returns-clause-next
returns-clause-next g c = λ steps left so_far at.
    let setting = c.args.tester.now.setting in
    let most = c.args.tester.now.most in
    let new = c.interleave.new.tables in
    let of = c.in_ok-cases.field-0 in
    let done =
    subst (λ (cs : List Case). IsInterleaved setting most c.args.tables.now new cs c.args.interleave.now of.cases.items of.failing of.all) c.deref.ensures.value c.in_ok-cases.ensures.interleaved in
    subst (IsSoFar setting most steps left (all_reached new of.cases.items)) (sym c.first_undecided.ensures)
    (interleave_next setting most steps left c.args.tables.now new c.args.course.cases.items of.cases.items c.args.interleave.now of.all c.args.course.undecided so_far
    of.failing c.in-None.is done _ at)
