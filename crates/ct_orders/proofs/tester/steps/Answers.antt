use Rattle.std.proofs.Common.{[], ◌∷◌, None, drop, sym, subst}
use Rattle.std.specs.List.{AllByRecursion}
use Rattle.std.proofs.lemmas.List.{drop_all}
use Rattle.ct_cases.specs.Cases.{first_case, IsHeld}
use Rattle.ct_cases.proofs.Lists.{drop_there}
use Rattle.ct_orders.proofs.Stepping.{one_reached, at_first, still_on, stops_there, ended_so, all_ended}
use Rattle.ct_orders.proofs.tester.steps.Goals as goal

pub returns-then-is_none : goal.returns-then-is_none
returns-then-is_none g c = λ all so_far at.
    let none = rw c.if-is_none.true at c.is_none.ensures in
    ended_so c.args.tester.now.setting c.args.tester.now.most all c.args.steps.now (first_case c.args.world c.args.names ∷ []) None _ none so_far c.passed.ensures

pub loop-place-init : goal.loop-place-init
loop-place-init g c = record {
  held = subst (AllByRecursion (IsHeld c.first.new.self)) (sym c.in_ok-course.ensures.cases) (c.in_ok-first.ensures.held, tt);
  still =
      at_first c.args.tester.now.setting c.args.tester.now.most c.args.steps.now (first_case c.args.world c.args.names ∷ []) c.args.before c.first.new.self c.in_ok-course.course.cases.items c.in_ok-course.course.undecided
      (one_reached c.first.new.self c.in_ok-course.course.cases.items c.in_ok-first.first (first_case c.args.world c.args.names) c.in_ok-course.ensures.cases c.in_ok-first.ensures.case) c.in_ok-course.ensures.undecided;
}

pub loop-place-preserved : goal.loop-place-preserved
loop-place-preserved g c =
    let parts = c.args.steps.now in
    let start = first_case c.args.world c.args.names ∷ [] in
    let split = drop_there parts c.loop-place.place c.index-steps-place.result c.loop-place-test.true c.index-steps-place.is in
    let held = rw c.in-On.is at c.in_ok-next.ensures.held in
    record {
      held = held;
      still =
          still_on c.args.tester.now.setting c.args.tester.now.most parts start c.args.before c.loop-place.tables c.part.new.tables c.loop-place.place c.index-steps-place.result c.loop-place-test.true split c.loop-place.course.cases.items
          c.loop-place.course.undecided c.loop-place.invariant.still _ c.in_ok-next.ensures.next c.in-On.next c.in-On.is;
    }

pub returns-in-Fails : goal.returns-in-Fails
returns-in-Fails g c = λ all so_far at.
    let parts = c.args.steps.now in
    let start = first_case c.args.world c.args.names ∷ [] in
    let split = drop_there parts c.loop-place.place c.index-steps-place.result c.loop-place-test.true c.index-steps-place.is in
    c.ended_at.ensures c.args.tester.now.setting c.args.tester.now.most all
    (stops_there c.args.tester.now.setting c.args.tester.now.most parts start c.args.before c.loop-place.tables c.part.new.tables c.loop-place.place c.index-steps-place.result c.loop-place-test.true split c.loop-place.course.cases.items
    c.loop-place.course.undecided c.loop-place.invariant.still _ c.in_ok-next.ensures.next c.in-Fails.failing c.in-Fails.is all so_far at)

pub returns : goal.returns
returns g c =
    all_ended c.args.tester.now.setting c.args.tester.now.most c.args.steps.now (drop c.loop-place.place c.args.steps.now) (first_case c.args.world c.args.names ∷ []) c.loop-place.tables c.loop-place.course c.args.before
    c.ended.result (drop_all c.loop-place.place c.args.steps.now c.loop-place-test.false) c.loop-place.invariant.still c.ended.ensures
