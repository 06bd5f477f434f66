use Rattle.std.proofs.Common.{[], ◌∷◌, drop}
use Rattle.ct_cases.specs.Cases.{AreHeld, first_case}
use Rattle.ct_orders.proofs.Stepping.{Still}
use Rattle.ct_orders.proofs.tester.steps.Given as goal

-- the test has come to the parts that are left
abbrev pub invariant-loop-place : goal.invariant-loop-place
invariant-loop-place g l = record {
  held : AreHeld l.tables l.course.cases.items;
  still : Still l.tester.setting l.tester.most l.steps (first_case l.fn.world l.fn.names ∷ []) l.before l.tables (drop l.place l.steps) l.course.cases.items l.course.undecided;
}
