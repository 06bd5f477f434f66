use Rattle.std.proofs.Common.{◌≡◌, ◌≤◌, length, take, None}
use Rattle.ct_cases.specs.Cases.{Grows}
use Rattle.ct_cases.specs.Answers.{AreStartedTo}
use Rattle.ct_cases.proofs.tester.Tester.start.Given as goal

abbrev pub invariant-loop-case : goal.invariant-loop-case
invariant-loop-case g l = record {
  grows : Grows l.fn.tables l.tables;
  few : l.submitted ≤ length l.moves;
  all : l.failing ≡ None → l.submitted ≡ length l.moves;
  started : AreStartedTo l.self.setting l.fn.tables l.tables (take l.case-index l.cases) l.moves l.starts.items l.submitted l.failing;
}
