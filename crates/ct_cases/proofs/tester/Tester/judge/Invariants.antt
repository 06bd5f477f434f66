use Rattle.std.proofs.Common.{◌≡◌, ◌++◌}
use Rattle.ct_cases.specs.Cases.{AreMetBehind}
use Rattle.ct_cases.proofs.Finding.{FoundSoFar}
use Rattle.ct_cases.proofs.tester.Tester.judge.Given as goal

abbrev pub invariant-loop-case : goal.invariant-loop-case
invariant-loop-case g l = record {
  so_far : FoundSoFar l.self.setting l.moves l.fn.tables l.tables l.cases l.yielded l.ends.items l.failing l.judged;
  whole : l.fn.met.items ≡ l.yielded ++ l.case-iterator.rest.items;
  rest : AreMetBehind l.fn.tables l.moves l.case-iterator.rest.items;
}
