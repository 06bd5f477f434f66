use Rattle.ct_cases.proofs.Judgements.{MovesSoFar}
use Rattle.ct_cases.proofs.tester.Tester.judge_moves.Given as goal

abbrev pub invariant-loop-place : goal.invariant-loop-place
invariant-loop-place g l = MovesSoFar l.self.setting l.fn.names l.fn.world l.moves l.accepted l.place l.world l.names l.bound.items
