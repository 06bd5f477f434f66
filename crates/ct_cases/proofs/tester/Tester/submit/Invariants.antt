use Rattle.std.proofs.Common.{take}
use Rattle.ct_cases.specs.Interleaves.{AreSubmitted}
use Rattle.ct_cases.proofs.tester.Tester.submit.Given as goal

-- the moves so far are submitted
abbrev pub invariant-loop-place : goal.invariant-loop-place
invariant-loop-place g l = AreSubmitted l.self.setting l.names l.fn.world (take l.place l.moves) l.accepted.items l.world
