use Rattle.std.proofs.Common.{◌≡◌, take}
use Rattle.wm_typing.specs.Points as points
use Rattle.wm_typing.proofs.checker.Checker.take_all.Given as goal

abbrev pub invariant-loop-i : goal.invariant-loop-i
invariant-loop-i l =
    (points.take_all (take l.i l.types) l.self.point ≡ points.take_all l.types l.initial.self.point)
    × (l.self.around ≡ l.initial.self.around)
