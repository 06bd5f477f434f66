use Rattle.std.proofs.Common.{◌≡◌, drop}
use Rattle.wm_typing.specs.Points as points
use Rattle.wm_typing.proofs.checker.Checker.give_all.Given as goal

abbrev pub invariant-loop-t : goal.invariant-loop-t
invariant-loop-t l =
    (points.give_all (drop l.t-index l.types) l.self.point ≡ points.give_all l.types l.initial.self.point)
    × (l.self.around ≡ l.initial.self.around)
