use Rattle.std.proofs.Common.{◌≡◌, Some, map}
use Rattle.std.proofs.Math.Seq.{paste}
use Rattle.wm_instance.proofs.tables.lay.Given as goal

abbrev pub invariant-loop-place : goal.invariant-loop-place
invariant-loop-place l = l.table ≡ paste l.fn.table l.at (map (λ f. Some f) l.functions) l.place
