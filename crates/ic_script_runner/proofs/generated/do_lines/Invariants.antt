use Rattle.std.proofs.Common.{◌≡◌, ◌-◌, []}
use Rattle.ic_script_runner.proofs.Unprinted.{Walks}
use Rattle.ic_script_runner.proofs.generated.do_lines.Given as goal

abbrev pub invariant-loop-line : goal.invariant-loop-line
invariant-loop-line g l =
    Walks l.options l.fn.text l.source.left l.world l.lines × (l.source.failing ≡ [])

abbrev pub decreases-loop-line : goal.decreases-loop-line
decreases-loop-line g l = 268435456 - l.lines.offset
