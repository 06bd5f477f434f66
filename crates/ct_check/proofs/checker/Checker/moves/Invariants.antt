use Rattle.std.proofs.Common.{drop}
use Rattle.ct_check.specs.declared.statement.Where.TheVariants.{Interleave}
use Rattle.ct_check.specs.Holds.{all_checked, made_move}
use Rattle.ct_check.proofs.Loops.{Still}
use Rattle.ct_check.proofs.checker.Checker.moves.Given as goal

-- those before, and those that are left
abbrev pub invariant-loop-written : goal.invariant-loop-written
invariant-loop-written l = Still l.items.items (all_checked (made_move Interleave) l.self (drop l.written-index l.moves)) (all_checked (made_move Interleave) l.fn.self l.moves)
