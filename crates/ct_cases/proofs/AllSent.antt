-- A test that is told anew: its calls are as many as its moves.
use Rattle.std.proofs.Common.{◌≡◌, ℕ, ◌≤◌, false, List, length, Option, Some, None, arith}
use Rattle.std.specs.Prelude.{is_some}
use Rattle.ic_behaviour.specs.State.{State}
use Rattle.ct_check.specs.Moving.{Moving}
use Rattle.ct_outcomes.specs.declared.named.Named.{Named}
use Rattle.ct_run.specs.Statements.{Setting}
use Rattle.ct_cases.specs.declared.submitting.Unsent.{Unsent}
use Rattle.ct_cases.specs.Answers.{AreSent}
use Rattle.ct_cases.proofs.Moves.{submitted_length}

-- where all moves are submitted, there is a number of each, or none
pub all_sent : (setting : Setting) (names : List Named) (s t : State) (moves : List Moving) (numbers : List (Option ℕ)) (unsent : Option Unsent)
    → AreSent setting names s moves numbers t unsent → is_some unsent ≡ false → length moves ≤ length numbers
all_sent setting names s t moves numbers None sent is = omega (arith, submitted_length setting names s t moves numbers sent)
all_sent setting names s t moves numbers (Some u) sent is = absurd cc
