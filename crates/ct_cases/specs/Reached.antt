-- Cases as tests meet them.
use Rattle.std.specs.Prelude.{◌≡◌, ℕ, ◌<◌, List, length}
use Rattle.ic_behaviour.specs.State.{State}
use Rattle.ct_check.specs.Moving.{Moving}
use Rattle.ct_outcomes.specs.declared.named.Named.{Named}
use Rattle.ct_run.specs.Statements.{Setting}
use Rattle.ct_cases.specs.Interleaves.{AreSubmitted}
use Rattle.ct_cases.specs.Meanings.{Meaning, meaning_at}

-- a state, what names stand for in it, and the deliveries of interleaves that led there
pub record Reached : Type 0 where
  pub state : State
  pub names : List Named
  pub order : List ℕ

-- the moves of an interleave are submitted in a case: the state after it, and the number of what names stand for and of how the
-- moves were accepted
pub record IsBegun (setting : Setting) (moves : List Moving) (meanings : List Meaning) (c : Reached) (start : ℕ × State) : Type 0 where
  pub known : start.0 < length meanings
  pub names : (meaning_at meanings start.0).0 ≡ c.names
  pub submitted : AreSubmitted setting c.names c.state moves (meaning_at meanings start.0).1 start.1
