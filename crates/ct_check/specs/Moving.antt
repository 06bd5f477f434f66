-- What contracts see of a move of a checked file.
use Rattle.std.specs.Prelude.{ℕ}
use Rattle.ct_check.specs.declared.checked.CheckedAction.{CheckedAction}

-- an action, and the slot of who does it
pub record Moving : Type 0 where
  pub by : ℕ
  pub action : CheckedAction
