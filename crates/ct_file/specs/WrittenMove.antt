-- What contracts see of a move of a test file.
use Rattle.std.specs.Prelude.{ℕ, List, Option}
use Rattle.ct_file.specs.declared.tree.Action.{Action}

-- an action, and the name after `as` of who does it
pub record WrittenMove : Type 0 where
  pub by : Option (List ℕ)
  pub action : Action
