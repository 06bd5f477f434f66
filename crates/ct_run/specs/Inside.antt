-- Whether a message is to a canister.
use Rattle.std.specs.Prelude.{Bool, false, Option, Some, None, is_some}
use Rattle.std.specs.Map.{lookup}
use Rattle.ic_behaviour.specs.declared.call.Message.{Message}
use Rattle.ic_behaviour.specs.State.{at, callee_of, State}

abbrev pub is_inside : State → Option Message → Bool
is_inside s None = false
is_inside s (Some m) = is_some (lookup (at (callee_of m)) s.canisters)
