-- What is said of the message after which contexts close. No standard has this.
use Rattle.std.specs.Prelude.{Option, Some, None}
use Rattle.wm_semantics.specs.declared.trap.Trap.{Trap}
use Rattle.ic_behaviour.specs.declared.call.CallId.{CallId}

-- the message's own context with its trap, where it trapped
abbrev pub trapped_in : Option CallId → Option Trap → Option (CallId × Trap)
trapped_in (Some own) (Some trap) = Some (own, trap)
trapped_in own trap = None
