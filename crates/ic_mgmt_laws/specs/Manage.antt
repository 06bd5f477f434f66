-- A call to the management canister is delivered (IC Interface Specification, "The IC management canister").
use Rattle.std.specs.Prelude.{ℕ, List, [], ◌∷◌, Option, option_map, Result, Ok, Err}
use Rattle.std.specs.Map.{lookup}
use Rattle.ic_behaviour.specs.declared.call.Message.{Message}
use Rattle.ic_behaviour.specs.declared.call.Message.TheVariants.{Call, Answer}
use Rattle.ic_behaviour.specs.State.{at, Canister, State}
use Rattle.ic_behaviour.specs.Deliver.{Outside}
use Rattle.ic_behaviour.specs.Installing.{EntersAfter}
use Rattle.ic_mgmt_candid.specs.declared.denial.Denial.{Denial}
use Rattle.ic_mgmt_candid.specs.Checks.{◌>>=◌, ordered}
use Rattle.ic_mgmt_candid.specs.Denials.{denies}
use Rattle.ic_mgmt_laws.specs.Moves.{with_call, replied}
use Rattle.ic_behaviour.specs.declared.call.IncomingCall.{IncomingCall}
use Rattle.ic_mgmt_laws.specs.Rows.{row}

abbrev pub controllers_in : State → (id : List ℕ) → Option (List (List ℕ))
controllers_in s id = option_map (λ (c : Canister). c.controllers) (lookup (at id) s.canisters)

-- a refused call changes nothing, and all its cycles go back
abbrev pub ended : State → IncomingCall → Result State Denial → State
ended s call (Ok after) = after
ended s call (Err denial) = replied call (denies denial) s

-- the refusals that every method has come first, and then the method's own
abbrev pub handled : EntersAfter → (limit : ℕ) → (now : State) → State → IncomingCall → State
handled enters limit now s call = ended s call (do
  asked ← ordered (controllers_in s) call.origin call.sender call.method call.arg
  row enters limit now s call asked)

abbrev pub at_call : EntersAfter → (limit : ℕ) → State → IncomingCall → State
at_call enters limit s call = handled enters limit (with_call call s) s call

-- code that is installed runs with what is spent on one meter; the state is without the call, and no answer comes here
unfoldable pub manage : EntersAfter → Outside
manage enters limit s (Call from sender callee method arg cycles) =
    at_call enters limit s (record { origin = from; sender = sender; method = method; arg = arg; cycles = cycles })
manage enters limit s (Answer from sender response refund) = s
