-- A canister to which the management canister does something (IC Interface Specification, "The IC management canister"), with the numbers of its calls.
use Rattle.std.specs.Prelude.{true, false, cond, List, [], ◌∷◌, ◌++◌, None, map}
use Rattle.ic_behaviour.specs.declared.call.Answered.{Answered}
use Rattle.ic_behaviour.specs.declared.context.Context.{Context}
use Rattle.ic_behaviour.specs.declared.phase.Waiter.{Waiter}
use Rattle.ic_behaviour.specs.declared.phase.Phase.{Phase}
use Rattle.ic_behaviour.specs.declared.phase.Phase.TheVariants.{Running, Stopping}
use Rattle.ic_behaviour.specs.State.{waiting}
use Rattle.ic_behaviour.specs.Counted.{CountedCanister}
use Rattle.ic_state.specs.IsCanister.{no_lists}
use Rattle.ic_calls.specs.Texts.{uninstalled, restarted}

-- ---- the phase

-- one call more waits, and the canister is stopping
abbrev pub with_waiter : Waiter → Phase → Phase
with_waiter w phase = Stopping (waiting phase ++ w ∷ [])

abbrev pub awaiting : Waiter → CountedCanister → CountedCanister
awaiting w c = record c { phase = with_waiter w c.phase }

abbrev pub running : CountedCanister → CountedCanister
running c = record c { phase = Running }

-- who waits is told, and the cycles go back
abbrev pub told : Waiter → Answered
told w = record { origin = w.origin; response = restarted; refund = w.cycles }

-- ---- code

-- a context that must respond is rejected, and its cycles go back
abbrev pub rejected : Context → List Answered
rejected x = cond x.must_respond ((record { origin = x.origin; response = uninstalled; refund = x.available }) ∷ []) []

-- it need not respond any more, and no callback runs in it
abbrev pub deleted : Context → Context
deleted x = record x { must_respond = false; deleted = true; available = 0 }

-- without code, memory and certified data
abbrev pub emptied : CountedCanister → CountedCanister
emptied c = record c { code = None; store = no_lists; certified = []; contexts = map deleted c.contexts }
