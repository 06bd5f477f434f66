-- What a message used is paid, and contexts without calls are closed (IC Interface Specification, "Call context starvation" and "Call context removal").
use Rattle.std.specs.Prelude.{ℕ, ◌*◌, ◌-◌, nat_lt, min, Bool, cond, List, [], ◌∷◌, ◌++◌, Option, Some, None, map, option_map, codes}
use Rattle.std.specs.List.{filter, flat_map}
use Rattle.wm_semantics.specs.declared.trap.Trap.{Trap}
use Rattle.ic_behaviour.specs.declared.call.CallId.{CallId}
use Rattle.ic_behaviour.specs.declared.call.Response.{Response}
use Rattle.ic_behaviour.specs.declared.call.Response.TheVariants as response
use Rattle.ic_behaviour.specs.declared.call.Message.{Message}
use Rattle.ic_behaviour.specs.declared.call.Answered.{Answered}
use Rattle.ic_behaviour.specs.declared.context.Context.{Context}
use Rattle.ic_behaviour.specs.declared.phase.Waiter.{Waiter}
use Rattle.ic_behaviour.specs.declared.phase.Phase.{Phase}
use Rattle.ic_behaviour.specs.declared.phase.Phase.TheVariants.{Running, Stopping, Stopped}
use Rattle.ic_behaviour.specs.State.{same_id}
use Rattle.ic_behaviour.specs.Counted.{CountedCanister}
use Rattle.ic_behaviour.specs.Texts.{no_response, trapped_by}
use Rattle.ic_behaviour.specs.Executing.{Work}

-- what a message did: as `Work`, with the trap alone, and the cycles that were burned for instructions
pub record Handled : Type 0 where
  pub canister : CountedCanister
  pub calls : List Message
  pub answers : List Answered
  pub used : ℕ
  pub burned : ℕ
  pub trapped : Option Trap

-- the price of what was used, or the whole balance where that is less
abbrev pub charge : ℕ → Work → ℕ
charge price w = min w.canister.balance (price * w.used)

-- ---- contexts

abbrev pub is_open : Context → Bool
is_open x = nat_lt 0 x.outstanding

-- for the message's own context its trap, where it trapped
abbrev pub response_for : Option (CallId × Trap) → CallId → Response
response_for None id = no_response
response_for (Some own) id = cond (same_id own.0 id) (trapped_by own.1) no_response

-- a context that must respond and awaits no call is rejected, and its cycles go back
abbrev pub rejected : Option (CallId × Trap) → Context → List Answered
rejected own x =
    cond (is_open x) [] (cond x.must_respond ((record { origin = x.origin; response = response_for own x.id; refund = x.available }) ∷ []) [])

-- ---- the phase

-- no values, in Candid
unfoldable pub empty_reply : Response
empty_reply = response.Reply (codes "DIDL" ++ 0 ∷ 0 ∷ [])

abbrev pub released : Waiter → Answered
released w = record { origin = w.origin; response = empty_reply; refund = w.cycles }

-- a stopping canister without contexts is stopped, and those who wait for it are answered
abbrev pub phase_after : Phase → List Context → Phase
phase_after Running contexts = Running
phase_after (Stopping waiters) [] = Stopped
phase_after (Stopping waiters) (x ∷ contexts) = Stopping waiters
phase_after Stopped contexts = Stopped

abbrev pub releases : Phase → List Context → List Answered
releases (Stopping waiters) [] = map released waiters
releases phase contexts = []

-- ---- the whole

abbrev pub closed : CountedCanister → CountedCanister
closed c = record c { contexts = filter is_open c.contexts; phase = phase_after c.phase (filter is_open c.contexts) }

-- to contexts in the order in which they were made, then to those who wait. It takes the message's own context with its
-- trap, or none
abbrev pub closing : Option (CallId × Trap) → CountedCanister → List Answered
closing own c = flat_map (rejected own) c.contexts ++ releases c.phase (filter is_open c.contexts)

abbrev pub finished : (price : ℕ) → Work → Handled
finished price w = record {
  canister = closed (record w.canister { balance = w.canister.balance - charge price w });
  calls = w.calls;
  answers = w.answers ++ closing w.trapped w.canister;
  used = w.used;
  burned = charge price w;
  trapped = option_map (λ (own : CallId × Trap). own.1) w.trapped;
}
