-- What code sees of its canister (IC Interface Specification, "The execution state").
use Rattle.std.specs.Prelude.{ℕ, Bool, false, List, []}
use Rattle.ic_behaviour.specs.declared.env.Env.{Env}
use Rattle.ic_behaviour.specs.declared.execution.View.{View}
use Rattle.ic_behaviour.specs.Counted.{CountedCanister}
use Rattle.ic_behaviour.specs.Executing.{phase_number, call_view}

-- for this caller, with the cycles that may be accepted, and whether the caller was answered
abbrev pub view_for : Env → CountedCanister → (caller : List ℕ) → (available : ℕ) → (responded : Bool) → View
view_for env c caller available responded = record {
  time = env.time;
  id = c.id;
  balance = c.balance;
  phase_number = phase_number c.phase;
  controllers = c.controllers;
  caller = caller;
  arg = [];
  method = [];
  reject_code = 0;
  reject_message = [];
  refund = 0;
  available = available;
  responded = responded;
  outstanding = c.outstanding;
  next_call = c.next_call;
  certified = c.certified;
}

-- for a user who asks without a call: there is no call context
abbrev pub user_view : Env → CountedCanister → (sender method arg : List ℕ) → View
user_view env c sender method arg = call_view (view_for env c sender 0 false) method arg
