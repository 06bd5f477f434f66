-- A canister with the numbers of its calls that have no answer yet, as the handling of a message takes it. No standard has this.
use Rattle.std.specs.Prelude.{ℕ, List, Option, map}
use Rattle.wm_store.specs.Lists.{Lists}
use Rattle.ic_behaviour.specs.declared.context.Context.{Context}
use Rattle.ic_behaviour.specs.declared.phase.Phase.{Phase}
use Rattle.ic_behaviour.specs.Totals.{total}
use Rattle.ic_behaviour.specs.State.{CallContext, Code, Canister, State}
use Rattle.ic_behaviour.specs.Items.{outstanding}

-- the number for the canister is the sum of those for its contexts
pub record CountedCanister : Type 0 where
  pub id : List ℕ
  pub controllers : List (List ℕ)
  pub balance : ℕ
  pub code : Option Code
  pub store : Lists
  pub certified : List ℕ
  pub contexts : List Context
  pub phase : Phase
  pub next_call : ℕ
  pub outstanding : ℕ

-- ---- without the numbers

abbrev pub bare : Context → CallContext
bare x = record { id = x.id; origin = x.origin; caller = x.caller; must_respond = x.must_respond; deleted = x.deleted; available = x.available }

abbrev pub dropped : CountedCanister → Canister
dropped c = record {
  id = c.id;
  controllers = c.controllers;
  balance = c.balance;
  code = c.code;
  store = c.store;
  certified = c.certified;
  contexts = map bare c.contexts;
  phase = c.phase;
  next_call = c.next_call;
}

-- ---- with the numbers of a state

abbrev pub with_count : State → List ℕ → CallContext → Context
with_count s key x = record {
  id = x.id;
  origin = x.origin;
  caller = x.caller;
  must_respond = x.must_respond;
  deleted = x.deleted;
  available = x.available;
  outstanding = outstanding s key x.id;
}

abbrev pub counted : State → List ℕ → Canister → CountedCanister
counted s key c = record {
  id = c.id;
  controllers = c.controllers;
  balance = c.balance;
  code = c.code;
  store = c.store;
  certified = c.certified;
  contexts = map (with_count s key) c.contexts;
  phase = c.phase;
  next_call = c.next_call;
  outstanding = total (λ (x : CallContext). outstanding s key x.id) c.contexts;
}
