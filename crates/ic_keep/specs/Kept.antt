-- What is kept of a state, and the state that it stands for. No standard has this.
use Rattle.std.specs.Prelude.{ℕ, List, [], map, Option, Some, None, option_map, slice_get}
use Rattle.wm_store.specs.Lists.{Lists}
use Rattle.wm_store.specs.Fits.{maximum_of}
use Rattle.ic_behaviour.specs.declared.call.Message.{Message}
use Rattle.ic_behaviour.specs.declared.request.Request.{Request}
use Rattle.ic_behaviour.specs.State.{Code, Canister, State}
use Rattle.ic_behaviour.specs.Counted.{CountedCanister, dropped}
use Rattle.ic_state.specs.declared.canister.Code.{Code as StoredCode}
use Rattle.ic_state.specs.declared.canister.Canister.{Canister as StoredCanister}
use Rattle.ic_state.specs.Seen.{code_of, seen}
use Rattle.ic_exact.specs.Ranges.{bytes_of}
use Rattle.ic_keep.specs.declared.parts.KeptStore.{KeptStore}
use Rattle.ic_keep.specs.declared.parts.KeptCanister.{KeptCanister}

-- what states share: ranges of memories, and codes
pub record Tables : Type 0 where
  pub ranges : List (List ℕ)
  pub codes : List StoredCode

-- a state, with numbers in place of what is in the tables
pub record KeptState : Type 0 where
  pub canisters : List KeptCanister
  pub messages : List Message
  pub requests : List Request
  pub time : ℕ
  pub created : ℕ
  pub burned : ℕ
  pub next_canister : ℕ

abbrev pub kept_without_messages : KeptState → KeptState
kept_without_messages k = record k { messages = [] }

-- the code of a number
abbrev pub code_at : List StoredCode → Option ℕ → Option Code
code_at codes None = None
code_at codes (Some n) = option_map code_of (slice_get codes n)

-- the maximum that the code's module declares of its memory
abbrev pub declared_maximum : Option Code → Option ℕ
declared_maximum None = None
declared_maximum (Some code) = maximum_of code.«module».memories

abbrev pub lists_at : List (List ℕ) → Option Code → KeptStore → Lists
lists_at ranges code s = record {
  memory = bytes_of ranges s.memory;
  maximum = declared_maximum code;
  globals = s.globals;
  table = s.table;
  stable = bytes_of ranges s.stable;
}

-- the canister that is kept
abbrev pub canister_at : Tables → KeptCanister → CountedCanister
canister_at t c = record {
  id = c.id;
  controllers = c.controllers;
  balance = c.balance;
  code = code_at t.codes c.code;
  store = lists_at t.ranges (code_at t.codes c.code) c.store;
  certified = c.certified;
  contexts = c.contexts;
  phase = c.phase;
  next_call = c.next_call;
  outstanding = c.outstanding;
}

-- under its id
abbrev pub counted_at : Tables → KeptCanister → List ℕ × CountedCanister
counted_at t c = (c.id, canister_at t c)

-- the canister of an entry, with the numbers that it stores of its calls
abbrev pub seen_entry : List ℕ × StoredCanister → List ℕ × CountedCanister
seen_entry e = (e.0, seen e.1)

abbrev pub entry_at : Tables → KeptCanister → List ℕ × Canister
entry_at t c = (c.id, dropped (canister_at t c))

-- the state that is kept
abbrev pub state_at : Tables → KeptState → State
state_at t k = record {
  canisters = map (entry_at t) k.canisters;
  messages = k.messages;
  requests = k.requests;
  time = k.time;
  created = k.created;
  burned = k.burned;
  next_canister = k.next_canister;
}
