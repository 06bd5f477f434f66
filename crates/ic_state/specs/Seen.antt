-- The state that a world stands for.
use Rattle.std.specs.Prelude.{ℕ, Bool, not, List, Option, map, option_map, slice_get}
use Rattle.ic_base.specs.Reader.{◌>>=◌}
use Rattle.ic_behaviour.specs.declared.call.Response.{Response}
use Rattle.ic_behaviour.specs.State.{is_awaited, Code, Canister, State}
use Rattle.ic_behaviour.specs.Counted.{CountedCanister, dropped}
use Rattle.ic_state.specs.declared.canister.Code.{Code as StoredCode}
use Rattle.ic_state.specs.declared.canister.Canister.{Canister as StoredCanister}
use Rattle.ic_state.specs.declared.world.Parts.{Parts}

abbrev pub code_of : StoredCode → Code
code_of code = record { «module» = code.valid.«module»; hash = code.hash }

-- with the numbers that it stores of its calls
abbrev pub seen : StoredCanister → CountedCanister
seen c = record {
  id = c.id;
  controllers = c.controllers;
  balance = c.balance;
  code = option_map code_of c.code;
  store = c.store.lists;
  certified = c.certified;
  contexts = c.contexts;
  phase = c.phase;
  next_call = c.next_call;
  outstanding = c.outstanding;
}

-- no call waits for it to stop
abbrev pub is_calm : StoredCanister → Bool
is_calm c = not (is_awaited c.phase)

abbrev pub entry_of : List ℕ × StoredCanister → List ℕ × Canister
entry_of e = (e.0, dropped (seen e.1))

abbrev pub state_of : Parts → State
state_of p = record {
  canisters = map entry_of p.canisters.entries;
  messages = p.messages;
  requests = p.requests;
  time = p.time;
  created = p.created;
  burned = p.burned;
  next_canister = p.next_canister;
}

-- the answer to the request with that number
abbrev pub answer_at : State → ℕ → Option Response
answer_at s k = slice_get s.requests k >>= λ r. r.answer
