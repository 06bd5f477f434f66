-- A world begins, canisters are added, users call and time goes on (IC Interface Specification, "Initial state" and "API Request submission").
use Rattle.std.specs.Prelude.{◌≡◌, ℕ, ◌+◌, ◌-◌, ◌<◌, ◌≤◌, ◌^◌, List, [], ◌∷◌, ◌++◌, None, length}
use Rattle.std.specs.BTreeMap.{insert_entry}
use Rattle.std.specs.Ordering.{nat_cmp}
use Rattle.std.specs.Cmp.Lexicographic.{slice_cmp}
use Rattle.ic_behaviour.specs.declared.call.Origin.TheVariants as origin
use Rattle.ic_behaviour.specs.declared.call.Message.TheVariants.{Call}
use Rattle.ic_principal.specs.CanisterId.{canister_id_of}
use Rattle.ic_behaviour.specs.declared.phase.Phase.TheVariants.{Running}
use Rattle.ic_behaviour.specs.State.{Canister, State}

abbrev pub empty : State
empty = record { canisters = []; messages = []; requests = []; time = 0; created = 0; burned = 0; next_canister = 0 }

-- a request and its call, which carries no cycles, come last
abbrev pub submitted : State → (sender callee method arg : List ℕ) → State
submitted s sender callee method arg = record s {
  messages = s.messages ++ Call (origin.Ingress (length s.requests)) sender callee method arg 0 ∷ [];
  requests = s.requests ++ (record { sender = sender; callee = callee; method = method; arg = arg; time = s.time; answer = None }) ∷ [];
}

abbrev pub timed : State → ℕ → State
timed s time = record s { time = time }

-- a new canister comes under its id, and its balance was created
abbrev pub added : State → Canister → State
added s c = record s {
  canisters = insert_entry (slice_cmp nat_cmp) s.canisters c.id c;
  created = s.created + c.balance;
  next_canister = s.next_canister + 1;
}

-- ---- when a canister may be added

-- it has the next id, is running, has no context and has made no call
pub record IsNew (next : ℕ) (c : Canister) : Type 0 where
  pub id : c.id ≡ canister_id_of next
  pub running : c.phase ≡ Running
  pub contexts : c.contexts ≡ []
  pub next_call : c.next_call ≡ 0

pub record HasRoom (s : State) (balance : ℕ) : Type 0 where
  pub canisters : length s.canisters < 64
  pub counter : s.next_canister < 2 ^ 64 - 1
  pub created : s.created + balance ≤ 2 ^ 127 - 1
