-- States that the definitions speak of, computed: a canister is added, is called, calls itself, answers, and is drained.
use Rattle.std.proofs.Common.{◌≡◌, ℕ, List, [], ◌∷◌, map, codes, false, Option, Some, None, refl}
use Rattle.std.specs.List.{fold}
use Rattle.wm_tree.specs.declared.parts.Export.{Export}
use Rattle.wm_tree.specs.declared.parts.ExportKind.TheVariants as export
use Rattle.wm_store.specs.Lists.{Lists}
use Rattle.wm_semantics.specs.declared.trap.Trap.TheVariants as trap
use Rattle.ic_principal.specs.CanisterId.{canister_id_of}
use Rattle.ic_behaviour.specs.declared.call.CallId.TheVariants as call_id
use Rattle.ic_behaviour.specs.declared.call.Response.{Response}
use Rattle.ic_behaviour.specs.declared.call.Response.TheVariants.{Reply, Reject}
use Rattle.ic_behaviour.specs.declared.phase.Phase.TheVariants.{Running}
use Rattle.ic_behaviour.specs.declared.request.Request.{Request}
use Rattle.ic_behaviour.specs.declared.execution.EntryKind.{EntryKind}
use Rattle.ic_behaviour.specs.declared.execution.EntryKind.TheVariants as kind
use Rattle.ic_behaviour.specs.declared.execution.View.{View}
use Rattle.ic_behaviour.specs.declared.execution.Effects.{Effects}
use Rattle.ic_behaviour.specs.State.{Canister, State}
use Rattle.ic_behaviour.specs.Items.{places, outstanding, held}
use Rattle.ic_behaviour.specs.Submitted.{empty, submitted, added}
use Rattle.ic_behaviour.specs.Texts.{out_of_cycles, no_canister}
use Rattle.ic_behaviour.specs.Outcomes.{Outcome, Returns, Traps, Enters}
use Rattle.ic_behaviour.specs.Local.{local}
use Rattle.ic_behaviour.specs.Deliver.{as_absent, deliver}

-- ---- a canister with an update `go` and a query `ask`

abbrev nothing : Lists
nothing = record { memory = []; maximum = None; globals = []; table = []; stable = [] }

abbrev exports : List Export
exports = (record { name = codes "canister_update go"; kind = export.Function 0 }) ∷ (record { name = codes "canister_query ask"; kind = export.Function 1 }) ∷ []

abbrev canister : Canister
canister = record {
  id = canister_id_of 0;
  controllers = [];
  balance = 1000;
  code = Some (record {
    «module» = record { types = []; imports = []; functions = []; tables = []; memories = []; globals = []; exports = exports; start = None; elements = []; codes = []; segments = [] };
    hash = [];
  });
  store = nothing;
  certified = [];
  contexts = [];
  phase = Running;
  next_call = 0;
}

-- ---- what it does: the update calls the query with all its cycles, and replies with what that replies

abbrev replies : View → Effects
replies v = record { balance = v.balance; available = 0; answer = Some (Reply v.arg, v.available); calls = []; certified = v.certified; accepted_message = false }

abbrev calls_itself : View → Effects
calls_itself v = record {
  balance = 0;
  available = v.available;
  answer = None;
  calls = (record {
    callee = v.id;
    method = codes "ask";
    arg = v.arg;
    cycles = v.balance;
    callback = record { reply_fun = 0; reply_env = 0; reject_fun = 1; reject_env = 0; cleanup = Some (2, 0) };
  }) ∷ [];
  certified = v.certified;
  accepted_message = false;
}

abbrev does : EntryKind → Lists → View → Outcome
does kind.Update store v = Returns store (calls_itself v) 7
does kind.Query store v = Returns store (replies v) 3
does kind.Reply store v = Returns store (replies v) 4
does kind.Cleanup store v = Returns (record store { globals = 1 ∷ [] }) (replies v) 2
does _ store v = Traps trap.Unreachable 5

abbrev enters : Enters
enters code store target kind v limit = does kind store v

-- ---- runs

abbrev called : State
called = submitted (added empty canister) [] (canister_id_of 0) (codes "go") (42 ∷ [])

abbrev after : (limit price : ℕ) → List ℕ → State
after limit price places = fold (deliver enters as_absent limit price) called places

abbrev answers : State → List (Option Response)
answers s = map (λ (r : Request). r.answer) s.requests

-- the call of the update waits for the call of the query
waits : places (after 100 0 (0 ∷ [])) (call_id.Canister (canister_id_of 0) 0) ≡ 1
unfolding deliver local canister_id_of
waits = refl

awaits : outstanding (after 100 0 (0 ∷ [])) (canister_id_of 0) (call_id.Ingress 0) ≡ 1
unfolding deliver local canister_id_of
awaits = refl

-- the query answers, and the callback of its reply answers the request: nothing is left
ended : places (after 100 0 (0 ∷ 0 ∷ 0 ∷ [])) (call_id.Canister (canister_id_of 0) 0) ≡ 0
unfolding deliver local canister_id_of
ended = refl

replied : answers (after 100 0 (0 ∷ 0 ∷ 0 ∷ [])) ≡ Some (Reply (42 ∷ [])) ∷ []
unfolding deliver local canister_id_of
replied = refl

drained : (after 100 0 (0 ∷ 0 ∷ 0 ∷ [])).messages ≡ []
unfolding deliver local canister_id_of
drained = refl

held_after : held (after 100 0 (0 ∷ 0 ∷ 0 ∷ [])) ≡ 1000
unfolding deliver local canister_id_of
held_after = refl

-- At a price the query is refused, since the canister has sent all its cycles with the call. The callback of the reject
-- traps and its cleanup returns: both are paid, of the refund, and the request is rejected.
rejected : answers (after 10 3 (0 ∷ 0 ∷ 0 ∷ [])) ≡ Some (Reject 5 (codes "canister trapped: unreachable")) ∷ []
unfolding deliver local canister_id_of
rejected = refl

paid : (after 10 3 (0 ∷ 0 ∷ 0 ∷ [])).burned ≡ 21
unfolding deliver local canister_id_of
paid = refl

held_paid : held (after 10 3 (0 ∷ 0 ∷ 0 ∷ [])) ≡ 979
unfolding deliver local canister_id_of
held_paid = refl

-- a price past the balance: the call is refused, and nothing is burned
refused : answers (after 100 11 (0 ∷ [])) ≡ Some out_of_cycles ∷ []
unfolding deliver local canister_id_of
refused = refl

kept : held (after 100 11 (0 ∷ [])) ≡ 1000
unfolding deliver local canister_id_of
kept = refl

-- a call to no canister
absent : answers (deliver enters as_absent 100 0 (submitted empty [] (1 ∷ []) [] []) 0) ≡ Some (no_canister (1 ∷ [])) ∷ []
unfolding deliver
absent = refl
