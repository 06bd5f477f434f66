-- The management canister looks at no message: of the others it takes the counts alone, and what it sends comes last.
use Rattle.std.proofs.Common.{◌≡◌, ℕ, List, [], ◌∷◌, ◌++◌, map, Option, Some, None, Result, Ok, Err, refl, ap, ap₂, ◌∙◌, append_assoc}
use Rattle.std.specs.List.{flat_map}
use Rattle.std.specs.Map.{lookup}
use Rattle.ic_behaviour.specs.declared.call.CallId.{CallId}
use Rattle.ic_behaviour.specs.declared.call.Answered.{Answered}
use Rattle.ic_behaviour.specs.declared.call.Response.{Response}
use Rattle.ic_behaviour.specs.declared.call.Response.TheVariants.{Reply}
use Rattle.ic_behaviour.specs.declared.call.Message.{Message}
use Rattle.ic_behaviour.specs.declared.phase.Phase.{Phase}
use Rattle.ic_behaviour.specs.declared.phase.Phase.TheVariants.{Running, Stopping, Stopped}
use Rattle.ic_behaviour.specs.State.{at, waiting, Code, Canister, State}
use Rattle.ic_behaviour.specs.Items.{outstanding}
use Rattle.ic_behaviour.specs.Submitted.{added}
use Rattle.ic_behaviour.specs.Counted.{counted, dropped}
use Rattle.ic_behaviour.specs.Closing.{empty_reply, closed, closing}
use Rattle.ic_behaviour.specs.Deliver.{env_at, routed, routed_by}
use Rattle.ic_behaviour.specs.Installing.{EntersAfter, Installation, installed}
use Rattle.ic_behaviour.proofs.Counts.{counted_same}
use Rattle.ic_mgmt_candid.specs.declared.demand.InstallCode.{InstallCode}
use Rattle.ic_mgmt_candid.specs.declared.demand.Demand.{Demand}
use Rattle.ic_mgmt_candid.specs.declared.demand.Demand.TheVariants as demand
use Rattle.ic_mgmt_candid.specs.declared.denial.Denial.{Denial}
use Rattle.ic_mgmt_candid.specs.declared.denial.Denial.TheVariants as D
use Rattle.ic_mgmt_candid.specs.Checks.{◌>>=◌, or_else, ordered}
use Rattle.ic_mgmt_candid.specs.Denials.{denies}
use Rattle.ic_mgmt_candid.specs.Modules.{code_of}
use Rattle.ic_mgmt_candid.specs.Replies.{canister_reply, status_reply}
use Rattle.ic_mgmt_laws.specs.Moves.{with_canister, granted, gone, answered, replied, kept_by, all_answered, awaiting, running, to_waiter, to_context, emptied, shut}
use Rattle.ic_behaviour.specs.declared.call.IncomingCall.{IncomingCall}
use Rattle.ic_mgmt_laws.specs.Rows.{controllers_or, unless_full, unless_above, next_canister, creates, amount_or, provisional_creates, tops_up, deposits, updates, tells, unless_unsuited, installation_on, unless_refused, installs, uninstalls, starts, stops_in, stops, unless_stopped, deletes, at_canister, row}
use Rattle.ic_calls.specs.Texts.{uninstalled, restarted}
use Rattle.ic_mgmt_laws.specs.Manage.{controllers_in, ended, handled}

bound : {A : Type 0} (r : Result A Denial) (f g : A → Result State Denial) → ((x : A) → f x ≡ g x) → (r >>= f) ≡ (r >>= g)
bound (Ok x) f g same = same x
bound (Err denial) f g same = refl

-- ---- the counts

module _ (enters : EntersAfter) (limit : ℕ) (now other s : State) (call : IncomingCall) (time : other.time ≡ now.time) (counts : (key : List ℕ) (id : CallId) → outstanding other key id ≡ outstanding now key id) where
  shut_counts : (id : List ℕ) (c : Canister) (t : State) → shut other id c t ≡ shut now id c t
  shut_counts id c t = ap (λ k. all_answered id (closing None k) (with_canister id (dropped (closed k)) t)) (counted_same now other id (counts id) c)

  stops_counts : (phase : Phase) (id : List ℕ) (c : Canister) → stops_in phase other s call id c ≡ stops_in phase now s call id c
  stops_counts Running id c = shut_counts id (awaiting call c) (with_canister id (awaiting call c) s)
  stops_counts (Stopping waiters) id c = shut_counts id (awaiting call c) (with_canister id (awaiting call c) s)
  stops_counts Stopped id c = refl

  installs_counts : (asked : InstallCode) (c : Canister) → installs enters limit other s call asked c ≡ installs enters limit now s call asked c
  installs_counts asked c = bound (code_of asked.wasm_module) (λ code. done (installation_on enters limit other call asked c code)) (λ code. done (installation_on enters limit now call asked c code)) (λ code. ap done (same code)) where
    done : Installation → Result State Denial
    done after = unless_unsuited asked.mode c.code >>= λ u. (unless_refused after.refusal >>= λ v. Ok (replied call empty_reply (with_canister asked.canister_id (dropped after.canister) s)))

    same : (code : Code) → installation_on enters limit other call asked c code ≡ installation_on enters limit now call asked c code
    same code = ap₂ (λ n k. installed enters (env_at n limit 0) k asked.mode code asked.arg call.sender) time (counted_same now other asked.canister_id (counts asked.canister_id) c)

  at_same : (id : List ℕ) (f g : Canister → Result State Denial) → ((c : Canister) → f c ≡ g c) → at_canister s id f ≡ at_canister s id g
  at_same id f g same = bound (or_else (lookup (at id) s.canisters) (D.NoCanister id)) f g same

  row_counts : (asked : Demand) → row enters limit other s call asked ≡ row enters limit now s call asked
  row_counts (demand.CreateCanister named) = refl
  row_counts (demand.ProvisionalCreateCanisterWithCycles amount named) = refl
  row_counts (demand.ProvisionalTopUpCanister id amount) = refl
  row_counts (demand.DepositCycles id) = refl
  row_counts (demand.UpdateSettings id named) = refl
  row_counts (demand.InstallCode asked) = at_same asked.canister_id (installs enters limit other s call asked) (installs enters limit now s call asked) (λ c. installs_counts asked c)
  row_counts (demand.UninstallCode id) = at_same id (λ c. Ok (uninstalls other s call id c)) (λ c. Ok (uninstalls now s call id c)) (λ c. ap Ok (shut_counts id (emptied c) _))
  row_counts (demand.StartCanister id) = refl
  row_counts (demand.StopCanister id) = at_same id (λ c. Ok (stops other s call id c)) (λ c. Ok (stops now s call id c)) (λ c. ap Ok (stops_counts c.phase id c))
  row_counts (demand.DeleteCanister id) = refl
  row_counts (demand.CanisterStatus id) = refl

  pub same_counts : handled enters limit other s call ≡ handled enters limit now s call
  same_counts = ap (ended s call) (bound (ordered (controllers_in s) call.origin call.sender call.method call.arg) (row enters limit other s call) (row enters limit now s call) row_counts)

-- ---- messages that come before

module _ (enters : EntersAfter) (limit : ℕ) (now s : State) (call : IncomingCall) (front : List Message) where
  abbrev behind : State → State
  behind t = record t { messages = front ++ t.messages }

  abbrev moved : Result State Denial → Result State Denial
  moved (Ok t) = Ok (behind t)
  moved (Err denial) = Err denial

  sent_behind : (t : State) (sender : List ℕ) (answers : List Answered) → all_answered sender answers (behind t) ≡ behind (all_answered sender answers t)
  sent_behind t sender answers = ap (λ l. record (all_answered sender answers t) { messages = l }) (append_assoc front t.messages (flat_map (routed sender) answers))

  answer_behind : (t : State) (response : Response) (refund : ℕ) → answered call response refund (behind t) ≡ behind (answered call response refund t)
  answer_behind t response refund = ap (λ l. record (answered call response refund t) { messages = l }) (append_assoc front t.messages (routed_by [] call.origin response refund))

  shut_behind : (t : State) (id : List ℕ) (c : Canister) → shut now id c (behind t) ≡ behind (shut now id c t)
  shut_behind t id c = sent_behind (with_canister id (dropped (closed (counted now id c))) t) id (closing None (counted now id c))

  bound_behind : {A : Type 0} (r : Result A Denial) (f g : A → Result State Denial) → ((x : A) → f x ≡ moved (g x)) → (r >>= f) ≡ moved (r >>= g)
  bound_behind (Ok x) f g same = same x
  bound_behind (Err denial) f g same = refl

  ok_behind : (t : State) (response : Response) → ◌≡◌ {A = Result State Denial} (Ok (replied call response (behind t))) (Ok (behind (replied call response t)))
  ok_behind t response = ap Ok (answer_behind t response call.cycles)

  creates_behind : (named : Option (List (List ℕ))) → creates (behind s) call named ≡ moved (creates s call named)
  creates_behind named = bound_behind (controllers_or (call.sender ∷ []) named) (checked (behind s)) (checked s) (λ controllers. bound_behind (unless_full s) (λ u. done (behind s) controllers) (λ u. done s controllers)
      (λ u. ap Ok (answer_behind _ (Reply (canister_reply (next_canister s controllers 0).id)) 0))) where
        done : State → List (List ℕ) → Result State Denial
        done t controllers = let c = next_canister t controllers 0 in Ok (kept_by c.id c call (Reply (canister_reply c.id)) (added t c))

        checked : State → List (List ℕ) → Result State Denial
        checked t controllers = unless_full t >>= λ u. done t controllers

  provisional_behind : (amount : ℕ) (named : Option (List (List ℕ))) → provisional_creates (behind s) call amount named ≡ moved (provisional_creates s call amount named)
  provisional_behind amount named = bound_behind (controllers_or (call.sender ∷ []) named) (checked (behind s)) (checked s) (λ controllers. bound_behind (unless_full s) (λ u. paid (behind s) controllers) (λ u. paid s controllers)
      (λ u. bound_behind (unless_above s amount) (λ v. done (behind s) controllers) (λ v. done s controllers) (λ v. ok_behind _ (Reply (canister_reply (next_canister s controllers amount).id))))) where
        done : State → List (List ℕ) → Result State Denial
        done t controllers = let c = next_canister t controllers amount in Ok (replied call (Reply (canister_reply c.id)) (added t c))

        paid : State → List (List ℕ) → Result State Denial
        paid t controllers = unless_above t amount >>= λ v. done t controllers

        checked : State → List (List ℕ) → Result State Denial
        checked t controllers = unless_full t >>= λ u. paid t controllers

  top_up_behind : (id : List ℕ) (amount : ℕ) (c : Canister) → tops_up (behind s) call id amount c ≡ moved (tops_up s call id amount c)
  top_up_behind id amount c = bound_behind (unless_above s amount) (λ u. Ok (replied call empty_reply (granted id c amount (behind s)))) (λ u. Ok (replied call empty_reply (granted id c amount s))) (λ u. ok_behind (granted id c amount s) empty_reply)

  updates_behind : (id : List ℕ) (named : Option (List (List ℕ))) (c : Canister) → updates (behind s) call id named c ≡ moved (updates s call id named c)
  updates_behind id named c = bound_behind (controllers_or c.controllers named) (done (behind s)) (done s) (λ controllers. ok_behind (with_canister id (record c { controllers = controllers }) s) empty_reply) where
    done : State → List (List ℕ) → Result State Denial
    done t controllers = Ok (replied call empty_reply (with_canister id (record c { controllers = controllers }) t))

  installs_behind : (asked : InstallCode) (c : Canister) → installs enters limit now (behind s) call asked c ≡ moved (installs enters limit now s call asked c)
  installs_behind asked c = bound_behind (code_of asked.wasm_module) (tried (behind s)) (tried s) (λ code. bound_behind (unless_unsuited asked.mode c.code) (λ u. ran (behind s) (after code)) (λ u. ran s (after code))
      (λ u. bound_behind (unless_refused (after code).refusal) (λ v. done (behind s) (after code)) (λ v. done s (after code)) (λ v. ok_behind (with_canister asked.canister_id (dropped (after code).canister) s) empty_reply))) where
        after : Code → Installation
        after code = installation_on enters limit now call asked c code

        done : State → Installation → Result State Denial
        done t i = Ok (replied call empty_reply (with_canister asked.canister_id (dropped i.canister) t))

        ran : State → Installation → Result State Denial
        ran t i = unless_refused i.refusal >>= λ v. done t i

        tried : State → Code → Result State Denial
        tried t code = unless_unsuited asked.mode c.code >>= λ u. ran t (after code)

  uninstalls_behind : (id : List ℕ) (c : Canister) → uninstalls now (behind s) call id c ≡ behind (uninstalls now s call id c)
  uninstalls_behind id c =
      ap (λ t. shut now id (emptied c) (with_canister id (emptied c) (all_answered id (flat_map (to_context uninstalled) c.contexts) t))) (answer_behind s empty_reply call.cycles)
      ∙ ap (λ t. shut now id (emptied c) (with_canister id (emptied c) t)) (sent_behind (replied call empty_reply s) id (flat_map (to_context uninstalled) c.contexts))
      ∙ shut_behind (with_canister id (emptied c) (all_answered id (flat_map (to_context uninstalled) c.contexts) (replied call empty_reply s))) id (emptied c)

  starts_behind : (id : List ℕ) (c : Canister) → starts (behind s) call id c ≡ behind (starts s call id c)
  starts_behind id c =
      ap (λ t. with_canister id (running c) (all_answered id (map (to_waiter restarted) (waiting c.phase)) t)) (answer_behind s empty_reply call.cycles)
      ∙ ap (with_canister id (running c)) (sent_behind (replied call empty_reply s) id (map (to_waiter restarted) (waiting c.phase)))

  stops_behind : (phase : Phase) (id : List ℕ) (c : Canister) → stops_in phase now (behind s) call id c ≡ behind (stops_in phase now s call id c)
  stops_behind Running id c = shut_behind (with_canister id (awaiting call c) s) id (awaiting call c)
  stops_behind (Stopping waiters) id c = shut_behind (with_canister id (awaiting call c) s) id (awaiting call c)
  stops_behind Stopped id c = answer_behind s empty_reply call.cycles

  deletes_behind : (id : List ℕ) (c : Canister) → deletes (behind s) call id c ≡ moved (deletes s call id c)
  deletes_behind id c = bound_behind (unless_stopped c.phase) (λ u. Ok (replied call empty_reply (gone id c (behind s)))) (λ u. Ok (replied call empty_reply (gone id c s))) (λ u. ok_behind (gone id c s) empty_reply)

  at_behind : (id : List ℕ) (f g : Canister → Result State Denial) → ((c : Canister) → f c ≡ moved (g c)) → at_canister (behind s) id f ≡ moved (at_canister s id g)
  at_behind id f g same = bound_behind (or_else (lookup (at id) s.canisters) (D.NoCanister id)) f g same

  row_behind : (asked : Demand) → row enters limit now (behind s) call asked ≡ moved (row enters limit now s call asked)
  row_behind (demand.CreateCanister named) = creates_behind named
  row_behind (demand.ProvisionalCreateCanisterWithCycles amount named) = provisional_behind (amount_or amount) named
  row_behind (demand.ProvisionalTopUpCanister id amount) = at_behind id (tops_up (behind s) call id amount) (tops_up s call id amount) (λ c. top_up_behind id amount c)
  row_behind (demand.DepositCycles id) = at_behind id (λ c. Ok (deposits (behind s) call id c)) (λ c. Ok (deposits s call id c)) (λ c. ap Ok (answer_behind _ empty_reply 0))
  row_behind (demand.UpdateSettings id named) = at_behind id (updates (behind s) call id named) (updates s call id named) (λ c. updates_behind id named c)
  row_behind (demand.InstallCode asked) = at_behind asked.canister_id (installs enters limit now (behind s) call asked) (installs enters limit now s call asked) (λ c. installs_behind asked c)
  row_behind (demand.UninstallCode id) = at_behind id (λ c. Ok (uninstalls now (behind s) call id c)) (λ c. Ok (uninstalls now s call id c)) (λ c. ap Ok (uninstalls_behind id c))
  row_behind (demand.StartCanister id) = at_behind id (λ c. Ok (starts (behind s) call id c)) (λ c. Ok (starts s call id c)) (λ c. ap Ok (starts_behind id c))
  row_behind (demand.StopCanister id) = at_behind id (λ c. Ok (stops now (behind s) call id c)) (λ c. Ok (stops now s call id c)) (λ c. ap Ok (stops_behind c.phase id c))
  row_behind (demand.DeleteCanister id) = at_behind id (deletes (behind s) call id) (deletes s call id) (λ c. deletes_behind id c)
  row_behind (demand.CanisterStatus id) = at_behind id (λ c. Ok (tells (behind s) call c)) (λ c. Ok (tells s call c)) (λ c. ok_behind s (Reply (status_reply c)))

  ended_behind : (r : Result State Denial) → ended (behind s) call (moved r) ≡ behind (ended s call r)
  ended_behind (Ok t) = refl
  ended_behind (Err denial) = answer_behind s (denies denial) call.cycles

  pub sends_last : handled enters limit now (behind s) call ≡ behind (handled enters limit now s call)
  sends_last = ap (ended (behind s) call) (bound_behind (ordered (controllers_in s) call.origin call.sender call.method call.arg) (row enters limit now (behind s) call) (row enters limit now s call) row_behind)
      ∙ ended_behind (ordered (controllers_in s) call.origin call.sender call.method call.arg >>= row enters limit now s call)
