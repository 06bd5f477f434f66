-- Each method keeps the calls.
use Rattle.std.proofs.Common.{◌≡◌, ℕ, ◌+◌, ◌-◌, ◌<◌, ◌≤◌, ◌^◌, nat_le, nat_lt, Bool, true, false, ◌&&◌, List, [], ◌∷◌, ◌++◌, map, length, slice_get, Option, Some, None, Result, Ok, Err, refl, sym, ap, ap₂, ◌∙◌, subst, arith, append-nil, not-suc-le-zero, true≢false, ltb-true}
use Rattle.std.specs.List.{AllByRecursion, flat_map, fold, remove}
use Rattle.std.specs.Result.{is_ok}
use Rattle.std.specs.Map.{lookup, set_value}
use Rattle.std.proofs.lemmas.Bool.{and_parts}
use Rattle.ic_behaviour.specs.declared.call.Origin.{Origin}
use Rattle.ic_behaviour.specs.declared.call.Response.{Response}
use Rattle.ic_behaviour.specs.declared.call.Response.TheVariants.{Reply}
use Rattle.ic_behaviour.specs.declared.call.Message.{Message}
use Rattle.ic_behaviour.specs.declared.call.Message.TheVariants.{Call}
use Rattle.ic_behaviour.specs.declared.phase.Waiter.{Waiter}
use Rattle.ic_behaviour.specs.declared.phase.Phase.{Phase}
use Rattle.ic_behaviour.specs.declared.phase.Phase.TheVariants.{Running, Stopping, Stopped}
use Rattle.ic_behaviour.specs.declared.install.Mode.{Mode}
use Rattle.ic_behaviour.specs.declared.env.Env.{Env}
use Rattle.ic_behaviour.specs.Totals.{total}
use Rattle.ic_behaviour.specs.State.{at, waiting, CallContext, Code, Canister, State}
use Rattle.ic_behaviour.specs.Items.{Item, InContext, InWaiter, items_at}
use Rattle.ic_behaviour.specs.Sound.{HasCode, IsInPhase}
use Rattle.ic_behaviour.specs.Submitted.{added, IsNew, HasRoom}
use Rattle.ic_behaviour.specs.Counted.{CountedCanister, bare, with_count, counted, dropped}
use Rattle.ic_behaviour.specs.Closing.{empty_reply}
use Rattle.ic_behaviour.specs.Deliver.{env_at, filled_by, routed_by, without}
use Rattle.ic_behaviour.specs.Installing.{EntersAfter, Staged, Goes, Refused, Installation, installation_by, installed, first_stage, steps}
use Rattle.ic_behaviour.specs.Tallied.{Tallied}
use Rattle.ic_behaviour.proofs.Weights.{total-append, total-map}
use Rattle.ic_behaviour.proofs.Ties.{tallied}
use Rattle.ic_run_laws.proofs.Ends.{balances}
use Rattle.ic_mgmt_candid.specs.declared.demand.InstallCode.{InstallCode}
use Rattle.ic_mgmt_candid.specs.declared.demand.Demand.{Demand}
use Rattle.ic_mgmt_candid.specs.declared.demand.Demand.TheVariants as demand
use Rattle.ic_mgmt_candid.specs.declared.denial.Denial.{Denial}
use Rattle.ic_mgmt_candid.specs.declared.denial.Denial.TheVariants as D
use Rattle.ic_mgmt_candid.specs.Checks.{◌>>=◌, or_else, unless}
use Rattle.ic_mgmt_candid.specs.Modules.{code_of}
use Rattle.ic_mgmt_candid.specs.Replies.{canister_reply, status_reply}
use Rattle.ic_mgmt_laws.specs.KeepsCalls.{KeepsCalls}
use Rattle.ic_mgmt_laws.specs.Moves.{with_call, with_canister, with_balance, granted, gone, replied, kept_by, awaiting, waiter_of, shut, emptied, running}
use Rattle.ic_behaviour.specs.declared.call.IncomingCall.{IncomingCall}
use Rattle.ic_calls.specs.Texts.{uninstalled, restarted}
use Rattle.ic_mgmt_laws.specs.Rows.{controllers_or, unless_full, unless_above, next_canister, creates, amount_or, provisional_creates, tops_up, deposits, updates, tells, unless_unsuited, installation_on, unless_refused, installs, uninstalls, starts, stops_in, stops, unless_stopped, deletes, at_canister, row}
use Rattle.ic_mgmt_laws.proofs.Changed.{Restands, as_before, found_entry, set_found, set_twice, set_items, set_balances, set_restands}
use Rattle.ic_mgmt_laws.proofs.Arrives.{stays, along, with, steady}
use Rattle.ic_mgmt_laws.proofs.Exchanges.{waits}
use Rattle.ic_mgmt_laws.proofs.Stays.{bare_stored, nothing_shut}
use Rattle.ic_mgmt_laws.proofs.Steps.{SameItems, any_code, changed_keeps, granted_keeps, call, call_counts, replied_keeps, kept_by_keeps, waiting_state, shut_waits, stops_alone}
use Rattle.ic_mgmt_laws.proofs.Chains.{items_waiting, restarts, empties}
use Rattle.ic_mgmt_laws.proofs.Makes.{inserted, added_keeps, gone_keeps}

-- ---- an installation changes code, store and certified data alone

installed_keeps : (enters : EntersAfter) (env : Env) (t : State) (id : List ℕ) (a : Canister) (mode : Mode) (code : Code) (arg sender : List ℕ)
    → SameItems a (dropped (installed enters env (counted t id a) mode code arg sender).canister)
unfolding installed
installed_keeps enters env t id a mode code arg sender =
    by (steps (record { enters = enters; env = env; canister = counted t id a; sender = sender }) mode a.code code arg (first_stage (counted t id a))) where
      by : (end : Staged) → SameItems a (dropped (installation_by (counted t id a) code end).canister)
      by (Goes now) = record { id = refl; next_call = refl; balance = refl; contexts = bare_stored t id a.contexts; phase = refl; has_code = λ h. any_code code a.contexts }
      by (Refused cause used) = record { id = refl; next_call = refl; balance = refl; contexts = bare_stored t id a.contexts; phase = refl; has_code = λ h. h }

-- ---- refusals

abbrev pub Keeps : State → Result State Denial → Type 0
Keeps s (Ok t) = KeepsCalls s t
Keeps s (Err denial) = Unit {0}

pub keeps_bound : {A : Type 0} (s : State) (r : Result A Denial) (f : A → Result State Denial) → ((x : A) → r ≡ Ok x → Keeps s (f x)) → Keeps s (r >>= f)
keeps_bound s (Ok x) f h = h x refl
keeps_bound s (Err denial) f h = tt

passed : (b : Bool) (denial : Denial) (u : Unit {0}) → unless b denial ≡ Ok u → b ≡ true
passed true denial u is = refl
passed false denial u is = absurd (true≢false (sym (ap is_ok is)))

below : (a b : ℕ) → nat_le a b ≡ true → a ≤ b
below a b is = grind (arith, is)

stopped_is : (phase : Phase) (u : Unit {0}) → unless_stopped phase ≡ Ok u → phase ≡ Stopped
stopped_is Running u is = absurd (true≢false (sym (ap is_ok is)))
stopped_is (Stopping waiters) u is = absurd (true≢false (sym (ap is_ok is)))
stopped_is Stopped u is = refl

-- ---- the methods

module _ (enters : EntersAfter) (limit : ℕ) (s : State) (place : ℕ) (o : Origin) (from callee method arg : List ℕ) (n : ℕ) (is_m : slice_get s.messages place ≡ Some (Call o from callee method arg n)) (sound : Tallied s) where
  abbrev asking : IncomingCall
  asking = record { origin = o; sender = from; method = method; arg = arg; cycles = n }

  -- the call is answered after a move that left the messages
  then_replied : (t : State) → slice_get t.messages place ≡ Some (Call o from callee method arg n) → KeepsCalls s t → (response : Response) → KeepsCalls s (replied asking response (without t place))
  then_replied t is k response = along s t _ k (replied_keeps t place o from callee method arg n is (tallied t k.sound) response)

  new_keeps : (controllers : List (List ℕ)) (balance : ℕ) (u v : Unit {0}) → unless_full s ≡ Ok u → unless_above s balance ≡ Ok v → KeepsCalls s (added s (next_canister s controllers balance))
  new_keeps controllers balance u v room cycles =
      let both = and_parts _ _ (passed _ D.TooManyCanisters u room) in
      added_keeps s (next_canister s controllers balance) sound (record { id = refl; running = refl; contexts = refl; next_call = refl })
      (record { canisters = ltb-true _ _ both.0; counter = ltb-true _ _ both.1; created = below _ _ (passed _ D.TooManyCycles v cycles) })

  creates_keeps : (named : Option (List (List ℕ))) → Keeps s (creates (without s place) asking named)
  creates_keeps named = keeps_bound s (controllers_or (from ∷ []) named) checked (λ controllers is. keeps_bound s (unless_full s) (λ u. done controllers) (λ u room. made controllers u room)) where
    done : List (List ℕ) → Result State Denial
    done controllers = let c = next_canister s controllers 0 in Ok (kept_by c.id c asking (Reply (canister_reply c.id)) (added (without s place) c))

    checked : List (List ℕ) → Result State Denial
    checked controllers = unless_full s >>= λ u. done controllers

    free : (b : Bool) → nat_le (s.created + 0) (2 ^ 127 - 1) ≡ b → unless b D.TooManyCycles ≡ Ok tt
    free true is = refl
    free false is = absurd (true≢false (grind (arith, sound.created, is)))

    made : (controllers : List (List ℕ)) (u : Unit {0}) → unless_full s ≡ Ok u → Keeps s (Ok (kept_by (next_canister s controllers 0).id (next_canister s controllers 0) asking (Reply (canister_reply (next_canister s controllers 0).id)) (added (without s place) (next_canister s controllers 0))))
    made controllers u room =
        let c = next_canister s controllers 0 in
        let t = added s c in
        let k = new_keeps controllers 0 u tt room (free _ refl) in
        along s t _ k (kept_by_keeps t place o from callee method arg n is_m (tallied t k.sound) c.id c (Reply (canister_reply c.id)) (inserted c.id c s.canisters))

  provisional_keeps : (amount : ℕ) (named : Option (List (List ℕ))) → Keeps s (provisional_creates (without s place) asking amount named)
  provisional_keeps amount named =
      keeps_bound s (controllers_or (from ∷ []) named) checked (λ controllers is. keeps_bound s (unless_full s) (λ u. paid controllers) (λ u room. keeps_bound s (unless_above s amount) (λ v. done controllers) (λ v cycles.
      then_replied (added s (next_canister s controllers amount)) is_m (new_keeps controllers amount u v room cycles) (Reply (canister_reply (next_canister s controllers amount).id))))) where
        done : List (List ℕ) → Result State Denial
        done controllers = let c = next_canister s controllers amount in Ok (replied asking (Reply (canister_reply c.id)) (added (without s place) c))

        paid : List (List ℕ) → Result State Denial
        paid controllers = unless_above s amount >>= λ v. done controllers

        checked : List (List ℕ) → Result State Denial
        checked controllers = unless_full s >>= λ u. paid controllers

  module _ (id : List ℕ) (c : Canister) (found : lookup (at id) s.canisters ≡ Some c) where
    top_up_keeps : (amount : ℕ) → Keeps s (tops_up (without s place) asking id amount c)
    top_up_keeps amount = keeps_bound s (unless_above s amount) (λ v. Ok (replied asking empty_reply (granted id c amount (without s place)))) (λ v cycles. then_replied (granted id c amount s) is_m (granted_keeps s sound id c found amount (below _ _ (passed _ D.TooManyCycles v cycles))) empty_reply)

    updates_keeps : (named : Option (List (List ℕ))) → Keeps s (updates (without s place) asking id named c)
    updates_keeps named = keeps_bound s (controllers_or c.controllers named) (λ controllers. Ok (replied asking empty_reply (with_canister id (record c { controllers = controllers }) (without s place)))) (λ controllers is. then_replied (with_canister id (record c { controllers = controllers }) s) is_m
        (changed_keeps s sound id c found (record c { controllers = controllers }) (record { id = refl; next_call = refl; balance = refl; contexts = refl; phase = refl; has_code = λ h. h })) empty_reply)

    installs_keeps : (asked : InstallCode) → asked.canister_id ≡ id → Keeps s (installs enters limit (with_call asking (without s place)) (without s place) asking asked c)
    installs_keeps asked is_id = subst (λ i. Keeps s (installs enters limit (with_call asking (without s place)) (without s place) asking (record asked { canister_id = i }) c)) (sym is_id)
        (keeps_bound s (code_of asked.wasm_module) checked (λ code is. keeps_bound s (unless_unsuited asked.mode c.code) (λ u. tried code) (λ u suits. keeps_bound s (unless_refused (after code).refusal) (λ v. done code) (λ v goes. kept code)))) where
          after : Code → Installation
          after code = installation_on enters limit (with_call asking (without s place)) asking (record asked { canister_id = id }) c code

          done : Code → Result State Denial
          done code = Ok (replied asking empty_reply (with_canister id (dropped (after code).canister) (without s place)))

          tried : Code → Result State Denial
          tried code = unless_refused (after code).refusal >>= λ v. done code

          checked : Code → Result State Denial
          checked code = unless_unsuited asked.mode c.code >>= λ u. tried code

          kept : (code : Code) → KeepsCalls s (replied asking empty_reply (with_canister id (dropped (after code).canister) (without s place)))
          kept code =
              let b : Canister = dropped (after code).canister in
              then_replied (with_canister id b s) is_m (changed_keeps s sound id c found b (installed_keeps enters (env_at s.time limit 0) (with_call asking (without s place)) id c asked.mode code asked.arg from)) empty_reply

    uninstalls_keeps : KeepsCalls s (uninstalls (with_call asking (without s place)) (without s place) asking id c)
    uninstalls_keeps =
        let first = replied_keeps s place o from callee method arg n is_m sound empty_reply in
        let t = replied asking empty_reply (without s place) in
        let more = empties t (tallied t first.sound) id c found uninstalled (stays t first.sound) in
        let k = along s t _ first more in
        subst (KeepsCalls s) (sym (nothing_shut _ (tallied _ k.sound) id (emptied c) (set_found (at id) s.canisters c (emptied c) found) (with_call asking (without s place)) (λ key i. call_counts s place o from callee method arg n is_m sound key i ∙ sym (k.counts key i)))) k

    starts_keeps : KeepsCalls s (starts (without s place) asking id c)
    starts_keeps =
        let first = replied_keeps s place o from callee method arg n is_m sound empty_reply in
        let t = replied asking empty_reply (without s place) in
        along s t _ first (restarts t (tallied t first.sound) id c found restarted (stays t first.sound))

    stops_keeps : KeepsCalls s (stops (with_call asking (without s place)) (without s place) asking id c)
    stops_keeps = by c.phase refl where
      in_phase : IsInPhase c.phase c.contexts
      in_phase = (found_entry s id c found sound).in_phase

      runs : c.phase ≡ Running → (xs : List CallContext) → c.contexts ≡ xs → KeepsCalls s (shut (with_call asking (without s place)) id (awaiting asking c) (waiting_state s place o from callee method arg n is_m sound id c found))
      runs is [] empty = stops_alone s place o from callee method arg n is_m sound id c found empty is
      runs is (x ∷ xs) some = shut_waits s place o from callee method arg n is_m sound id c found (omega (arith, ap length some))

      by : (phase : Phase) → c.phase ≡ phase → KeepsCalls s (stops_in phase (with_call asking (without s place)) (without s place) asking id c)
      by Running is = runs is c.contexts refl
      by (Stopping waiters) is = shut_waits s place o from callee method arg n is_m sound id c found (subst (λ p. IsInPhase p c.contexts) is in_phase)
      by Stopped is = replied_keeps s place o from callee method arg n is_m sound empty_reply

    deletes_keeps : Keeps s (deletes (without s place) asking id c)
    deletes_keeps = keeps_bound s (unless_stopped c.phase) (λ u. Ok (replied asking empty_reply (gone id c (without s place)))) (λ u is. then_replied (gone id c s) is_m (gone_keeps s sound id c found (stopped_is c.phase u is)) empty_reply)

  at_found : (id : List ℕ) (next : Canister → Result State Denial) → ((c : Canister) → lookup (at id) s.canisters ≡ Some c → Keeps s (next c)) → Keeps s (at_canister (without s place) id next)
  at_found id next h = by (lookup (at id) s.canisters) refl where
    by : (found : Option Canister) → lookup (at id) s.canisters ≡ found → Keeps s (or_else found (D.NoCanister id) >>= next)
    by None is = tt
    by (Some c) is = h c is

  pub row_keeps : (asked : Demand) → Keeps s (row enters limit (with_call asking (without s place)) (without s place) asking asked)
  row_keeps (demand.CreateCanister named) = creates_keeps named
  row_keeps (demand.ProvisionalCreateCanisterWithCycles amount named) = provisional_keeps (amount_or amount) named
  row_keeps (demand.ProvisionalTopUpCanister id amount) = at_found id _ (λ c found. top_up_keeps id c found amount)
  row_keeps (demand.DepositCycles id) = at_found id _ (λ c found. kept_by_keeps s place o from callee method arg n is_m sound id c empty_reply found)
  row_keeps (demand.UpdateSettings id named) = at_found id _ (λ c found. updates_keeps id c found named)
  row_keeps (demand.InstallCode asked) = at_found asked.canister_id _ (λ c found. installs_keeps asked.canister_id c found asked refl)
  row_keeps (demand.UninstallCode id) = at_found id _ (λ c found. uninstalls_keeps id c found)
  row_keeps (demand.StartCanister id) = at_found id _ (λ c found. starts_keeps id c found)
  row_keeps (demand.StopCanister id) = at_found id _ (λ c found. stops_keeps id c found)
  row_keeps (demand.DeleteCanister id) = at_found id _ (λ c found. deletes_keeps id c found)
  row_keeps (demand.CanisterStatus id) = at_found id _ (λ c found. replied_keeps s place o from callee method arg n is_m sound (Reply (status_reply c)))
