-- A message that makes and deletes no canister leaves the ids of the canisters.
use Rattle.std.proofs.Common.{◌≡◌, ℕ, ◌+◌, true, false, ◌||◌, List, Option, Some, None, Result, Ok, Err, refl, ap, ◌∙◌, inl, inr}
use Rattle.std.specs.Prelude.{not, slice_get}
use Rattle.std.specs.Map.{keys_of, lookup, set_value}
use Rattle.std.proofs.lemmas.Bool.{cases_Bool, not-true, false≢true}
use Rattle.std.proofs.lemmas.Map.{keys-set_value}
use Rattle.ic_behaviour.specs.declared.call.Origin.{Origin}
use Rattle.ic_behaviour.specs.declared.call.Message.{Message}
use Rattle.ic_behaviour.specs.declared.call.Message.TheVariants.{Call, Answer}
use Rattle.ic_behaviour.specs.declared.phase.Phase.{Phase}
use Rattle.ic_behaviour.specs.declared.phase.Phase.TheVariants.{Running, Stopping, Stopped}
use Rattle.ic_behaviour.specs.State.{at, callee_of, Code, Canister, State}
use Rattle.ic_behaviour.specs.Counted.{counted, dropped}
use Rattle.ic_behaviour.specs.Closing.{empty_reply, closed}
use Rattle.ic_behaviour.specs.Entry.{enters_by}
use Rattle.ic_behaviour.specs.Installing.{EntersAfter, Installation, enters_after}
use Rattle.ic_behaviour.specs.Deliver.{is_management, handled_outside, handled_by, without}
use Rattle.ic_run_laws.proofs.Delivers.{deliver_is}
use Rattle.ic_api.specs.System.{system_api}
use Rattle.ic_mgmt_candid.specs.declared.method.Method.{Method}
use Rattle.ic_mgmt_candid.specs.declared.demand.InstallCode.{InstallCode}
use Rattle.ic_mgmt_candid.specs.declared.demand.Demand.{Demand}
use Rattle.ic_mgmt_candid.specs.declared.demand.Demand.TheVariants as demand
use Rattle.ic_mgmt_candid.specs.declared.denial.Denial.{Denial}
use Rattle.ic_mgmt_candid.specs.declared.denial.Denial.TheVariants as D
use Rattle.ic_mgmt_candid.specs.Checks.{◌>>=◌, or_else, unless, is_canisters, demanded, permitted, ordered}
use Rattle.ic_mgmt_candid.specs.Methods.{method_of, is_only_for_canisters}
use Rattle.ic_mgmt_candid.specs.Demands.{demand_of}
use Rattle.ic_mgmt_candid.specs.Modules.{code_of}
use Rattle.ic_mgmt_laws.specs.Moves.{with_call, with_canister, with_balance, granted, replied, awaiting, running, emptied}
use Rattle.ic_behaviour.specs.declared.call.IncomingCall.{IncomingCall}
use Rattle.ic_mgmt_laws.specs.Rows.{controllers_or, unless_above, tops_up, deposits, updates, tells, unless_unsuited, installation_on, unless_refused, installs, uninstalls, starts, stops_in, at_canister, row}
use Rattle.ic_mgmt_laws.specs.Manage.{controllers_in, ended, manage}
use Rattle.ic_mgmt_laws.specs.Managed.{managed_rules}
use Rattle.ic_mgmt.proofs.Handles.{managing}
use Rattle.ic_behaviour.specs.Steps.{step}
use Rattle.ic_queues.specs.Queued.{may_change_canisters, is_steady}
use Rattle.ic_queue_rounds.proofs.Methods.{steady_method, steady_demand, Given, method_steady, demand_steady}

-- ---- what a call demands

abbrev Demands : Result Demand Denial → Type 0
Demands (Ok d) = steady_demand d ≡ true
Demands (Err denial) = Unit {0}

demands_bound : {A : Type 0} (r : Result A Denial) (f : A → Result Demand Denial) → ((x : A) → Demands (f x)) → Demands (r >>= f)
demands_bound (Ok x) f all = all x
demands_bound (Err denial) f all = tt

demands_or : (o : Option Demand) (denial : Denial) → Given steady_demand o → Demands (or_else o denial)
demands_or None denial is = tt
demands_or (Some d) denial is = is

demanded_steady : (from : Origin) (name arg : List ℕ) → may_change_canisters name ≡ false → Demands (demanded from name arg)
demanded_steady from name arg none = by (method_of name) (method_steady name none) where
  by : (o : Option Method) → Given steady_method o
      → Demands (or_else o D.NoMethod >>= λ m. unless (is_canisters from || not (is_only_for_canisters m)) D.OnlyForCanisters >>= λ _. or_else (demand_of m arg) D.NotDecoded)
  by None is = tt
  by (Some m) is =
      demands_bound (unless (is_canisters from || not (is_only_for_canisters m)) D.OnlyForCanisters) (λ _. or_else (demand_of m arg) D.NotDecoded)
      (λ u. demands_or (demand_of m arg) D.NotDecoded (demand_steady m arg is))

ordered_steady : (controllers : List ℕ → Option (List (List ℕ))) (from : Origin) (sender name arg : List ℕ) → may_change_canisters name ≡ false → Demands (ordered controllers from sender name arg)
ordered_steady controllers from sender name arg none = by (demanded from name arg) (demanded_steady from name arg none) where
  by : (r : Result Demand Denial) → Demands r → Demands (r >>= λ d. permitted controllers sender d >>= λ _. Ok d)
  by (Ok d) is = demands_bound (permitted controllers sender d) (λ _. Ok d) (λ u. is)
  by (Err denial) is = tt

-- ---- the methods

abbrev SameIds : State → Result State Denial → Type 0
SameIds s (Ok t) = keys_of t.canisters ≡ keys_of s.canisters
SameIds s (Err denial) = Unit {0}

ids_bound : {A : Type 0} (s : State) (r : Result A Denial) (f : A → Result State Denial) → ((x : A) → SameIds s (f x)) → SameIds s (r >>= f)
ids_bound s (Ok x) f all = all x
ids_bound s (Err denial) f all = tt

ids_demanded : (s : State) (r : Result Demand Denial) (f : Demand → Result State Denial) → Demands r → ((d : Demand) → steady_demand d ≡ true → SameIds s (f d)) → SameIds s (r >>= f)
ids_demanded s (Ok d) f is all = all d is
ids_demanded s (Err denial) f is all = tt

module _ (enters : EntersAfter) (limit : ℕ) (now s : State) (call : IncomingCall) where
  module _ (id : List ℕ) (c : Canister) where
    set_ids : (b : Canister) → keys_of (set_value (at id) s.canisters b) ≡ keys_of s.canisters
    set_ids b = keys-set_value (at id) s.canisters b

    tops_up_ids : (amount : ℕ) → SameIds s (tops_up s call id amount c)
    tops_up_ids amount = ids_bound s (unless_above s amount) (λ v. Ok (replied call empty_reply (granted id c amount s))) (λ v. set_ids (with_balance (c.balance + amount) c))

    deposits_ids : SameIds s (Ok (deposits s call id c))
    deposits_ids = set_ids (with_balance (c.balance + call.cycles) c)

    updates_ids : (named : Option (List (List ℕ))) → SameIds s (updates s call id named c)
    updates_ids named =
        ids_bound s (controllers_or c.controllers named) (λ controllers. Ok (replied call empty_reply (with_canister id (record c { controllers = controllers }) s)))
        (λ controllers. set_ids (record c { controllers = controllers }))

    twice_ids : (b d : Canister) → keys_of (set_value (at id) (set_value (at id) s.canisters b) d) ≡ keys_of s.canisters
    twice_ids b d = keys-set_value (at id) (set_value (at id) s.canisters b) d ∙ set_ids b

    uninstalls_ids : SameIds s (Ok (uninstalls now s call id c))
    uninstalls_ids = twice_ids (emptied c) (dropped (closed (counted now id (emptied c))))

    starts_ids : SameIds s (Ok (starts s call id c))
    starts_ids = set_ids (running c)

    stops_in_ids : (phase : Phase) → SameIds s (Ok (stops_in phase now s call id c))
    stops_in_ids Stopped = refl
    stops_in_ids Running = twice_ids (awaiting call c) (dropped (closed (counted now id (awaiting call c))))
    stops_in_ids (Stopping waiters) = twice_ids (awaiting call c) (dropped (closed (counted now id (awaiting call c))))

    tells_ids : SameIds s (Ok (tells s call c))
    tells_ids = refl

  installs_ids : (asked : InstallCode) (c : Canister) → SameIds s (installs enters limit now s call asked c)
  installs_ids asked c =
      ids_bound s (code_of asked.wasm_module) checked (λ code. ids_bound s (unless_unsuited asked.mode c.code) (λ u. tried code)
      (λ u. ids_bound s (unless_refused (after code).refusal) (λ v. done code) (λ v. keys-set_value (at asked.canister_id) s.canisters (dropped (after code).canister)))) where
        after : Code → Installation
        after code = installation_on enters limit now call asked c code

        done : Code → Result State Denial
        done code = Ok (replied call empty_reply (with_canister asked.canister_id (dropped (after code).canister) s))

        tried : Code → Result State Denial
        tried code = unless_refused (after code).refusal >>= λ v. done code

        checked : Code → Result State Denial
        checked code = unless_unsuited asked.mode c.code >>= λ u. tried code

  at_ids : (id : List ℕ) (next : Canister → Result State Denial) → ((c : Canister) → SameIds s (next c)) → SameIds s (at_canister s id next)
  at_ids id next all = by (lookup (at id) s.canisters) where
    by : (found : Option Canister) → SameIds s (or_else found (D.NoCanister id) >>= next)
    by None = tt
    by (Some c) = all c

  row_ids : (d : Demand) → steady_demand d ≡ true → SameIds s (row enters limit now s call d)
  row_ids (demand.CreateCanister named) is = absurd (false≢true is)
  row_ids (demand.ProvisionalCreateCanisterWithCycles amount named) is = absurd (false≢true is)
  row_ids (demand.ProvisionalTopUpCanister id amount) is = at_ids id _ (λ c. tops_up_ids id c amount)
  row_ids (demand.DepositCycles id) is = at_ids id _ (λ c. deposits_ids id c)
  row_ids (demand.UpdateSettings id named) is = at_ids id _ (λ c. updates_ids id c named)
  row_ids (demand.InstallCode asked) is = at_ids asked.canister_id _ (λ c. installs_ids asked c)
  row_ids (demand.UninstallCode id) is = at_ids id _ (λ c. uninstalls_ids id c)
  row_ids (demand.StartCanister id) is = at_ids id _ (λ c. starts_ids id c)
  row_ids (demand.StopCanister id) is = at_ids id _ (λ c. stops_in_ids id c c.phase)
  row_ids (demand.DeleteCanister id) is = absurd (false≢true is)
  row_ids (demand.CanisterStatus id) is = at_ids id _ (λ c. tells_ids id c)

ended_ids : (s : State) (call : IncomingCall) (r : Result State Denial) → SameIds s r → keys_of (ended s call r).canisters ≡ keys_of s.canisters
ended_ids s call (Ok t) same = same
ended_ids s call (Err denial) same = refl

manage_ids : (enters : EntersAfter) (limit : ℕ) (s : State) (from : Origin) (sender callee method arg : List ℕ) (cycles : ℕ) → may_change_canisters method ≡ false
    → keys_of (manage enters limit s (Call from sender callee method arg cycles)).canisters ≡ keys_of s.canisters
unfolding manage
manage_ids enters limit s from sender callee method arg cycles none =
    let call : IncomingCall = record { origin = from; sender = sender; method = method; arg = arg; cycles = cycles } in
    ended_ids s call (ordered (controllers_in s) from sender method arg >>= row enters limit (with_call call s) s call)
    (ids_demanded s (ordered (controllers_in s) from sender method arg) (row enters limit (with_call call s) s call) (ordered_steady (controllers_in s) from sender method arg none)
    (λ d is. row_ids enters limit (with_call call s) s call d is))

-- ---- a message to no canister

outside_ids : (limit : ℕ) (s : State) (m : Message) → is_steady m ≡ true → keys_of (handled_outside managing limit s m).canisters ≡ keys_of s.canisters
outside_ids limit s (Call from sender callee method arg cycles) is =
    elim (cases_Bool (is_management callee)) [
      | inl here ↦
          let none : not (may_change_canisters method) ≡ true = rw here at is in
          rw here (manage_ids (enters_after system_api) limit s from sender callee method arg cycles (not-true (may_change_canisters method) none))
      | inr there ↦ rw there refl
    ]
outside_ids limit s (Answer from sender response refund) is = refl

pub steady_step : (limit price : ℕ) (s : State) (place : ℕ) (m : Message) → slice_get s.messages place ≡ Some m → lookup (at (callee_of m)) s.canisters ≡ None → is_steady m ≡ true
    → keys_of (step (managed_rules limit price) s place).canisters ≡ keys_of s.canisters
steady_step limit price s place m is_m absent is =
    ap (λ (t : State). keys_of t.canisters)
    (deliver_is (enters_by system_api) managing limit price s place m is_m ∙ ap (handled_by (enters_by system_api) managing limit price s (without s place) m) absent)
    ∙ outside_ids limit (without s place) m is
