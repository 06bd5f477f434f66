-- The methods of the management canister (IC Interface Specification, "The IC management canister"). Each is refused, or gives the state after it. The state before it is without the call; `now` is the state that still has it, whose counts canisters store.
use Rattle.std.specs.Prelude.{ℕ, ◌+◌, ◌-◌, ◌^◌, nat_le, nat_lt, ◌&&◌, List, [], ◌∷◌, length, map, Option, Some, None, Result, Ok, Err}
use Rattle.std.specs.List.{flat_map, fold}
use Rattle.std.specs.Map.{lookup}
use Rattle.std.specs.BTreeSet.{insert_key}
use Rattle.std.specs.Ordering.{nat_cmp}
use Rattle.std.specs.Cmp.Lexicographic.{slice_cmp}
use Rattle.ic_principal.specs.CanisterId.{canister_id_of}
use Rattle.ic_behaviour.specs.declared.call.Response.TheVariants.{Reply}
use Rattle.ic_behaviour.specs.declared.phase.Phase.{Phase}
use Rattle.ic_behaviour.specs.declared.phase.Phase.TheVariants.{Running, Stopping, Stopped}
use Rattle.ic_behaviour.specs.declared.install.InstallFault.{InstallFault}
use Rattle.ic_behaviour.specs.declared.install.Mode.{Mode}
use Rattle.ic_behaviour.specs.declared.install.Mode.TheVariants as mode
use Rattle.ic_behaviour.specs.State.{at, waiting, Code, Canister, State}
use Rattle.ic_behaviour.specs.Submitted.{added}
use Rattle.ic_behaviour.specs.Counted.{counted, dropped}
use Rattle.ic_behaviour.specs.Closing.{empty_reply}
use Rattle.ic_behaviour.specs.Deliver.{env_at}
use Rattle.ic_behaviour.specs.Installing.{EntersAfter, Installation, installed}
use Rattle.ic_state.specs.IsCanister.{created}
use Rattle.ic_mgmt_candid.specs.declared.demand.InstallCode.{InstallCode}
use Rattle.ic_mgmt_candid.specs.declared.demand.Demand.{Demand}
use Rattle.ic_mgmt_candid.specs.declared.demand.Demand.TheVariants as demand
use Rattle.ic_mgmt_candid.specs.declared.denial.Denial.{Denial}
use Rattle.ic_mgmt_candid.specs.declared.denial.Denial.TheVariants as D
use Rattle.ic_mgmt_candid.specs.Checks.{◌>>=◌, or_else, unless}
use Rattle.ic_mgmt_candid.specs.Modules.{code_of}
use Rattle.ic_mgmt_candid.specs.Replies.{canister_reply, status_reply}
use Rattle.ic_mgmt_laws.specs.Moves.{with_canister, granted, gone, replied, kept_by, all_answered, awaiting, running, to_waiter, to_context, emptied, shut}
use Rattle.ic_behaviour.specs.declared.call.IncomingCall.{IncomingCall}
use Rattle.ic_calls.specs.Texts.{uninstalled, restarted}

-- ---- canisters are made

-- at most ten controllers are listed; they are kept in rising order, each once
abbrev pub controllers_or : (otherwise : List (List ℕ)) → Option (List (List ℕ)) → Result (List (List ℕ)) Denial
controllers_or otherwise None = Ok otherwise
controllers_or otherwise (Some ids) = do
  _ ← unless (nat_le (length ids) 10) D.TooManyControllers
  Ok (fold (insert_key (slice_cmp nat_cmp)) [] ids)

-- a canister more may be made
abbrev pub unless_full : State → Result (Unit {0}) Denial
unless_full s = unless (nat_lt (length s.canisters) 64 && nat_lt s.next_canister (2 ^ 64 - 1)) D.TooManyCanisters

-- this many cycles more may be created
abbrev pub unless_above : State → (amount : ℕ) → Result (Unit {0}) Denial
unless_above s amount = unless (nat_le (s.created + amount) (2 ^ 127 - 1)) D.TooManyCycles

-- running, without code
abbrev pub next_canister : State → (controllers : List (List ℕ)) → (balance : ℕ) → Canister
next_canister s controllers balance = dropped (created (canister_id_of s.next_canister) controllers balance)

-- create_canister: the call's cycles become the balance
abbrev pub creates : State → IncomingCall → Option (List (List ℕ)) → Result State Denial
creates s call named = do
  controllers ← controllers_or (call.sender ∷ []) named
  _ ← unless_full s
  let c = next_canister s controllers 0 in Ok (kept_by c.id c call (Reply (canister_reply c.id)) (added s c))

abbrev pub amount_or : Option ℕ → ℕ
amount_or None = 100000000000000
amount_or (Some amount) = amount

-- provisional_create_canister_with_cycles: the balance is created
abbrev pub provisional_creates : State → IncomingCall → (amount : ℕ) → Option (List (List ℕ)) → Result State Denial
provisional_creates s call amount named = do
  controllers ← controllers_or (call.sender ∷ []) named
  _ ← unless_full s
  _ ← unless_above s amount
  let c = next_canister s controllers amount in Ok (replied call (Reply (canister_reply c.id)) (added s c))

-- ---- cycles and settings

-- provisional_top_up_canister
abbrev pub tops_up : State → IncomingCall → (id : List ℕ) → (amount : ℕ) → Canister → Result State Denial
tops_up s call id amount c = do
  _ ← unless_above s amount
  Ok (replied call empty_reply (granted id c amount s))

-- deposit_cycles
abbrev pub deposits : State → IncomingCall → (id : List ℕ) → Canister → State
deposits s call id c = kept_by id c call empty_reply s

-- update_settings
abbrev pub updates : State → IncomingCall → (id : List ℕ) → Option (List (List ℕ)) → Canister → Result State Denial
updates s call id named c = do
  controllers ← controllers_or c.controllers named
  Ok (replied call empty_reply (with_canister id (record c { controllers = controllers }) s))

-- canister_status
abbrev pub tells : State → IncomingCall → Canister → State
tells s call c = replied call (Reply (status_reply c)) s

-- ---- code

-- whether the mode suits a canister with code, or without
abbrev pub unless_unsuited : Mode → Option Code → Result (Unit {0}) Denial
unless_unsuited mode.Install (Some code) = Err D.HasModule
unless_unsuited (mode.Upgrade skips) None = Err D.NoModule
unless_unsuited asked code = Ok tt

abbrev pub installation_on : EntersAfter → (limit : ℕ) → (now : State) → IncomingCall → InstallCode → Canister → Code → Installation
installation_on enters limit now call asked c code =
    installed enters (env_at now.time limit 0) (counted now asked.canister_id c) asked.mode code asked.arg call.sender

abbrev pub unless_refused : Option InstallFault → Result (Unit {0}) Denial
unless_refused None = Ok tt
unless_refused (Some fault) = Err (D.NotInstalled fault)

-- install_code
abbrev pub installs : EntersAfter → (limit : ℕ) → (now : State) → State → IncomingCall → InstallCode → Canister → Result State Denial
installs enters limit now s call asked c = do
  code ← code_of asked.wasm_module
  _ ← unless_unsuited asked.mode c.code
  let after = installation_on enters limit now call asked c code in do
    _ ← unless_refused after.refusal
    Ok (replied call empty_reply (with_canister asked.canister_id (dropped after.canister) s))

-- uninstall_code: contexts that must respond are rejected, and no callback runs in any context
abbrev pub uninstalls : (now : State) → State → IncomingCall → (id : List ℕ) → Canister → State
uninstalls now s call id c =
    shut now id (emptied c)
    (with_canister id (emptied c)
    (all_answered id (flat_map (to_context uninstalled) c.contexts)
    (replied call empty_reply s)))

-- ---- the phase

-- start_canister: who waits for the canister to stop is rejected
abbrev pub starts : State → IncomingCall → (id : List ℕ) → Canister → State
starts s call id c =
    with_canister id (running c)
    (all_answered id (map (to_waiter restarted) (waiting c.phase))
    (replied call empty_reply s))

-- the call waits, unless the canister is stopped
abbrev pub stops_in : Phase → (now : State) → State → IncomingCall → (id : List ℕ) → Canister → State
stops_in Stopped now s call id c = replied call empty_reply s
stops_in phase now s call id c = shut now id (awaiting call c) (with_canister id (awaiting call c) s)

-- stop_canister
abbrev pub stops : (now : State) → State → IncomingCall → (id : List ℕ) → Canister → State
stops now s call id c = stops_in c.phase now s call id c

abbrev pub unless_stopped : Phase → Result (Unit {0}) Denial
unless_stopped Stopped = Ok tt
unless_stopped phase = Err D.NotStopped

-- delete_canister
abbrev pub deletes : State → IncomingCall → (id : List ℕ) → Canister → Result State Denial
deletes s call id c = do
  _ ← unless_stopped c.phase
  Ok (replied call empty_reply (gone id c s))

-- ---- the whole

-- the canister that a method is for
abbrev pub at_canister : State → (id : List ℕ) → (Canister → Result State Denial) → Result State Denial
at_canister s id next = or_else (lookup (at id) s.canisters) (D.NoCanister id) >>= next

-- what a method does, or its own refusal
abbrev pub row : EntersAfter → (limit : ℕ) → (now : State) → State → IncomingCall → Demand → Result State Denial
row enters limit now s call (demand.CreateCanister named) = creates s call named
row enters limit now s call (demand.ProvisionalCreateCanisterWithCycles amount named) = provisional_creates s call (amount_or amount) named
row enters limit now s call (demand.ProvisionalTopUpCanister id amount) = at_canister s id (tops_up s call id amount)
row enters limit now s call (demand.DepositCycles id) = at_canister s id (λ c. Ok (deposits s call id c))
row enters limit now s call (demand.UpdateSettings id named) = at_canister s id (updates s call id named)
row enters limit now s call (demand.InstallCode asked) = at_canister s asked.canister_id (installs enters limit now s call asked)
row enters limit now s call (demand.UninstallCode id) = at_canister s id (λ c. Ok (uninstalls now s call id c))
row enters limit now s call (demand.StartCanister id) = at_canister s id (λ c. Ok (starts s call id c))
row enters limit now s call (demand.StopCanister id) = at_canister s id (λ c. Ok (stops now s call id c))
row enters limit now s call (demand.DeleteCanister id) = at_canister s id (deletes s call id)
row enters limit now s call (demand.CanisterStatus id) = at_canister s id (λ c. Ok (tells s call c))
