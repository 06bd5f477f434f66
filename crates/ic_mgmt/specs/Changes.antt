-- The methods that change one canister and nothing beside it, of a canister as it is stored. No standard has this.
use Rattle.std.specs.Prelude.{◌≡◌, ℕ, List, Some, Result, Ok}
use Rattle.std.specs.Map.{lookup}
use Rattle.ic_behaviour.specs.State.{at, Canister, State}
use Rattle.ic_behaviour.specs.Counted.{counted, dropped}
use Rattle.ic_behaviour.specs.Installing.{EntersAfter}
use Rattle.ic_state.specs.declared.canister.Canister.{Canister as StoredCanister}
use Rattle.ic_state.specs.Seen.{seen}
use Rattle.ic_mgmt_candid.specs.declared.demand.Demand.{Demand}
use Rattle.ic_mgmt_candid.specs.declared.demand.Demand.TheVariants as demand
use Rattle.ic_mgmt_candid.specs.declared.denial.Denial.{Denial}
use Rattle.ic_mgmt_candid.specs.declared.denial.Unmet.{Unmet}
use Rattle.ic_mgmt_candid.specs.Checks.{◌>>=◌, ordered}
use Rattle.ic_mgmt_laws.specs.Moves.{with_canister, awaiting, shut}
use Rattle.ic_behaviour.specs.declared.call.IncomingCall.{IncomingCall}
use Rattle.ic_mgmt_laws.specs.Rows.{tops_up, deposits, updates, installs, uninstalls, starts, stops, deletes, tells, row}
use Rattle.ic_mgmt_laws.specs.Manage.{controllers_in}
use Rattle.ic_mgmt.specs.declared.ending.Ending.{Ending}
use Rattle.ic_mgmt.specs.Ending.{Does}

-- a method that changes the canister that it is for and nothing beside it, or tells something of it
abbrev pub IsOfOne : Demand → Type 0
IsOfOne (demand.CreateCanister controllers) = ⊥
IsOfOne (demand.ProvisionalCreateCanisterWithCycles amount controllers) = ⊥
IsOfOne (demand.ProvisionalTopUpCanister id amount) = ⊥
IsOfOne (demand.DeleteCanister id) = ⊥
IsOfOne asked = Unit {0}

-- the row of each that has a canister, at that canister
abbrev pub changes : EntersAfter → (limit : ℕ) → (now s : State) → IncomingCall → (id : List ℕ) → Demand → Canister → Result State Denial
changes enters limit now s call id (demand.ProvisionalTopUpCanister to amount) c = tops_up s call id amount c
changes enters limit now s call id (demand.DepositCycles to) c = Ok (deposits s call id c)
changes enters limit now s call id (demand.UpdateSettings to named) c = updates s call id named c
changes enters limit now s call id (demand.InstallCode install) c = installs enters limit now s call install c
changes enters limit now s call id (demand.UninstallCode to) c = Ok (uninstalls now s call id c)
changes enters limit now s call id (demand.StartCanister to) c = Ok (starts s call id c)
changes enters limit now s call id (demand.StopCanister to) c = Ok (stops now s call id c)
changes enters limit now s call id (demand.DeleteCanister to) c = deletes s call id c
changes enters limit now s call id (demand.CanisterStatus to) c = Ok (tells s call c)
changes enters limit now s call id asked c = row enters limit now s call asked

-- what a call does, unless it is refused
abbrev pub obeyed : EntersAfter → (limit : ℕ) → (now s : State) → IncomingCall → Result State Denial
obeyed enters limit now s call = ordered (controllers_in s) call.origin call.sender call.method call.arg >>= row enters limit now s call

-- the call waits; it is what stop_canister does to a canister that is not stopped
abbrev pub waits : (now s : State) → IncomingCall → (id : List ℕ) → Canister → State
waits now s call id c = shut now id (awaiting call c) (with_canister id (awaiting call c) s)

-- a state has a stored canister under its id, with its numbers of `now`
pub record Stands (now s : State) (id : List ℕ) (c : StoredCanister) : Type 0 where
  pub found : lookup (at id) s.canisters ≡ Some (dropped (seen c))
  pub counts : counted now id (dropped (seen c)) ≡ seen c

-- wherever the canister is, what code did to it is what the row says
abbrev pub DoesAt : Result Ending Unmet → IncomingCall → (id : List ℕ) → (c d : StoredCanister) → (State → State → Canister → Result State Denial) → Type 0
DoesAt result call id c d row = (now s : State) → Stands now s id c → Does result call s (with_canister id (dropped (seen d)) s) (row now s (dropped (seen c)))

-- the numbers of its calls stay true
abbrev pub KeepsCounts : (id : List ℕ) → (c d : StoredCanister) → Type 0
KeepsCounts id c d = (now : State) → counted now id (dropped (seen c)) ≡ seen c → counted now id (dropped (seen d)) ≡ seen d
