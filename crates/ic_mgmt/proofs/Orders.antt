-- The refusals that every method has come first, and then the method's row.
use Rattle.std.proofs.Common.{◌≡◌, ℕ, List, Option, Some, None, refl, sym, ap, ◌∙◌, subst}
use Rattle.std.specs.Prelude.{Result, Ok, Err, option_map, unwrap_or}
use Rattle.std.specs.Map.{lookup}
use Rattle.ic_behaviour.specs.State.{at, Canister, State}
use Rattle.ic_behaviour.specs.Counted.{dropped}
use Rattle.ic_behaviour.specs.Installing.{EntersAfter, enters_after}
use Rattle.ic_api.specs.System.{system_api}
use Rattle.ic_state.specs.declared.canister.Canister.{Canister as StoredCanister}
use Rattle.ic_state.specs.declared.world.Parts.{Parts}
use Rattle.ic_state.specs.Seen.{seen, state_of}
use Rattle.ic_mgmt_candid.specs.declared.demand.Demand.{Demand}
use Rattle.ic_mgmt_candid.specs.declared.demand.Demand.TheVariants as demand
use Rattle.ic_mgmt_candid.specs.declared.denial.Denial.{Denial}
use Rattle.ic_mgmt_candid.specs.declared.denial.Denial.TheVariants.{NoCanister, NotController}
use Rattle.ic_mgmt_candid.specs.declared.denial.Unmet.{Unmet}
use Rattle.ic_mgmt_candid.specs.Checks.{◌>>=◌, or_else, unless, target, who, known, may as may_demand, permitted, ordered}
use Rattle.ic_behaviour.specs.declared.call.IncomingCall.{IncomingCall}
use Rattle.ic_mgmt_laws.specs.Rows.{amount_or, tops_up, deposits, updates, installs, uninstalls, starts, stops, deletes, tells, at_canister, row as method_row}
use Rattle.ic_mgmt_laws.specs.Manage.{controllers_in, ended}
use Rattle.ic_mgmt.specs.declared.ending.Ending.{Ending}
use Rattle.ic_mgmt.specs.Ending.{ended_by, Does}
use Rattle.ic_mgmt.specs.Changes.{changes, obeyed}
use Rattle.ic_mgmt.proofs.Entries.{seen_lookup}
use Rattle.ic_mgmt.proofs.Worlds.{stands}

-- the call has ended: it is met or refused
module _ (s t : State) (call : IncomingCall) (e : Ending) (row : Result State Denial) where
  pub is_met : row ≡ Ok (ended_by call e t) → ended_by call e t ≡ ended s call row
  is_met is = sym (ap (ended s call) is)

  pub is_refused : (denial : Denial) → (row ≡ Err denial) × (t ≡ s) → ((u : State) → ended_by call e u ≡ ended u call (Err denial)) → ended_by call e t ≡ ended s call row
  is_refused denial is told = told t ∙ ap (λ u. ended u call (Err denial)) is.1 ∙ sym (ap (ended s call) is.0)

pub amount_is : (amount : Option ℕ) → unwrap_or amount 100000000000000 ≡ amount_or amount
amount_is None = refl
amount_is (Some n) = refl

-- the refusals that come first are passed
pub obeys : (r : Result Ending Unmet) (call : IncomingCall) (limit : ℕ) (now s t : State) (d : Demand) → ordered (controllers_in s) call.origin call.sender call.method call.arg ≡ Ok d
    → Does r call s t (method_row (enters_after system_api) limit now s call d) → Does r call s t (obeyed (enters_after system_api) limit now s call)
obeys r call limit now s t d is does = subst (Does r call s t) (sym (ap (λ o. o >>= method_row (enters_after system_api) limit now s call) is)) does

pub same_some : (x y : List ℕ) → Some x ≡ Some y → x ≡ y
same_some x y is = cc

-- what is demanded of a canister is done at that canister
pub row_at : (enters : EntersAfter) (limit : ℕ) (now s : State) (call : IncomingCall) (id : List ℕ) (d : Demand) → target d ≡ Some id
    → method_row enters limit now s call d ≡ at_canister s id (changes enters limit now s call id d)
row_at enters limit now s call id (demand.CreateCanister named) is = absurd cc
row_at enters limit now s call id (demand.ProvisionalCreateCanisterWithCycles amount named) is = absurd cc
row_at enters limit now s call id (demand.ProvisionalTopUpCanister to amount) is = let same = same_some to id is in ap (λ k. at_canister s k (tops_up s call k amount)) same
row_at enters limit now s call id (demand.DepositCycles to) is = let same = same_some to id is in ap (λ k. at_canister s k (λ c. Ok (deposits s call k c))) same
row_at enters limit now s call id (demand.UpdateSettings to named) is = let same = same_some to id is in ap (λ k. at_canister s k (updates s call k named)) same
row_at enters limit now s call id (demand.InstallCode install) is = let same = same_some install.canister_id id is in ap (λ k. at_canister s k (installs enters limit now s call install)) same
row_at enters limit now s call id (demand.UninstallCode to) is = let same = same_some to id is in ap (λ k. at_canister s k (λ c. Ok (uninstalls now s call k c))) same
row_at enters limit now s call id (demand.StartCanister to) is = let same = same_some to id is in ap (λ k. at_canister s k (λ c. Ok (starts s call k c))) same
row_at enters limit now s call id (demand.StopCanister to) is = let same = same_some to id is in ap (λ k. at_canister s k (λ c. Ok (stops now s call k c))) same
row_at enters limit now s call id (demand.DeleteCanister to) is = let same = same_some to id is in ap (λ k. at_canister s k (deletes s call k)) same
row_at enters limit now s call id (demand.CanisterStatus to) is = let same = same_some to id is in ap (λ k. at_canister s k (λ c. Ok (tells s call c))) same

-- the controllers of the canister that a demand is for
module _ (p : Parts) (sender : List ℕ) (d : Demand) (id : List ℕ) (is : target d ≡ Some id) where
  abbrev judged : Option (List (List ℕ)) → Result (Unit {0}) Denial
  judged found = unless (may_demand (who d) sender (target d) found) NotController

  abbrev found_by : Option (List (List ℕ)) → Result (Unit {0}) Denial
  found_by o = (or_else o (NoCanister id) >>= λ (found : List (List ℕ)). Ok (Some found)) >>= judged

  asks : permitted (controllers_in (state_of p)) sender d ≡ found_by (controllers_in (state_of p) id)
  asks = ap (λ o. known (controllers_in (state_of p)) o >>= judged) is

  pub permits : (c : StoredCanister) → lookup (at id) p.canisters.entries ≡ Some c → permitted (controllers_in (state_of p)) sender d ≡ judged (Some c.controllers)
  permits c found = asks ∙ ap (λ o. found_by (option_map (λ (a : Canister). a.controllers) o)) (stands p id c found)

  pub permits_none : lookup (at id) p.canisters.entries ≡ None → permitted (controllers_in (state_of p)) sender d ≡ Err (NoCanister id)
  permits_none none = asks ∙ ap (λ o. found_by (option_map (λ (a : Canister). a.controllers) o)) (seen_lookup id p.canisters.entries ∙ ap (option_map (λ c. dropped (seen c))) none)
