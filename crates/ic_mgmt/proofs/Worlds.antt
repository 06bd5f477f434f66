-- Parts in which one canister is changed, or made, or goes.
use Rattle.std.proofs.Common.{◌≡◌, ℕ, ◌+◌, ◌-◌, ◌≤◌, ◌^◌, List, map, Some, None, sym, ap, ◌∙◌, subst, arith}
use Rattle.std.specs.Prelude.{Result, Err, option_map}
use Rattle.std.specs.List.{AllByRecursion}
use Rattle.std.specs.Map.{lookup, set_value}
use Rattle.std.specs.BTreeMap.{BTreeMap}
use Rattle.ic_behaviour.specs.State.{at, Canister, State}
use Rattle.ic_behaviour.specs.Counted.{counted, dropped}
use Rattle.ic_state.specs.declared.canister.Canister.{Canister as StoredCanister}
use Rattle.ic_state.specs.declared.world.Parts.{Parts}
use Rattle.ic_state.specs.Seen.{seen, entry_of, state_of}
use Rattle.ic_state.specs.IsCanister.{IsCanister, cycles_of}
use Rattle.ic_state.specs.IsWorld.{HasCounts}
use Rattle.ic_mgmt_candid.specs.declared.denial.Denial.{Denial}
use Rattle.ic_mgmt_candid.specs.declared.denial.Denial.TheVariants as D
use Rattle.ic_mgmt_candid.specs.declared.denial.Unmet.{Unmet}
use Rattle.ic_mgmt_candid.specs.Checks.{◌>>=◌, or_else}
use Rattle.ic_mgmt_laws.specs.Moves.{with_canister}
use Rattle.ic_behaviour.specs.declared.call.IncomingCall.{IncomingCall}
use Rattle.ic_mgmt_laws.specs.Rows.{at_canister}
use Rattle.ic_mgmt.specs.declared.ending.Ending.{Ending}
use Rattle.ic_mgmt.specs.Taken.{AreCanisters, HaveCounts, HasRoom, HoldsCycles}
use Rattle.ic_mgmt.specs.Ending.{Does, Keeps}
use Rattle.ic_mgmt.specs.Changes.{DoesAt, KeepsCounts}
use Rattle.ic_mgmt.proofs.Refusals.{does_as}
use Rattle.ic_mgmt.proofs.Entries.{found_each, each_set, seen_lookup, seen_set}

-- ---- where a canister stands

module _ (p : Parts) (id : List ℕ) where
  pub at_none : (next : Canister → Result State Denial) → lookup (at id) p.canisters.entries ≡ None → at_canister (state_of p) id next ≡ Err (D.NoCanister id)
  at_none next is = ap (λ o. or_else o (D.NoCanister id) >>= next) (seen_lookup id p.canisters.entries ∙ ap (option_map (λ c. dropped (seen c))) is)

  module _ (c : StoredCanister) (found : lookup (at id) p.canisters.entries ≡ Some c) where
    pub stands : lookup (at id) (state_of p).canisters ≡ Some (dropped (seen c))
    stands = seen_lookup id p.canisters.entries ∙ ap (option_map (λ b. dropped (seen b))) found

    pub at_some : (next : Canister → Result State Denial) → at_canister (state_of p) id next ≡ next (dropped (seen c))
    at_some next = ap (λ o. or_else o (D.NoCanister id) >>= next) stands

    pub has_counts : (now : State) → HaveCounts now p → counted now id (dropped (seen c)) ≡ seen c
    has_counts now all = found_each (HasCounts now) id p.canisters.entries c found all

    pub is_canister : AreCanisters p → IsCanister c
    is_canister all = found_each (λ e. IsCanister e.1) id p.canisters.entries c found all

    pub has_room : (cycles : ℕ) → HoldsCycles p cycles → cycles_of c + cycles ≤ 2 ^ 127 - 1
    has_room cycles holds = (let room : cycles_of c + cycles + p.burned ≤ p.created = found_each (HasRoom p cycles) id p.canisters.entries c found holds.room in omega (arith, room, holds.created))

    -- another one in its place
    module _ (d : StoredCanister) where
      pub keeps_set : (q : Parts) → q.canisters.entries ≡ set_value (at id) p.canisters.entries d → AreCanisters p → IsCanister d → KeepsCounts id c d → Keeps p q
      keeps_set q set all is kept = record {
        canisters = subst (AllByRecursion (λ (e : List ℕ × StoredCanister). IsCanister e.1)) (sym set) (each_set (λ e. IsCanister e.1) id p.canisters.entries d is all);
        counts = λ now h. subst (AllByRecursion (HasCounts now)) (sym set) (each_set (HasCounts now) id p.canisters.entries d (kept now (has_counts now h)) h);
      }

      module _ (m : BTreeMap (List ℕ) StoredCanister) (set : m.entries ≡ set_value (at id) p.canisters.entries d) where
        abbrev q : Parts
        q = record p { canisters = m }

        pub state_set : state_of q ≡ with_canister id (dropped (seen d)) (state_of p)
        state_set = ap (λ es. record (state_of p) { canisters = es }) (ap (map entry_of) set ∙ seen_set id p.canisters.entries d)

        pub does_set : (r : Result Ending Unmet) (call : IncomingCall) (row : State → State → Canister → Result State Denial) → DoesAt r call id c d row → (now : State) → HaveCounts now p
            → Does r call (state_of p) (state_of q) (at_canister (state_of p) id (row now (state_of p)))
        does_set r call row does now h =
            does_as r call (state_of p) (state_of q) (with_canister id (dropped (seen d)) (state_of p)) _ _ state_set (at_some (row now (state_of p)))
            (does now (state_of p) (record { found = stands; counts = has_counts now h }))
