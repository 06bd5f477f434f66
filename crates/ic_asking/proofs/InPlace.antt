-- A canister is asked in place.
use Rattle.std.proofs.Common.{◌≡◌, ℕ, Bool, true, false, cond, List, [], ◌∷◌, map, Some, None, refl, sym, ap, ◌∙◌, subst}
use Rattle.std.specs.Prelude.{option_map}
use Rattle.std.specs.List.{AllByRecursion}
use Rattle.std.specs.Map.{lookup}
use Rattle.ic_script.specs.declared.Ask.{Ask}
use Rattle.ic_behaviour.specs.State.{at, State}
use Rattle.ic_behaviour.specs.Counted.{CountedCanister, counted, dropped}
use Rattle.ic_behaviour.specs.Texts.{no_canister}
use Rattle.ic_behaviour.specs.Deliver.{env_at}
use Rattle.ic_behaviour.specs.Entry.{enters_by}
use Rattle.ic_behaviour.proofs.Weights.{at-is}
use Rattle.ic_state.specs.declared.canister.Canister.{Canister as StoredCanister}
use Rattle.ic_state.specs.declared.world.Parts.{Parts}
use Rattle.ic_state.specs.Seen.{seen, entry_of, state_of}
use Rattle.ic_state.specs.IsCanister.{IsCanister}
use Rattle.ic_state.specs.IsWorld.{IsWorld, HasCounts}
use Rattle.ic_api.specs.System.{system_api}
use Rattle.ic_entry.specs.Query.{query_response}
use Rattle.ic_entry.specs.Inspection.{is_accepted}
use Rattle.ic_asking.specs.Asking.{answer_by, answer_now, accepts, accepts_now}

-- a canister that is found has what all have
found_keeps : (key : List ℕ) (es : List (List ℕ × StoredCanister)) (c : StoredCanister) → lookup (at key) es ≡ Some c
    → AllByRecursion (λ (e : List ℕ × StoredCanister). IsCanister e.1) es → IsCanister c
found_keeps key [] c is all = cc
found_keeps key (e ∷ es) c is all = by (λ there. found_keeps key es c there all.1) (at key e.0) is where
  by : (lookup (at key) es ≡ Some c → IsCanister c) → (b : Bool) → cond b (Some e.1) (lookup (at key) es) ≡ Some c → IsCanister c
  by later true is = subst IsCanister (let same : e.1 ≡ c = cc in same) all.0
  by later false is = later is

-- its numbers are those of the state
found_counts : (s : State) (key : List ℕ) (es : List (List ℕ × StoredCanister)) (c : StoredCanister) → lookup (at key) es ≡ Some c
    → AllByRecursion (HasCounts s) es → counted s key (dropped (seen c)) ≡ seen c
found_counts s key [] c is all = cc
found_counts s key (e ∷ es) c is all = by (λ there. found_counts s key es c there all.1) (at key e.0) refl is where
  by : (lookup (at key) es ≡ Some c → counted s key (dropped (seen c)) ≡ seen c) → (b : Bool) → at key e.0 ≡ b → cond b (Some e.1) (lookup (at key) es) ≡ Some c
      → counted s key (dropped (seen c)) ≡ seen c
  by later true here is =
      let P = λ (k : List ℕ). counted s k (dropped (seen e.1)) ≡ seen e.1 in
      let Q = λ (d : StoredCanister). counted s key (dropped (seen d)) ≡ seen d in
      subst Q (let same : e.1 ≡ c = cc in same) (subst P (sym (at-is key e.0 here)) all.0)
  by later false here is = later is

-- the state has the canister without its numbers
lookup-seen : (key : List ℕ) (es : List (List ℕ × StoredCanister)) → lookup (at key) (map entry_of es) ≡ option_map (λ c. dropped (seen c)) (lookup (at key) es)
lookup-seen key [] = refl
lookup-seen key (e ∷ es) = by (lookup-seen key es) (at key e.0) where
  by : lookup (at key) (map entry_of es) ≡ option_map (λ c. dropped (seen c)) (lookup (at key) es)
      → (b : Bool) → cond b (Some (dropped (seen e.1))) (lookup (at key) (map entry_of es)) ≡ option_map (λ c. dropped (seen c)) (cond b (Some e.1) (lookup (at key) es))
  by later true = refl
  by later false = later

module _ (limit price : ℕ) (p : Parts) (keeps : IsWorld p) (ask : Ask) where
  pub asked_keeps : (c : StoredCanister) → lookup (at ask.callee) p.canisters.entries ≡ Some c → IsCanister c
  asked_keeps c is = found_keeps ask.callee p.canisters.entries c is keeps.canisters

  pub answer-none : lookup (at ask.callee) p.canisters.entries ≡ None → no_canister ask.callee ≡ answer_now limit price (state_of p) ask
  unfolding answer_now
  answer-none is = sym (ap (answer_by limit price (state_of p) ask) (lookup-seen ask.callee p.canisters.entries ∙ ap (option_map (λ c. dropped (seen c))) is))

  pub answer-some : (c : StoredCanister) → lookup (at ask.callee) p.canisters.entries ≡ Some c
      → query_response (enters_by system_api) (env_at p.time limit price) (seen c) ask.sender ask.method ask.arg ≡ answer_now limit price (state_of p) ask
  unfolding answer_now
  answer-some c is =
      let answer = λ (d : CountedCanister). query_response (enters_by system_api) (env_at p.time limit price) d ask.sender ask.method ask.arg in
      ap answer (sym (found_counts (state_of p) ask.callee p.canisters.entries c is keeps.counts))
      ∙ sym (ap (answer_by limit price (state_of p) ask) (lookup-seen ask.callee p.canisters.entries ∙ ap (option_map (λ c. dropped (seen c))) is))

  pub accepts-none : lookup (at ask.callee) p.canisters.entries ≡ None → true ≡ accepts_now limit price (state_of p) ask
  unfolding accepts_now
  accepts-none is = sym (ap (accepts limit price (state_of p) ask) (lookup-seen ask.callee p.canisters.entries ∙ ap (option_map (λ c. dropped (seen c))) is))

  pub accepts-some : (c : StoredCanister) → lookup (at ask.callee) p.canisters.entries ≡ Some c
      → is_accepted (enters_by system_api) (env_at p.time limit price) (seen c) ask.sender ask.method ask.arg ≡ accepts_now limit price (state_of p) ask
  unfolding accepts_now
  accepts-some c is =
      let told_of = λ (d : CountedCanister). is_accepted (enters_by system_api) (env_at p.time limit price) d ask.sender ask.method ask.arg in
      ap told_of (sym (found_counts (state_of p) ask.callee p.canisters.entries c is keeps.counts))
      ∙ sym (ap (accepts limit price (state_of p) ask) (lookup-seen ask.callee p.canisters.entries ∙ ap (option_map (λ c. dropped (seen c))) is))
