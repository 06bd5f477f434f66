-- The numbers that a world stores, and the state that it stands for.
use Rattle.std.proofs.Common.{◌≡◌, ℕ, List, [], ◌∷◌, map, refl, sym, ap, ◌∙◌, subst}
use Rattle.std.specs.List.{AllByRecursion}
use Rattle.ic_behaviour.specs.State.{CallContext, Canister, State}
use Rattle.ic_behaviour.specs.Counted.{CountedCanister, bare, with_count, counted, dropped}
use Rattle.ic_behaviour.specs.Sound.{Sound}
use Rattle.ic_state.specs.declared.canister.Canister.{Canister as StoredCanister}
use Rattle.ic_state.specs.declared.world.Parts.{Parts}
use Rattle.ic_state.specs.Seen.{entry_of, state_of}
use Rattle.ic_state.specs.IsWorld.{HasCounts, IsWorld}
use Rattle.ic_rounds.specs.Slots.{Stored, seen_entry, stored_of, AreCanisters}
use Rattle.ic_rounds.proofs.Batches.{counted_entry, counted_state}

abbrev bare_entry : List ℕ × CountedCanister → List ℕ × Canister
bare_entry e = (e.0, dropped e.1)

abbrev pub bare_state : Stored → State
bare_state w = record {
  canisters = map bare_entry w.canisters;
  messages = w.messages;
  requests = w.requests;
  time = w.time;
  created = w.created;
  burned = w.burned;
  next_canister = w.next_canister;
}

bare_counted : (s : State) (key : List ℕ) (xs : List CallContext) → map bare (map (with_count s key) xs) ≡ xs
bare_counted s key [] = refl
bare_counted s key (x ∷ xs) = ap (λ l. x ∷ l) (bare_counted s key xs)

dropped_counted : (s : State) (key : List ℕ) (c : Canister) → dropped (counted s key c) ≡ c
dropped_counted s key c = ap (λ xs. record c { contexts = xs }) (bare_counted s key c.contexts)

bare_seen : (es : List (List ℕ × StoredCanister)) → map bare_entry (map seen_entry es) ≡ map entry_of es
bare_seen [] = refl
bare_seen (e ∷ es) = ap (λ l. entry_of e ∷ l) (bare_seen es)

bare_entries : (s : State) (es : List (List ℕ × Canister)) → map bare_entry (map (counted_entry s) es) ≡ es
bare_entries s [] = refl
bare_entries s (e ∷ es) = let first = dropped_counted s e.0 e.1 in let rest = bare_entries s es in λ i. (e.0, first i) ∷ rest i

pub bare_back : (t : State) → bare_state (counted_state t) ≡ t
bare_back t = ap (λ es. record t { canisters = es }) (bare_entries t t.canisters)

-- the numbers of a world are those of its state
stored_entries : (s : State) (es : List (List ℕ × StoredCanister)) → AllByRecursion (HasCounts s) es → map seen_entry es ≡ map (counted_entry s) (map entry_of es)
stored_entries s [] all = refl
stored_entries s (e ∷ es) all = let first = sym all.0 in let rest = stored_entries s es all.1 in λ i. (e.0, first i) ∷ rest i

pub stored_is : (p : Parts) → IsWorld p → stored_of p ≡ counted_state (state_of p)
stored_is p is = ap (λ es. record (stored_of p) { canisters = es }) (stored_entries (state_of p) p.canisters.entries is.counts)

-- and a world has them
has_counts : (s : State) (es : List (List ℕ × StoredCanister)) (fs : List (List ℕ × Canister)) → map seen_entry es ≡ map (counted_entry s) fs → AllByRecursion (HasCounts s) es
has_counts s [] fs same = tt
has_counts s (e ∷ es) [] same = cc
has_counts s (e ∷ es) (f ∷ fs) same =
    let first : seen_entry e ≡ counted_entry s f = cc in
    let rest : map seen_entry es ≡ map (counted_entry s) fs = cc in
    let P = λ (x : List ℕ × CountedCanister). counted s x.0 (dropped x.1) ≡ x.1 in
    (subst P (sym first) (ap (counted s f.0) (dropped_counted s f.0 f.1)), has_counts s es fs rest)

pub world_from : (t : State) (q : Parts) → Sound t → AreCanisters q → stored_of q ≡ counted_state t → IsWorld q × (state_of q ≡ t)
world_from t q sound keep same =
    let is : state_of q ≡ t =
    sym (ap (λ es. record (state_of q) { canisters = es }) (bare_seen q.canisters.entries)) ∙ ap bare_state same ∙ bare_back t in
    let counts : AllByRecursion (HasCounts t) q.canisters.entries = has_counts t q.canisters.entries t.canisters (ap (λ (w : Stored). w.canisters) same) in (
      record {
        sound = subst Sound (sym is) sound;
        counts = subst (λ (s : State). AllByRecursion (HasCounts s) q.canisters.entries) (sym is) counts;
        canisters = keep;
      },
      is,
    )
