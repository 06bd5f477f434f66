-- The state after a message was handled at a canister is sound, and has the counts that the canister stores.
use Rattle.std.proofs.Common.{◌≡◌, ℕ, ◌+◌, ◌<◌, ◌≤◌, Bool, true, false, ◌&&◌, List, [], ◌∷◌, ◌++◌, map, slice_get, Some, refl, sym, ap, ap₂, ◌∙◌, subst, arith, not-suc-le-zero, ltb-true, filter}
use Rattle.std.specs.List.{AllByRecursion, flat_map, remove}
use Rattle.std.specs.List.Sorted.{IsStrictlySortedBy}
use Rattle.std.specs.Option.{IsSome}
use Rattle.std.specs.Map.{set_value}
use Rattle.std.specs.Ordering.{nat_cmp}
use Rattle.std.specs.Cmp.Lexicographic.{slice_cmp}
use Rattle.std.proofs.lemmas.Map.{keys-set_value, length-set_value}
use Rattle.ic_behaviour.specs.declared.call.CallId.TheVariants as call_id
use Rattle.ic_run_laws.proofs.Amid.{GivenAt, Scene, desk, others_balance, total-desk}
use Rattle.ic_run_laws.proofs.Ends.{Frame, balances, sound_of}
use Rattle.ic_run_laws.proofs.Exact.{calls_exact}
use Rattle.ic_run_laws.proofs.Fills.{each-both}
use Rattle.ic_run_laws.proofs.Holds.{Holds, given_anew, sorted_anew}
use Rattle.ic_run_laws.proofs.Places.{actors, are_apart, each-mapped, few, found_each, none_away, scene, split_next, total-same}
use Rattle.ic_run_laws.proofs.Spots.{Spot}
use Rattle.ic_run_laws.proofs.Works.{At}
use Rattle.ic_run_laws.specs.Advances.{Advances}
use Rattle.ic_behaviour.proofs.Spots.{no_contexts, no_waiters, total-spot}
use Rattle.ic_behaviour.proofs.Ties.{sound as sound_from}
use Rattle.ic_behaviour.proofs.Weights.{at-is, at-self, each-back, each-map, same_id-is, total-append, total-at, total-map}
use Rattle.ic_behaviour.specs.Closing.{is_open, phase_after}
use Rattle.ic_behaviour.specs.Counted.{CountedCanister, bare, counted, dropped, with_count}
use Rattle.ic_behaviour.specs.Items.{Given, HasNext, InContext, Item, awaited, begins, calls_of, is_context, item_of, items, items_at, outstanding}
use Rattle.ic_behaviour.specs.Sound.{HasCode, IsInPhase}
use Rattle.ic_behaviour.specs.State.{CallContext, Canister, State, at, same_id, waiting}
use Rattle.ic_behaviour.specs.Tallied.{IsEntry, Tallied}
use Rattle.ic_behaviour.specs.Totals.{one, total}
use Rattle.ic_behaviour.specs.declared.call.CallId.{CallId}
use Rattle.ic_behaviour.specs.declared.call.Message.{Message}
use Rattle.ic_behaviour.specs.declared.context.Context.{Context}
use Rattle.ic_behaviour.specs.declared.phase.Phase.{Phase}
use Rattle.ic_behaviour.specs.declared.phase.Phase.TheVariants.{Running, Stopped, Stopping}
use Rattle.ic_behaviour.specs.declared.request.Request.{Request}

-- what is kept of the contexts is open, and a canister that was not stopped is in its phase
pub all_open : (xs : List Context) → AllByRecursion (λ (x : Context). is_open x ≡ true) (filter is_open xs)
all_open [] = tt
all_open (x ∷ xs) = by (is_open x) refl (all_open xs) where
  by : (b : Bool) → is_open x ≡ b → AllByRecursion (λ (y : Context). is_open y ≡ true) (filter is_open xs) → AllByRecursion (λ (y : Context). is_open y ≡ true) (filter is_open (x ∷ xs))
  by true is later = rw is (is, later)
  by false is later = rw is later

pub in_phase_after : (phase : Phase) (xs : List Context) → (phase ≡ Stopped → ⊥) → IsInPhase (phase_after phase xs) (map bare xs)
in_phase_after Running xs moves = tt
in_phase_after (Stopping waiters) [] moves = refl
in_phase_after (Stopping waiters) (x ∷ xs) moves = omega arith
in_phase_after Stopped xs moves = absurd (moves refl)

module _ (s : State) (place : ℕ) (m : Message) (is_m : slice_get s.messages place ≡ Some m) (key : List ℕ) (a : Canister) (p : Spot key s.canisters a) (sound : Tallied s)
    (own : CallId) (off : List ℕ → CallId → Bool) (less : CallId → ℕ) (c : CountedCanister) (ms outs : List Message) (rs : List Request) (burned : ℕ)
    (amid : At (scene s place m is_m key a p sound own off less) c ms rs burned) (is_key : c.id ≡ key) (same_code : c.code ≡ a.code)
    (sent : (w : Message → ℕ) → total w outs ≡ total w (remove s.messages place) + total w ms) where
  abbrev pub ended : State
  ended = record s { canisters = set_value (at key) s.canisters (dropped c); messages = outs; requests = rs; burned = burned }

  abbrev z : Scene
  z = scene s place m is_m key a p sound own off less

  same : (w : Item → ℕ) → total w (items ended) ≡ total w (desk z ms c.contexts (waiting c.phase))
  same w = omega (
    arith,
    total-append w (map item_of outs) (flat_map items_at (set_value (at key) s.canisters (dropped c))),
    total-map item_of w outs,
    sent (λ n. w (item_of n)),
    ap (λ es. total w (flat_map items_at es)) (p.set (dropped c)),
    total-spot w key (dropped c) p.before p.after,
    total-desk z w ms c.contexts (waiting c.phase),
    total-map bare (λ x. w (InContext key x)) c.contexts,
    total-append w (map item_of (remove s.messages place)) (flat_map items_at (p.before ++ p.after)),
    total-map item_of w (remove s.messages place),
  )

  given_end : (id : CallId) → GivenAt z c.next_call id → Given ended id
  given_end (call_id.Ingress k) g = omega (arith, g, amid.holds.many)
  given_end (call_id.Canister caller n) g = (subst (HasNext caller n) (sym (p.set (dropped c))) (each-back (λ (e : List ℕ × Canister). at caller e.0 ≡ true → n < e.1.next_call) p.before (key, dropped c) p.after g.1 g.0), g.2)

  money : c.balance + others_balance z + burned ≡ balances ended + burned
  money = omega (arith, ap (total (λ (e : List ℕ × Canister). e.1.balance)) (p.set (dropped c)), total-at (λ (e : List ℕ × Canister). e.1.balance) p.before (key, dropped c) p.after)

  holds : Holds s key off less (Given ended) (items ended) rs (balances ended + burned)
  holds = subst (λ n. Holds s key off less (Given ended) (items ended) rs n) money (given_anew s key off less given_end (sorted_anew s key off less same amid.holds))

  counts : AllByRecursion (λ (x : Context). x.outstanding ≡ outstanding ended key x.id) c.contexts
  counts = each-map (λ (x : Context). x.outstanding ≡ total (awaited key x.id) (desk z ms c.contexts (waiting c.phase))) (λ (x : Context). x.outstanding ≡ outstanding ended key x.id)
      (λ x e. e ∙ sym (same (awaited key x.id))) c.contexts amid.counted

  -- the contexts of the canister
  stands : (id : CallId) → total (is_context key id) (items ended) ≡ total (λ (x : Context). one (same_id id x.id)) c.contexts
  stands id = omega (
    arith,
    same (is_context key id),
    total-desk z (is_context key id) ms c.contexts (waiting c.phase),
    none_away s place m is_m key a p sound id,
    no_contexts key id ms,
    no_waiters key key id (waiting c.phase),
    total-same (λ (x : Context). one (at key key && same_id id x.id)) (λ (x : Context). one (same_id id x.id)) (λ x. ap (λ b. one (b && same_id id x.id)) (at-self key)) c.contexts,
  )

  -- where each kept context is open, each awaits a call
  pub shut_open : AllByRecursion (λ (x : Context). is_open x ≡ true) c.contexts → (k : List ℕ) (id : CallId) → at k key ≡ true → 0 < total (is_context k id) (items ended) → 0 < total (awaited k id) (items ended)
  shut_open opens k id is some =
      let e : k ≡ key = at-is k key is in
      let here : 0 < total (is_context key id) (items ended) = subst (λ i. 0 < total (is_context i id) (items ended)) e some in
      let there : 0 < total (awaited key id) (items ended) = found_each (λ (x : Context). one (same_id id x.id)) (λ (x : Context). (is_open x ≡ true) × (x.outstanding ≡ outstanding ended key x.id)) (0 < total (awaited key id) (items ended))
      (λ x weighs facts. at_context x (same_id id x.id) refl weighs facts.0 facts.1) c.contexts (omega (arith, here, stands id))
      (each-both (λ (x : Context). is_open x ≡ true) (λ (x : Context). x.outstanding ≡ outstanding ended key x.id) (λ (x : Context). (is_open x ≡ true) × (x.outstanding ≡ outstanding ended key x.id)) (λ x o q. (o, q)) c.contexts opens counts) in
      subst (λ i. 0 < total (awaited i id) (items ended)) (sym e) there where
        at_context : (x : Context) (b : Bool) → same_id id x.id ≡ b → 0 < one (same_id id x.id) → is_open x ≡ true → x.outstanding ≡ outstanding ended key x.id → 0 < total (awaited key id) (items ended)
        at_context x true is_id weighs o q = subst (λ i. 0 < total (awaited key i) (items ended)) (sym (same_id-is id x.id is_id)) (omega (arith, ltb-true 0 x.outstanding o, q))
        at_context x false is_id weighs o q = (let no : 0 < 0 = omega (arith, weighs, ap one is_id) in absurd (not-suc-le-zero no))

  frame : IsInPhase c.phase (map bare c.contexts) → AllByRecursion (λ (r : Request). r.time ≤ s.time) rs → Frame s ended
  frame phase times = record {
    rises = subst (IsStrictlySortedBy (slice_cmp nat_cmp)) (sym (keys-set_value (at key) s.canisters (dropped c))) sound.rises;
    entries = subst (AllByRecursion (IsEntry s.next_canister)) (sym (p.set (dropped c))) (each-back (IsEntry s.next_canister) p.before (key, dropped c) p.after (actors s place m is_m key a p sound).0 (record {
      own_id = is_key;
      named = (actors s place m is_m key a p sound).1.named;
      has_code = subst (λ code. HasCode code (map bare c.contexts)) (sym same_code) (each-mapped (λ (x : Context). x.deleted ≡ false → IsSome a.code) (λ (x : CallContext). x.deleted ≡ false → IsSome a.code) bare (λ x f. f) c.contexts amid.has_code);
      in_phase = phase;
    }));
    few = subst (AllByRecursion (λ (e : List ℕ × Canister). total (calls_of e.0) (items ended) ≤ 500)) (sym (p.set (dropped c)))
        (each-back (λ (e : List ℕ × Canister). total (calls_of e.0) (items ended) ≤ 500) p.before (key, dropped c) p.after
        (each-both (λ (e : List ℕ × Canister). total (calls_of e.0) (items s) ≤ 500) (λ (e : List ℕ × Canister). at key e.0 ≡ false) (λ (e : List ℕ × Canister). total (calls_of e.0) (items ended) ≤ 500)
        (λ e h differs. omega (arith, h, holds.others_few e.0 differs)) (p.before ++ p.after) (few s place m is_m key a p sound).0 (are_apart s place m is_m key a p sound))
        (omega (arith, amid.few, amid.count_is, same (calls_of key))));
    created = refl;
    canisters = length-set_value (at key) s.canisters (dropped c);
    time = refl;
    times = times;
  }

  pub advances : ((k : List ℕ) (id : CallId) → off k id ≡ true → 0 < total (is_context k id) (items ended) → 0 < total (awaited k id) (items ended))
      → IsInPhase c.phase (map bare c.contexts) → AllByRecursion (λ (r : Request). r.time ≤ s.time) rs → Advances s ended key less
  advances shut phase times = record {
    sound = sound_from ended (sound_of s ended key off less sound holds shut (frame phase times));
    given = λ id g. kept id g;
    placed = holds.placed;
    others = holds.others;
  } where
    kept : (id : CallId) → Given s id → Given ended id
    kept (call_id.Ingress k) g = omega (arith, g, amid.holds.many)
    kept (call_id.Canister caller n) g = let parts = split_next s place m is_m key a p sound caller n g.0 in
        given_end (call_id.Canister caller n) ((λ is. (let small = parts.1 is in omega (arith, small, amid.later))), parts.0, g.1)

  -- the counts that the canister stores are those of the state after
  pub stores_counts : counted ended key (dropped c) ≡ c
  stores_counts = ap₂ (λ xs n. record c { contexts = xs; outstanding = n }) (back c.contexts counts) many where
    back : (xs : List Context) → AllByRecursion (λ (x : Context). x.outstanding ≡ outstanding ended key x.id) xs → map (with_count ended key) (map bare xs) ≡ xs
    back [] all = refl
    back (x ∷ xs) all = ap₂ (λ n ys. record x { outstanding = n } ∷ ys) (sym all.0) (back xs all.1)

    names : (id : CallId) → 0 < total (awaited key id) (items ended) → 0 < total (λ i. one (same_id id i)) (map (λ (x : Context). x.id) c.contexts)
    names id some = let found = holds.names key id some in omega (arith, found, stands id, total-map (λ (x : Context). x.id) (λ i. one (same_id id i)) c.contexts)

    single : (id : CallId) → total (λ i. one (same_id id i)) (map (λ (x : Context). x.id) c.contexts) ≤ 1
    single id = omega (arith, holds.begun id, same (begins id), total-desk z (begins id) ms c.contexts (waiting c.phase), total-map (λ (x : Context). x.id) (λ i. one (same_id id i)) c.contexts)

    many : total (λ (x : CallContext). outstanding ended key x.id) (map bare c.contexts) ≡ c.outstanding
    many = omega (
      arith,
      amid.count_is,
      same (calls_of key),
      calls_exact key (items ended) (map (λ (x : Context). x.id) c.contexts) names single,
      total-map bare (λ (x : CallContext). outstanding ended key x.id) c.contexts,
      total-map (λ (x : Context). x.id) (λ i. total (awaited key i) (items ended)) c.contexts,
    )
