-- The second phase in one pass.
use Rattle.std.proofs.Common.{◌≡◌, ◌+◌, ℕ, zero, suc, Bool, true, false, ◌&&◌, ◌||◌, List, [], ◌∷◌, ◌++◌, length, map, Option, Some, None, refl, sym, ap, ap₂, ◌∙◌, subst, arith, append_assoc, append-nil, length-append}
use Rattle.std.specs.Prelude.{slice_get, not, is_some}
use Rattle.std.specs.Option.{option_map}
use Rattle.std.specs.List.{list_any, list_all}
use Rattle.std.specs.Map.{lookup}
use Rattle.std.proofs.lemmas.Bool.{and_parts}
use Rattle.std.proofs.lemmas.Map.Made.{lookup-map_values}
use Rattle.ic_behaviour.specs.declared.call.Message.{Message}
use Rattle.ic_behaviour.specs.State.{at, callee_of, State}
use Rattle.ic_behaviour.specs.Counted.{dropped}
use Rattle.ic_state.specs.declared.canister.Canister.{Canister as StoredCanister}
use Rattle.ic_state.specs.declared.world.Parts.{Parts}
use Rattle.ic_state.specs.Seen.{seen, entry_of, state_of}
use Rattle.ic_state.specs.IsWorld.{IsWorld}
use Rattle.ic_behaviour.specs.Steps.{Rules, step, same_way, along}
use Rattle.ic_behaviour.specs.Round.{goes, sweep, second_phase}
use Rattle.ic_behaviour.proofs.Lists.{slice_get_at, take_front}
use Rattle.ic_mgmt_laws.specs.Managed.{managed_rules}
use Rattle.ic_mgmt.specs.Sweeping.{among, is_inside, stays, Delivers, ahead, Reaches}

not_both : (a b : Bool) → (not a && not b) ≡ not (a || b)
not_both true b = refl
not_both false b = refl

pub seen_there : (key : List ℕ) (es : List (List ℕ × StoredCanister)) → is_some (lookup (at key) (map entry_of es)) ≡ is_some (lookup (at key) es)
seen_there key es = ap is_some (lookup-map_values (λ c. dropped (seen c)) (at key) es) ∙ mapped (lookup (at key) es) where
  mapped : (o : Option StoredCanister) → is_some (option_map (λ c. dropped (seen c)) o) ≡ is_some o
  mapped None = refl
  mapped (Some c) = refl

module _ (kept : List Message) (m : Message) (todo : List Message) (p : Parts) where
  abbrev s : State
  s = state_of (among kept (m ∷ todo) p)

  pub is_at_place : slice_get s.messages (length kept) ≡ Some m
  is_at_place = slice_get_at kept m (todo ++ p.messages)

  goes_is : goes s (length kept) (slice_get s.messages (length kept)) ≡ not (stays kept p m)
  goes_is =
      ap (goes s (length kept)) is_at_place
      ∙ ap (λ l. not (is_some (lookup (at (callee_of m)) s.canisters)) && not (list_any (same_way m) l)) (take_front kept (m ∷ (todo ++ p.messages)))
      ∙ ap (λ b. not b && not (list_any (same_way m) kept)) (seen_there (callee_of m) p.canisters.entries)
      ∙ not_both (is_some (lookup (at (callee_of m)) p.canisters.entries)) (list_any (same_way m) kept)

  -- one that stays
  kept_next : among (kept ++ m ∷ []) todo p ≡ among kept (m ∷ todo) p
  kept_next = ap (λ (l : List Message). record p { messages = l }) (append_assoc kept (m ∷ []) (todo ++ p.messages))

  ahead_kept : (rules : Rules) → stays kept p m ≡ true → ahead rules kept (m ∷ todo) p ≡ ahead rules (kept ++ m ∷ []) todo p
  unfolding sweep
  ahead_kept rules stay =
      let goes_not : goes s (length kept) (slice_get s.messages (length kept)) ≡ false = goes_is ∙ ap not stay in
      let place : length kept + 1 ≡ length (kept ++ m ∷ []) = omega (arith, length-append kept (m ∷ [])) in
      rw goes_not (ap₂ (λ (n : ℕ) (q : Parts). sweep rules (length todo) n (state_of q)) place (sym kept_next))

  pub reaches_kept : (limit : ℕ) (start : Parts) (n : ℕ) → stays kept p m ≡ true → Reaches limit start kept (m ∷ todo) p n → Reaches limit start (kept ++ m ∷ []) todo p n
  reaches_kept limit start n stay so_far = record {
    keeps = subst IsWorld (sym kept_next) so_far.keeps;
    state = λ price.
        ap₂ (λ (q : Parts) places. along (managed_rules limit price) (state_of q) places) kept_next (sym (ahead_kept (managed_rules limit price) stay))
        ∙ so_far.state price;
    handled = λ price. omega (arith, so_far.handled price, ap length (ahead_kept (managed_rules limit price) stay));
  }

  -- one that goes
  ahead_gone : (rules : Rules) (q : Parts) → stays kept p m ≡ false → state_of (among kept todo q) ≡ step rules s (length kept)
      → ahead rules kept (m ∷ todo) p ≡ length kept ∷ ahead rules kept todo q
  unfolding sweep
  ahead_gone rules q go is =
      let goes_now : goes s (length kept) (slice_get s.messages (length kept)) ≡ true = goes_is ∙ ap not go in
      rw goes_now (ap (λ t. length kept ∷ sweep rules (length todo) (length kept) t) (sym is))

  pub reaches_gone : (limit : ℕ) (start q : Parts) (n : ℕ) → stays kept p m ≡ false → Delivers limit kept m todo p q
      → Reaches limit start kept (m ∷ todo) p n → Reaches limit start kept todo q (n + 1)
  reaches_gone limit start q n go delivers so_far = record {
    keeps = delivers.keeps;
    state = λ price.
        let rules = managed_rules limit price in
        ap (λ t. along rules t (ahead rules kept todo q)) (delivers.state price)
        ∙ ap (along rules s) (sym (ahead_gone rules q go (delivers.state price)))
        ∙ so_far.state price;
    handled = λ price. omega (arith, so_far.handled price, ap length (ahead_gone (managed_rules limit price) q go (delivers.state price)));
  }

-- before the first message
pub reaches_start : (limit : ℕ) (p : Parts) → IsWorld p → Reaches limit p [] p.messages (record p { messages = [] }) 0
unfolding second_phase
reaches_start limit p is =
    let whole : among [] p.messages (record p { messages = [] }) ≡ p = ap (λ (l : List Message). record p { messages = l }) (append-nil p.messages) in
    record {
      keeps = subst IsWorld (sym whole) is;
      state = λ price. ap (λ (q : Parts). along (managed_rules limit price) (state_of q) (sweep (managed_rules limit price) (length p.messages) 0 (state_of q))) whole;
      handled = λ price. omega (arith, ap (λ (q : Parts). length (sweep (managed_rules limit price) (length p.messages) 0 (state_of q))) whole);
    }

-- after the last
pub reaches_end : (limit price : ℕ) (start : Parts) (kept : List Message) (p : Parts) (n : ℕ) → Reaches limit start kept [] p n
    → (state_of (among kept [] p) ≡ along (managed_rules limit price) (state_of start) (second_phase (managed_rules limit price) (state_of start)))
    × (n ≡ length (second_phase (managed_rules limit price) (state_of start)))
unfolding sweep
reaches_end limit price start kept p n so_far = (so_far.state price, omega (arith, so_far.handled price))

-- ---- all are to canisters

inside_at : (es : List (List ℕ × StoredCanister)) (ms : List Message) (place : ℕ) (m : Message) → list_all (is_inside es) ms ≡ true → slice_get ms place ≡ Some m → is_inside es m ≡ true
inside_at es [] place m all is = cc
inside_at es (x ∷ ms) zero m all is =
    let same : x ≡ m = cc in
    subst (λ (y : Message). is_inside es y ≡ true) same (and_parts (is_inside es x) (list_all (is_inside es) ms) all).0
inside_at es (x ∷ ms) (suc place) m all is = inside_at es ms place m (and_parts (is_inside es x) (list_all (is_inside es) ms) all).1 is

-- then none goes
pub none_goes : (rules : Rules) (p : Parts) → list_all (is_inside p.canisters.entries) p.messages ≡ true → second_phase rules (state_of p) ≡ []
unfolding second_phase sweep
none_goes rules p all = none (length p.messages) 0 where
  stays_at : (place : ℕ) (o : Option Message) → slice_get p.messages place ≡ o → goes (state_of p) place o ≡ false
  stays_at place None is = refl
  stays_at place (Some m) is = rw (seen_there (callee_of m) p.canisters.entries ∙ inside_at p.canisters.entries p.messages place m all is) refl

  none : (n place : ℕ) → sweep rules n place (state_of p) ≡ []
  none zero place = refl
  none (suc n) place = rw (stays_at place (slice_get p.messages place) refl) (none n (place + 1))
