-- The methods that answer other calls, as chains of moves.
use Rattle.std.proofs.Common.{◌≡◌, ℕ, ◌+◌, ◌<◌, Bool, true, false, not, List, [], ◌∷◌, ◌++◌, map, length, length-append, Some, None, refl, sym, ap, ap₂, subst, arith, append_assoc, append-nil, true≢false, not-suc-le-zero}
use Rattle.std.specs.List.{flat_map, fold}
use Rattle.std.specs.Option.{IsSome}
use Rattle.std.specs.Map.{lookup, set_value}
use Rattle.std.proofs.lemmas.Map.Steps.{set_value_same}
use Rattle.ic_behaviour.specs.declared.call.Response.{Response}
use Rattle.ic_behaviour.specs.declared.call.Message.{Message}
use Rattle.ic_behaviour.specs.declared.phase.Waiter.{Waiter}
use Rattle.ic_behaviour.specs.declared.phase.Phase.{Phase}
use Rattle.ic_behaviour.specs.declared.phase.Phase.TheVariants.{Running, Stopping, Stopped}
use Rattle.ic_behaviour.specs.declared.request.Request.{Request}
use Rattle.ic_behaviour.specs.Totals.{total, when}
use Rattle.ic_behaviour.specs.State.{at, waiting, CallContext, Canister, State}
use Rattle.ic_behaviour.specs.Items.{Item, InContext, InWaiter, items_at, item_of}
use Rattle.ic_behaviour.specs.Sound.{HasCode, IsInPhase}
use Rattle.ic_behaviour.specs.Tallied.{Tallied, wrong_flags}
use Rattle.ic_behaviour.specs.Deliver.{filled, filled_by, routed, routed_by}
use Rattle.ic_behaviour.proofs.Weights.{each-back, total-append, total-at, total-map}
use Rattle.ic_behaviour.proofs.Ties.{tallied}
use Rattle.ic_run_laws.proofs.Fills.{each-at}
use Rattle.ic_run_laws.proofs.Takes.{waiter_leaves, context_leaves}
use Rattle.ic_mgmt_laws.specs.KeepsCalls.{KeepsCalls}
use Rattle.ic_mgmt_laws.specs.Moves.{to_waiter, to_context, deleted, emptied, running, all_answered, with_canister}
use Rattle.ic_mgmt_laws.proofs.Changed.{Restands, found_entry, found_items, set_found, set_twice, set_items, set_balances, set_restands}
use Rattle.ic_mgmt_laws.proofs.Arrives.{along, never, none, with, steady}
use Rattle.ic_mgmt_laws.proofs.Exchanges.{deletes}
use Rattle.ic_mgmt_laws.proofs.Answers.{reached, then_answered, then_exchanged}

-- ---- a phase, and contexts

phase_swapped : (phase : Phase) (front : List CallContext) (x y : CallContext) (back : List CallContext) → IsInPhase phase (front ++ x ∷ back) → IsInPhase phase (front ++ y ∷ back)
phase_swapped Running front x y back is = tt
phase_swapped (Stopping waiters) front x y back is = omega (arith, is, length-append front (x ∷ back), length-append front (y ∷ back))
phase_swapped Stopped front x y back is = absurd (not-suc-le-zero none_left) where
  none_left : 0 < 0
  none_left = omega (arith, ap length is, length-append front (x ∷ back))

pub items_waiting : (id : List ℕ) (c : Canister) (w : Item → ℕ) → total w (items_at (id, c)) ≡ total (λ x. w (InContext id x)) c.contexts + total (λ v. w (InWaiter id v)) (waiting c.phase)
items_waiting id c w = omega (arith, total-append w (map (InContext id) c.contexts) (map (InWaiter id) (waiting c.phase)), total-map (InContext id) w c.contexts, total-map (InWaiter id) w (waiting c.phase))

-- ---- the beginning and the end of a chain

module _ (s : State) (sound : Tallied s) (id : List ℕ) (c : Canister) (found : lookup (at id) s.canisters ≡ Some c) where
  pub reached_first : KeepsCalls s s → KeepsCalls s (reached s id c [] s.requests)
  reached_first k = subst (KeepsCalls s) (sym (ap₂ (λ es ms. record s { canisters = es; messages = ms }) (set_value_same (at id) s.canisters c found) (append-nil s.messages))) k

-- a canister changes, but not its items
module _ (s : State) (id : List ℕ) (c a b : Canister) (found : lookup (at id) s.canisters ≡ Some c) (ms : List Message) (rs : List Request) (kept : KeepsCalls s (reached s id a ms rs)) where
  abbrev u : State
  u = reached s id a ms rs

  abbrev here : lookup (at id) u.canisters ≡ Some a
  here = set_found (at id) s.canisters c a found

  pub then_changed : b.id ≡ a.id → b.next_call ≡ a.next_call → b.balance ≡ a.balance → HasCode b.code b.contexts → IsInPhase b.phase b.contexts
      → ((w : Item → ℕ) → total w (items_at (id, b)) ≡ total w (items_at (id, a))) → KeepsCalls s (reached s id b ms rs)
  then_changed same_id same_next same_balance has_code in_phase same =
      let ut = tallied u kept.sound in
      let step = steady u ut (set_value (at id) u.canisters b) 0 (set_restands u id a here b ut same_id same_next has_code in_phase)
      (λ w. omega (arith, set_items u id a here b w, same w)) (omega (arith, set_balances u id a here b, same_balance)) (omega (arith, ut.created)) in
      subst (λ l. KeepsCalls s (with s l (s.messages ++ ms) rs)) (set_twice (at id) s.canisters a b)
      (subst (λ n. KeepsCalls s (record s { canisters = set_value (at id) u.canisters b; messages = s.messages ++ ms; requests = rs; created = n })) (plus_none s.created)
      (along s u _ kept step)) where
        plus_none : (n : ℕ) → n + 0 ≡ n
        plus_none n = omega arith

-- ---- who waits for a canister to stop

module _ (s : State) (id : List ℕ) (c : Canister) (found : lookup (at id) s.canisters ≡ Some c) (response : Response) where
  abbrev to_stop : List Waiter → Canister
  to_stop vs = record c { phase = Stopping vs }

  pub then_released : (vs : List Waiter) (ms : List Message) (rs : List Request) → KeepsCalls s (reached s id (to_stop vs) ms rs)
      → KeepsCalls s (reached s id (to_stop []) (ms ++ flat_map (routed id) (map (to_waiter response) vs)) (fold filled rs (map (to_waiter response) vs)))
  then_released [] ms rs k = subst (λ l. KeepsCalls s (reached s id (to_stop []) l rs)) (sym (append-nil ms)) k
  then_released (v ∷ vs) ms rs k =
      let u = reached s id (to_stop (v ∷ vs)) ms rs in
      let ut = tallied u k.sound in
      let here : lookup (at id) u.canisters ≡ Some (to_stop (v ∷ vs)) = set_found (at id) s.canisters c (to_stop (v ∷ vs)) found in
      let entry = found_entry u id (to_stop (v ∷ vs)) here ut in
      let one = then_answered s id c (to_stop (v ∷ vs)) found ms rs k (to_stop vs) (InWaiter id v) [] v.origin response v.cycles
      (set_restands u id (to_stop (v ∷ vs)) here (to_stop vs) ut refl refl entry.has_code entry.in_phase) refl (waiter_leaves u id never none id v)
      (λ w. omega (arith, items_waiting id (to_stop (v ∷ vs)) w)) (λ w. omega (arith, items_waiting id (to_stop (v ∷ vs)) w, items_waiting id (to_stop vs) w)) in
      let rest = then_released vs (ms ++ routed_by id v.origin response v.cycles) (filled_by v.origin response rs) one in
      subst (λ l. KeepsCalls s (reached s id (to_stop []) l (fold filled (filled_by v.origin response rs) (map (to_waiter response) vs)))) (append_assoc ms (routed_by id v.origin response v.cycles) (flat_map (routed id) (map (to_waiter response) vs))) rest

-- ---- contexts

module _ (s : State) (id : List ℕ) (c : Canister) (found : lookup (at id) s.canisters ≡ Some c) (response : Response) where
  abbrev holding : List CallContext → Canister
  holding xs = record c { contexts = xs }

  items_holding : (front : List CallContext) (x : CallContext) (back : List CallContext) (w : Item → ℕ)
      → total w (items_at (id, holding (front ++ x ∷ back))) ≡ w (InContext id x) + (total (λ y. w (InContext id y)) (front ++ back) + total (λ v. w (InWaiter id v)) (waiting c.phase))
  items_holding front x back w = omega (arith, items_waiting id (holding (front ++ x ∷ back)) w, total-at (λ y. w (InContext id y)) front x back)

  module _ (front : List CallContext) (x : CallContext) (back : List CallContext) (ms : List Message) (rs : List Request) (k : KeepsCalls s (reached s id (holding (front ++ x ∷ back)) ms rs)) where
    abbrev now : State
    now = reached s id (holding (front ++ x ∷ back)) ms rs

    abbrev now_sound : Tallied now
    now_sound = tallied now k.sound

    abbrev stands_now : lookup (at id) now.canisters ≡ Some (holding (front ++ x ∷ back))
    stands_now = set_found (at id) s.canisters c (holding (front ++ x ∷ back)) found

    restands : (y : CallContext) → (y.deleted ≡ false → IsSome c.code) → Restands now (set_value (at id) now.canisters (holding (front ++ y ∷ back)))
    restands y coded =
        let entry = found_entry now id (holding (front ++ x ∷ back)) stands_now now_sound in
        set_restands now id (holding (front ++ x ∷ back)) stands_now (holding (front ++ y ∷ back)) now_sound refl refl
        (each-back (λ (z : CallContext). z.deleted ≡ false → IsSome c.code) front y back (each-at (λ (z : CallContext). z.deleted ≡ false → IsSome c.code) front x back entry.has_code).0 coded)
        (phase_swapped c.phase front x y back entry.in_phase)

    had_code : x.deleted ≡ false → IsSome c.code
    had_code = (each-at (λ (z : CallContext). z.deleted ≡ false → IsSome c.code) front x back (found_entry now id (holding (front ++ x ∷ back)) stands_now now_sound).has_code).1

    -- one that must respond does so
    pub then_rejected : x.must_respond ≡ true
        → KeepsCalls s (reached s id (holding (front ++ (record x { must_respond = false; available = 0 }) ∷ back)) (ms ++ routed_by id x.origin response x.available) (filled_by x.origin response rs))
    then_rejected must =
        let y : CallContext = record x { must_respond = false; available = 0 } in
        then_answered s id c (holding (front ++ x ∷ back)) found ms rs k (holding (front ++ y ∷ back)) (InContext id x) (InContext id y ∷ []) x.origin response x.available
        (restands y had_code) refl (context_leaves now id never none x must)
        (λ w. omega (arith, items_holding front x back w)) (λ w. omega (arith, items_holding front x back w, items_holding front y back w))

    -- one that need not is deleted
    pub then_deleted : x.must_respond ≡ false → KeepsCalls s (reached s id (holding (front ++ deleted x ∷ back)) ms rs)
    then_deleted silent =
        then_exchanged s id c (holding (front ++ x ∷ back)) found ms rs k (holding (front ++ deleted x ∷ back)) (InContext id x) (InContext id (deleted x))
        (restands (deleted x) (λ is. absurd (true≢false is))) refl (deletes id x silent spent) (sym spent)
        (λ w. omega (arith, items_holding front x back w)) (λ w. omega (arith, items_holding front x back w, items_holding front (deleted x) back w)) where
          spent : x.available ≡ 0
          spent = omega (
            arith,
            now_sound.flags,
            total-append wrong_flags (map item_of now.messages) (flat_map items_at now.canisters),
            found_items now id (holding (front ++ x ∷ back)) stands_now wrong_flags,
            items_holding front x back wrong_flags,
            ap (λ b. when (not b) x.available) silent,
          )

  pub then_all_deleted : (todo front : List CallContext) (ms : List Message) (rs : List Request) → KeepsCalls s (reached s id (holding (front ++ todo)) ms rs)
      → KeepsCalls s (reached s id (holding (front ++ map deleted todo)) (ms ++ flat_map (routed id) (flat_map (to_context response) todo)) (fold filled rs (flat_map (to_context response) todo)))
  then_all_deleted [] front ms rs k = subst (λ l. KeepsCalls s (reached s id (holding (front ++ [])) l rs)) (sym (append-nil ms)) k
  then_all_deleted (x ∷ todo) front ms rs k = by x.must_respond refl (λ ns qs b. then_all_deleted todo (front ++ deleted x ∷ []) ns qs b) where
    moved : (ns : List Message) (qs : List Request) → KeepsCalls s (reached s id (holding (front ++ deleted x ∷ todo)) ns qs) → KeepsCalls s (reached s id (holding ((front ++ deleted x ∷ []) ++ todo)) ns qs)
    moved ns qs b = subst (λ l. KeepsCalls s (reached s id (holding l) ns qs)) (sym (append_assoc front (deleted x ∷ []) todo)) b

    back : (ns : List Message) (qs : List Request) → KeepsCalls s (reached s id (holding ((front ++ deleted x ∷ []) ++ map deleted todo)) ns qs) → KeepsCalls s (reached s id (holding (front ++ deleted x ∷ map deleted todo)) ns qs)
    back ns qs b = subst (λ l. KeepsCalls s (reached s id (holding l) ns qs)) (append_assoc front (deleted x ∷ []) (map deleted todo)) b

    by : (must : Bool) → x.must_respond ≡ must
        → ((ns : List Message) (qs : List Request) → KeepsCalls s (reached s id (holding ((front ++ deleted x ∷ []) ++ todo)) ns qs)
        → KeepsCalls s (reached s id (holding ((front ++ deleted x ∷ []) ++ map deleted todo)) (ns ++ flat_map (routed id) (flat_map (to_context response) todo)) (fold filled qs (flat_map (to_context response) todo))))
        → KeepsCalls s (reached s id (holding (front ++ map deleted (x ∷ todo))) (ms ++ flat_map (routed id) (flat_map (to_context response) (x ∷ todo))) (fold filled rs (flat_map (to_context response) (x ∷ todo))))
    by true must later =
        let y : CallContext = record x { must_respond = false; available = 0 } in
        let ns = ms ++ routed_by id x.origin response x.available in
        let qs = filled_by x.origin response rs in
        let first = then_rejected front x todo ms rs k must in
        let second = then_deleted front y todo ns qs first refl in
        rw must (subst (λ l. KeepsCalls s (reached s id (holding (front ++ deleted x ∷ map deleted todo)) l (fold filled qs (flat_map (to_context response) todo))))
        (append_assoc ms (routed_by id x.origin response x.available) (flat_map (routed id) (flat_map (to_context response) todo)))
        (back _ _ (later ns qs (moved ns qs second))))
    by false silent later = rw silent (back _ _ (later ms rs (moved ms rs (then_deleted front x todo ms rs k silent))))

-- ---- the chains

module _ (s : State) (sound : Tallied s) (id : List ℕ) (c : Canister) (found : lookup (at id) s.canisters ≡ Some c) where
  -- a canister runs again
  pub restarts : (response : Response) (k : KeepsCalls s s) → KeepsCalls s (with_canister id (running c) (all_answered id (map (to_waiter response) (waiting c.phase)) s))
  restarts response k = by c.phase refl where
    runs : (a : Canister) (ms : List Message) (rs : List Request) → running a ≡ running c → waiting a.phase ≡ [] → a.balance ≡ c.balance → HasCode a.code a.contexts → a.contexts ≡ c.contexts
        → KeepsCalls s (reached s id a ms rs) → KeepsCalls s (reached s id (running c) ms rs)
    runs a ms rs same calm _ has_code _ k =
        subst (λ b. KeepsCalls s (reached s id b ms rs)) same
        (then_changed s id c a (running a) found ms rs k refl refl refl has_code tt (λ w. omega (arith, items_waiting id (running a) w, items_waiting id a w, ap (λ (vs : List Waiter). total (λ v. w (InWaiter id v)) vs) calm)))

    has_code : HasCode c.code c.contexts
    has_code = (found_entry s id c found sound).has_code

    by : (phase : Phase) → c.phase ≡ phase → KeepsCalls s (with_canister id (running c) (all_answered id (map (to_waiter response) (waiting phase)) s))
    by Running is = runs c [] s.requests refl (ap waiting is) refl has_code refl (reached_first s sound id c found k)
    by Stopped is = runs c [] s.requests refl (ap waiting is) refl has_code refl (reached_first s sound id c found k)
    by (Stopping vs) is =
        let first = reached_first s sound id c found k in
        let seen = subst (λ p. KeepsCalls s (reached s id (record c { phase = p }) [] s.requests)) is first in
        let released = then_released s id c found response vs [] s.requests seen in
        runs (record c { phase = Stopping [] }) _ _ refl refl refl has_code refl released

  -- a canister loses its code
  pub empties : (response : Response) (k : KeepsCalls s s) → KeepsCalls s (with_canister id (emptied c) (all_answered id (flat_map (to_context response) c.contexts) s))
  empties response k =
      let first = reached_first s sound id c found k in
      let answers = flat_map (to_context response) c.contexts in
      let all = then_all_deleted s id c found response c.contexts [] [] s.requests first in
      then_changed s id c (record c { contexts = map deleted c.contexts }) (emptied c) found (flat_map (routed id) answers) (fold filled s.requests answers) all refl refl refl
      (none_live c.contexts) (phase_kept c.phase c.contexts (found_entry s id c found sound).in_phase) (λ w. refl) where
        none_live : (xs : List CallContext) → HasCode None (map deleted xs)
        none_live [] = tt
        none_live (x ∷ xs) = ((λ is. absurd (true≢false is)), none_live xs)

        phase_kept : (phase : Phase) (xs : List CallContext) → IsInPhase phase xs → IsInPhase phase (map deleted xs)
        phase_kept Running xs is = tt
        phase_kept (Stopping waiters) [] is = is
        phase_kept (Stopping waiters) (x ∷ xs) is = omega arith
        phase_kept Stopped [] is = refl
        phase_kept Stopped (x ∷ xs) is = absurd (not-suc-le-zero none_left) where
          none_left : 0 < 0
          none_left = omega (arith, ap length is)
