-- The moves of the management canister's own call, and of one canister.
use Rattle.std.proofs.Common.{◌≡◌, ℕ, ◌∙◌, ◌+◌, ◌-◌, ◌<◌, ◌≤◌, ◌^◌, List, [], ◌∷◌, ◌++◌, map, length, slice_get, Some, refl, sym, ap, ap₂, subst, arith, append-nil}
use Rattle.std.specs.List.{remove}
use Rattle.std.specs.Map.{lookup, set_value}
use Rattle.ic_behaviour.specs.declared.call.CallId.{CallId}
use Rattle.ic_behaviour.specs.declared.call.Origin.{Origin}
use Rattle.ic_behaviour.specs.declared.call.Response.{Response}
use Rattle.ic_behaviour.specs.declared.call.Message.TheVariants.{Call}
use Rattle.ic_behaviour.specs.declared.phase.Phase.{Phase}
use Rattle.ic_behaviour.specs.declared.phase.Phase.TheVariants.{Running, Stopped}
use Rattle.ic_behaviour.specs.Totals.{total}
use Rattle.ic_behaviour.specs.State.{at, waiting, CallContext, Code, Canister, State}
use Rattle.ic_behaviour.specs.Items.{Item, InContext, InWaiter, items_at, awaited, outstanding}
use Rattle.ic_behaviour.specs.Sound.{HasCode, IsInPhase}
use Rattle.ic_behaviour.specs.Closing.{empty_reply}
use Rattle.ic_behaviour.specs.Deliver.{filled_by, routed_by, without}
use Rattle.ic_behaviour.specs.Tallied.{Tallied}
use Rattle.ic_behaviour.proofs.Weights.{total-append}
use Rattle.ic_behaviour.proofs.Ties.{tallied}
use Rattle.ic_mgmt_laws.specs.KeepsCalls.{KeepsCalls}
use Rattle.ic_mgmt_laws.specs.Moves.{with_call, with_canister, with_balance, granted, replied, kept_by, awaiting, waiter_of, shut}
use Rattle.ic_behaviour.specs.declared.call.IncomingCall.{IncomingCall}
use Rattle.ic_mgmt_laws.proofs.Changed.{as_before, found_entry, set_found, set_twice, set_items, set_balances, set_restands}
use Rattle.ic_mgmt_laws.proofs.Arrives.{along, with, steady}
use Rattle.ic_mgmt_laws.proofs.Exchanges.{waits}
use Rattle.ic_mgmt_laws.proofs.Answers.{call_answered, call_moved, total_call}
use Rattle.ic_mgmt_laws.proofs.Stays.{nothing_shut}
use Rattle.ic_mgmt_laws.proofs.Chains.{items_waiting}

-- ---- a canister changes

-- it has the same items, balance and number of calls
pub record SameItems (a b : Canister) : Type 0 where
  pub id : b.id ≡ a.id
  pub next_call : b.next_call ≡ a.next_call
  pub balance : b.balance ≡ a.balance
  pub contexts : b.contexts ≡ a.contexts
  pub phase : b.phase ≡ a.phase
  pub has_code : HasCode a.code a.contexts → HasCode b.code a.contexts

pub any_code : (code : Code) (xs : List CallContext) → HasCode (Some code) xs
any_code code [] = tt
any_code code (x ∷ xs) = ((λ is. refl), any_code code xs)

module _ (s : State) (sound : Tallied s) (id : List ℕ) (c : Canister) (found : lookup (at id) s.canisters ≡ Some c) where
  pub changed_keeps : (b : Canister) → SameItems c b → KeepsCalls s (with_canister id b s)
  changed_keeps b same =
      let entry = found_entry s id c found sound in
      let stands = set_restands s id c found b sound same.id same.next_call (subst (HasCode b.code) (sym same.contexts) (same.has_code entry.has_code))
      (subst (λ xs. IsInPhase b.phase xs) (sym same.contexts) (subst (λ p. IsInPhase p c.contexts) (sym same.phase) entry.in_phase)) in
      subst (λ m. KeepsCalls s (record s { canisters = set_value (at id) s.canisters b; created = m })) (plus_none s.created)
      (steady s sound (set_value (at id) s.canisters b) 0 stands (λ w. omega (arith, set_items s id c found b w, items_same w)) (omega (arith, set_balances s id c found b, same.balance)) (omega (arith, sound.created))) where
        plus_none : (m : ℕ) → m + 0 ≡ m
        plus_none m = omega arith

        items_same : (w : Item → ℕ) → total w (items_at (id, b)) ≡ total w (items_at (id, c))
        items_same w = ap₂ (λ (xs : List CallContext) (p : Phase). total w (map (InContext id) xs ++ map (InWaiter id) (waiting p))) same.contexts same.phase

  -- its balance grows by cycles that are created
  pub granted_keeps : (amount : ℕ) → s.created + amount ≤ 2 ^ 127 - 1 → KeepsCalls s (granted id c amount s)
  granted_keeps amount few =
      let b : Canister = with_balance (c.balance + amount) c in
      let entry = found_entry s id c found sound in
      steady s sound (set_value (at id) s.canisters b) amount (set_restands s id c found b sound refl refl entry.has_code entry.in_phase)
      (λ w. omega (arith, set_items s id c found b w)) (omega (arith, set_balances s id c found b)) few

  -- one that runs and has no context stops
  stopped_keeps : c.contexts ≡ [] → c.phase ≡ Running → KeepsCalls s (with_canister id (record c { phase = Stopped }) s)
  stopped_keeps empty runs =
      let b : Canister = record c { phase = Stopped } in
      subst (λ m. KeepsCalls s (record s { canisters = set_value (at id) s.canisters b; created = m })) (none_more s.created)
      (steady s sound (set_value (at id) s.canisters b) 0 (set_restands s id c found b sound refl refl (found_entry s id c found sound).has_code empty)
      (λ w. omega (arith, set_items s id c found b w, items_waiting id c w, items_waiting id b w, ap (λ (p : Phase). total (λ v. w (InWaiter id v)) (waiting p)) runs)) (omega (arith, set_balances s id c found b)) (omega (arith, sound.created))) where
        none_more : (m : ℕ) → m + 0 ≡ m
        none_more m = omega arith

-- ---- the call is answered

module _ (s : State) (place : ℕ) (o : Origin) (from callee method arg : List ℕ) (n : ℕ) (is_m : slice_get s.messages place ≡ Some (Call o from callee method arg n)) (sound : Tallied s) where
  abbrev pub call : IncomingCall
  call = record { origin = o; sender = from; method = method; arg = arg; cycles = n }

  -- the counts are those of the state before
  pub call_counts : (key : List ℕ) (id : CallId) → outstanding (with_call call (without s place)) key id ≡ outstanding s key id
  call_counts key id = omega (arith, total_call s place o from callee method arg n is_m sound (awaited key id))

  pub replied_keeps : (response : Response) → KeepsCalls s (replied call response (without s place))
  replied_keeps response = call_answered s place o from callee method arg n is_m sound s.canisters (as_before s sound) [] response n (omega arith) (λ w. refl) refl

  pub kept_by_keeps : (id : List ℕ) (c : Canister) (response : Response) → lookup (at id) s.canisters ≡ Some c → KeepsCalls s (kept_by id c call response (without s place))
  kept_by_keeps id c response found =
      let b : Canister = with_balance (c.balance + n) c in
      let entry = found_entry s id c found sound in
      call_answered s place o from callee method arg n is_m sound (set_value (at id) s.canisters b) (set_restands s id c found b sound refl refl entry.has_code entry.in_phase) [] response 0 (omega arith)
      (λ w. omega (arith, set_items s id c found b w)) (omega (arith, set_balances s id c found b))

  -- ---- a call waits for a canister to stop

  module _ (id : List ℕ) (c : Canister) (found : lookup (at id) s.canisters ≡ Some c) where
    abbrev pub waiting_state : State
    waiting_state = with_canister id (awaiting call c) (without s place)

    pub waits_keeps : 0 < length c.contexts → KeepsCalls s waiting_state
    waits_keeps some =
        call_moved s place o from callee method arg n is_m sound (set_value (at id) s.canisters (awaiting call c)) (set_restands s id c found (awaiting call c) sound refl refl (found_entry s id c found sound).has_code some)
        (InWaiter id (waiter_of call)) (waits id o n) refl
        (λ w. omega (
          arith,
          set_items s id c found (awaiting call c) w,
          items_waiting id c w,
          items_waiting id (awaiting call c) w,
          total-append (λ v. w (InWaiter id v)) (waiting c.phase) (waiter_of call ∷ []),
        )) (omega (arith, set_balances s id c found (awaiting call c)))

    -- where the canister has no context, it stops and answers the call itself
    pub stops_alone : c.contexts ≡ [] → c.phase ≡ Running → KeepsCalls s (shut (with_call call (without s place)) id (awaiting call c) waiting_state)
    stops_alone empty runs = subst (λ b. KeepsCalls s (shut (with_call call (without s place)) id (awaiting call b) (with_canister id (awaiting call b) (without s place)))) back
        (subst (λ l. KeepsCalls s (with s l (remove s.messages place ++ (routed_by id o empty_reply n ++ [])) (filled_by o empty_reply s.requests))) (sym (set_twice (at id) s.canisters (awaiting call idle) stopped))
        (subst (λ l. KeepsCalls s (with s (set_value (at id) s.canisters stopped) (remove s.messages place ++ l) (filled_by o empty_reply s.requests))) (sym (append-nil (routed_by id o empty_reply n)))
        (subst (λ b. KeepsCalls s (with s (set_value (at id) s.canisters b) (remove s.messages place ++ routed_by id o empty_reply n) (filled_by o empty_reply s.requests))) without_contexts
        answered))) where
          idle : Canister
          idle = record c { contexts = []; phase = Running }

          stopped : Canister
          stopped = record c { contexts = []; phase = Stopped }

          back : idle ≡ c
          back = ap₂ (λ xs p. record c { contexts = xs; phase = p }) (sym empty) (sym runs)

          without_contexts : record c { phase = Stopped } ≡ stopped
          without_contexts = ap (λ xs. record c { contexts = xs; phase = Stopped }) empty

          t : State
          t = with_canister id (record c { phase = Stopped }) s

          stops : KeepsCalls s t
          stops = stopped_keeps s sound id c found empty runs

          answered : KeepsCalls s (with s t.canisters (remove s.messages place ++ routed_by id o empty_reply n) (filled_by o empty_reply s.requests))
          answered =
              let sound_now = tallied t stops.sound in
              along s t _ stops (call_answered t place o from callee method arg n is_m sound_now t.canisters (as_before t sound_now) id empty_reply n (omega arith) (λ w. refl) refl)

    pub shut_waits : 0 < length c.contexts → KeepsCalls s (shut (with_call call (without s place)) id (awaiting call c) waiting_state)
    shut_waits some =
        let k = waits_keeps some in
        subst (KeepsCalls s) (sym (nothing_shut waiting_state (tallied waiting_state k.sound) id (awaiting call c) (set_found (at id) s.canisters c (awaiting call c) found) (with_call call (without s place)) (λ key i. call_counts key i ∙ sym (k.counts key i)))) k
