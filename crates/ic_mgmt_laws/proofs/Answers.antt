-- The call is answered, or waits; then the places of other calls are answered.
use Rattle.std.proofs.Common.{◌≡◌, ℕ, ◌+◌, ◌≤◌, Bool, false, List, [], ◌∷◌, ◌++◌, map, slice_get, Some, refl, sym, ap, subst, arith, append_assoc}
use Rattle.std.specs.List.{flat_map, remove}
use Rattle.std.specs.Map.{lookup, set_value}
use Rattle.ic_behaviour.specs.declared.call.Origin.{Origin}
use Rattle.ic_behaviour.specs.declared.call.Origin.TheVariants as origin
use Rattle.ic_behaviour.specs.declared.call.Response.{Response}
use Rattle.ic_behaviour.specs.declared.call.Message.{Message}
use Rattle.ic_behaviour.specs.declared.call.Message.TheVariants.{Call}
use Rattle.ic_behaviour.specs.declared.request.Request.{Request}
use Rattle.ic_behaviour.specs.Totals.{total, one}
use Rattle.ic_behaviour.specs.State.{at, Canister, State}
use Rattle.ic_behaviour.specs.Items.{Item, InCall, items, items_at, item_of, open_at, counted_at, is_from, is_from_canister, cycles_in, Given}
use Rattle.ic_behaviour.specs.Tallied.{Tallied}
use Rattle.ic_behaviour.specs.Deliver.{filled_by, routed_by}
use Rattle.ic_behaviour.proofs.Weights.{total-append, total-map}
use Rattle.ic_behaviour.proofs.Ties.{tallied}
use Rattle.ic_run_laws.proofs.Fills.{total-remove}
use Rattle.ic_run_laws.proofs.Holds.{Holds, Swaps, Leaves, replied, replies}
use Rattle.ic_run_laws.proofs.Takes.{call_leaves}
use Rattle.ic_run_laws.proofs.Ends.{balances, each-filled_by, sound_holds}
use Rattle.ic_mgmt_laws.specs.KeepsCalls.{KeepsCalls}
use Rattle.ic_mgmt_laws.proofs.Changed.{Restands, set_found, set_twice, found_items, set_items, set_balances}
use Rattle.ic_mgmt_laws.proofs.Arrives.{along, arrives, never, none, with}
use Rattle.ic_mgmt_laws.proofs.Exchanges.{Exchanges, exchanged, fewer_cycles}

-- an answer that is routed is an item, or none
pub routed_item : (s : State) (key sender : List ℕ) (w : Item → ℕ) (o : Origin) (response : Response) (refund : ℕ)
    → total (λ m. w (item_of m)) (routed_by sender o response refund) ≡ total w (replies s key never none o refund)
routed_item s key sender w (origin.Ingress k) response refund = refl
routed_item s key sender w (origin.Canister caller n context callback) response refund = refl

-- and the place of the call, if a canister made it
pub reply_place : (s : State) (key : List ℕ) (test : Origin → Bool) → ((k : ℕ) → test (origin.Ingress k) ≡ false) → (o : Origin) (refund : ℕ)
    → total (λ i. counted_at test (open_at i)) (replies s key never none o refund) ≡ one (test o)
reply_place s key test users (origin.Ingress k) refund = sym (ap one (users k))
reply_place s key test users (origin.Canister caller n context callback) refund = omega arith

-- ---- the call

module _ (s : State) (place : ℕ) (o : Origin) (from callee method arg : List ℕ) (n : ℕ) (is_m : slice_get s.messages place ≡ Some (Call o from callee method arg n)) (sound : Tallied s) where
  abbrev left : List Message
  left = remove s.messages place

  abbrev away : List Item
  away = map item_of left ++ flat_map items_at s.canisters

  pub total_call : (w : Item → ℕ) → total w (items s) ≡ total w away + w (InCall o n)
  total_call w = omega (
    arith,
    total-append w (map item_of s.messages) (flat_map items_at s.canisters),
    total-append w (map item_of left) (flat_map items_at s.canisters),
    total-map item_of w s.messages,
    total-map item_of w left,
    total-remove (λ m. w (item_of m)) s.messages place (Call o from callee method arg n) is_m,
  )

  module _ (es : List (List ℕ × Canister)) (stands : Restands s es) where
    -- its cycles go back, or to a balance
    pub call_answered : (sender : List ℕ) (response : Response) (refund : ℕ) → refund ≤ n
        → ((w : Item → ℕ) → total w (flat_map items_at es) ≡ total w (flat_map items_at s.canisters))
        → total (λ (e : List ℕ × Canister). e.1.balance) es + refund ≡ balances s + n
        → KeepsCalls s (with s es (left ++ routed_by sender o response refund) (filled_by o response s.requests))
    call_answered sender response refund fewer same money =
        arrives s sound es (left ++ routed_by sender o response refund) (filled_by o response s.requests) stands [] held
        (λ key id. calls (is_from key id) (λ k. refl)) (λ key. calls (is_from_canister key) (λ k. refl)) (each-filled_by s.time o response s.requests sound.times) where
          t : State
          t = with s es (left ++ routed_by sender o response refund) (filled_by o response s.requests)

          answers : List Item
          answers = replies s [] never none o refund

          paid : Holds s [] never none (Given s) (InCall o refund ∷ away) s.requests (total (λ (e : List ℕ × Canister). e.1.balance) es + s.burned)
          paid = exchanged s [] never none (InCall o n) (InCall o refund) (fewer_cycles o n refund fewer) (λ w. omega (arith, total_call w)) (λ w. omega (arith, total_call w)) (omega (arith, money))
              (sound_holds s [] never sound)

          swaps : Swaps (InCall o refund ∷ []) ([] ++ answers) (InCall o refund ∷ away) (items t)
          swaps w = omega (
            arith,
            total-append w (map item_of left) (flat_map items_at s.canisters),
            total-append w (map item_of (left ++ routed_by sender o response refund)) (flat_map items_at es),
            total-map item_of w left,
            total-map item_of w (left ++ routed_by sender o response refund),
            total-append (λ m. w (item_of m)) left (routed_by sender o response refund),
            routed_item s [] sender w o response refund,
            same w,
          )

          held : Holds s [] never none (Given s) (items t) (filled_by o response s.requests) (total (λ (e : List ℕ × Canister). e.1.balance) es + s.burned)
          held = replied s [] never none (InCall o refund) [] o response refund (call_leaves s [] never none o refund) (λ w. omega arith) swaps (λ k g. g) paid

          calls : (test : Origin → Bool) → ((k : ℕ) → test (origin.Ingress k) ≡ false) → total (λ i. counted_at test (open_at i)) (items t) ≡ total (λ i. counted_at test (open_at i)) (items s)
          calls test users = omega (arith, swaps (λ i. counted_at test (open_at i)), total_call (λ i. counted_at test (open_at i)), reply_place s [] test users o refund)

    -- it becomes another item of a canister
    pub call_moved : (new : Item) → Exchanges (InCall o n) new → cycles_in new ≡ n
        → ((w : Item → ℕ) → total w (flat_map items_at es) ≡ total w (flat_map items_at s.canisters) + w new)
        → total (λ (e : List ℕ × Canister). e.1.balance) es ≡ balances s
        → KeepsCalls s (with s es left s.requests)
    call_moved new e cycles same money =
        arrives s sound es left s.requests stands [] held (λ key id. calls (is_from key id)) (λ key. calls (is_from_canister key)) sound.times where
          t : State
          t = with s es left s.requests

          swaps : Swaps (InCall o n ∷ []) (new ∷ []) (items s) (items t)
          swaps w = omega (
            arith,
            total_call w,
            total-append w (map item_of left) (flat_map items_at s.canisters),
            total-append w (map item_of left) (flat_map items_at es),
            same w,
          )

          held : Holds s [] never none (Given s) (items t) s.requests (total (λ (e : List ℕ × Canister). e.1.balance) es + s.burned)
          held = exchanged s [] never none (InCall o n) new e (λ w. omega (arith, total_call w)) swaps (omega (arith, money, cycles)) (sound_holds s [] never sound)

          calls : (test : Origin → Bool) → total (λ i. counted_at test (open_at i)) (items t) ≡ total (λ i. counted_at test (open_at i)) (items s)
          calls test = omega (arith, swaps (λ i. counted_at test (open_at i)), ap (counted_at test) e.opens)

-- ---- items of a canister

-- the state with another canister in the place of one, more messages, and other requests
abbrev pub reached : State → (id : List ℕ) → Canister → List Message → List Request → State
reached s id b ms rs = with s (set_value (at id) s.canisters b) (s.messages ++ ms) rs

module _ (s : State) (sound : Tallied s) (id : List ℕ) (c b : Canister) (found : lookup (at id) s.canisters ≡ Some c) (stands : Restands s (set_value (at id) s.canisters b)) (same_balance : b.balance ≡ c.balance) where
  abbrev es : List (List ℕ × Canister)
  es = set_value (at id) s.canisters b

  among : (w : Item → ℕ) → total w (items_at (id, c)) ≤ total w (items s)
  among w = omega (arith, total-append w (map item_of s.messages) (flat_map items_at s.canisters), found_items s id c found w)

  same_funds : total (λ (e : List ℕ × Canister). e.1.balance) es + s.burned ≡ balances s + s.burned
  same_funds = omega (arith, set_balances s id c found b, same_balance)

  -- the place of a call is answered
  pub place_answered : (it : Item) (rest : List Item) (o : Origin) (response : Response) (refund : ℕ) → Leaves s id never none it rest o refund
      → ((w : Item → ℕ) → w it ≤ total w (items_at (id, c)))
      → ((w : Item → ℕ) → total w (items_at (id, b)) + w it ≡ total w (items_at (id, c)) + total w rest)
      → KeepsCalls s (reached s id b (routed_by id o response refund) (filled_by o response s.requests))
  place_answered it rest o response refund leaves one_of swap =
      arrives s sound es (s.messages ++ routed_by id o response refund) (filled_by o response s.requests) stands id held
      (λ key i. calls (is_from key i) (λ k. refl) (leaves.calls key i)) (λ key. calls (is_from_canister key) (λ k. refl) (leaves.calls_few key)) (each-filled_by s.time o response s.requests sound.times) where
        t : State
        t = reached s id b (routed_by id o response refund) (filled_by o response s.requests)

        answers : List Item
        answers = replies s id never none o refund

        moved : (w : Item → ℕ) → total w (items t) + w it ≡ total w (items s) + (total w rest + total w answers)
        moved w = omega (
          arith,
          total-append w (map item_of s.messages) (flat_map items_at s.canisters),
          total-append w (map item_of (s.messages ++ routed_by id o response refund)) (flat_map items_at es),
          total-map item_of w s.messages,
          total-map item_of w (s.messages ++ routed_by id o response refund),
          total-append (λ m. w (item_of m)) s.messages (routed_by id o response refund),
          routed_item s id id w o response refund,
          set_items s id c found b w,
          swap w,
        )

        swaps : Swaps (it ∷ []) (rest ++ answers) (items s) (items t)
        swaps w = omega (arith, moved w, total-append w rest answers)

        held : Holds s id never none (Given s) (items t) (filled_by o response s.requests) (total (λ (e : List ℕ × Canister). e.1.balance) es + s.burned)
        held = replied s id never none it rest o response refund leaves (λ w. omega (arith, one_of w, among w)) swaps (λ k g. g)
            (subst (λ m. Holds s id never none (Given s) (items s) s.requests m) (sym same_funds) (sound_holds s id never sound))

        calls : (test : Origin → Bool) → ((k : ℕ) → test (origin.Ingress k) ≡ false) → total (λ i. counted_at test (open_at i)) rest ≡ 0
            → total (λ i. counted_at test (open_at i)) (items t) ≡ total (λ i. counted_at test (open_at i)) (items s)
        calls test users shut = omega (arith, moved (λ i. counted_at test (open_at i)), shut, reply_place s id test users o refund, ap (counted_at test) leaves.opens)

  -- an item becomes another
  pub item_exchanged : (old new : Item) → Exchanges old new → cycles_in new ≡ cycles_in old
      → ((w : Item → ℕ) → w old ≤ total w (items_at (id, c)))
      → ((w : Item → ℕ) → total w (items_at (id, b)) + w old ≡ total w (items_at (id, c)) + w new)
      → KeepsCalls s (with s es s.messages s.requests)
  item_exchanged old new e cycles one_of swap =
      arrives s sound es s.messages s.requests stands id held (λ key i. calls (is_from key i)) (λ key. calls (is_from_canister key)) sound.times where
        t : State
        t = with s es s.messages s.requests

        swaps : Swaps (old ∷ []) (new ∷ []) (items s) (items t)
        swaps w = omega (
          arith,
          total-append w (map item_of s.messages) (flat_map items_at s.canisters),
          total-append w (map item_of s.messages) (flat_map items_at es),
          set_items s id c found b w,
          swap w,
        )

        held : Holds s id never none (Given s) (items t) s.requests (total (λ (e : List ℕ × Canister). e.1.balance) es + s.burned)
        held = exchanged s id never none old new e (λ w. omega (arith, one_of w, among w)) swaps (omega (arith, same_funds, cycles)) (sound_holds s id never sound)

        calls : (test : Origin → Bool) → total (λ i. counted_at test (open_at i)) (items t) ≡ total (λ i. counted_at test (open_at i)) (items s)
        calls test = omega (arith, swaps (λ i. counted_at test (open_at i)), ap (counted_at test) e.opens)

-- ---- one after another

module _ (s : State) (id : List ℕ) (c a : Canister) (found : lookup (at id) s.canisters ≡ Some c) (ms : List Message) (rs : List Request) (kept : KeepsCalls s (reached s id a ms rs)) where
  abbrev u : State
  u = reached s id a ms rs

  abbrev here : lookup (at id) u.canisters ≡ Some a
  here = set_found (at id) s.canisters c a found

  pub then_answered : (b : Canister) (it : Item) (rest : List Item) (o : Origin) (response : Response) (refund : ℕ)
      → Restands u (set_value (at id) u.canisters b) → b.balance ≡ a.balance → Leaves u id never none it rest o refund
      → ((w : Item → ℕ) → w it ≤ total w (items_at (id, a)))
      → ((w : Item → ℕ) → total w (items_at (id, b)) + w it ≡ total w (items_at (id, a)) + total w rest)
      → KeepsCalls s (reached s id b (ms ++ routed_by id o response refund) (filled_by o response rs))
  then_answered b it rest o response refund stands same leaves one_of swap =
      let step = place_answered u (tallied u kept.sound) id a b here stands same it rest o response refund leaves one_of swap in
      subst (λ l. KeepsCalls s (with s l (s.messages ++ (ms ++ routed_by id o response refund)) (filled_by o response rs))) (set_twice (at id) s.canisters a b)
      (subst (λ l. KeepsCalls s (with s (set_value (at id) u.canisters b) l (filled_by o response rs))) (append_assoc s.messages ms (routed_by id o response refund))
      (along s u _ kept step))

  pub then_exchanged : (b : Canister) (old new : Item) → Restands u (set_value (at id) u.canisters b) → b.balance ≡ a.balance → Exchanges old new → cycles_in new ≡ cycles_in old
      → ((w : Item → ℕ) → w old ≤ total w (items_at (id, a)))
      → ((w : Item → ℕ) → total w (items_at (id, b)) + w old ≡ total w (items_at (id, a)) + w new)
      → KeepsCalls s (reached s id b ms rs)
  then_exchanged b old new stands same e cycles one_of swap =
      let step = item_exchanged u (tallied u kept.sound) id a b here stands same old new e cycles one_of swap in
      subst (λ l. KeepsCalls s (with s l (s.messages ++ ms) rs)) (set_twice (at id) s.canisters a b) (along s u _ kept step)
