-- A canister in the map.
use Rattle.std.proofs.Common.{◌≡◌, ℕ, ◌+◌, ◌<◌, ◌^◌, List, [], ◌∷◌, ◌++◌, map, refl, sym, ap, ◌∙◌, arith}
use Rattle.std.specs.List.{flat_map}
use Rattle.std.specs.Int.{from_be_bytes, to_be_bytes, w64}
use Rattle.std.proofs.lemmas.List.{append_cancel_right}
use Rattle.std.proofs.lemmas.Nat.{from_be_bytes-to_be_bytes_8}
use Rattle.ic_principal.specs.CanisterId.{canister_id_of}
use Rattle.ic_behaviour.specs.declared.call.CallId.{CallId}
use Rattle.ic_behaviour.specs.declared.call.Message.{Message}
use Rattle.ic_behaviour.specs.declared.call.Message.TheVariants.{Call, Answer}
use Rattle.ic_behaviour.specs.declared.phase.Waiter.{Waiter}
use Rattle.ic_behaviour.specs.Totals.{total}
use Rattle.ic_behaviour.specs.State.{waiting, Canister}
use Rattle.ic_behaviour.specs.Items.{Item, InContext, InWaiter, item_of, items_at, is_context}
use Rattle.ic_behaviour.proofs.Weights.{total-append, total-map, total-at, total-flat}

pub same_counter : (a b : ℕ) → a < 2 ^ 64 → b < 2 ^ 64 → canister_id_of a ≡ canister_id_of b → a ≡ b
unfolding canister_id_of
same_counter a b h g e =
    sym (from_be_bytes-to_be_bytes_8 a h)
    ∙ ap (from_be_bytes w64) (append_cancel_right (to_be_bytes w64 a) (to_be_bytes w64 b) (1 ∷ 1 ∷ []) e)
    ∙ from_be_bytes-to_be_bytes_8 b g

-- the items of other canisters and of messages are no contexts of this one
pub no_contexts : (key : List ℕ) (id : CallId) (ms : List Message) → total (λ m. is_context key id (item_of m)) ms ≡ 0
no_contexts key id [] = refl
no_contexts key id (Call from sender callee method arg cycles ∷ ms) = omega (arith, no_contexts key id ms)
no_contexts key id (Answer from sender response refund ∷ ms) = omega (arith, no_contexts key id ms)

pub no_waiters : (key other : List ℕ) (id : CallId) (vs : List Waiter) → total (λ v. is_context key id (InWaiter other v)) vs ≡ 0
no_waiters key other id [] = refl
no_waiters key other id (v ∷ vs) = omega (arith, no_waiters key other id vs)

-- the items of the canisters
pub total-spot : (w : Item → ℕ) (key : List ℕ) (a : Canister) (before after : List (List ℕ × Canister))
    → total w (flat_map items_at (before ++ (key, a) ∷ after)) ≡ total w (flat_map items_at (before ++ after)) + (total (λ x. w (InContext key x)) a.contexts + total (λ v. w (InWaiter key v)) (waiting a.phase))
total-spot w key a before after = omega (
  arith,
  total-flat items_at w (before ++ (key, a) ∷ after),
  total-flat items_at w (before ++ after),
  total-at (λ e. total w (items_at e)) before (key, a) after,
  total-append w (map (InContext key) a.contexts) (map (InWaiter key) (waiting a.phase)),
  total-map (InContext key) w a.contexts,
  total-map (InWaiter key) w (waiting a.phase),
)
