-- The data of a state has no float.
use Rattle.std.proofs.Common.{◌≡◌, refl, ℕ, List, [], ◌∷◌, map, false}
use Rattle.serde_json.specs.Data.{Data}
use Rattle.serde_json.specs.View.{items_of}
use Rattle.serde_json.specs.Written.{has_float, items_have_float}
use Rattle.ic_behaviour.specs.State.{Canister, State}
use Rattle.ic_output.specs.StateLine.{canister_data, decimal_data, principal_data, state_data}

list_has_none : {A : Type 0} (f : A → Data) → ((x : A) → has_float (f x) ≡ false) → (xs : List A) → items_have_float (items_of (map f xs)) ≡ false
list_has_none f none [] = refl
list_has_none f none (x ∷ xs) = rw (none x, list_has_none f none xs) refl

canister_has_none : (e : List ℕ × Canister) → has_float (canister_data e) ≡ false
unfolding canister_data
canister_has_none (id, c) =
    rw (list_has_none principal_data (λ x. refl) c.controllers, list_has_none decimal_data (λ x. refl) c.store.globals) refl

pub state_has_none : (s : State) → has_float (state_data s) ≡ false
unfolding state_data
state_has_none s = rw (list_has_none canister_data canister_has_none s.canisters) refl
