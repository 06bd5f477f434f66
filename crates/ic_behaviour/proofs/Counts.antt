-- The numbers that are stored with a canister.
use Rattle.std.proofs.Common.{◌≡◌, ℕ, List, [], ◌∷◌, map, refl, ap, ap₂, arith}
use Rattle.ic_behaviour.specs.declared.call.CallId.{CallId}
use Rattle.ic_behaviour.specs.Totals.{total}
use Rattle.ic_behaviour.specs.State.{CallContext, Canister, State}
use Rattle.ic_behaviour.specs.Items.{outstanding}
use Rattle.ic_behaviour.specs.Counted.{with_count, counted}

map-same : {A B : Type 0} (f g : A → B) → ((x : A) → f x ≡ g x) → (xs : List A) → map f xs ≡ map g xs
map-same f g same [] = refl
map-same f g same (x ∷ xs) = ap₂ (λ y ys. y ∷ ys) (same x) (map-same f g same xs)

total-same : {A : Type 0} (v w : A → ℕ) → ((x : A) → v x ≡ w x) → (xs : List A) → total v xs ≡ total w xs
total-same v w same [] = refl
total-same v w same (x ∷ xs) = omega (arith, same x, total-same v w same xs)

pub counted_same : (s t : State) (key : List ℕ) → ((id : CallId) → outstanding t key id ≡ outstanding s key id) → (b : Canister) → counted t key b ≡ counted s key b
counted_same s t key same b =
    ap₂ (λ xs n. record (counted s key b) { contexts = xs; outstanding = n })
    (map-same (with_count t key) (with_count s key) (λ x. ap (λ n. record (with_count s key x) { outstanding = n }) (same x.id)) b.contexts)
    (total-same (λ (x : CallContext). outstanding t key x.id) (λ (x : CallContext). outstanding s key x.id) (λ x. same x.id) b.contexts)
