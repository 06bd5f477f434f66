-- The outstanding calls of a canister are those of its contexts.
use Rattle.std.proofs.Common.{◌≡◌, ℕ, ◌<◌, ◌≤◌, ◌&&◌, List, [], ◌∷◌, Option, Some, None, refl, ap, ◌∙◌, arith, inl, inr}
use Rattle.std.specs.List.{AllByRecursion}
use Rattle.std.proofs.lemmas.Bool.{cases_Bool}
use Rattle.ic_behaviour.specs.declared.call.Origin.TheVariants as origin
use Rattle.ic_behaviour.proofs.Weights.{same_id-self, total-plus}
use Rattle.ic_behaviour.specs.Items.{Item, awaited, calls_of, counted_at, is_from, is_from_canister, open_at}
use Rattle.ic_behaviour.specs.State.{at, same_id}
use Rattle.ic_behaviour.specs.Totals.{one, total}
use Rattle.ic_behaviour.specs.declared.call.CallId.{CallId}
use Rattle.ic_behaviour.specs.declared.call.Origin.{Origin}

module _ {A : Type 0} where
  -- each element's weight is within the total
  each-within : (xs all : List A) → ((v : A → ℕ) → total v xs ≤ total v all) → AllByRecursion (λ x. (v : A → ℕ) → v x ≤ total v all) xs
  each-within [] all h = tt
  each-within (x ∷ xs) all h = ((λ v. omega (arith, h v)), each-within xs all (λ v. omega (arith, h v)))

  total-each : (f g : A → ℕ) (xs all : List A) → ((x : A) → ((v : A → ℕ) → v x ≤ total v all) → f x ≡ g x) → ((v : A → ℕ) → total v xs ≤ total v all) → total f xs ≡ total g xs
  total-each f g [] all same h = refl
  total-each f g (x ∷ xs) all same h = omega (arith, same x (λ v. omega (arith, h v)), total-each f g xs all same (λ v. omega (arith, h v)))

  total-zero : (xs : List A) → total (λ x. 0) xs ≡ 0
  total-zero [] = refl
  total-zero (x ∷ xs) = omega (arith, total-zero xs)

  total-swap : {B : Type 0} (f : A → B → ℕ) (xs : List A) (ys : List B) → total (λ x. total (λ y. f x y) ys) xs ≡ total (λ y. total (λ x. f x y) xs) ys
  total-swap f [] [] = refl
  total-swap f [] (y ∷ ys) = omega (arith, total-swap f [] ys)
  total-swap f (x ∷ xs) ys = omega (arith, total-swap f xs ys, total-plus (λ y. f x y) (λ y. total (λ z. f z y) xs) ys)

-- `ids` are those of the contexts of `key` among the items
module _ (key : List ℕ) (xs : List Item) (ids : List CallId)
    (names : (id : CallId) → 0 < total (awaited key id) xs → 0 < total (λ i. one (same_id id i)) ids)
    (single : (id : CallId) → total (λ i. one (same_id id i)) ids ≤ 1) where
  pub calls_exact : total (λ i. total (awaited key i) xs) ids ≡ total (calls_of key) xs
  calls_exact = total-swap (λ i item. awaited key i item) ids xs ∙ total-each (λ item. total (λ i. awaited key i item) ids) (calls_of key) xs xs
      (λ item within. at_origin (open_at item) (λ id. within (awaited key id))) (λ v. omega arith) where
        at_origin : (o : Option Origin) → ((id : CallId) → counted_at (is_from key id) o ≤ total (awaited key id) xs) → total (λ i. counted_at (is_from key i) o) ids ≡ counted_at (is_from_canister key) o
        at_origin None within = total-zero ids
        at_origin (Some (origin.Ingress k)) within = total-zero ids
        at_origin (Some (origin.Canister caller n context callback)) within = elim (cases_Bool (at caller key)) [
          | inr other ↦ rw other (total-zero ids)
          | inl is ↦
              let some : 0 < total (awaited key context) xs = omega (arith, within context, ap (λ b. one (b && same_id context context)) is, ap one (same_id-self context)) in
              let stands = names context some in
              let many : total (λ i. one (same_id context i)) ids ≡ 1 = omega (arith, stands, single context) in
              rw is many
        ]
