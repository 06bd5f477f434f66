-- More of totals, and requests that are answered.
use Rattle.std.proofs.Common.{◌≡◌, ℕ, zero, suc, ◌+◌, ◌<◌, ◌==◌, true, false, List, [], ◌∷◌, ◌++◌, slice_get, length, Option, Some, None, refl, sym, ap, ◌∙◌, subst, arith, true≢false, not-suc-le-zero}
use Rattle.std.specs.List.{AllByRecursion, remove}
use Rattle.std.specs.Prelude.{is_some}
use Rattle.ic_behaviour.specs.declared.call.CallId.TheVariants as call_id
use Rattle.ic_behaviour.proofs.Weights.{same_id-is, nat-self}
use Rattle.ic_behaviour.specs.Deliver.{fill}
use Rattle.ic_behaviour.specs.Items.{answered, is_answered}
use Rattle.ic_behaviour.specs.State.{same_id}
use Rattle.ic_behaviour.specs.Totals.{one, total}
use Rattle.ic_behaviour.specs.declared.call.CallId.{CallId}
use Rattle.ic_behaviour.specs.declared.call.Response.{Response}
use Rattle.ic_behaviour.specs.declared.request.Request.{Request}

module _ {A : Type 0} where
  -- the element at a place, and the others
  pub total-remove : (w : A → ℕ) (xs : List A) (i : ℕ) (x : A) → slice_get xs i ≡ Some x → total w (remove xs i) + w x ≡ total w xs
  total-remove w [] i x e = absurd (true≢false (ap is_some (sym e)))
  total-remove w (y ∷ xs) zero x e = omega (arith, ap (weight (w y)) e) where
    weight : ℕ → Option A → ℕ
    weight n None = n
    weight n (Some z) = w z
  total-remove w (y ∷ xs) (suc i) x e = omega (arith, total-remove w xs i x e)

  pub each-at : (P : A → Type 0) (front : List A) (x : A) (back : List A) → AllByRecursion P (front ++ x ∷ back) → AllByRecursion P (front ++ back) × P x
  each-at P [] x back all = (all.1, all.0)
  each-at P (y ∷ front) x back all = let rest = each-at P front x back all.1 in ((all.0, rest.0), rest.1)

  pub each-both : (P Q R : A → Type 0) → ((x : A) → P x → Q x → R x) → (xs : List A) → AllByRecursion P xs → AllByRecursion Q xs → AllByRecursion R xs
  each-both P Q R f [] p q = tt
  each-both P Q R f (x ∷ xs) p q = (f x p.0 q.0, each-both P Q R f xs p.1 q.1)

-- Requests that are answered

pub length-fill : (k : ℕ) (response : Response) (rs : List Request) → length (fill k response rs) ≡ length rs
length-fill k response [] = refl
length-fill zero response (r ∷ rs) = refl
length-fill (suc k) response (r ∷ rs) = ap suc (length-fill k response rs)

filled_here : (k : ℕ) (response : Response) (rs : List Request) → k < length rs → is_answered (slice_get (fill k response rs) k) ≡ true
filled_here k response [] h = absurd (not-suc-le-zero h)
filled_here zero response (r ∷ rs) h = refl
filled_here (suc k) response (r ∷ rs) h = filled_here k response rs (omega (arith, h))

filled_elsewhere : (k j : ℕ) (response : Response) (rs : List Request) → (j ≡ k → ⊥) → slice_get (fill k response rs) j ≡ slice_get rs j
filled_elsewhere k j response [] differs = refl
filled_elsewhere zero zero response (r ∷ rs) differs = absurd (differs refl)
filled_elsewhere zero (suc j) response (r ∷ rs) differs = refl
filled_elsewhere (suc k) zero response (r ∷ rs) differs = refl
filled_elsewhere (suc k) (suc j) response (r ∷ rs) differs = filled_elsewhere k j response rs (λ e. differs (ap suc e))

pub answered-fill : (k : ℕ) (response : Response) (rs : List Request) → k < length rs → (id : CallId) → same_id id (call_id.Ingress k) ≡ true → answered (fill k response rs) id ≡ 1
answered-fill k response rs h id is = subst (λ i. answered (fill k response rs) i ≡ 1) (sym (same_id-is id (call_id.Ingress k) is)) (ap one (filled_here k response rs h))

pub answered-fill_other : (k : ℕ) (response : Response) (rs : List Request) (id : CallId) → same_id id (call_id.Ingress k) ≡ false → answered (fill k response rs) id ≡ answered rs id
answered-fill_other k response rs (call_id.Ingress j) differs = ap (λ o. one (is_answered o)) (filled_elsewhere k j response rs (λ e. true≢false (sym (nat-self j) ∙ ap (λ m. j == m) e ∙ differs)))
answered-fill_other k response rs (call_id.Canister caller n) differs = refl
