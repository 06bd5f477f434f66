-- Checking one after the other, as a loop does.
use Rattle.std.proofs.Common.{◌≡◌, ℕ, zero, suc, ◌+◌, ◌<◌, ◌≤◌, List, [], ◌∷◌, ◌++◌, length, drop, get_or, Option, Some, None, refl, sym, ap, ◌∙◌, append_assoc, drop-cons, arith}
use Rattle.std.proofs.lemmas.List.{append-nil}
use Rattle.ic_base.specs.Reader.{◌>>=◌}
use Rattle.ct_check.specs.declared.cause.CheckError.{CheckError}
use Rattle.ct_check.specs.declared.cause.CheckError.TheVariants.{NoMemory, Faulty}
use Rattle.ct_check.specs.Answer.{Fails}
use Rattle.ct_check.specs.Holds.{all_checked}

-- these were checked, and then others
abbrev pub with_front : {B S : Type 0} → List B → Option (List B × S) → Option (List B × S)
with_front front None = None
with_front front (Some checked) = Some (front ++ checked.0, checked.1)

-- what was checked, and what still is
abbrev pub Still : {B S : Type 0} → List B → Option (List B × S) → Option (List B × S) → Type 0
Still front checked total = with_front front checked ≡ total

pub at_start : {B S : Type 0} (checked : Option (List B × S)) → Still [] checked checked
at_start (Some c) = refl
at_start None = refl

regrouped : {B S : Type 0} (front : List B) (y : B) (checked : Option (List B × S)) → with_front front (with_front (y ∷ []) checked) ≡ with_front (front ++ y ∷ []) checked
regrouped {B} front y (Some c) = ap (λ (ys : List B). Some (ys, c.1)) (sym (append_assoc front (y ∷ []) c.0))
regrouped front y None = refl

-- one more is checked
first : {S A B : Type 0} (check : S → A → Option (B × S)) (state next : S) (x : A) (xs : List A) (y : B) → check state x ≡ Some (y, next) → all_checked check state (x ∷ xs) ≡ with_front (y ∷ []) (all_checked check next xs)
unfolding all_checked
first {S} {A} {B} check state next x xs y e = rw e (shape (all_checked check next xs))
  where
    shape : (rest : Option (List B × S)) → (rest >>= λ ys. Some (y ∷ ys.0, ys.1)) ≡ with_front (y ∷ []) rest
    shape None = refl
    shape (Some ys) = refl

none : {S A B : Type 0} (check : S → A → Option (B × S)) (state : S) (x : A) (xs : List A) → check state x ≡ None → all_checked check state (x ∷ xs) ≡ None
unfolding all_checked
none check state x xs e = rw e refl

pub at_end : {S A B : Type 0} (check : S → A → Option (B × S)) (front : List B) (state : S) (rest : List A) (total : Option (List B × S)) → rest ≡ [] → Still front (all_checked check state rest) total → total ≡ Some (front, state)
unfolding all_checked
at_end {S} {A} {B} check front state rest total end so_far =
    let e : with_front front (all_checked check state rest) ≡ Some (front, state) = rw end (ap (λ (ys : List B). Some (ys, state)) (append-nil front)) in
    sym so_far ∙ e

pub at_fault : {S A B : Type 0} (error : CheckError) (check : S → A → Option (B × S)) (front : List B) (state : S) (rest : List A) (x : A) (xs : List A) (total : Option (List B × S)) → rest ≡ x ∷ xs → Fails error (check state x) → Still front (all_checked check state rest) total → Fails error total
at_fault NoMemory check front state rest x xs total split fails so_far = tt
at_fault {S} {A} (Faulty fault) check front state rest x xs total split fails so_far =
    sym so_far ∙ ap (λ (ys : List A). with_front front (all_checked check state ys)) split ∙ ap (with_front front) (none check state x xs fails)

pub goes_on : {S A B : Type 0} (check : S → A → Option (B × S)) (front : List B) (state next : S) (rest : List A) (x : A) (xs : List A) (y : B) (total : Option (List B × S)) → rest ≡ x ∷ xs → check state x ≡ Some (y, next) → Still front (all_checked check state rest) total
    → Still (front ++ y ∷ []) (all_checked check next xs) total
goes_on {S} {A} check front state next rest x xs y total split e so_far =
    sym (regrouped front y (all_checked check next xs)) ∙ sym (ap (with_front front) (first check state next x xs y e)) ∙ sym (ap (λ (ys : List A). with_front front (all_checked check state ys)) split) ∙ so_far

-- an item, and those after it
pub there : {A : Type 0} (xs : List A) (i : ℕ) (x : A) → i < length xs → x ≡ get_or xs i x → drop i xs ≡ x ∷ drop (i + 1) xs
there xs i x within at = let one : i + 1 ≡ suc i = omega arith in drop-cons xs i x within ∙ rw (one, sym at) refl

pub past : {A : Type 0} (xs : List A) (i : ℕ) → length xs ≤ i → drop i xs ≡ []
past [] zero all = refl
past [] (suc i) all = refl
past (x ∷ xs) zero all = absurd (omega (arith, all))
past (x ∷ xs) (suc i) all = past xs i (omega (arith, all))
