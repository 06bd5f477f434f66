-- Reading values one after the other, as a loop does.
use Rattle.std.proofs.Common.{◌≡◌, ℕ, suc, ◌-◌, ◌+◌, ◌≤◌, ◌<◌, List, [], ◌∷◌, ◌++◌, Option, Some, None, refl, sym, ap, ◌∙◌, append_assoc, arith}
use Rattle.std.proofs.lemmas.List.{append-nil}
use Rattle.ic_base.specs.declared.read_error.ReadError.{ReadError}
use Rattle.ic_base.specs.declared.read_error.ReadError.TheVariants.{NoMemory, Refused}
use Rattle.ic_base.specs.Reader.{Reader, ◌>>=◌, many_at}
use Rattle.ic_base.specs.Gives.{Fails}

-- what was read before, and what is still read
abbrev pub with_front : {A : Type 0} → List A → Option (List A × List ℕ) → Option (List A × List ℕ)
with_front front read = read >>= λ x. Some (front ++ x.0, x.1)

regrouped : {A : Type 0} (front : List A) (x : A) (read : Option (List A × List ℕ)) → with_front front (read >>= λ xs. Some (x ∷ xs.0, xs.1)) ≡ with_front (front ++ x ∷ []) read
regrouped {A} front x (Some xs) = ap (λ (ys : List A). Some (ys, xs.1)) (sym (append_assoc front (x ∷ []) xs.0))
regrouped front x None = refl

-- one more value is read
pub goes_on : {A : Type 0} (read : Reader A) (front : List A) (count i : ℕ) (bytes : List ℕ) (x : A) (after : List ℕ) (total : Option (List A × List ℕ))
    → i < count → read bytes ≡ Some (x, after) → with_front front (many_at read (count - i) bytes) ≡ total
    → with_front (front ++ x ∷ []) (many_at read (count - (i + 1)) after) ≡ total
unfolding many_at
goes_on read front count i bytes x after total below one so_far =
    let left : count - i ≡ suc (count - (i + 1)) = omega arith in
    let step : with_front front (many_at read (count - i) bytes) ≡ with_front (front ++ x ∷ []) (many_at read (count - (i + 1)) after) = rw (left, one) (regrouped front x (many_at read (count - (i + 1)) after)) in
    sym step ∙ so_far

-- the next value is not read
pub ends : {A : Type 0} (e : ReadError) (read : Reader A) (front : List A) (count i : ℕ) (bytes : List ℕ) (total : Option (List A × List ℕ))
    → i < count → Fails e (read bytes) → with_front front (many_at read (count - i) bytes) ≡ total → Fails e total
unfolding many_at
ends NoMemory read front count i bytes total below none so_far = tt
ends Refused read front count i bytes total below none so_far =
    let left : count - i ≡ suc (count - (i + 1)) = omega arith in
    let step : with_front front (many_at read (count - i) bytes) ≡ None = rw (left, none) refl in
    sym so_far ∙ step

-- no value is left to read
pub is_done : {A : Type 0} (front : List A) (read : Reader A) (count i : ℕ) (bytes : List ℕ) (total : Option (List A × List ℕ))
    → count ≤ i → with_front front (many_at read (count - i) bytes) ≡ total → total ≡ Some (front, bytes)
unfolding many_at
is_done {A} front read count i bytes total past so_far =
    let left : count - i ≡ 0 = omega arith in
    let step : with_front front (many_at read (count - i) bytes) ≡ Some (front, bytes) = rw left (ap (λ (xs : List A). Some (xs, bytes)) (append-nil front)) in
    sym so_far ∙ step
