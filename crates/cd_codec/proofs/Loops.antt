-- Reading values one after the other, as a loop does.
use Rattle.std.proofs.Common.{◌≡◌, ℕ, suc, ◌-◌, ◌+◌, ◌≤◌, ◌<◌, List, [], ◌∷◌, ◌++◌, length, drop, get_or, Option, Some, None, refl, sym, ap, ◌∙◌, append_assoc, arith, add-one}
use Rattle.std.proofs.Math.ListN.{drop_of_length-le}
use Rattle.std.proofs.lemmas.List.{append-nil}
use Rattle.std.proofs.Math.Seq.{drop-cons}
use Rattle.ic_base.specs.declared.read_error.ReadError.{ReadError}
use Rattle.ic_base.specs.declared.read_error.ReadError.TheVariants.{NoMemory, Refused}
use Rattle.ic_base.specs.Gives.{Fails}
use Rattle.cd_types.specs.declared.entry.TyRef.{TyRef}
use Rattle.cd_codec.specs.Content.{Content}
use Rattle.cd_codec.specs.ReadValue.{Budgeted, then_make, items_at, each_at, field_at}

-- what was read before, and what is still read
abbrev pub with_front : {A : Type 0} → List A → Option (List A × ℕ × List ℕ) → Option (List A × ℕ × List ℕ)
with_front front read = then_make (λ xs. front ++ xs) read

regrouped : {A : Type 0} (front : List A) (x : A) (read : Option (List A × ℕ × List ℕ)) → with_front front (then_make (λ xs. x ∷ xs) read) ≡ with_front (front ++ x ∷ []) read
regrouped {A} front x (Some xs) = ap (λ (ys : List A). Some (ys, xs.1, xs.2)) (sym (append_assoc front (x ∷ []) xs.0))
regrouped front x None = refl

-- one more value of a vec is read
pub item_read : (read : Budgeted Content) (front : List Content) (count i left : ℕ) (bytes : List ℕ) (x : Content) (left' : ℕ) (after : List ℕ) (total : Option (List Content × ℕ × List ℕ))
    → i < count → read left bytes ≡ Some (x, left', after) → with_front front (items_at read (count - i) left bytes) ≡ total
    → with_front (front ++ x ∷ []) (items_at read (count - (i + 1)) left' after) ≡ total
unfolding items_at
item_read read front count i left bytes x left' after total below one so_far =
    let more : count - i ≡ suc (count - (i + 1)) = omega arith in
    let step : with_front front (items_at read (count - i) left bytes) ≡ with_front (front ++ x ∷ []) (items_at read (count - (i + 1)) left' after) = rw (more, one) (regrouped front x (items_at read (count - (i + 1)) left' after)) in
    sym step ∙ so_far

-- the next value of a vec is not read
pub item_refused : (e : ReadError) (read : Budgeted Content) (front : List Content) (count i left : ℕ) (bytes : List ℕ) (total : Option (List Content × ℕ × List ℕ))
    → i < count → Fails e (read left bytes) → with_front front (items_at read (count - i) left bytes) ≡ total → Fails e total
unfolding items_at
item_refused NoMemory read front count i left bytes total below none so_far = tt
item_refused Refused read front count i left bytes total below none so_far =
    let more : count - i ≡ suc (count - (i + 1)) = omega arith in
    let step : with_front front (items_at read (count - i) left bytes) ≡ None = rw (more, none) refl in
    sym so_far ∙ step

-- no value of a vec is left to read
pub items_done : (read : Budgeted Content) (front : List Content) (count i left : ℕ) (bytes : List ℕ) (total : Option (List Content × ℕ × List ℕ))
    → count ≤ i → with_front front (items_at read (count - i) left bytes) ≡ total → total ≡ Some (front, left, bytes)
unfolding items_at
items_done read front count i left bytes total past so_far =
    let none_left : count - i ≡ 0 = omega arith in
    let step : with_front front (items_at read (count - i) left bytes) ≡ Some (front, left, bytes) = rw none_left (ap (λ (xs : List Content). Some (xs, left, bytes)) (append-nil front)) in
    sym so_far ∙ step

-- the list at a place
at_place : {A : Type 0} (types : List A) (i : ℕ) (d : A) → i < length types → drop i types ≡ get_or types i d ∷ drop (i + 1) types
at_place types i d below = rw add-one (drop-cons types i d below)

-- one more of a list of types is read
pub each_read : {A B : Type 0} (read : A → Budgeted B) (front : List B) (types : List A) (i left : ℕ) (bytes : List ℕ) (d : A) (x : B) (left' : ℕ) (after : List ℕ) (total : Option (List B × ℕ × List ℕ))
    → i < length types → read (get_or types i d) left bytes ≡ Some (x, left', after) → with_front front (each_at read (drop i types) left bytes) ≡ total
    → with_front (front ++ x ∷ []) (each_at read (drop (i + 1) types) left' after) ≡ total
unfolding each_at
each_read read front types i left bytes d x left' after total below one so_far =
    let step : with_front front (each_at read (drop i types) left bytes) ≡ with_front (front ++ x ∷ []) (each_at read (drop (i + 1) types) left' after) = rw (at_place types i d below, one) (regrouped front x (each_at read (drop (i + 1) types) left' after)) in
    sym step ∙ so_far

-- the next of a list of types is not read
pub each_refused : {A B : Type 0} (e : ReadError) (read : A → Budgeted B) (front : List B) (types : List A) (i left : ℕ) (bytes : List ℕ) (d : A) (total : Option (List B × ℕ × List ℕ))
    → i < length types → Fails e (read (get_or types i d) left bytes) → with_front front (each_at read (drop i types) left bytes) ≡ total → Fails e total
unfolding each_at
each_refused NoMemory read front types i left bytes d total below none so_far = tt
each_refused Refused read front types i left bytes d total below none so_far =
    let step : with_front front (each_at read (drop i types) left bytes) ≡ None = rw (at_place types i d below, none) refl in
    sym so_far ∙ step

-- no type is left to read
pub each_done : {A B : Type 0} (read : A → Budgeted B) (front : List B) (types : List A) (i left : ℕ) (bytes : List ℕ) (total : Option (List B × ℕ × List ℕ))
    → length types ≤ i → with_front front (each_at read (drop i types) left bytes) ≡ total → total ≡ Some (front, left, bytes)
unfolding each_at
each_done {B = B} read front types i left bytes total past so_far =
    let step : with_front front (each_at read (drop i types) left bytes) ≡ Some (front, left, bytes) = rw (drop_of_length-le types past) (ap (λ (xs : List B). Some (xs, left, bytes)) (append-nil front)) in
    sym so_far ∙ step

-- a field whose value is read
pub field_read : (read : TyRef → Budgeted Content) (field : ℕ × TyRef) (left : ℕ) (bytes : List ℕ) (v : Content) (left' : ℕ) (after : List ℕ)
    → read field.1 left bytes ≡ Some (v, left', after) → field_at read field left bytes ≡ Some ((field.0, v), left', after)
field_read read field left bytes v left' after e = rw e refl

-- a field whose value is not read
pub field_refused : (e : ReadError) (read : TyRef → Budgeted Content) (field : ℕ × TyRef) (left : ℕ) (bytes : List ℕ) → Fails e (read field.1 left bytes) → Fails e (field_at read field left bytes)
field_refused NoMemory read field left bytes h = tt
field_refused Refused read field left bytes h = rw h refl
