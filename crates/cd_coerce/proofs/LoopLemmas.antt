-- reading one after the other, as a loop does
use Rattle.std.proofs.Common.{◌≡◌, ℕ, ◌+◌, ◌≤◌, ◌<◌, List, [], ◌∷◌, ◌++◌, length, drop, get_or, Option, Some, None, refl, sym, ap, ◌∙◌, append_assoc, add-one}
use Rattle.std.proofs.Math.ListN.{drop_of_length-le}
use Rattle.std.proofs.Math.Seq.{drop-cons}
use Rattle.std.proofs.lemmas.List.{append-nil}
use Rattle.ic_base.specs.Reader.{◌>>=◌}
use Rattle.ic_base.specs.declared.read_error.ReadError.{ReadError}
use Rattle.ic_base.specs.declared.read_error.ReadError.TheVariants.{NoMemory, Refused}
use Rattle.ic_base.specs.Gives.{Fails}
use Rattle.cd_coerce.specs.Read.{Setting}
use Rattle.cd_coerce.specs.Step.{each_by}
use Rattle.cd_coerce.proofs.StepLemmas.{Tables, in_tables}

-- the list at a place
at_place : {A : Type 0} (xs : List A) (i : ℕ) (d : A) → i < length xs → drop i xs ≡ get_or xs i d ∷ drop (i + 1) xs
at_place xs i d below = rw add-one (drop-cons xs i d below)

-- what was read before, and what is still read
abbrev pub after : {A : Type 0} → List A → Option (List A) → Option (List A)
after front read = read >>= λ xs. Some (front ++ xs)

regrouped : {A : Type 0} (front : List A) (x : A) (read : Option (List A)) → after front (read >>= λ xs. Some (x ∷ xs)) ≡ after (front ++ x ∷ []) read
regrouped front x (Some xs) = ap (λ ys. Some ys) (sym (append_assoc front (x ∷ []) xs))
regrouped front x None = refl

-- a step of a loop that reads by tables that stay as they were
pub one_read : {A B : Type 0} (f : Setting → A → Option B) (before now : Tables) (front : List B) (xs : List A) (i : ℕ) (d : A) (r : B) (total : Option (List B))
    → now ≡ before → i < length xs → f (in_tables now) (get_or xs i d) ≡ Some r → after front (each_by (f (in_tables before)) (drop i xs)) ≡ total
    → after (front ++ r ∷ []) (each_by (f (in_tables before)) (drop (i + 1) xs)) ≡ total
one_read f before now front xs i d r total same below one so_far =
    let here : f (in_tables before) (get_or xs i d) ≡ Some r = ap (λ (tables : Tables). f (in_tables tables) (get_or xs i d)) (sym same) ∙ one in
    let step : after front (each_by (f (in_tables before)) (drop i xs)) ≡ after (front ++ r ∷ []) (each_by (f (in_tables before)) (drop (i + 1) xs)) =
    rw (at_place xs i d below, here) (regrouped front r (each_by (f (in_tables before)) (drop (i + 1) xs))) in
    sym step ∙ so_far

refused : {A B : Type 0} (f : A → Option B) (front : List B) (xs : List A) (i : ℕ) (d : A) (total : Option (List B)) → i < length xs → f (get_or xs i d) ≡ None
    → after front (each_by f (drop i xs)) ≡ total → total ≡ None
refused f front xs i d total below none so_far =
    let step : after front (each_by f (drop i xs)) ≡ None = rw (at_place xs i d below, none) refl in
    sym so_far ∙ step

pub one_refused : {A B : Type 0} (e : ReadError) (f : Setting → A → Option B) (before now : Tables) (front : List B) (xs : List A) (i : ℕ) (d : A) (total : Option (List B))
    → now ≡ before → i < length xs → Fails e (f (in_tables now) (get_or xs i d)) → after front (each_by (f (in_tables before)) (drop i xs)) ≡ total → Fails e total
one_refused NoMemory f before now front xs i d total same below none so_far = tt
one_refused Refused f before now front xs i d total same below none so_far =
    refused (f (in_tables before)) front xs i d total below (ap (λ (tables : Tables). f (in_tables tables) (get_or xs i d)) (sym same) ∙ none) so_far

pub all_read : {A B : Type 0} (f : A → Option B) (front : List B) (xs : List A) (i : ℕ) (total : Option (List B))
    → length xs ≤ i → after front (each_by f (drop i xs)) ≡ total → total ≡ Some front
all_read f front xs i total past so_far =
    let step : after front (each_by f (drop i xs)) ≡ Some front = rw (drop_of_length-le xs past) (ap (λ xs. Some xs) (append-nil front)) in
    sym so_far ∙ step

-- what is refused stays refused in a later step
pub fails_then : {A B : Type 0} (e : ReadError) (read : Option A) (f : A → Option B) → Fails e read → Fails e (read >>= f)
fails_then NoMemory read f fails = tt
fails_then Refused read f fails = ap (λ o. o >>= f) fails
