-- Reading parts one after the other, as a loop does.
use Rattle.std.proofs.Common.{◌≡◌, ℕ, suc, ◌-◌, ◌+◌, ◌≤◌, ◌<◌, true, false, List, [], ◌∷◌, ◌++◌, drop, Option, Some, None, refl, sym, ap, ◌∙◌, append_assoc, arith}
use Rattle.std.proofs.lemmas.List.{append-nil}
use Rattle.ic_base.specs.declared.read_error.ReadError.{ReadError}
use Rattle.ic_base.specs.declared.read_error.ReadError.TheVariants.{NoMemory, Refused}
use Rattle.ic_base.specs.Gives.{Fails}
use Rattle.cd_tokens.specs.Token.{Token}
use Rattle.cd_tokens.specs.Front.{is_mark, starts}
use Rattle.cd_tokens.specs.ReadParts.{Reading, then_make, parts_at}

-- what was read before, and what is still read
abbrev pub with_front : {S A : Type 0} → List A → Option (List A × S × List Token) → Option (List A × S × List Token)
with_front front read = then_make (λ xs. front ++ xs) read

regrouped : {S A : Type 0} (front : List A) (x : A) (read : Option (List A × S × List Token)) → with_front front (then_make (λ xs. x ∷ xs) read) ≡ with_front (front ++ x ∷ []) read
regrouped {S} {A} front x (Some xs) = ap (λ (ys : List A). Some (ys, xs.1, xs.2)) (sym (append_assoc front (x ∷ []) xs.0))
regrouped front x None = refl

-- the state of a loop over parts
abbrev pub Still : {S A : Type 0} → ℕ → ℕ → (ℕ → Reading S A) → (A → ℕ) → List A → ℕ → ℕ → S → List Token → Option (List A × S × List Token) → Type 0
Still separator end read step front fuel next state tokens total = with_front front (parts_at separator end read step fuel next state tokens) ≡ total

-- the end is there
pub at_end : {S A : Type 0} (separator end : ℕ) (read : ℕ → Reading S A) (step : A → ℕ) (front : List A) (most i next : ℕ) (state : S) (tokens : List Token) (total : Option (List A × S × List Token))
    → i < most → starts (is_mark end) tokens ≡ true → Still separator end read step front (most - i) next state tokens total → total ≡ Some (front, state, drop 1 tokens)
unfolding parts_at
at_end {S} {A} separator end read step front most i next state tokens total below ended so_far =
    let more : most - i ≡ suc (most - (i + 1)) = omega arith in
    let s : with_front front (parts_at separator end read step (most - i) next state tokens) ≡ Some (front, state, drop 1 tokens) = rw (more, ended) (ap (λ (xs : List A). Some (xs, state, drop 1 tokens)) (append-nil front)) in
    sym so_far ∙ s

-- there is no part
pub no_part_there : {S A : Type 0} (e : ReadError) (separator end : ℕ) (read : ℕ → Reading S A) (step : A → ℕ) (front : List A) (most i next : ℕ) (state : S) (tokens : List Token) (total : Option (List A × S × List Token))
    → i < most → starts (is_mark end) tokens ≡ false → Fails e (read next state tokens) → Still separator end read step front (most - i) next state tokens total → Fails e total
unfolding parts_at
no_part_there NoMemory separator end read step front most i next state tokens total below on none so_far = tt
no_part_there Refused separator end read step front most i next state tokens total below on none so_far =
    let more : most - i ≡ suc (most - (i + 1)) = omega arith in
    let s : with_front front (parts_at separator end read step (most - i) next state tokens) ≡ None = rw (more, on, none) refl in
    sym so_far ∙ s

-- the last part
pub last_part : {S A : Type 0} (separator end : ℕ) (read : ℕ → Reading S A) (step : A → ℕ) (front : List A) (most i next : ℕ) (state : S) (tokens : List Token) (total : Option (List A × S × List Token)) (x : A) (state' : S) (after : List Token)
    → i < most → starts (is_mark end) tokens ≡ false → read next state tokens ≡ Some (x, state', after) → starts (is_mark end) after ≡ true → Still separator end read step front (most - i) next state tokens total
    → total ≡ Some (front ++ x ∷ [], state', drop 1 after)
unfolding parts_at
last_part separator end read step front most i next state tokens total x state' after below on one ended so_far =
    let more : most - i ≡ suc (most - (i + 1)) = omega arith in
    let s : with_front front (parts_at separator end read step (most - i) next state tokens) ≡ Some (front ++ x ∷ [], state', drop 1 after) = rw (more, on, one, ended) refl in
    sym so_far ∙ s

-- neither an end nor a separator
pub no_separator : {S A : Type 0} (separator end : ℕ) (read : ℕ → Reading S A) (step : A → ℕ) (front : List A) (most i next : ℕ) (state : S) (tokens : List Token) (total : Option (List A × S × List Token)) (x : A) (state' : S) (after : List Token)
    → i < most → starts (is_mark end) tokens ≡ false → read next state tokens ≡ Some (x, state', after) → starts (is_mark end) after ≡ false → starts (is_mark separator) after ≡ false → Still separator end read step front (most - i) next state tokens total
    → total ≡ None
unfolding parts_at
no_separator separator end read step front most i next state tokens total x state' after below on one other stuck so_far =
    let more : most - i ≡ suc (most - (i + 1)) = omega arith in
    let s : with_front front (parts_at separator end read step (most - i) next state tokens) ≡ None = rw (more, on, one, other, stuck) refl in
    sym so_far ∙ s

-- one more part
pub part_read : {S A : Type 0} (separator end : ℕ) (read : ℕ → Reading S A) (step : A → ℕ) (front : List A) (most i next : ℕ) (state : S) (tokens : List Token) (total : Option (List A × S × List Token)) (x : A) (state' : S) (after : List Token)
    → i < most → starts (is_mark end) tokens ≡ false → read next state tokens ≡ Some (x, state', after) → starts (is_mark end) after ≡ false → starts (is_mark separator) after ≡ true → Still separator end read step front (most - i) next state tokens total
    → Still separator end read step (front ++ x ∷ []) (most - (i + 1)) (step x) state' (drop 1 after) total
unfolding parts_at
part_read separator end read step front most i next state tokens total x state' after below on one other again so_far =
    let more : most - i ≡ suc (most - (i + 1)) = omega arith in
    let s : with_front front (parts_at separator end read step (most - i) next state tokens) ≡ with_front (front ++ x ∷ []) (parts_at separator end read step (most - (i + 1)) (step x) state' (drop 1 after)) =
    rw (more, on, one, other, again) (regrouped front x (parts_at separator end read step (most - (i + 1)) (step x) state' (drop 1 after))) in
    sym s ∙ so_far

-- nothing more is looked at
pub no_fuel : {S A : Type 0} (separator end : ℕ) (read : ℕ → Reading S A) (step : A → ℕ) (front : List A) (most i next : ℕ) (state : S) (tokens : List Token) (total : Option (List A × S × List Token))
    → most ≤ i → Still separator end read step front (most - i) next state tokens total → total ≡ None
unfolding parts_at
no_fuel separator end read step front most i next state tokens total past so_far =
    let zero_is : most - i ≡ 0 = omega arith in
    let s : with_front front (parts_at separator end read step (most - i) next state tokens) ≡ None = rw zero_is refl in
    sym so_far ∙ s
