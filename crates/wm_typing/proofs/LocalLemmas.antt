-- Locals that are looked up in their runs.
use Rattle.std.proofs.Common.{◌≡◌, ℕ, ◌+◌, ◌-◌, ◌<◌, ◌≤◌, zero, suc, List, [], ◌∷◌, ◌++◌, length, take, get_or, replicate, Some, true, false, leb, leb-true, leb-false, refl, sym, ap, ◌∙◌, arith}
use Rattle.std.specs.Prelude.{slice_get, option_map}
use Rattle.std.specs.List.{AllWithin}
use Rattle.std.specs.List.Sorted.{IsNonDecreasingBy, IsPartitionPoint}
use Rattle.std.proofs.lemmas.List.{take_more, length-replicate, get_or-replicate, length-append}
use Rattle.std.proofs.lemmas.Option.{slice_get-get_or}
use Rattle.std.proofs.lemmas.List.Concat.{flat_map-append}
use Rattle.wm_tree.specs.declared.types.ValType.{ValType}
use Rattle.wm_tree.specs.declared.parts.Run.{Run}
use Rattle.wm_typing.specs.Locals.{locals_of, ends_of}

-- ---- lists one after the other

pub slice_get_front : {A : Type 0} (xs ys : List A) (i : ℕ) → i < length xs → slice_get (xs ++ ys) i ≡ slice_get xs i
slice_get_front [] ys i h = absurd (omega arith)
slice_get_front (x ∷ xs) ys zero h = refl
slice_get_front (x ∷ xs) ys (suc i) h = slice_get_front xs ys i (omega arith)

pub slice_get_behind : {A : Type 0} (xs ys : List A) (i : ℕ) → length xs ≤ i → slice_get (xs ++ ys) i ≡ slice_get ys (i - length xs)
slice_get_behind [] ys i h = let e : i ≡ i - 0 = omega arith in ap (slice_get ys) e
slice_get_behind (x ∷ xs) ys zero h = absurd (omega arith)
slice_get_behind (x ∷ xs) ys (suc i) h =
    let e : i - length xs ≡ suc i - suc (length xs) = omega arith in
    slice_get_behind xs ys i (omega arith) ∙ ap (slice_get ys) e

-- ---- the ends of runs

-- one more run
pub ends_of-push : (n : ℕ) (runs : List Run) (r : Run) → ends_of n (runs ++ (r ∷ [])) ≡ ends_of n runs ++ ((n + length (locals_of runs) + r.count) ∷ [])
ends_of-push n [] r = let e : n + r.count ≡ n + 0 + r.count = omega arith in ap (λ k. k ∷ []) e
ends_of-push n (x ∷ runs) r =
    let len : length (locals_of (x ∷ runs)) ≡ x.count + length (locals_of runs) =
    length-append (replicate x.count x.kind) (locals_of runs) ∙ ap (λ k. k + length (locals_of runs)) (length-replicate x.count x.kind) in
    let e : (n + x.count) + length (locals_of runs) + r.count ≡ n + length (locals_of (x ∷ runs)) + r.count = omega (arith, len) in
    ap (λ ends. (n + x.count) ∷ ends) (ends_of-push (n + x.count) runs r ∙ ap (λ k. ends_of (n + x.count) runs ++ (k ∷ [])) e)

pub length-locals_of-push : (runs : List Run) (r : Run) → length (locals_of (runs ++ (r ∷ []))) ≡ length (locals_of runs) + r.count
length-locals_of-push runs r =
    let of : Run → List ValType = λ x. replicate x.count x.kind in
    let parts : length (locals_of (runs ++ (r ∷ []))) ≡ length (locals_of runs) + length (locals_of (r ∷ [])) =
    ap length (flat_map-append of runs (r ∷ [])) ∙ length-append (locals_of runs) (locals_of (r ∷ [])) in
    let last : length (locals_of (r ∷ [])) ≡ length (of r) + 0 = length-append (of r) [] in
    let run : length (of r) ≡ r.count = length-replicate r.count r.kind in
    omega (arith, parts, last, run)

ends_least : (n : ℕ) (runs : List Run) (j d : ℕ) → j < length (ends_of n runs) → n ≤ get_or (ends_of n runs) j d
ends_least n [] j d lt = absurd (omega arith)
ends_least n (r ∷ runs) zero d lt = omega arith
ends_least n (r ∷ runs) (suc j) d lt = let least = ends_least (n + r.count) runs j d (omega arith) in omega (arith, least)

-- the ends rise
pub ends_rise : (n : ℕ) (runs : List Run) (i j d : ℕ) → i ≤ j → j < length (ends_of n runs) → get_or (ends_of n runs) i d ≤ get_or (ends_of n runs) j d
ends_rise n [] i j d le lt = absurd (omega arith)
ends_rise n (r ∷ runs) zero zero d le lt = omega arith
ends_rise n (r ∷ runs) zero (suc j) d le lt = ends_least (n + r.count) runs j d (omega arith)
ends_rise n (r ∷ runs) (suc i) zero d le lt = absurd (omega arith)
ends_rise n (r ∷ runs) (suc i) (suc j) d le lt = ends_rise (n + r.count) runs i j d (omega arith) (omega arith)

-- a local is in the first run that ends after it
pub local_at : (n : ℕ) (runs : List Run) (place run : ℕ) → n ≤ place
    → AllWithin (λ end. leb end place ≡ true) (ends_of n runs) 0 run
    → AllWithin (λ end. leb end place ≡ false) (ends_of n runs) run (length (ends_of n runs))
    → slice_get (locals_of runs) (place - n) ≡ option_map (λ (r : Run). r.kind) (slice_get runs run)
local_at n [] place run le before behind = refl
local_at n (r ∷ runs) place zero le before behind =
    let end : place < n + r.count = leb-false _ _ (behind 0 0 (omega arith) (omega arith)) in
    let run : List ValType = replicate r.count r.kind in
    let short : place - n < r.count = omega arith in
    let within : place - n < length run = omega (arith, length-replicate r.count r.kind) in
    slice_get_front run (locals_of runs) (place - n) within
    ∙ slice_get-get_or run (place - n) r.kind within
    ∙ ap (λ t. Some t) (get_or-replicate r.count (place - n) r.kind r.kind short)
local_at n (r ∷ runs) place (suc run) le before behind =
    let end : n + r.count ≤ place = leb-true _ _ (before 0 0 (omega arith) (omega arith)) in
    let len : length (replicate r.count r.kind) ≡ r.count = length-replicate r.count r.kind in
    let e : place - n - length (replicate r.count r.kind) ≡ place - (n + r.count) = omega (arith, len) in
    slice_get_behind (replicate r.count r.kind) (locals_of runs) (place - n) (omega (arith, len))
    ∙ ap (slice_get (locals_of runs)) e
    ∙ local_at (n + r.count) runs place run end
    (λ k d low lt. before (suc k) d (omega arith) (omega arith))
    (λ k d low lt. behind (suc k) d (omega arith) (omega arith))

-- ---- what the code keeps and asks

-- the ends with that of one more run
pub ends_more : (runs : List Run) (n : ℕ) (d : Run) (len next : ℕ) (ends : List ℕ) → n < length runs → ends ≡ ends_of 0 (take n runs) → len ≡ length (locals_of (take n runs)) → next ≡ len + (get_or runs n d).count
    → (ends ++ (next ∷ []) ≡ ends_of 0 (take (n + 1) runs)) × (next ≡ length (locals_of (take (n + 1) runs)))
ends_more runs n d len next ends lt is_ends is_len is_next =
    let r = get_or runs n d in
    let more = take_more runs n d lt in
    let last : 0 + length (locals_of (take n runs)) + r.count ≡ next = omega (arith, is_len, is_next) in
    let pushed = ends_of-push 0 (take n runs) r ∙ ap (λ k. ends_of 0 (take n runs) ++ (k ∷ [])) last in
    let longer = length-locals_of-push (take n runs) r in (
      ap (λ xs. xs ++ (next ∷ [])) is_ends ∙ sym pushed ∙ ap (ends_of 0) (sym more),
      let at_n : next ≡ length (locals_of (take n runs ++ (r ∷ []))) = omega (arith, is_len, is_next, longer) in at_n ∙ ap (λ xs. length (locals_of xs)) (sym more),
    )

pub are_rising : (runs : List Run) (ends : List ℕ) → ends ≡ ends_of 0 runs → IsNonDecreasingBy (λ e. e) ends
are_rising runs ends same = rw same (ends_rise 0 runs)

pub found : (runs : List Run) (ends : List ℕ) (place run : ℕ) → ends ≡ ends_of 0 runs → IsPartitionPoint (λ e. leb e place ≡ true) (λ e. leb e place ≡ false) ends run
    → slice_get (locals_of runs) place ≡ option_map (λ (r : Run). r.kind) (slice_get runs run)
found runs ends place run same point =
    let at : IsPartitionPoint (λ e. leb e place ≡ true) (λ e. leb e place ≡ false) (ends_of 0 runs) run = rw same at point in
    let e : place ≡ place - 0 = omega arith in
    ap (slice_get (locals_of runs)) e ∙ local_at 0 runs place run (omega arith) at.0 at.1
