-- Keys of states: of memories range by range, and one for states that are the same up to the order of messages.
use Rattle.std.proofs.Common.{◌≡◌, ℕ, suc, ◌+◌, ◌/◌, ◌%◌, ◌^◌, ◌<◌, List, [], ◌∷◌, ◌++◌, length, take, drop, sym, ap, ap₂, ◌∙◌, arith}
use Rattle.std.specs.Prelude.{slice_index_or}
use Rattle.std.proofs.Math.Seq.{drop-cons, take-append_seam, drop-append_seam}
use Rattle.std.proofs.lemmas.List.{length-append}
use Rattle.ic_behaviour.specs.State.{State}
use Rattle.ic_exact.specs.Key.{mix, key_of_range}
use Rattle.ic_exact.specs.Ranges.{AreDistinct, AreNumbers, bytes_of}
use Rattle.ic_exact.proofs.Once.{each-at}
use Rattle.ic_order.specs.Order.{SameState}
use Rattle.ic_order.proofs.Ways.{ways_total}
use Rattle.ic_keep.specs.Key.{key_of, key_of_message, key_of_requests, with_ranges, with_memory, with_canisters}

pub one_key : (s t : State) → SameState s t → key_of s ≡ key_of t
one_key s t same =
    ap₂ (λ (n : ℕ) (u : State). with_canisters (key_of_requests (n % 2 ^ 64) u.requests) u.canisters) (ways_total key_of_message s.messages t.messages same.messages) same.rest

-- ---- the next range of a memory

one_range : (key : ℕ) (range rest : List ℕ) → length range ≡ 4096 → with_memory key (range ++ rest) ≡ with_memory (mix key (key_of_range range)) rest
one_range key range rest size =
    let count : length (range ++ rest) / 4096 ≡ suc (length rest / 4096) = omega (arith, size, length-append range rest) in
    let front : take 4096 (range ++ rest) ≡ range = ap (λ k. take k (range ++ rest)) (sym size) ∙ take-append_seam range rest in
    let back : drop 4096 (range ++ rest) ≡ rest = ap (λ k. drop k (range ++ rest)) (sym size) ∙ drop-append_seam range rest in
    ap (λ n. with_ranges n key (range ++ rest)) count ∙ ap₂ (λ (a b : List ℕ). with_ranges (length rest / 4096) (mix key (key_of_range a)) b) front back

pub next_range : (xs : List (List ℕ)) (ns : List ℕ) (i d key : ℕ) → AreDistinct xs → AreNumbers xs ns → i < length ns
    → with_memory key (bytes_of xs (drop i ns)) ≡ with_memory (mix key (key_of_range (slice_index_or xs (slice_index_or ns i d) []))) (bytes_of xs (drop (i + 1) ns))
next_range xs ns i d key once are below =
    let next : suc i ≡ i + 1 = omega arith in
    let split : drop i ns ≡ slice_index_or ns i d ∷ drop (i + 1) ns = drop-cons ns i d below ∙ ap (λ k. slice_index_or ns i d ∷ drop k ns) next in
    let size : length (slice_index_or xs (slice_index_or ns i d) []) ≡ 4096 =
    each-at (λ (r : List ℕ). length r ≡ 4096) xs (slice_index_or ns i d) [] (each-at (λ n. n < length xs) ns i d below are) once.sizes in
    ap (λ l. with_memory key (bytes_of xs l)) split ∙ one_range key (slice_index_or xs (slice_index_or ns i d) []) (bytes_of xs (drop (i + 1) ns)) size
