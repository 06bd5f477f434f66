-- What is in a list once bytes were written into it.
use Rattle.std.proofs.Common.{◌≡◌, ℕ, ◌+◌, ◌-◌, ◌<◌, ◌≤◌, List, ◌++◌, length, get_or, take, drop, arith, rules, length-append, length-drop}
use Rattle.std.proofs.lemmas.List.{places, same_lists, length-take}
use Rattle.wm_pages.specs.Over.{over}

pub length-over : (at : ℕ) (bytes xs : List ℕ) → at + length bytes ≤ length xs → length (over at bytes xs) ≡ length xs
unfolding over
length-over at bytes xs fits =
    omega (arith, length-append (take at xs) (bytes ++ drop (at + length bytes) xs), length-append bytes (drop (at + length bytes) xs), length-take at xs, length-drop (at + length bytes) xs)

pub over_below : (at : ℕ) (bytes xs : List ℕ) (i d : ℕ) → at ≤ length xs → i < at → get_or (over at bytes xs) i d ≡ get_or xs i d
unfolding over
over_below at bytes xs i d fits below = grind (arith, places)

pub over_within : (at : ℕ) (bytes xs : List ℕ) (i d : ℕ) → at ≤ length xs → at ≤ i → i < at + length bytes → get_or (over at bytes xs) i d ≡ get_or bytes (i - at) d
unfolding over
over_within at bytes xs i d fits from below = grind (arith, places)

pub over_above : (at : ℕ) (bytes xs : List ℕ) (i d : ℕ) → at + length bytes ≤ length xs → at + length bytes ≤ i → get_or (over at bytes xs) i d ≡ get_or xs i d
unfolding over
over_above at bytes xs i d fits above = grind (arith, places)

-- what is there, written there
pub over_itself : (at n : ℕ) (xs : List ℕ) → at + n ≤ length xs → over at (take n (drop at xs)) xs ≡ xs
unfolding over
over_itself at n xs fits = same_lists _ _ (search (rules, places)) (λ k d h. grind (arith, places))

pub over-append : (at : ℕ) (bytes xs more : List ℕ) → at + length bytes ≤ length xs → over at bytes (xs ++ more) ≡ over at bytes xs ++ more
unfolding over
over-append at bytes xs more fits = same_lists _ _ (search (rules, places)) (λ k d h. grind (arith, places))
