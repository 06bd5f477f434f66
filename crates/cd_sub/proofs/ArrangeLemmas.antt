-- pairs that are put in the order of their places
use Rattle.std.proofs.Common.{◌≡◌, inl, inr, ⊎_elim, ℕ, ◌-◌, ◌*◌, ◌<◌, ◌≤◌, Bool, true, List, ◌++◌, length, get_or, take, drop, sym, ◌∙◌, ap, subst, arith}
use Rattle.std.proofs.lemmas.List.{append-nil, drop_all, length-append, length-drop, length-take-le, take_all, take-append-drop}
use Rattle.std.proofs.lemmas.List.Elements.{All-from_recursion, recursion_from_All}
use Rattle.std.proofs.lemmas.List.Sorted.{All-permutation, Contains-permutation, IsPermutation-append_right, length_permutation}
use Rattle.std.specs.List.{AllByRecursion, Contains}
use Rattle.std.specs.List.Sorted.{IsPermutation}
use Rattle.cd_types.specs.declared.entry.Entry.{Entry}
use Rattle.cd_sub.specs.declared.search.Mark.{Mark}
use Rattle.cd_sub.specs.Pairs.{PlaceSub}
use Rattle.cd_sub.specs.Marks.{IsRightBut, Tried}
use Rattle.cd_sub.proofs.OrderLemmas.{all_map}
use Rattle.cd_sub.proofs.SearchLemmas.{Shown, Step, search_step}

-- what a write through a slice of a list's end leaves of the list
abbrev Written : (met read sorted : List ℕ) (next size : ℕ) → List ℕ
Written met read sorted next size =
    let start = take next read ++ (sorted ++ drop (length read - next) (drop next read)) in
    take size (start ++ drop (length start) met)

-- a list whose end is sorted
at_end : (met sorted : List ℕ) (next : ℕ) → next ≤ length met → IsPermutation (take (length met - next) (drop next met)) sorted
    → IsPermutation met (Written met met sorted next (length met))
at_end met sorted next inside moved =
    let end = take_all (length met - next) (drop next met) (omega (arith, length-drop next met)) in
    let tail : IsPermutation (drop next met) sorted = subst (λ xs. IsPermutation xs sorted) end moved in
    let start = take next met ++ sorted in
    let long : length start ≡ length met =
    omega (arith, length-append (take next met) sorted, length-take-le next met inside, length_permutation (drop next met) sorted tail, length-drop next met) in
    let whole : IsPermutation met start = subst (λ xs. IsPermutation xs start) (take-append-drop next met) (IsPermutation-append_right (take next met) (drop next met) sorted tail) in
    let rest = drop_all (length met - next) (drop next met) (omega (arith, length-drop next met)) in
    let plain : sorted ++ drop (length met - next) (drop next met) ≡ sorted = ap (λ xs. sorted ++ xs) rest ∙ append-nil sorted in
    let past : start ++ drop (length start) met ≡ start = ap (λ xs. start ++ xs) (drop_all (length start) met (omega (arith, long))) ∙ append-nil start in
    subst (λ xs. IsPermutation met (take (length met) ((take next met ++ xs) ++ drop (length (take next met ++ xs)) met))) (sym plain)
    (subst (λ xs. IsPermutation met (take (length met) xs)) (sym past)
    (subst (IsPermutation met) (sym (take_all (length met) start (omega (arith, long)))) whole))

pub written_back : (met read sorted : List ℕ) (next size : ℕ) → read ≡ met → size ≡ length met → next ≤ length met
    → IsPermutation (take (length read - next) (drop next read)) sorted → IsPermutation met (Written met read sorted next size)
written_back met read sorted next size is size_is inside moved =
    subst (λ n. IsPermutation met (Written met read sorted next n)) (sym size_is)
    (subst (λ r. IsPermutation met (Written met r sorted next (length met))) (sym is)
    (at_end met sorted next inside (subst (λ r. IsPermutation (take (length r - next) (drop next r)) sorted) is moved)))

pub all_moved : (P : ℕ → Type 0) (xs ys : List ℕ) → IsPermutation xs ys → AllByRecursion P xs → AllByRecursion P ys
all_moved P xs ys moved all = recursion_from_All P ys (All-permutation P xs ys moved (All-from_recursion P xs all))

pub right_moved : (first second : List Entry) (marks : List Mark) (before after : List ℕ) → IsPermutation before after → IsRightBut before first second marks → IsRightBut after first second marks
right_moved first second marks before after moved right =
    record {
      holds = λ place holds. ⊎_elim (λ there. inl (Contains-permutation before after place moved there)) (λ sub. inr sub) (right.holds place holds);
      fails = right.fails;
    }

-- one more pair met is shown, once those that are not shown are put in order
pub arranged_step : (first second : List Entry) (old new : List Mark) (start before met after : List ℕ) (next place : ℕ) → IsPermutation before met → take next met ≡ take next before
    → next < length before → place ≡ get_or met next 0 → place < 2 * (length first * length second)
    → (answer : Bool) → answer ≡ true → Tried answer first second old new met after place
    → AllByRecursion (Shown first second old) (take next before)
    → (AllByRecursion (PlaceSub first second) start → AllByRecursion (PlaceSub first second) before)
    → AllByRecursion (Contains before) start
    → Step first second new start after next old met
arranged_step first second old new start before met after next place same kept inside is within answer it_is tried shown needed there =
    search_step first second old new start met after next place (omega (arith, length_permutation before met same)) is within answer it_is tried
    (subst (AllByRecursion (Shown first second old)) (sym kept) shown)
    (λ all. all_moved (PlaceSub first second) before met same (needed all))
    (all_map _ _ (λ place there. Contains-permutation before met place same there) start there)
