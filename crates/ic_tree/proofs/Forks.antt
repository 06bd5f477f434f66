-- Trees under forks.
use Rattle.std.proofs.Common.{◌≡◌, ◌∙◌, ap, ap₂, refl, subst, sym, arith, ℕ, zero, suc, ◌+◌, ◌-◌, ◌/◌, ◌<◌, ◌≤◌, List, [], ◌∷◌, length, map, take, drop, ◌++◌}
use Rattle.std.proofs.lemmas.List.{drop-map, drop-take, length-append, length-drop, length-map, length-take-le, take-map, take-take}
use Rattle.ic_behaviour.specs.State.{State}
use Rattle.ic_tree.specs.HashTree.{HashTree, fork, forked, forked_in, half, root_hash}
use Rattle.ic_tree.specs.StateTree.{kept, requests_tree, state_tree_of, tree_over}
use Rattle.ic_tree.specs.View.{view}
use Rattle.ic_tree.specs.declared.state.Keep.{Keep}
use Rattle.ic_tree.specs.declared.state.Keep.TheVariants.{Whole, Root}
use Rattle.ic_tree.specs.declared.tree.Tree.{Tree}
use Rattle.ic_tree.specs.declared.tree.Tree.TheVariants.{Empty}

halves : (n : ℕ) → 2 ≤ n → (1 ≤ half n) × (half n < n)
halves n two = (omega arith, omega arith)

-- how many steps are allowed makes no difference
pub steps_free : (n m : ℕ) (xs : List HashTree) → length xs ≤ n → length xs ≤ m → forked_in n xs ≡ forked_in m xs
unfolding forked_in
steps_free zero zero xs a b = refl
steps_free zero (suc m) [] a b = refl
steps_free zero (suc m) (x ∷ xs) a b = absurd (omega arith)
steps_free (suc n) zero [] a b = refl
steps_free (suc n) zero (x ∷ xs) a b = absurd (omega arith)
steps_free (suc n) (suc m) [] a b = refl
steps_free (suc n) (suc m) (x ∷ []) a b = refl
steps_free (suc n) (suc m) (x ∷ y ∷ rest) a b =
    let xs = x ∷ y ∷ rest in
    let h = halves (length xs) (omega arith) in
    let left : length (take (half (length xs)) xs) ≡ half (length xs) = length-take-le (half (length xs)) xs (omega arith) in
    let right : length (drop (half (length xs)) xs) ≡ length xs - half (length xs) = length-drop (half (length xs)) xs in
    ap₂ fork (steps_free n m (take (half (length xs)) xs) (omega arith) (omega arith))
    (steps_free n m (drop (half (length xs)) xs) (omega arith) (omega arith))

pub forked_is : (xs : List HashTree) → 2 ≤ length xs → forked xs ≡ fork (forked (take (half (length xs)) xs)) (forked (drop (half (length xs)) xs))
unfolding forked_in
forked_is [] two = absurd (omega arith)
forked_is (x ∷ []) two = absurd (omega arith)
forked_is (x ∷ y ∷ rest) two =
    let xs = x ∷ y ∷ rest in
    let n = length (y ∷ rest) in
    let h = halves (length xs) (omega arith) in
    let left : length (take (half (length xs)) xs) ≡ half (length xs) = length-take-le (half (length xs)) xs (omega arith) in
    let right : length (drop (half (length xs)) xs) ≡ length xs - half (length xs) = length-drop (half (length xs)) xs in
    ap₂ fork (steps_free n _ (take (half (length xs)) xs) (omega arith) (omega arith))
    (steps_free n _ (drop (half (length xs)) xs) (omega arith) (omega arith))

-- at most one tree
pub one_tree : (before xs : List Tree) (tree : Tree) → xs ≡ before ++ tree ∷ [] → length xs ≤ 1 → view tree ≡ forked (map view xs)
unfolding forked_in
one_tree [] xs tree is few = sym (ap (λ l. forked (map view l)) is)
one_tree (y ∷ ys) xs tree is few =
    let two : length (ys ++ tree ∷ []) ≡ length ys + 1 = length-append ys (tree ∷ []) in
    let more : length xs ≡ suc (length (ys ++ tree ∷ [])) = ap length is in
    absurd (omega arith)

pub no_tree : (xs : List Tree) → xs ≡ [] → view Empty ≡ forked (map view xs)
unfolding forked_in view
no_tree xs is = sym (ap (λ l. forked (map view l)) is)

-- the first of a list, that many, half by half
pub forked_first : {E : Type 0} (branch : E → HashTree) (es : List E) (count : ℕ) → 2 ≤ count → count ≤ length es
    → forked (map branch (take count es)) ≡ fork (forked (map branch (take (half count) es))) (forked (map branch (take (count / 2) (drop (half count) es))))
forked_first branch es count two within =
    let first = map branch (take count es) in
    let long : length first ≡ count = length-map (take count es) branch ∙ length-take-le count es within in
    let parts : half count + count / 2 ≡ count = omega arith in
    let left : take (half (length first)) first ≡ map branch (take (half count) es) =
    ap (λ n. take (half n) first) long ∙ (take-map branch (half count) (take count es) ∙ ap (map branch) (take-take (half count) count es (omega arith))) in
    let right : drop (half (length first)) first ≡ map branch (take (count / 2) (drop (half count) es)) =
    ap (λ n. drop (half n) first) long ∙ (drop-map branch (half count) (take count es)
    ∙ ap (map branch) (ap (λ n. drop (half count) (take n es)) (sym parts) ∙ drop-take (half count) (count / 2) es)) in
    forked_is first (subst (λ n. 2 ≤ n) (sym long) two) ∙ ap₂ (λ l r. fork (forked l) (forked r)) left right

-- the first of a list alone
pub forked_one : {E : Type 0} (branch : E → HashTree) (es rest : List E) (e : E) (count : ℕ) → es ≡ e ∷ rest → 1 ≤ count → count ≤ 1
    → (rest ≡ drop count es) × (branch e ≡ forked (map branch (take count es)))
unfolding forked_in
forked_one branch es rest e zero is some one = absurd (omega arith)
forked_one branch es rest e (suc zero) is some one = (sym (ap (drop 1) is), sym (ap (λ l. forked (map branch (take 1 l))) is))
forked_one branch es rest e (suc (suc n)) is some one = absurd (omega arith)

-- ---- root hashes

-- a fork of kept trees is kept as a fork of the trees is
pub kept_fork : (keep : Keep) (left right : HashTree) → kept keep (fork (kept keep left) (kept keep right)) ≡ kept keep (fork left right)
unfolding root_hash kept
kept_fork Whole left right = refl
kept_fork Root left right = refl

-- a state's root hash is that of its tree whose requests are pruned
pub state_root : (s : State) → root_hash (tree_over s (kept Root (requests_tree s.requests))) ≡ root_hash (state_tree_of s)
unfolding forked_in root_hash kept state_tree_of
state_root s = refl
