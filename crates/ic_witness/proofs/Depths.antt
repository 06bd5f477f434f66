-- How deep pruned trees nest, and the tree of a state.
use Rattle.std.proofs.Common.{◌≡◌, refl, arith, ℕ, zero, suc, ◌+◌, ◌-◌, ◌*◌, ◌^◌, ◌≤◌, max, Bool, true, false, ◌&&◌, ◌||◌, not, List, [], ◌∷◌, ◌++◌, length, take, drop, map, codes, Option, Some, None, Ordering, Less, Equal, Greater, if◌then◌else◌}
use Rattle.std.specs.Prelude.{nat_le}
use Rattle.std.specs.BTreeMap.{insert_entry}
use Rattle.std.specs.Cmp.Lexicographic.{slice_cmp}
use Rattle.std.specs.List.{list_all, list_any}
use Rattle.std.specs.Ordering.{match_ordering, nat_cmp}
use Rattle.std.proofs.lemmas.Bool.{le-leb, leb-true}
use Rattle.std.proofs.lemmas.List.{length-take-le, length-drop, length-map}
use Rattle.ic_leb.specs.Spelling.{unsigned_spelling}
use Rattle.ic_tree.specs.HashTree.{HashTree, empty, fork, labeled, leaf, pruned, forked, forked_in, half, leaf_at, root_hash}
use Rattle.ic_behaviour.specs.declared.call.Response.{Response}
use Rattle.ic_behaviour.specs.declared.call.Response.TheVariants.{Reply, Reject}
use Rattle.ic_behaviour.specs.declared.request.Request.{Request}
use Rattle.ic_behaviour.specs.State.{Code, State}
use Rattle.ic_behaviour.specs.Sound.{Sound}
use Rattle.ic_tree.specs.StateTree.{by_id, canister_part, id_of_request, request_part, state_tree_of}
use Rattle.ic_witness.specs.Witness.{HasWitnesses, SaysAlike}
use Rattle.ic_witness.specs.Cbor.{depth}
use Rattle.ic_witness.specs.Nodes.{Label, Path, flat, is_one_leaf, labels}
use Rattle.ic_witness.specs.Prune.{chosen, cut, has_needed, is_needed, is_nil, prune, rests}
use Rattle.ic_witness.proofs.StateOrder.{both, by_id_all, each, halved, part_of, state_ordered, state_whole, under}
use Rattle.ic_witness.proofs.Labels.{both_hold}
use Rattle.ic_witness.proofs.Kept.{prune_at}
use Rattle.ic_witness.proofs.Roots.{prune_root}
use Rattle.ic_witness.proofs.Trees.{some_depth}

-- ---- pruned trees

chosen_depth : (tree : HashTree) (paths : List Path) (made : HashTree) → depth made ≤ depth tree → depth (chosen tree paths made) ≤ depth tree
unfolding depth
chosen_depth tree paths made le = go (is_nil (flat tree) || list_any is_nil paths) (is_nil paths) (is_one_leaf (flat tree)) (some_depth tree)
  where
    go : (a b c : Bool) → 1 ≤ depth tree → depth (if a then tree else (if b then pruned (root_hash tree) else (if c then tree else made))) ≤ depth tree
    go true b c one = omega arith
    go false true c one = one
    go false false true one = omega arith
    go false false false one = le

cut_depth : (tree : HashTree) (needed : Label → Bool) (paths : List Path) → depth (cut tree needed paths) ≤ depth tree
unfolding depth cut
cut_depth empty needed paths = omega arith
cut_depth (fork left right) needed paths =
    go (cut_depth left needed paths) (cut_depth right needed paths) (not (is_nil (flat left ++ flat right)) && not (has_needed needed (fork left right)))
  where
    go : depth (cut left needed paths) ≤ depth left → depth (cut right needed paths) ≤ depth right
        → (b : Bool) → depth (if b then pruned (root_hash (fork left right)) else fork (cut left needed paths) (cut right needed paths)) ≤ suc (max (depth left) (depth right))
    go l r true = omega arith
    go l r false = omega arith
cut_depth (labeled label part) needed paths =
    go (chosen_depth part (rests label paths) _ (cut_depth part (is_needed (labels (flat part)) (rests label paths)) (rests label paths))) (needed label)
  where
    kept : HashTree
    kept = chosen part (rests label paths) (cut part (is_needed (labels (flat part)) (rests label paths)) (rests label paths))

    go : depth kept ≤ depth part → (b : Bool) → depth (if b then labeled label kept else pruned (root_hash (labeled label part))) ≤ suc (depth part)
    go le true = omega arith
    go le false = omega arith
cut_depth (leaf bytes) needed paths = omega arith
cut_depth (pruned hash) needed paths = omega arith

-- pruning makes no tree deeper
pub prune_depth : (tree : HashTree) (paths : List Path) → depth (prune tree paths) ≤ depth tree
prune_depth tree paths = chosen_depth tree paths _ (cut_depth tree _ paths)

pub pruned_shallow : (tree : HashTree) (paths : List Path) (made : HashTree) (most : ℕ) → made ≡ prune tree paths → depth tree ≤ most → depth made ≤ most
pruned_shallow tree paths made most is le = rw is (omega (arith, prune_depth tree paths, le))

-- no tree nests so little
pub none_within : (tree : HashTree) (most : ℕ) → most ≡ 0 → false ≡ nat_le (depth tree) most
none_within tree most none = go (nat_le (depth tree) most) refl
  where
    go : (b : Bool) → nat_le (depth tree) most ≡ b → false ≡ b
    go true e = absurd (let le = leb-true (depth tree) most e in let one = some_depth tree in omega (arith, none))
    go false e = refl

-- ---- trees under forks

abbrev up_to : ℕ → HashTree → Bool
up_to most tree = nat_le (depth tree) most

twice : (k : ℕ) → 2 ^ suc k ≡ 2 * 2 ^ k
twice k = omega arith

-- this many trees under forks nest no deeper than they do, and one more for each doubling
forked_depth : (most steps k : ℕ) (xs : List HashTree) → 1 ≤ most → length xs ≤ 2 ^ k → list_all (up_to most) xs ≡ true → depth (forked_in steps xs) ≤ most + k
unfolding forked_in depth
forked_depth most zero k xs one few a = omega arith
forked_depth most (suc n) k [] one few a = omega arith
forked_depth most (suc n) k (x ∷ []) one few a = let d = leb-true (depth x) most (both_hold (up_to most x) true a).0 in omega arith
forked_depth most (suc n) zero (x ∷ y ∷ rest) one few a = absurd (omega arith)
forked_depth most (suc n) (suc k) (x ∷ y ∷ rest) one few a =
    let xs = x ∷ y ∷ rest in
    let h = halved (up_to most) (half (length xs)) xs a in
    let two = twice k in
    let front : length (take (half (length xs)) xs) ≡ half (length xs) = length-take-le (half (length xs)) xs (omega arith) in
    let back : length (drop (half (length xs)) xs) ≡ length xs - half (length xs) = length-drop (half (length xs)) xs in
    let l = forked_depth most n k (take (half (length xs)) xs) one (omega arith) h.0 in
    let r = forked_depth most n k (drop (half (length xs)) xs) one (omega arith) h.1 in
    omega arith

-- ---- trees under keys

under_up_to : {A : Type 0} (tree_of : A → HashTree) (most : ℕ) (es : List (List ℕ × A)) → list_all (λ e. up_to most (tree_of e.1)) es ≡ true
    → list_all (up_to (suc most)) (map (under tree_of) es) ≡ true
unfolding depth
under_up_to tree_of most [] a = refl
under_up_to tree_of most (e ∷ es) a =
    let h = both_hold (up_to most (tree_of e.1)) (list_all (λ e. up_to most (tree_of e.1)) es) a in
    let d = leb-true (depth (tree_of e.1)) most h.0 in
    both (up_to (suc most) (under tree_of e)) (list_all (up_to (suc most)) (map (under tree_of) es)) (le-leb (depth (under tree_of e)) (suc most) (omega arith)) (under_up_to tree_of most es h.1)

under_depth : {A : Type 0} (tree_of : A → HashTree) (most k : ℕ) (es : List (List ℕ × A)) → length es ≤ 2 ^ k → list_all (λ e. up_to most (tree_of e.1)) es ≡ true
    → depth (forked (map (under tree_of) es)) ≤ suc most + k
under_depth tree_of most k es few a =
    let trees = map (under tree_of) es in
    forked_depth (suc most) (length trees) k trees (omega arith) (omega (arith, length-map es (under tree_of))) (under_up_to tree_of most es a)

-- ---- the state

part_depth : (certified : List ℕ) (code : Option Code) → up_to 3 (canister_part certified code) ≡ true
unfolding forked_in depth
part_depth certified None = refl
part_depth certified (Some code) = refl

request_depth : (answer : Option Response) → up_to 4 (request_part answer) ≡ true
unfolding forked_in depth
request_depth None = refl
request_depth (Some (Reply bytes)) = refl
request_depth (Some (Reject code message)) = refl

length-put : (entries : List (List ℕ × HashTree)) (key : List ℕ) (tree : HashTree) → length (insert_entry (slice_cmp nat_cmp) entries key tree) ≤ suc (length entries)
length-put [] key tree = omega arith
length-put (e ∷ entries) key tree = go (length-put entries key tree) (slice_cmp nat_cmp key e.0)
  where
    go : length (insert_entry (slice_cmp nat_cmp) entries key tree) ≤ suc (length entries)
        → (o : Ordering) → length (match_ordering o ((key, tree) ∷ e ∷ entries) ((e.0, tree) ∷ entries) (e ∷ insert_entry (slice_cmp nat_cmp) entries key tree)) ≤ suc (suc (length entries))
    go le Less = omega arith
    go le Equal = omega arith
    go le Greater = omega arith

length-by_id : (number : ℕ) (rs : List Request) → length (by_id number rs) ≤ length rs
unfolding by_id
length-by_id number [] = omega arith
length-by_id number (r ∷ rs) = omega (arith, length-put (by_id (number + 1) rs) (id_of_request number r) (request_part r.answer), length-by_id (number + 1) rs)

top_depth : (most : ℕ) (canisters requests : HashTree) (time : List ℕ) → 1 ≤ most → depth canisters ≤ most → depth requests ≤ most
    → depth (forked (labeled (codes "canister") canisters ∷ labeled (codes "request_status") requests ∷ leaf_at (codes "time") time ∷ [])) ≤ most + 3
unfolding forked_in depth
top_depth most canisters requests time one c r = omega arith

-- 64 canisters and 2 ^ 20 requests make a tree of 28 levels at most
state_depth : (s : State) → length s.canisters ≤ 64 → length s.requests ≤ 2 ^ 20 → depth (state_tree_of s) ≤ 128
unfolding state_tree_of
state_depth s cs rs =
    let c = under_depth part_of 3 6 s.canisters (omega arith) (each (λ e. up_to 3 (part_of e.1)) (λ e. part_depth e.1.certified e.1.code) s.canisters) in
    let r = under_depth (λ part. part) 4 20 (by_id 0 s.requests) (omega (arith, length-by_id 0 s.requests)) (by_id_all (up_to 4) request_depth 0 s.requests) in
    let canisters = forked (map (under part_of) s.canisters) in
    let requests = forked (map (under (λ part. part)) (by_id 0 s.requests)) in
    let top = top_depth 25 canisters requests (unsigned_spelling s.time) (omega arith) (omega (arith, c)) (omega (arith, r)) in
    omega (arith, top)

-- the tree of every sound state has witnesses
pub state_stands : (s : State) → Sound s → HasWitnesses (state_tree_of s)
state_stands s is = record {
  ordered = state_ordered s is.names.rises;
  whole = state_whole s;
  shallow = state_depth s is.sizes.canisters is.sizes.requests;
}

pub state_alike : (s : State) (paths : List Path) → Sound s → SaysAlike (prune (state_tree_of s) paths) (state_tree_of s) paths
state_alike s paths is =
    let h = state_stands s is in
    record { root = prune_root (state_tree_of s) paths; answers = prune_at (state_tree_of s) paths h.ordered h.whole }
