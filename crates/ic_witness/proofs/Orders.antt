-- A pruned tree is ordered as the whole tree is.
use Rattle.std.proofs.Common.{◌≡◌, refl, Bool, true, false, ◌&&◌, ◌||◌, not, List, [], ◌∷◌, ◌++◌, if◌then◌else◌}
use Rattle.std.specs.List.{list_all, list_any}
use Rattle.ic_tree.specs.HashTree.{HashTree, empty, fork, labeled, leaf, pruned, root_hash}
use Rattle.ic_witness.specs.At.{is_level, is_ordered, is_ordered_below, rise}
use Rattle.ic_witness.specs.Nodes.{Label, Path, flat, has_label_or_hash, is_one_leaf, labels, precedes}
use Rattle.ic_witness.specs.Prune.{chosen, cut, has_needed, is_needed, is_nil, prune, rests}
use Rattle.ic_witness.specs.Whole.{is_whole}
use Rattle.ic_witness.proofs.Labels.{both_hold, or_right}
use Rattle.ic_witness.proofs.Cuts.{AllHigher, Cut, all_higher, also, cut_nodes, done, gone, kept, rise_tail}
use Rattle.ic_witness.proofs.Kept.{all_labeled, none_pruned}
use Rattle.ic_witness.proofs.StateOrder.{both}

-- ---- the labels that are kept

rise_onto : (label : Label) (names : List Label) → AllHigher label names → rise names ≡ true → rise (label ∷ names) ≡ true
unfolding rise
rise_onto label [] a r = refl
rise_onto label (name ∷ names) a r = both (precedes label name) (rise (name ∷ names)) a.0 r

kept_higher : (needed : Label → Bool) (label : Label) {names : List Label} {nodes : List HashTree} → Cut needed names nodes → AllHigher label names → AllHigher label (labels nodes)
unfolding labels
kept_higher needed label done a = tt
kept_higher needed label (kept n c) a = (a.0, kept_higher needed label c a.1)
kept_higher needed label (gone n c) a = kept_higher needed label c a.1
kept_higher needed label (also n c) a = kept_higher needed label c a.1

all_above : (name : Label) (names : List Label) → rise (name ∷ names) ≡ true → AllHigher name names
unfolding rise
all_above name [] r = tt
all_above name (next ∷ names) r =
    let b = both_hold (precedes name next) (rise (next ∷ names)) r in
    (b.0, all_higher name next names b.0 b.1)

kept_rise : (needed : Label → Bool) {names : List Label} {nodes : List HashTree} → Cut needed names nodes → rise names ≡ true → rise (labels nodes) ≡ true
unfolding labels rise
kept_rise needed done r = refl
kept_rise needed (kept {name = name} {names = names} {nodes = nodes} n c) r =
    rise_onto name (labels nodes) (kept_higher needed name c (all_above name names r)) (kept_rise needed c (rise_tail name names r))
kept_rise needed (gone {name = name} {names = names} n c) r = kept_rise needed c (rise_tail name names r)
kept_rise needed (also {name = name} {names = names} n c) r = kept_rise needed c (rise_tail name names r)

kept_nodes : (needed : Label → Bool) {names : List Label} {nodes : List HashTree} → Cut needed names nodes → list_all has_label_or_hash nodes ≡ true
kept_nodes needed done = refl
kept_nodes needed (kept n c) = kept_nodes needed c
kept_nodes needed (gone n c) = kept_nodes needed c
kept_nodes needed (also n c) = kept_nodes needed c

-- ---- trees

cut_level : (tree : HashTree) (needed : Label → Bool) (paths : List Path) → is_level (flat tree) ≡ true → is_whole tree ≡ true → is_one_leaf (flat tree) ≡ false
    → is_level (flat (cut tree needed paths)) ≡ true
cut_level tree needed paths o w e =
    let m : (list_all has_label_or_hash (flat tree) && rise (labels (flat tree))) ≡ true = rw e at o in
    let q = both_hold (list_all has_label_or_hash (flat tree)) (rise (labels (flat tree))) m in
    let c = cut_nodes tree needed paths (all_labeled (flat tree) q.0 (none_pruned tree w)) in
    let nodes = flat (cut tree needed paths) in
    or_right (is_one_leaf nodes) (both (list_all has_label_or_hash nodes) (rise (labels nodes)) (kept_nodes needed c) (kept_rise needed c q.1))

chosen_ordered : (tree : HashTree) (needed : Label → Bool) (paths : List Path) → is_ordered tree ≡ true → is_whole tree ≡ true → is_ordered_below (cut tree needed paths) ≡ true
    → is_ordered (chosen tree paths (cut tree needed paths)) ≡ true
unfolding flat is_ordered_below rise labels
chosen_ordered tree needed paths o w below = go (is_nil (flat tree) || list_any is_nil paths) (is_nil paths) (is_one_leaf (flat tree)) refl
  where
    go : (a b c : Bool) → is_one_leaf (flat tree) ≡ c
        → is_ordered (if a then tree else (if b then pruned (root_hash tree) else (if c then tree else cut tree needed paths))) ≡ true
    go true b c e = o
    go false true c e = refl
    go false false true e = o
    go false false false e = both (is_level (flat (cut tree needed paths))) (is_ordered_below (cut tree needed paths))
        (cut_level tree needed paths (both_hold (is_level (flat tree)) (is_ordered_below tree) o).0 w e) below

cut_below : (tree : HashTree) (needed : Label → Bool) (paths : List Path) → is_ordered_below tree ≡ true → is_whole tree ≡ true → is_ordered_below (cut tree needed paths) ≡ true
unfolding is_ordered_below is_whole cut
cut_below empty needed paths o w = refl
cut_below (fork left right) needed paths o w =
    let p = both_hold (is_ordered_below left) (is_ordered_below right) o in
    let q = both_hold (is_whole left) (is_whole right) w in
    go (cut_below left needed paths p.0 q.0) (cut_below right needed paths p.1 q.1) (not (is_nil (flat left ++ flat right)) && not (has_needed needed (fork left right)))
  where
    go : is_ordered_below (cut left needed paths) ≡ true → is_ordered_below (cut right needed paths) ≡ true
        → (b : Bool) → is_ordered_below (if b then pruned (root_hash (fork left right)) else fork (cut left needed paths) (cut right needed paths)) ≡ true
    go l r true = refl
    go l r false = both (is_ordered_below (cut left needed paths)) (is_ordered_below (cut right needed paths)) l r
cut_below (labeled label part) needed paths o w =
    let below = (both_hold (is_level (flat part)) (is_ordered_below part) o).1 in
    go (chosen_ordered part (is_needed (labels (flat part)) (rests label paths)) (rests label paths) o w
    (cut_below part (is_needed (labels (flat part)) (rests label paths)) (rests label paths) below w)) (needed label)
  where
    part_kept : HashTree
    part_kept = chosen part (rests label paths) (cut part (is_needed (labels (flat part)) (rests label paths)) (rests label paths))

    go : is_ordered part_kept ≡ true → (b : Bool) → is_ordered_below (if b then labeled label part_kept else pruned (root_hash (labeled label part))) ≡ true
    go k true = k
    go k false = refl
cut_below (leaf bytes) needed paths o w = refl
cut_below (pruned hash) needed paths o w = refl

-- so what is pruned can be searched
pub prune_ordered : (tree : HashTree) (paths : List Path) → is_ordered tree ≡ true → is_whole tree ≡ true → is_ordered (prune tree paths) ≡ true
prune_ordered tree paths o w = chosen_ordered tree (is_needed (labels (flat tree)) paths) paths o w
    (cut_below tree (is_needed (labels (flat tree)) paths) paths (both_hold (is_level (flat tree)) (is_ordered_below tree) o).1 w)
