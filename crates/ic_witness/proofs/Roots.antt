-- A pruned tree has the root hash of the whole.
use Rattle.std.proofs.Common.{◌≡◌, ap, ap₂, refl, Bool, true, false, List, ◌++◌, ◌&&◌, ◌||◌, not, if◌then◌else◌}
use Rattle.std.specs.List.{list_any}
use Rattle.ic_tree.specs.HashTree.{HashTree, empty, fork, labeled, leaf, pruned, root_hash, fork_hash, labeled_hash}
use Rattle.ic_witness.specs.Nodes.{Label, Path, flat, labels, is_one_leaf}
use Rattle.ic_witness.specs.Prune.{chosen, cut, has_needed, is_needed, is_nil, prune, rests}

chosen_root : (tree : HashTree) (paths : List Path) (made : HashTree) → root_hash made ≡ root_hash tree → root_hash (chosen tree paths made) ≡ root_hash tree
unfolding root_hash
chosen_root tree paths made same = go (is_nil (flat tree) || list_any is_nil paths) (is_nil paths) (is_one_leaf (flat tree))
  where
    go : (a b c : Bool) → root_hash (if a then tree else (if b then pruned (root_hash tree) else (if c then tree else made))) ≡ root_hash tree
    go true b c = refl
    go false true c = refl
    go false false true = refl
    go false false false = same

cut_root : (tree : HashTree) (needed : Label → Bool) (paths : List Path) → root_hash (cut tree needed paths) ≡ root_hash tree
unfolding root_hash cut
cut_root empty needed paths = refl
cut_root (fork left right) needed paths =
    go (cut_root left needed paths) (cut_root right needed paths) (not (is_nil (flat left ++ flat right)) && not (has_needed needed (fork left right)))
  where
    go : root_hash (cut left needed paths) ≡ root_hash left → root_hash (cut right needed paths) ≡ root_hash right
        → (b : Bool) → root_hash (if b then pruned (root_hash (fork left right)) else fork (cut left needed paths) (cut right needed paths)) ≡ root_hash (fork left right)
    go l r true = refl
    go l r false = ap₂ fork_hash l r
cut_root (labeled label part) needed paths =
    go (chosen_root part (rests label paths) _ (cut_root part (is_needed (labels (flat part)) (rests label paths)) (rests label paths))) (needed label)
  where
    kept : HashTree
    kept = chosen part (rests label paths) (cut part (is_needed (labels (flat part)) (rests label paths)) (rests label paths))

    go : root_hash kept ≡ root_hash part → (b : Bool) → root_hash (if b then labeled label kept else pruned (root_hash (labeled label part))) ≡ root_hash (labeled label part)
    go same true = ap (labeled_hash label) same
    go same false = refl
cut_root (leaf bytes) needed paths = refl
cut_root (pruned hash) needed paths = refl

-- pruning keeps the root hash, whatever the tree and the paths
pub prune_root : (tree : HashTree) (paths : List Path) → root_hash (prune tree paths) ≡ root_hash tree
prune_root tree paths = chosen_root tree paths _ (cut_root tree _ paths)
