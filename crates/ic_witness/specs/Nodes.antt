-- The nodes under the forks of a hash tree.
use Rattle.std.specs.Prelude.{ℕ, List, [], ◌∷◌, ◌++◌, Bool, true, false}
use Rattle.std.specs.Cmp.Lexicographic.{slice_cmp}
use Rattle.std.specs.Ordering.{is_lt, nat_cmp}
use Rattle.ic_tree.specs.HashTree.{HashTree, empty, fork, labeled, leaf, pruned}

abbrev pub Label : Type 0
Label = List ℕ

abbrev pub Path : Type 0
Path = List Label

-- the nodes that are neither forks nor empty, from left to right
unfoldable pub flat : HashTree → List HashTree
flat empty = []
flat (fork left right) = flat left ++ flat right
flat (labeled label part) = labeled label part ∷ []
flat (leaf bytes) = leaf bytes ∷ []
flat (pruned hash) = pruned hash ∷ []

-- the labels of those that have one
unfoldable pub labels : List HashTree → List Label
labels [] = []
labels (labeled label part ∷ nodes) = label ∷ labels nodes
labels (empty ∷ nodes) = labels nodes
labels (fork left right ∷ nodes) = labels nodes
labels (leaf bytes ∷ nodes) = labels nodes
labels (pruned hash ∷ nodes) = labels nodes

-- the first label comes before the second
abbrev pub precedes : Label → Label → Bool
precedes a b = is_lt (slice_cmp nat_cmp a b)

abbrev pub is_one_leaf : List HashTree → Bool
is_one_leaf (leaf bytes ∷ []) = true
is_one_leaf _ = false

abbrev pub has_label_or_hash : HashTree → Bool
has_label_or_hash (labeled label part) = true
has_label_or_hash (pruned hash) = true
has_label_or_hash _ = false
