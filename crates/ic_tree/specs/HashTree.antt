-- Hash trees and their root hashes (IC Interface Specification, "Certificate").
use Rattle.std.specs.Prelude.{ℕ, zero, suc, ◌-◌, ◌/◌, List, [], ◌∷◌, ◌++◌, codes, drop, length, take}
use Rattle.sha2.specs.Sha256.{sha256}

pub data HashTree : Type 0 where
  empty : HashTree
  fork : HashTree → HashTree → HashTree
  labeled : List ℕ → HashTree → HashTree
  leaf : List ℕ → HashTree
  pruned : List ℕ → HashTree

-- ---- root hashes

-- the length of a text in one byte, and the text: it keeps the hashes of one kind of node apart from all others
abbrev pub domain_sep : List ℕ → List ℕ
domain_sep text = length text ∷ text

abbrev pub empty_hash : List ℕ
empty_hash = sha256 (domain_sep (codes "ic-hashtree-empty"))

abbrev pub fork_hash : (left right : List ℕ) → List ℕ
fork_hash left right = sha256 ((domain_sep (codes "ic-hashtree-fork") ++ left) ++ right)

abbrev pub labeled_hash : (label part : List ℕ) → List ℕ
labeled_hash label part = sha256 ((domain_sep (codes "ic-hashtree-labeled") ++ label) ++ part)

abbrev pub leaf_hash : List ℕ → List ℕ
leaf_hash bytes = sha256 (domain_sep (codes "ic-hashtree-leaf") ++ bytes)

-- the root hash; a pruned node has that of the tree in whose place it is
unfoldable pub root_hash : HashTree → List ℕ
root_hash empty = empty_hash
root_hash (fork left right) = fork_hash (root_hash left) (root_hash right)
root_hash (labeled label part) = labeled_hash label (root_hash part)
root_hash (leaf bytes) = leaf_hash bytes
root_hash (pruned hash) = hash

-- ---- trees under forks

-- half of a number, rounded up
abbrev pub half : ℕ → ℕ
half n = n - n / 2

-- each fork has the first half of its trees on the left; as many steps as there are trees are enough
unfoldable pub forked_in : ℕ → List HashTree → HashTree
forked_in zero trees = empty
forked_in (suc steps) [] = empty
forked_in (suc steps) (tree ∷ []) = tree
forked_in (suc steps) (first ∷ second ∷ rest) =
    let trees = first ∷ second ∷ rest in
    fork (forked_in steps (take (half (length trees)) trees)) (forked_in steps (drop (half (length trees)) trees))

-- the tree that has these trees under its forks, in order
abbrev pub forked : List HashTree → HashTree
forked trees = forked_in (length trees) trees

-- a leaf under a label
abbrev pub leaf_at : (label bytes : List ℕ) → HashTree
leaf_at label bytes = labeled label (leaf bytes)
