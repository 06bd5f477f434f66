-- What a hash tree says of a path.
use Rattle.std.specs.Prelude.{ℕ, List, [], ◌∷◌, Bool, true, false, ◌&&◌, ◌||◌, not, Option, Some, None, if◌then◌else◌}
use Rattle.std.specs.List.{list_all, list_any}
use Rattle.std.specs.Option.{option_map_or}
use Rattle.std.specs.Str.{bytes_eq}
use Rattle.ic_tree.specs.HashTree.{HashTree, empty, fork, labeled, leaf, pruned}
use Rattle.ic_witness.specs.Nodes.{Label, Path, flat, labels, precedes, is_one_leaf, has_label_or_hash}

-- a leaf's bytes, a node that is no leaf, nothing, or what only the pruned part tells
pub data Answer : Type 0 where
  value : List ℕ → Answer
  inner : Answer
  absent : Answer
  unknown : Answer

abbrev pub at_end : HashTree → Answer
at_end empty = absent
at_end (fork left right) = inner
at_end (labeled label part) = inner
at_end (leaf bytes) = value bytes
at_end (pruned hash) = unknown

-- the part under a label
unfoldable pub part_under : Label → List HashTree → Option HashTree
part_under label [] = None
part_under label (labeled name part ∷ nodes) = if bytes_eq name label then Some part else part_under label nodes
part_under label (empty ∷ nodes) = part_under label nodes
part_under label (fork left right ∷ nodes) = part_under label nodes
part_under label (leaf bytes ∷ nodes) = part_under label nodes
part_under label (pruned hash ∷ nodes) = part_under label nodes

abbrev pub is_lower : Label → HashTree → Bool
is_lower label (labeled name part) = precedes name label
is_lower label _ = false

abbrev pub is_higher : Label → HashTree → Bool
is_higher label (labeled name part) = precedes label name
is_higher label _ = false

abbrev pub is_pruned : HashTree → Bool
is_pruned (pruned hash) = true
is_pruned _ = false

-- a pruned node is in the gap of the label: after the last lower label, before the first higher one
unfoldable pub is_hidden : Label → List HashTree → Bool
is_hidden label [] = false
is_hidden label (node ∷ nodes) =
    if list_any (is_lower label) (node ∷ nodes) then is_hidden label nodes
    else (not (is_higher label node) && (is_pruned node || is_hidden label nodes))

abbrev pub without_label : Label → List HashTree → Answer
without_label label [] = absent
without_label label (node ∷ nodes) =
    if is_one_leaf (node ∷ nodes) then absent
    else (if is_hidden label (node ∷ nodes) then unknown else absent)

unfoldable pub at : HashTree → Path → Answer
at tree [] = at_end tree
at tree (label ∷ rest) = option_map_or (λ part. at part rest) (part_under label (flat tree)) (without_label label (flat tree))

-- strictly rising
unfoldable pub rise : List Label → Bool
rise [] = true
rise (a ∷ []) = true
rise (a ∷ b ∷ rest) = precedes a b && rise (b ∷ rest)

abbrev pub is_level : List HashTree → Bool
is_level nodes = is_one_leaf nodes || (list_all has_label_or_hash nodes && rise (labels nodes))

unfoldable pub is_ordered_below : HashTree → Bool
is_ordered_below empty = true
is_ordered_below (fork left right) = is_ordered_below left && is_ordered_below right
is_ordered_below (labeled label part) = is_level (flat part) && is_ordered_below part
is_ordered_below (leaf bytes) = true
is_ordered_below (pruned hash) = true

abbrev pub is_ordered : HashTree → Bool
is_ordered tree = is_level (flat tree) && is_ordered_below tree
