-- A hash tree without what some paths have no need of.
use Rattle.std.specs.Prelude.{List, [], ◌∷◌, ◌++◌, Bool, true, false, ◌&&◌, ◌||◌, not, Option, Some, None, if◌then◌else◌}
use Rattle.std.specs.List.{filter, list_any}
use Rattle.std.specs.Option.{option_map_or}
use Rattle.std.specs.Str.{bytes_eq}
use Rattle.ic_tree.specs.HashTree.{HashTree, empty, fork, labeled, leaf, pruned, root_hash}
use Rattle.ic_witness.specs.Nodes.{Label, Path, flat, labels, precedes, is_one_leaf}

abbrev pub is_nil : {A : Type 0} → List A → Bool
is_nil [] = true
is_nil _ = false

abbrev pub is_label : Label → Option Label → Bool
is_label label = λ found. option_map_or (λ name. bytes_eq name label) found false

unfoldable pub first_of : List Label → Option Label
first_of [] = None
first_of (label ∷ rest) = Some label

unfoldable pub last_of : List Label → Option Label
last_of [] = None
last_of (label ∷ []) = Some label
last_of (label ∷ next ∷ rest) = last_of (next ∷ rest)

-- the label is one of the two between which the other, which is not among the names, would stand
abbrev pub is_beside : List Label → Label → Label → Bool
is_beside names label other =
    is_label label (last_of (filter (λ name. precedes name other) names))
    || is_label label (first_of (filter (λ name. precedes other name) names))

-- the node of this label is needed for the path
abbrev pub is_needed_for : List Label → Label → Path → Bool
is_needed_for names label [] = false
is_needed_for names label (first ∷ rest) =
    if list_any (bytes_eq first) names then bytes_eq first label else is_beside names label first

abbrev pub is_needed : List Label → List Path → Label → Bool
is_needed names paths label = list_any (is_needed_for names label) paths

-- the rests of the paths that begin with the label
unfoldable pub rests : Label → List Path → List Path
rests label [] = []
rests label ([] ∷ paths) = rests label paths
rests label ((first ∷ rest) ∷ paths) = if bytes_eq first label then rest ∷ rests label paths else rests label paths

-- the first three rules, and else what the last two made
abbrev pub chosen : HashTree → List Path → HashTree → HashTree
chosen tree paths cut =
    if is_nil (flat tree) || list_any is_nil paths then tree
    else (if is_nil paths then pruned (root_hash tree)
    else (if is_one_leaf (flat tree) then tree else cut))

abbrev pub has_needed : (Label → Bool) → HashTree → Bool
has_needed needed tree = list_any needed (labels (flat tree))

-- a tree of several nodes, of which these labels are needed for the paths
unfoldable pub cut : HashTree → (Label → Bool) → List Path → HashTree
cut empty needed paths = empty
cut (fork left right) needed paths =
    if not (is_nil (flat left ++ flat right)) && not (has_needed needed (fork left right)) then pruned (root_hash (fork left right))
    else fork (cut left needed paths) (cut right needed paths)
cut (labeled label part) needed paths =
    if needed label then labeled label (chosen part (rests label paths)
    (cut part (is_needed (labels (flat part)) (rests label paths)) (rests label paths)))
    else pruned (root_hash (labeled label part))
cut (leaf bytes) needed paths = pruned (root_hash (leaf bytes))
cut (pruned hash) needed paths = pruned hash

abbrev pub prune : HashTree → List Path → HashTree
prune tree paths = chosen tree paths (cut tree (is_needed (labels (flat tree)) paths) paths)
