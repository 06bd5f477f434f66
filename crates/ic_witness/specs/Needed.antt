-- The labels that are needed, and lists of what lies elsewhere in memory.
use Rattle.std.specs.Prelude.{ℕ, Bool, List, [], ◌∷◌, ◌++◌, map, Option, if◌then◌else◌}
use Rattle.std.specs.Borrow.{Bor}
use Rattle.std.specs.List.{filter, list_any}
use Rattle.std.specs.Option.{option_to_list}
use Rattle.std.specs.Str.{bytes_eq}
use Rattle.ic_tree.specs.HashTree.{HashTree}
use Rattle.ic_witness.specs.Nodes.{Label, Path, labels, precedes}
use Rattle.ic_witness.specs.Prune.{first_of, last_of}

abbrev pub labels_at : List (Bor (List ℕ)) → List Label
labels_at names = map (λ name. name.now) names

abbrev pub paths_at : List (Bor (List (List ℕ))) → List Path
paths_at paths = map (λ path. path.now) paths

abbrev pub is_among : List Label → Label → Bool
is_among names label = list_any (λ name. bytes_eq name label) names

-- the nearest label below this one, and the nearest above it
unfoldable pub lower_of : Label → List HashTree → Option Label
lower_of label nodes = last_of (filter (λ name. precedes name label) (labels nodes))

unfoldable pub higher_of : Label → List HashTree → Option Label
higher_of label nodes = first_of (filter (λ name. precedes label name) (labels nodes))

abbrev pub has_label : Label → List HashTree → Bool
has_label label nodes = list_any (bytes_eq label) (labels nodes)

-- the labels that are needed for a path
unfoldable pub needed_for : List HashTree → Path → List Label
needed_for nodes [] = []
needed_for nodes (first ∷ rest) = if has_label first nodes then first ∷ [] else option_to_list (lower_of first nodes) ++ option_to_list (higher_of first nodes)

unfoldable pub needed_labels : List HashTree → List Path → List Label
needed_labels nodes [] = []
needed_labels nodes (path ∷ paths) = needed_for nodes path ++ needed_labels nodes paths
