-- The labels that are needed, found one by one.
use Rattle.std.proofs.Common.{◌≡◌, ◌∙◌, ap, ap₂, refl, sym, ℕ, Bool, true, false, ◌||◌, List, [], ◌∷◌, ◌++◌, append_assoc, Option, Some, None, if◌then◌else◌}
use Rattle.std.specs.Borrow.{Bor}
use Rattle.std.specs.List.{filter, list_any}
use Rattle.std.specs.Option.{option_to_list}
use Rattle.std.specs.Str.{bytes_eq}
use Rattle.std.proofs.lemmas.List.Folds.{list_any-append}
use Rattle.std.proofs.lemmas.List.Elements.{filter-append}
use Rattle.ic_tree.specs.HashTree.{HashTree}
use Rattle.std.specs.Prelude.{◌==◌, length}
use Rattle.ic_witness.specs.Nodes.{Label, Path, flat, is_one_leaf, labels, precedes}
use Rattle.ic_witness.specs.Prune.{cut, first_of, is_beside, is_label, is_needed, is_needed_for, is_nil, last_of, prune, rests}
use Rattle.ic_witness.specs.Needed.{has_label, higher_of, is_among, lower_of, needed_for, needed_labels, paths_at}
use Rattle.ic_witness.proofs.Cuts.{labels-append}

or_false : (b : Bool) → (b || false) ≡ b
or_false true = refl
or_false false = refl

one_of : (label : Label) (found : Option Label) → is_among (option_to_list found) label ≡ is_label label found
one_of label (Some name) = or_false (bytes_eq name label)
one_of label None = refl

among_for : (nodes : List HashTree) (path : Path) (label : Label) → is_among (needed_for nodes path) label ≡ is_needed_for (labels nodes) label path
unfolding needed_for lower_of higher_of
among_for nodes [] label = refl
among_for nodes (first ∷ rest) label = go (has_label first nodes)
  where
    go : (b : Bool) → is_among (if b then first ∷ [] else option_to_list (lower_of first nodes) ++ option_to_list (higher_of first nodes)) label ≡ (if b then bytes_eq first label else is_beside (labels nodes) label first)
    go true = or_false (bytes_eq first label)
    go false = list_any-append (λ name. bytes_eq name label) (option_to_list (lower_of first nodes)) (option_to_list (higher_of first nodes))
        ∙ ap₂ (λ a b. a || b) (one_of label (lower_of first nodes)) (one_of label (higher_of first nodes))

needed_same : (nodes : List HashTree) (paths : List Path) (label : Label) → is_among (needed_labels nodes paths) label ≡ is_needed (labels nodes) paths label
unfolding needed_labels
needed_same nodes [] label = refl
needed_same nodes (path ∷ paths) label = list_any-append (λ name. bytes_eq name label) (needed_for nodes path) (needed_labels nodes paths)
    ∙ ap₂ (λ a b. a || b) (among_for nodes path label) (needed_same nodes paths label)

-- a tree that is cut by the labels found is cut as it should be
pub cut_same : (tree : HashTree) (paths : List Path) → cut tree (is_among (needed_labels (flat tree) paths)) paths ≡ cut tree (is_needed (labels (flat tree)) paths) paths
cut_same tree paths = ap (λ (needed : Label → Bool). cut tree needed paths) (λ i label. needed_same (flat tree) paths label i)

-- ---- one more path

pub needed_append : (nodes : List HashTree) (front back : List Path) → needed_labels nodes (front ++ back) ≡ needed_labels nodes front ++ needed_labels nodes back
unfolding needed_labels
needed_append nodes [] back = refl
needed_append nodes (path ∷ front) back = ap (λ (r : List Label). needed_for nodes path ++ r) (needed_append nodes front back) ∙ sym (append_assoc (needed_for nodes path) (needed_labels nodes front) (needed_labels nodes back))

pub rests_append : (label : Label) (front back : List Path) → rests label (front ++ back) ≡ rests label front ++ rests label back
unfolding rests
rests_append label [] back = refl
rests_append label ([] ∷ front) back = rests_append label front back
rests_append label ((first ∷ rest) ∷ front) back = go (rests_append label front back) (bytes_eq first label)
  where
    go : rests label (front ++ back) ≡ rests label front ++ rests label back
        → (b : Bool) → (if b then rest ∷ rests label (front ++ back) else rests label (front ++ back)) ≡ (if b then rest ∷ rests label front else rests label front) ++ rests label back
    go tail true = ap (λ (r : List Path). rest ∷ r) tail
    go tail false = tail

-- ---- neighbours

abbrev pub or_other : Option Label → Option Label → Option Label
or_other (Some label) other = Some label
or_other None other = other

-- there is a last of some
some_last : (label other : Label) (rest : List Label) → last_of (label ∷ rest) ≡ or_other (last_of (label ∷ rest)) (Some other)
unfolding last_of
some_last label other [] = refl
some_last label other (next ∷ rest) = some_last next other rest

or_none : (found : Option Label) → found ≡ or_other found None
or_none (Some label) = refl
or_none None = refl

last_append : (front back : List Label) → last_of (front ++ back) ≡ or_other (last_of back) (last_of front)
unfolding last_of
last_append [] back = or_none (last_of back)
last_append (label ∷ []) [] = refl
last_append (label ∷ []) (next ∷ back) = some_last next label back
last_append (label ∷ next ∷ front) back = last_append (next ∷ front) back

first_append : (front back : List Label) → first_of (front ++ back) ≡ or_other (first_of front) (first_of back)
unfolding first_of
first_append [] back = refl
first_append (label ∷ front) back = refl

pub lower_append : (label : Label) (front back : List HashTree) → lower_of label (front ++ back) ≡ or_other (lower_of label back) (lower_of label front)
unfolding lower_of
lower_append label front back =
    ap (λ (names : List Label). last_of (filter (λ name. precedes name label) names)) (labels-append front back)
    ∙ ap last_of (filter-append (λ name. precedes name label) (labels front) (labels back))
    ∙ last_append (filter (λ name. precedes name label) (labels front)) (filter (λ name. precedes name label) (labels back))

pub higher_append : (label : Label) (front back : List HashTree) → higher_of label (front ++ back) ≡ or_other (higher_of label front) (higher_of label back)
unfolding higher_of
higher_append label front back =
    ap (λ (names : List Label). first_of (filter (λ name. precedes label name) names)) (labels-append front back)
    ∙ ap first_of (filter-append (λ name. precedes label name) (labels front) (labels back))
    ∙ first_append (filter (λ name. precedes label name) (labels front)) (filter (λ name. precedes label name) (labels back))

-- ---- tests of the labels

pub any_needed_append : (test : Label → Bool) (front back : List HashTree) → list_any test (labels (front ++ back)) ≡ (list_any test (labels front) || list_any test (labels back))
any_needed_append test front back = ap (list_any test) (labels-append front back) ∙ list_any-append test (labels front) (labels back)

pub has_label_append : (label : Label) (front back : List HashTree) → has_label label (front ++ back) ≡ (has_label label front || has_label label back)
has_label_append label = any_needed_append (bytes_eq label)

-- ---- where none of the first three rules applies

some_path : (paths : List (Bor (List (List ℕ)))) → (length paths == 0) ≡ false → is_nil (paths_at paths) ≡ false
some_path [] e = absurd cc
some_path (path ∷ paths) e = refl

pub chosen_cut : (tree made : HashTree) (paths : List (Bor (List (List ℕ)))) (needed : List Label)
    → is_nil (flat tree) ≡ false → list_any is_nil (paths_at paths) ≡ false → (length paths == 0) ≡ false → is_one_leaf (flat tree) ≡ false
    → needed ≡ needed_labels (flat tree) (paths_at paths) → made ≡ cut tree (is_among needed) (paths_at paths) → made ≡ prune tree (paths_at paths)
chosen_cut tree made paths needed bare hollow none leaf is e =
    e ∙ ap (λ (names : List Label). cut tree (is_among names) (paths_at paths)) is ∙ cut_same tree (paths_at paths) ∙ sym (rw (bare, hollow, some_path paths none, leaf) refl)
