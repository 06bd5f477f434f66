-- What a walk keeps over nodes and others after them, and what it says at the end.
use Rattle.std.proofs.Common.{◌≡◌, ◌∙◌, refl, Bool, true, false, ◌&&◌, ◌||◌, not, List, [], ◌∷◌, ◌++◌, Option, Some, None, if◌then◌else◌}
use Rattle.std.specs.Prelude.{is_some}
use Rattle.std.specs.List.{list_all, list_any}
use Rattle.ic_base.specs.Reader.{◌>>=◌}
use Rattle.ic_tree.specs.HashTree.{HashTree, empty, fork, labeled, leaf, pruned}
use Rattle.ic_witness.specs.At.{absent, at, part_under, unknown, without_label, is_hidden, is_higher, is_lower, is_pruned, rise}
use Rattle.ic_witness.specs.Nodes.{Label, Path, flat, has_label_or_hash, labels, precedes}
use Rattle.ic_witness.specs.Walks.{closed, comes_after, gap_at, gap_through, hidden, joined, level_of, rise_after}
use Rattle.ic_witness.specs.declared.finding.Gap.{Gap}
use Rattle.ic_witness.specs.declared.finding.Gap.TheVariants.{Open, Hidden, Closed}

pub level_of_append : (xs ys : List HashTree) → level_of (xs ++ ys) ≡ joined (level_of xs) (level_of ys)
level_of_append [] ys = refl
level_of_append (leaf bytes ∷ []) [] = refl
level_of_append (leaf bytes ∷ []) (leaf other ∷ []) = refl
level_of_append (leaf bytes ∷ []) (leaf other ∷ y ∷ ys) = refl
level_of_append (leaf bytes ∷ []) (empty ∷ ys) = refl
level_of_append (leaf bytes ∷ []) (fork left right ∷ ys) = refl
level_of_append (leaf bytes ∷ []) (labeled label part ∷ ys) = refl
level_of_append (leaf bytes ∷ []) (pruned hash ∷ ys) = refl
level_of_append (leaf bytes ∷ x ∷ xs) ys = refl
level_of_append (empty ∷ xs) ys = refl
level_of_append (fork left right ∷ xs) ys = refl
level_of_append (labeled label part ∷ xs) ys = refl
level_of_append (pruned hash ∷ xs) ys = refl

pub rise_after_append : (last : Option Label) (xs ys : List HashTree) → rise_after last (xs ++ ys) ≡ (rise_after last xs >>= λ next. rise_after next ys)
unfolding rise_after
rise_after_append last [] ys = refl
rise_after_append last (labeled label part ∷ xs) ys = go (rise_after_append (Some label) xs ys) (comes_after last label)
  where
    go : rise_after (Some label) (xs ++ ys) ≡ (rise_after (Some label) xs >>= λ next. rise_after next ys)
        → (b : Bool) → (if b then rise_after (Some label) (xs ++ ys) else None) ≡ ((if b then rise_after (Some label) xs else None) >>= λ next. rise_after next ys)
    go tail true = tail
    go tail false = refl
rise_after_append last (pruned hash ∷ xs) ys = rise_after_append last xs ys
rise_after_append last (empty ∷ xs) ys = refl
rise_after_append last (fork left right ∷ xs) ys = refl
rise_after_append last (leaf bytes ∷ xs) ys = refl

rise_from : Option Label → List Label → Bool
rise_from (Some last) names = rise (last ∷ names)
rise_from None names = rise names

rises_after : (last : Option Label) (nodes : List HashTree) → is_some (rise_after last nodes) ≡ (list_all has_label_or_hash nodes && rise_from last (labels nodes))
unfolding rise_after rise_from rise labels
rises_after (Some last) [] = refl
rises_after None [] = refl
rises_after (Some last) (labeled label part ∷ nodes) = go (rises_after (Some label) nodes) (precedes last label)
  where
    go : is_some (rise_after (Some label) nodes) ≡ (list_all has_label_or_hash nodes && rise (label ∷ labels nodes))
        → (b : Bool) → is_some (if b then rise_after (Some label) nodes else None) ≡ (list_all has_label_or_hash nodes && (b && rise (label ∷ labels nodes)))
    go tail true = tail
    go tail false = neither_way (list_all has_label_or_hash nodes)
      where
        neither_way : (c : Bool) → false ≡ (c && false)
        neither_way true = refl
        neither_way false = refl
rises_after None (labeled label part ∷ nodes) = rises_after (Some label) nodes
rises_after last (pruned hash ∷ nodes) = rises_after last nodes
rises_after last (empty ∷ nodes) = refl
rises_after last (fork left right ∷ nodes) = refl
rises_after last (leaf bytes ∷ nodes) = refl

pub rises_from_none : (nodes : List HashTree) → is_some (rise_after None nodes) ≡ (list_all has_label_or_hash nodes && rise (labels nodes))
unfolding rise_from
rises_from_none nodes = rises_after None nodes

pub gap_through_append : (label : Label) (gap : Gap) (xs ys : List HashTree) → gap_through label gap (xs ++ ys) ≡ gap_through label (gap_through label gap xs) ys
unfolding gap_through
gap_through_append label gap [] ys = refl
gap_through_append label gap (x ∷ xs) ys = gap_through_append label (gap_at label gap x) xs ys

abbrev pub is_in_gap : Gap → Bool
is_in_gap Open = false
is_in_gap Hidden = true
is_in_gap Closed = false

-- what a gap says of the label, where no lower label follows
abbrev over : Gap → Bool → Bool
over Open rest = rest
over Hidden rest = true
over Closed rest = false

gap_ends : (label : Label) (gap : Gap) (nodes : List HashTree) → is_in_gap (gap_through label gap nodes) ≡ (if list_any (is_lower label) nodes then is_hidden label nodes else over gap (is_hidden label nodes))
unfolding gap_through is_hidden
gap_ends label Open [] = refl
gap_ends label Hidden [] = refl
gap_ends label Closed [] = refl
gap_ends label gap (node ∷ nodes) = go (λ g. gap_ends label g nodes) gap (is_lower label node) (is_higher label node) (is_pruned node) (list_any (is_lower label) nodes) refl
  where
    go : ((g : Gap) → is_in_gap (gap_through label g nodes) ≡ (if list_any (is_lower label) nodes then is_hidden label nodes else over g (is_hidden label nodes)))
        → (g : Gap) (l h p a : Bool) → list_any (is_lower label) nodes ≡ a
        → is_in_gap (gap_through label (if l then Open else (if h then closed g else (if p then hidden g else g))) nodes)
        ≡ (if (l || list_any (is_lower label) nodes) then (if (l || list_any (is_lower label) nodes) then is_hidden label nodes else (not h && (p || is_hidden label nodes)))
        else over g (if (l || list_any (is_lower label) nodes) then is_hidden label nodes else (not h && (p || is_hidden label nodes))))
    go tail g true h p true e = tail Open ∙ rw e refl
    go tail g true h p false e = tail Open ∙ rw e refl
    go tail g false h p true e = tail (if h then closed g else (if p then hidden g else g)) ∙ rw e refl
    go tail Open false true p false e = tail Closed ∙ rw e refl
    go tail Hidden false true p false e = tail Hidden ∙ rw e refl
    go tail Closed false true p false e = tail Closed ∙ rw e refl
    go tail Open false false true false e = tail Hidden ∙ rw e refl
    go tail Hidden false false true false e = tail Hidden ∙ rw e refl
    go tail Closed false false true false e = tail Closed ∙ rw e refl
    go tail Open false false false false e = tail Open ∙ rw e refl
    go tail Hidden false false false false e = tail Hidden ∙ rw e refl
    go tail Closed false false false false e = tail Closed ∙ rw e refl

-- the gap that a walk leaves tells whether the label is hidden
pub gap_hides : (label : Label) (nodes : List HashTree) → is_in_gap (gap_through label Open nodes) ≡ is_hidden label nodes
gap_hides label nodes = gap_ends label Open nodes ∙ go (list_any (is_lower label) nodes)
  where
    go : (b : Bool) → (if b then is_hidden label nodes else is_hidden label nodes) ≡ is_hidden label nodes
    go true = refl
    go false = refl

-- ---- the first label of a path

pub at_there : (tree : HashTree) (label : Label) (rest : Path) (part : HashTree) → part_under label (flat tree) ≡ Some part → at tree (label ∷ rest) ≡ at part rest
unfolding at
at_there tree label rest part e = rw e refl

without_label_is : (label : Label) (nodes : List HashTree) → without_label label nodes ≡ (if is_hidden label nodes then unknown else absent)
unfolding is_hidden
without_label_is label [] = refl
without_label_is label (leaf bytes ∷ []) = refl
without_label_is label (leaf bytes ∷ node ∷ nodes) = refl
without_label_is label (empty ∷ nodes) = refl
without_label_is label (fork left right ∷ nodes) = refl
without_label_is label (labeled name part ∷ nodes) = refl
without_label_is label (pruned hash ∷ nodes) = refl

pub at_missing : (tree : HashTree) (label : Label) (rest : Path) → part_under label (flat tree) ≡ None → at tree (label ∷ rest) ≡ (if is_hidden label (flat tree) then unknown else absent)
unfolding at
at_missing tree label rest e = rw e (without_label_is label (flat tree))
