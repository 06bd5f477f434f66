-- What a walk over the nodes of a tree keeps, from left to right.
use Rattle.std.specs.Prelude.{ℕ, Bool, true, List, [], ◌∷◌, Option, Some, None, if◌then◌else◌}
use Rattle.std.specs.Borrow.{Bor}
use Rattle.ic_tree.specs.HashTree.{HashTree, empty, fork, labeled, leaf, pruned}
use Rattle.ic_witness.specs.Nodes.{Label, precedes}
use Rattle.ic_witness.specs.At.{Answer, value, inner, absent, unknown, is_higher, is_lower, is_pruned}
use Rattle.ic_witness.specs.declared.finding.Found.{Found}
use Rattle.ic_witness.specs.declared.finding.Found.TheVariants as founds
use Rattle.ic_witness.specs.declared.finding.Gap.{Gap}
use Rattle.ic_witness.specs.declared.finding.Gap.TheVariants.{Open, Hidden, Closed}
use Rattle.ic_witness.specs.declared.levels.Level.{Level}
use Rattle.ic_witness.specs.declared.levels.Level.TheVariants.{Nothing, OneLeaf, Nodes}

-- ---- how many nodes there are

abbrev pub level_of : List HashTree → Level
level_of [] = Nothing
level_of (leaf bytes ∷ []) = OneLeaf
level_of _ = Nodes

-- the level of nodes before others
abbrev pub joined : Level → Level → Level
joined Nothing other = other
joined OneLeaf Nothing = OneLeaf
joined OneLeaf OneLeaf = Nodes
joined OneLeaf Nodes = Nodes
joined Nodes other = Nodes

-- ---- labels that rise

abbrev pub now_of : Option (Bor (List ℕ)) → Option Label
now_of (Some label) = Some label.now
now_of None = None

abbrev pub comes_after : Option Label → Label → Bool
comes_after (Some last) label = precedes last label
comes_after None label = true

-- the last label of nodes with labels that rise from this one on, or are pruned
unfoldable pub rise_after : Option Label → List HashTree → Option (Option Label)
rise_after last [] = Some last
rise_after last (labeled label part ∷ nodes) = if comes_after last label then rise_after (Some label) nodes else None
rise_after last (pruned hash ∷ nodes) = rise_after last nodes
rise_after last (empty ∷ nodes) = None
rise_after last (fork left right ∷ nodes) = None
rise_after last (leaf bytes ∷ nodes) = None

-- ---- the gap of a label

abbrev pub closed : Gap → Gap
closed Open = Closed
closed Hidden = Hidden
closed Closed = Closed

abbrev pub hidden : Gap → Gap
hidden Open = Hidden
hidden Hidden = Hidden
hidden Closed = Closed

abbrev pub gap_at : Label → Gap → HashTree → Gap
gap_at label gap node = if is_lower label node then Open else (if is_higher label node then closed gap else (if is_pruned node then hidden gap else gap))

unfoldable pub gap_through : Label → Gap → List HashTree → Gap
gap_through label gap [] = gap
gap_through label gap (node ∷ nodes) = gap_through label (gap_at label gap node) nodes

-- ---- answers

abbrev pub answer : Found → Answer
answer (founds.Value bytes) = value bytes.now
answer founds.Inner = inner
answer founds.Absent = absent
answer founds.Unknown = unknown
