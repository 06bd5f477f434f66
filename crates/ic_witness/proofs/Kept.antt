-- A pruned tree says of the kept paths what the whole tree says.
use Rattle.std.proofs.Common.{◌≡◌, ◌∙◌, refl, subst, sym, not, Bool, true, false, ◌&&◌, ◌||◌, List, [], ◌∷◌, Option, Some, None, if◌then◌else◌}
use Rattle.std.specs.List.{All, filter, list_all, list_any}
use Rattle.std.specs.Str.{bytes_eq}
use Rattle.std.proofs.lemmas.List.Folds.{list_any-append}
use Rattle.ic_tree.specs.HashTree.{HashTree, empty, fork, labeled, leaf, pruned, root_hash}
use Rattle.ic_witness.specs.Nodes.{Label, Path, flat, has_label_or_hash, is_one_leaf, labels, precedes}
use Rattle.ic_witness.specs.At.{absent, at, is_hidden, is_higher, is_level, is_lower, is_ordered, is_ordered_below, is_pruned, part_under, rise, without_label}
use Rattle.ic_witness.specs.Prune.{cut, first_of, is_beside, is_label, is_needed, is_needed_for, is_nil, last_of, prune, rests}
use Rattle.ic_witness.specs.Whole.{is_whole}
use Rattle.ic_witness.proofs.Labels.{Among, among_any, among_rests, among_some, both_hold, is_itself, neither, of_all, or_right}
use Rattle.ic_witness.proofs.Cuts.{Cut, around, cut_nodes, is_labeled, needed_part, no_part, either, no_label, shown, still_no_part, under_append}

-- what the law asks of a tree and of each part of it
record IsWitnessed (tree : HashTree) : Type 0 where
  ordered : is_ordered tree ≡ true
  whole : is_whole tree ≡ true

-- no node of a whole tree is pruned
pub none_pruned : (tree : HashTree) → is_whole tree ≡ true → list_any is_pruned (flat tree) ≡ false
unfolding flat is_whole
none_pruned empty w = refl
none_pruned (fork left right) w =
    let b = both_hold (is_whole left) (is_whole right) w in
    list_any-append is_pruned (flat left) (flat right) ∙ rw (none_pruned left b.0, none_pruned right b.1) refl
none_pruned (labeled label part) w = refl
none_pruned (leaf bytes) w = refl
none_pruned (pruned hash) w = absurd cc

-- a level of several nodes without a pruned one has labels alone
pub all_labeled : (nodes : List HashTree) → list_all has_label_or_hash nodes ≡ true → list_any is_pruned nodes ≡ false → list_all is_labeled nodes ≡ true
all_labeled [] l p = refl
all_labeled (labeled label part ∷ nodes) l p = all_labeled nodes l p
all_labeled (empty ∷ nodes) l p = absurd cc
all_labeled (fork left right ∷ nodes) l p = absurd cc
all_labeled (leaf bytes ∷ nodes) l p = absurd cc
all_labeled (pruned hash ∷ nodes) l p = absurd cc

-- the part under a label is ordered and whole as the tree is
part_of : (label : Label) (tree part : HashTree) → is_ordered_below tree ≡ true → is_whole tree ≡ true → part_under label (flat tree) ≡ Some part → IsWitnessed part
unfolding flat is_whole is_ordered_below part_under
part_of label empty part o w e = absurd cc
part_of label (fork left right) part o w e =
    let p = both_hold (is_ordered_below left) (is_ordered_below right) o in
    let q = both_hold (is_whole left) (is_whole right) w in
    go (part_of label left part p.0 q.0) (part_of label right part p.1 q.1) (part_under label (flat left)) refl (sym (under_append label (flat left) (flat right)) ∙ e)
  where
    go : (part_under label (flat left) ≡ Some part → IsWitnessed part) → (part_under label (flat right) ≡ Some part → IsWitnessed part)
        → (found : Option HashTree) → part_under label (flat left) ≡ found → either found (part_under label (flat right)) ≡ Some part → IsWitnessed part
    go l r (Some x) is f = l (is ∙ f)
    go l r None is f = r f
part_of label (labeled name under) part o w e = go (bytes_eq name label) e
  where
    go : (b : Bool) → (if b then Some under else None) ≡ Some part → IsWitnessed part
    go true f =
        let same : under ≡ part = cc in
        subst IsWitnessed same (record { ordered = o; whole = w })
    go false f = absurd cc
part_of label (leaf bytes) part o w e = absurd cc
part_of label (pruned hash) part o w e = absurd cc

-- without a pruned node nothing is hidden
pub none_hidden : (label : Label) (nodes : List HashTree) → list_any is_pruned nodes ≡ false → is_hidden label nodes ≡ false
unfolding is_hidden
none_hidden label [] p = refl
none_hidden label (node ∷ nodes) p =
    let n = neither (is_pruned node) (list_any is_pruned nodes) p in
    go (none_hidden label nodes n.1) n.0 (list_any (is_lower label) (node ∷ nodes)) (is_higher label node)
  where
    go : is_hidden label nodes ≡ false → is_pruned node ≡ false → (b h : Bool) → (if b then is_hidden label nodes else (not h && (is_pruned node || is_hidden label nodes))) ≡ false
    go t n true h = t
    go t n false true = refl
    go t n false false = rw n t

pub is_absent : (label : Label) (nodes : List HashTree) → is_hidden label nodes ≡ false → without_label label nodes ≡ absent
is_absent label [] h = refl
is_absent label (node ∷ nodes) h = rw h (go (is_one_leaf (node ∷ nodes)))
  where
    go : (b : Bool) → (if b then absent else absent) ≡ absent
    go true = refl
    go false = refl

-- both neighbours of a label that no node has are needed for a path that begins with it
beside_needed : (label : Label) (rest : Path) (paths : List Path) (names : List Label) → Among (label ∷ rest) paths → list_any (bytes_eq label) names ≡ false
    → (found : Label) → is_beside names found label ≡ true → is_needed names paths found ≡ true
beside_needed label rest paths names a n found b = among_any (is_needed_for names found) a (rw n b)

lower_needed : (names : List Label) (label found : Label) → last_of (filter (λ name. precedes name label) names) ≡ Some found → is_beside names found label ≡ true
lower_needed names label found e = rw (e, is_itself found) refl

higher_needed : (names : List Label) (label found : Label) → first_of (filter (λ name. precedes label name) names) ≡ Some found → is_beside names found label ≡ true
higher_needed names label found e = rw (e, is_itself found) (or_right (is_label found (last_of (filter (λ name. precedes name label) names))) refl)

-- a tree of several labels
several : (label : Label) (rest : Path) (tree : HashTree) (paths : List Path) → Among (label ∷ rest) paths
    → list_all is_labeled (flat tree) ≡ true → rise (labels (flat tree)) ≡ true → list_any is_pruned (flat tree) ≡ false
    → ((part : HashTree) → part_under label (flat tree) ≡ Some part → at (prune part (rests label paths)) rest ≡ at part rest)
    → (found : Option HashTree) → part_under label (flat tree) ≡ found
    → at (cut tree (is_needed (labels (flat tree)) paths) paths) (label ∷ rest) ≡ at tree (label ∷ rest)
unfolding at
several label rest tree paths a l r p below (Some part) e =
    let n : is_needed (labels (flat tree)) paths label ≡ true = among_any (is_needed_for (labels (flat tree)) label) a (named (list_any (bytes_eq label) (labels (flat tree))) refl) in
    rw (needed_part label tree (is_needed (labels (flat tree)) paths) paths n, e) (below part e)
  where
    named : (b : Bool) → list_any (bytes_eq label) (labels (flat tree)) ≡ b → is_needed_for (labels (flat tree)) label (label ∷ rest) ≡ true
    named true h = rw h (is_itself label)
    named false h = absurd (let t : part_under label (flat tree) ≡ None = no_part label (flat tree) h in cc)
several label rest tree paths a l r p below None e =
    let names = labels (flat tree) in
    let needed = is_needed names paths in
    let n : list_any (bytes_eq label) names ≡ false = no_label label (flat tree) e in
    let c : Cut needed names (flat (cut tree needed paths)) = cut_nodes tree needed paths l in
    let h : is_hidden label (flat (cut tree needed paths)) ≡ false = shown needed label c (around needed label names r n
    (λ found f. beside_needed label rest paths names a n found (lower_needed names label found f))
    (λ found f. beside_needed label rest paths names a n found (higher_needed names label found f))) in
    rw (still_no_part needed label c n, e) (is_absent label (flat (cut tree needed paths)) h ∙ sym (is_absent label (flat tree) (none_hidden label (flat tree) p)))

at_kept : (path : Path) (tree : HashTree) (paths : List Path) → IsWitnessed tree → Among path paths → at (prune tree paths) path ≡ at tree path
at_kept [] tree paths w a = rw (or_right (is_nil (flat tree)) (among_any is_nil a refl)) refl
at_kept (label ∷ rest) tree paths w a =
    let o = both_hold (is_level (flat tree)) (is_ordered_below tree) w.ordered in
    go (λ part e. at_kept rest part (rests label paths) (part_of label tree part o.1 w.whole e) (among_rests label rest paths a)) o.0
    (is_nil (flat tree) || list_any is_nil paths) (is_one_leaf (flat tree)) refl
  where
    go : ((part : HashTree) → part_under label (flat tree) ≡ Some part → at (prune part (rests label paths)) rest ≡ at part rest)
        → is_level (flat tree) ≡ true
        → (x y : Bool) → is_one_leaf (flat tree) ≡ y
        → at (if x then tree else (if is_nil paths then pruned (root_hash tree) else (if y then tree else cut tree (is_needed (labels (flat tree)) paths) paths))) (label ∷ rest) ≡ at tree (label ∷ rest)
    go below o true y e = refl
    go below o false true e = rw (among_some a) refl
    go below o false false e =
        let m : (list_all has_label_or_hash (flat tree) && rise (labels (flat tree))) ≡ true = rw e at o in
        let q = both_hold (list_all has_label_or_hash (flat tree)) (rise (labels (flat tree))) m in
        let p = none_pruned tree w.whole in
        rw (among_some a) (several label rest tree paths a (all_labeled (flat tree) q.0 p) q.1 p below (part_under label (flat tree)) refl)

-- pruning an ordered tree without pruned nodes keeps what it says of each of the paths
pub prune_at : (tree : HashTree) (paths : List Path) → is_ordered tree ≡ true → is_whole tree ≡ true → All (λ path. at (prune tree paths) path ≡ at tree path) paths
prune_at tree paths o w = of_all (λ path. at (prune tree paths) path ≡ at tree path) paths (λ path a. at_kept path tree paths (record { ordered = o; whole = w }) a)
