-- The nodes of a cut tree, beside those of the whole.
use Rattle.std.proofs.Common.{◌≡◌, ◌∙◌, ap, ap₂, refl, sym, ℕ, Bool, true, false, ◌||◌, ◌&&◌, not, List, [], ◌∷◌, ◌++◌, Option, Some, None, if◌then◌else◌, inl, inr}
use Rattle.std.specs.List.{filter, list_all, list_any}
use Rattle.std.specs.Prelude.{◌⊎◌}
use Rattle.std.specs.Str.{bytes_eq}
use Rattle.std.proofs.lemmas.List.Folds.{list_all-append}
use Rattle.ic_tree.specs.HashTree.{HashTree, empty, fork, labeled, leaf, pruned, root_hash}
use Rattle.ic_witness.specs.Nodes.{Label, Path, flat, labels, precedes}
use Rattle.ic_witness.specs.At.{is_hidden, is_lower, part_under, rise}
use Rattle.ic_witness.specs.Prune.{cut, chosen, first_of, has_needed, is_needed, is_nil, last_of, prune, rests}
use Rattle.ic_witness.proofs.Labels.{both_hold, eq_back, neither, not_back, one_side, precedes_through, same_label}

abbrev pub is_labeled : HashTree → Bool
is_labeled (labeled label part) = true
is_labeled _ = false

-- the nodes stand for the labels: a needed one for itself, a pruned one for one or more that are not needed
pub data Cut (needed : Label → Bool) : List Label → List HashTree → Type 0 where
  done : Cut needed [] []
  kept : {name : Label} {names : List Label} {part : HashTree} {nodes : List HashTree} → needed name ≡ true → Cut needed names nodes → Cut needed (name ∷ names) (labeled name part ∷ nodes)
  gone : {name : Label} {names : List Label} {hash : List ℕ} {nodes : List HashTree} → needed name ≡ false → Cut needed names nodes → Cut needed (name ∷ names) (pruned hash ∷ nodes)
  also : {name : Label} {names : List Label} {hash : List ℕ} {nodes : List HashTree} → needed name ≡ false → Cut needed names (pruned hash ∷ nodes) → Cut needed (name ∷ names) (pruned hash ∷ nodes)

cut_append : (needed : Label → Bool) {left right : List Label} {nodes others : List HashTree} → Cut needed left nodes → Cut needed right others → Cut needed (left ++ right) (nodes ++ others)
cut_append needed done d = d
cut_append needed (kept e c) d = kept e (cut_append needed c d)
cut_append needed (gone e c) d = gone e (cut_append needed c d)
cut_append needed (also e c) d = also e (cut_append needed c d)

run_gone : (needed : Label → Bool) (hash : List ℕ) (name : Label) (names : List Label) → list_any needed (name ∷ names) ≡ false → Cut needed (name ∷ names) (pruned hash ∷ [])
run_gone needed hash name [] e = gone (neither (needed name) false e).0 done
run_gone needed hash name (next ∷ names) e =
    let n = neither (needed name) (list_any needed (next ∷ names)) e in
    also n.0 (run_gone needed hash next names n.1)

-- one pruned node for several labels
all_gone : (needed : Label → Bool) (hash : List ℕ) (nodes : List HashTree) → list_all is_labeled nodes ≡ true → is_nil nodes ≡ false → list_any needed (labels nodes) ≡ false
    → Cut needed (labels nodes) (pruned hash ∷ [])
unfolding labels
all_gone needed hash [] a n e = absurd cc
all_gone needed hash (labeled name part ∷ nodes) a n e = run_gone needed hash name (labels nodes) e
all_gone needed hash (empty ∷ nodes) a n e = absurd cc
all_gone needed hash (fork left right ∷ nodes) a n e = absurd cc
all_gone needed hash (leaf bytes ∷ nodes) a n e = absurd cc
all_gone needed hash (pruned other ∷ nodes) a n e = absurd cc

pub labels-append : (xs ys : List HashTree) → labels (xs ++ ys) ≡ labels xs ++ labels ys
unfolding labels
labels-append [] ys = refl
labels-append (labeled name part ∷ xs) ys = ap (λ (names : List Label). name ∷ names) (labels-append xs ys)
labels-append (empty ∷ xs) ys = labels-append xs ys
labels-append (fork left right ∷ xs) ys = labels-append xs ys
labels-append (leaf bytes ∷ xs) ys = labels-append xs ys
labels-append (pruned hash ∷ xs) ys = labels-append xs ys

-- both tests that a fork passes which is pruned as a whole
pruned_whole : (a b : Bool) → (not a && not b) ≡ true → (a ≡ false) × (b ≡ false)
pruned_whole true b e = absurd cc
pruned_whole false true e = absurd cc
pruned_whole false false e = (refl, refl)

pub cut_nodes : (tree : HashTree) (needed : Label → Bool) (paths : List Path) → list_all is_labeled (flat tree) ≡ true → Cut needed (labels (flat tree)) (flat (cut tree needed paths))
unfolding flat labels cut
cut_nodes empty needed paths a = done
cut_nodes (fork left right) needed paths a =
    let l = both_hold (list_all is_labeled (flat left)) (list_all is_labeled (flat right)) (sym (list_all-append is_labeled (flat left) (flat right)) ∙ a) in
    go (cut_nodes left needed paths l.0) (cut_nodes right needed paths l.1)
    (not (is_nil (flat left ++ flat right)) && not (has_needed needed (fork left right))) refl
  where
    go : Cut needed (labels (flat left)) (flat (cut left needed paths)) → Cut needed (labels (flat right)) (flat (cut right needed paths))
        → (b : Bool) → (not (is_nil (flat left ++ flat right)) && not (has_needed needed (fork left right))) ≡ b
        → Cut needed (labels (flat left ++ flat right)) (flat (if b then pruned (root_hash (fork left right)) else fork (cut left needed paths) (cut right needed paths)))
    go c d true e =
        let w = pruned_whole (is_nil (flat left ++ flat right)) (has_needed needed (fork left right)) e in
        all_gone needed (root_hash (fork left right)) (flat left ++ flat right) a w.0 w.1
    go c d false e = rw labels-append (cut_append needed c d)
cut_nodes (labeled label part) needed paths a = go (needed label) refl
  where
    kept_part : HashTree
    kept_part = chosen part (rests label paths) (cut part (is_needed (labels (flat part)) (rests label paths)) (rests label paths))

    go : (b : Bool) → needed label ≡ b → Cut needed (label ∷ []) (flat (if b then labeled label kept_part else pruned (root_hash (labeled label part))))
    go true e = kept e done
    go false e = gone e done
cut_nodes (leaf bytes) needed paths a = absurd cc
cut_nodes (pruned hash) needed paths a = absurd cc

-- ---- a label that a cut tree has

-- the first of two that there is
abbrev pub either : Option HashTree → Option HashTree → Option HashTree
either (Some x) other = Some x
either None other = other

pub under_append : (label : Label) (xs ys : List HashTree) → part_under label (xs ++ ys) ≡ either (part_under label xs) (part_under label ys)
unfolding part_under
under_append label [] ys = refl
under_append label (labeled name part ∷ xs) ys = go (under_append label xs ys) (bytes_eq name label)
  where
    go : part_under label (xs ++ ys) ≡ either (part_under label xs) (part_under label ys)
        → (b : Bool) → (if b then Some part else part_under label (xs ++ ys)) ≡ either (if b then Some part else part_under label xs) (part_under label ys)
    go tail true = refl
    go tail false = tail
under_append label (empty ∷ xs) ys = under_append label xs ys
under_append label (fork left right ∷ xs) ys = under_append label xs ys
under_append label (leaf bytes ∷ xs) ys = under_append label xs ys
under_append label (pruned hash ∷ xs) ys = under_append label xs ys

-- a label that is not among the names has no part
pub no_part : (label : Label) (nodes : List HashTree) → list_any (bytes_eq label) (labels nodes) ≡ false → part_under label nodes ≡ None
unfolding part_under labels
no_part label [] e = refl
no_part label (labeled name part ∷ nodes) e =
    let n = neither (bytes_eq label name) (list_any (bytes_eq label) (labels nodes)) e in
    rw (eq_back name label, n.0) (no_part label nodes n.1)
no_part label (empty ∷ nodes) e = no_part label nodes e
no_part label (fork left right ∷ nodes) e = no_part label nodes e
no_part label (leaf bytes ∷ nodes) e = no_part label nodes e
no_part label (pruned hash ∷ nodes) e = no_part label nodes e

-- and one that has no part is not among them
pub no_label : (label : Label) (nodes : List HashTree) → part_under label nodes ≡ None → list_any (bytes_eq label) (labels nodes) ≡ false
unfolding part_under labels
no_label label [] e = refl
no_label label (labeled name part ∷ nodes) e = go (no_label label nodes) (bytes_eq name label) refl e
  where
    go : (part_under label nodes ≡ None → list_any (bytes_eq label) (labels nodes) ≡ false) → (b : Bool) → bytes_eq name label ≡ b → (if b then Some part else part_under label nodes) ≡ None
        → (bytes_eq label name || list_any (bytes_eq label) (labels nodes)) ≡ false
    go tail true s f = absurd cc
    go tail false s f = rw (eq_back label name, s) (tail f)
no_label label (empty ∷ nodes) e = no_label label nodes e
no_label label (fork left right ∷ nodes) e = no_label label nodes e
no_label label (leaf bytes ∷ nodes) e = no_label label nodes e
no_label label (pruned hash ∷ nodes) e = no_label label nodes e

-- a needed label is not among names none of which is needed
needed_elsewhere : (needed : Label → Bool) (label : Label) (names : List Label) → needed label ≡ true → list_any needed names ≡ false → list_any (bytes_eq label) names ≡ false
needed_elsewhere needed label [] n e = refl
needed_elsewhere needed label (name ∷ names) n e =
    let u = neither (needed name) (list_any needed names) e in
    go (bytes_eq label name) refl u.0 (needed_elsewhere needed label names n u.1)
  where
    go : (b : Bool) → bytes_eq label name ≡ b → needed name ≡ false → list_any (bytes_eq label) names ≡ false → (b || list_any (bytes_eq label) names) ≡ false
    go true s f r = absurd (let t : needed label ≡ needed name = ap needed (same_label label name s) in cc)
    go false s f r = r

abbrev pub pruned_part : Label → List Path → Option HashTree → Option HashTree
pruned_part label paths (Some part) = Some (prune part (rests label paths))
pruned_part label paths None = None

either_pruned : (label : Label) (paths : List Path) (x y : Option HashTree) → either (pruned_part label paths x) (pruned_part label paths y) ≡ pruned_part label paths (either x y)
either_pruned label paths (Some x) y = refl
either_pruned label paths None y = refl

-- the part under a needed label is pruned by the rests of the paths
pub needed_part : (label : Label) (tree : HashTree) (needed : Label → Bool) (paths : List Path) → needed label ≡ true
    → part_under label (flat (cut tree needed paths)) ≡ pruned_part label paths (part_under label (flat tree))
unfolding flat cut part_under
needed_part label empty needed paths n = refl
needed_part label (fork left right) needed paths n =
    go (needed_part label left needed paths n) (needed_part label right needed paths n)
    (not (is_nil (flat left ++ flat right)) && not (has_needed needed (fork left right))) refl
  where
    go : part_under label (flat (cut left needed paths)) ≡ pruned_part label paths (part_under label (flat left))
        → part_under label (flat (cut right needed paths)) ≡ pruned_part label paths (part_under label (flat right))
        → (b : Bool) → (not (is_nil (flat left ++ flat right)) && not (has_needed needed (fork left right))) ≡ b
        → part_under label (flat (if b then pruned (root_hash (fork left right)) else fork (cut left needed paths) (cut right needed paths)))
        ≡ pruned_part label paths (part_under label (flat left ++ flat right))
    go l r true e =
        let w = pruned_whole (is_nil (flat left ++ flat right)) (has_needed needed (fork left right)) e in
        let none : part_under label (flat left ++ flat right) ≡ None =
        no_part label (flat left ++ flat right) (needed_elsewhere needed label (labels (flat left ++ flat right)) n w.1) in
        rw none refl
    go l r false e = under_append label (flat (cut left needed paths)) (flat (cut right needed paths)) ∙ ap₂ either l r
        ∙ either_pruned label paths (part_under label (flat left)) (part_under label (flat right))
        ∙ ap (pruned_part label paths) (sym (under_append label (flat left) (flat right)))
needed_part label (labeled name part) needed paths n = go (needed name) refl (bytes_eq name label) refl
  where
    kept_part : HashTree
    kept_part = chosen part (rests name paths) (cut part (is_needed (labels (flat part)) (rests name paths)) (rests name paths))

    go : (b : Bool) → needed name ≡ b → (c : Bool) → bytes_eq name label ≡ c
        → part_under label (flat (if b then labeled name kept_part else pruned (root_hash (labeled name part)))) ≡ pruned_part label paths (if c then Some part else None)
    go true e true s = rw s (ap (λ (l : Label). Some (prune part (rests l paths))) (same_label name label s))
    go true e false s = rw s refl
    go false e true s = absurd (let t : needed name ≡ needed label = ap needed (same_label name label s) in cc)
    go false e false s = refl
needed_part label (leaf bytes) needed paths n = refl
needed_part label (pruned hash) needed paths n = refl

-- ---- a label that a cut tree does not have

pub still_no_part : (needed : Label → Bool) (label : Label) {names : List Label} {nodes : List HashTree} → Cut needed names nodes → list_any (bytes_eq label) names ≡ false → part_under label nodes ≡ None
unfolding part_under
still_no_part needed label done e = refl
still_no_part needed label (kept {name = name} {names = names} n c) e =
    let u = neither (bytes_eq label name) (list_any (bytes_eq label) names) e in
    rw (eq_back name label, u.0) (still_no_part needed label c u.1)
still_no_part needed label (gone {name = name} {names = names} n c) e = still_no_part needed label c (neither (bytes_eq label name) (list_any (bytes_eq label) names) e).1
still_no_part needed label (also {name = name} {names = names} n c) e = still_no_part needed label c (neither (bytes_eq label name) (list_any (bytes_eq label) names) e).1

abbrev pub AllHigher : Label → List Label → Type 0
AllHigher label [] = Unit {0}
AllHigher label (name ∷ names) = (precedes label name ≡ true) × AllHigher label names

-- all come after the label, and the first of them is needed
pub data Highs (needed : Label → Bool) (label : Label) : List Label → Type 0 where
  no_high : Highs needed label []
  high : {name : Label} {names : List Label} → precedes label name ≡ true → needed name ≡ true → AllHigher label names → Highs needed label (name ∷ names)

-- those that come before the label, of which the last is needed, and then such as come after it
pub data Lows (needed : Label → Bool) (label : Label) : List Label → Type 0 where
  last_low : {name : Label} {names : List Label} → precedes name label ≡ true → needed name ≡ true → Highs needed label names → Lows needed label (name ∷ names)
  low : {name : Label} {names : List Label} → precedes name label ≡ true → Lows needed label names → Lows needed label (name ∷ names)

no_lower : (needed : Label → Bool) (label : Label) {names : List Label} {nodes : List HashTree} → Cut needed names nodes → AllHigher label names → list_any (is_lower label) nodes ≡ false
no_lower needed label done a = refl
no_lower needed label (kept {name = name} n c) a = rw (not_back label name a.0) (no_lower needed label c a.1)
no_lower needed label (gone n c) a = no_lower needed label c a.1
no_lower needed label (also n c) a = no_lower needed label c a.1

highs_shown : (needed : Label → Bool) (label : Label) {names : List Label} {nodes : List HashTree} → Cut needed names nodes → Highs needed label names → is_hidden label nodes ≡ false
unfolding is_hidden
highs_shown needed label done no_high = refl
highs_shown needed label (kept {name = name} n c) (high p m a) = rw (not_back label name p, no_lower needed label c a, p) refl
highs_shown needed label (gone n c) (high p m a) = absurd cc
highs_shown needed label (also n c) (high p m a) = absurd cc

some_lower : (needed : Label → Bool) (label : Label) {names : List Label} {nodes : List HashTree} → Cut needed names nodes → Lows needed label names → list_any (is_lower label) nodes ≡ true
some_lower needed label done l = elim l [ ]
some_lower needed label (kept n c) (last_low p m h) = rw p refl
some_lower needed label (kept n c) (low p l) = rw p refl
some_lower needed label (gone n c) (last_low p m h) = absurd cc
some_lower needed label (gone n c) (low p l) = some_lower needed label c l
some_lower needed label (also n c) (last_low p m h) = absurd cc
some_lower needed label (also n c) (low p l) = some_lower needed label c l

lows_shown : (needed : Label → Bool) (label : Label) {names : List Label} {nodes : List HashTree} → Cut needed names nodes → Lows needed label names → is_hidden label nodes ≡ false
unfolding is_hidden
lows_shown needed label done l = elim l [ ]
lows_shown needed label (kept n c) (last_low p m h) = rw p (highs_shown needed label c h)
lows_shown needed label (kept n c) (low p l) = rw p (lows_shown needed label c l)
lows_shown needed label (gone n c) (last_low p m h) = absurd cc
lows_shown needed label (gone n c) (low p l) = rw (some_lower needed label c l) (lows_shown needed label c l)
lows_shown needed label (also n c) (last_low p m h) = absurd cc
lows_shown needed label (also n c) (low p l) = lows_shown needed label c l

pub all_higher : (label name : Label) (names : List Label) → precedes label name ≡ true → rise (name ∷ names) ≡ true → AllHigher label names
unfolding rise
all_higher label name [] p r = tt
all_higher label name (next ∷ names) p r =
    let b = both_hold (precedes name next) (rise (next ∷ names)) r in
    let q = precedes_through label name next p b.0 in
    (q, all_higher label next names q b.1)

pub rise_tail : (name : Label) (names : List Label) → rise (name ∷ names) ≡ true → rise names ≡ true
unfolding rise
rise_tail name [] r = refl
rise_tail name (next ∷ names) r = (both_hold (precedes name next) (rise (next ∷ names)) r).1

no_low : (label : Label) (names : List Label) → AllHigher label names → filter (λ name. precedes name label) names ≡ []
no_low label [] a = refl
no_low label (name ∷ names) a = rw (not_back label name a.0) (no_low label names a.1)

highs_no_low : (needed : Label → Bool) (label : Label) {names : List Label} → Highs needed label names → filter (λ name. precedes name label) names ≡ []
highs_no_low needed label no_high = refl
highs_no_low needed label (high {name = name} {names = names} p n a) = rw (not_back label name p) (no_low label names a)

last_later : (name : Label) (names : List Label) (found : Label) → last_of names ≡ Some found → last_of (name ∷ names) ≡ Some found
unfolding last_of
last_later name [] found e = absurd cc
last_later name (next ∷ names) found e = e

-- the labels around one that is not among them, where both its neighbours are needed
pub around : (needed : Label → Bool) (label : Label) (names : List Label) → rise names ≡ true → list_any (bytes_eq label) names ≡ false
    → ((found : Label) → last_of (filter (λ name. precedes name label) names) ≡ Some found → needed found ≡ true)
    → ((found : Label) → first_of (filter (λ name. precedes label name) names) ≡ Some found → needed found ≡ true)
    → Highs needed label names ⊎ Lows needed label names
unfolding first_of last_of
around needed label [] r e lower higher = inl no_high
around needed label (name ∷ names) r e lower higher =
    let u = neither (bytes_eq label name) (list_any (bytes_eq label) names) e in
    go (around needed label names (rise_tail name names r) u.1) (precedes label name) refl u.0
  where
    from_tail : precedes label name ≡ false → precedes name label ≡ true → Highs needed label names ⊎ Lows needed label names → Highs needed label (name ∷ names) ⊎ Lows needed label (name ∷ names)
    from_tail n p (inl h) =
        let none = highs_no_low needed label h in
        inr (last_low p (lower name (rw (p, none) refl)) h)
    from_tail n p (inr l) = inr (low p l)

    go : (((found : Label) → last_of (filter (λ other. precedes other label) names) ≡ Some found → needed found ≡ true)
        → ((found : Label) → first_of (filter (λ other. precedes label other) names) ≡ Some found → needed found ≡ true) → Highs needed label names ⊎ Lows needed label names)
        → (b : Bool) → precedes label name ≡ b → bytes_eq label name ≡ false → Highs needed label (name ∷ names) ⊎ Lows needed label (name ∷ names)
    go tail true p s = inl (high p (higher name (rw p refl)) (all_higher label name names p r))
    go tail false n s =
        let p = one_side label name n s in
        from_tail n p (tail
        (λ found f. lower found (rw p (last_later name (filter (λ other. precedes other label) names) found f)))
        (λ found f. higher found (rw n f)))

-- no pruned node hides a label whose neighbours are needed
pub shown : (needed : Label → Bool) (label : Label) {names : List Label} {nodes : List HashTree} → Cut needed names nodes → Highs needed label names ⊎ Lows needed label names → is_hidden label nodes ≡ false
shown needed label c (inl h) = highs_shown needed label c h
shown needed label c (inr l) = lows_shown needed label c l
