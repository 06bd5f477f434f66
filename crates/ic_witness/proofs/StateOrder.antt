-- The tree of a state is ordered, and has no pruned node.
use Rattle.std.proofs.Common.{◌≡◌, ◌∙◌, ap, ap₂, refl, sym, arith, ℕ, zero, suc, ◌+◌, ◌-◌, ◌≤◌, Bool, true, ◌&&◌, List, [], ◌∷◌, ◌++◌, length, take, drop, map, codes, Option, Some, None, Ordering, Less, Equal, Greater}
use Rattle.std.specs.BTreeMap.{insert_entry}
use Rattle.std.specs.Cmp.Lexicographic.{slice_cmp}
use Rattle.std.specs.List.{list_all}
use Rattle.std.specs.List.Sorted.{IsStrictlySortedBy}
use Rattle.std.specs.Map.{keys_of}
use Rattle.std.specs.Ordering.{is_lt, match_ordering, nat_cmp, ordering_reverse}
use Rattle.std.proofs.lemmas.Cmp.{nat_list_cmp_total}
use Rattle.std.proofs.lemmas.List.{length-take-le, length-drop, take-append-drop}
use Rattle.std.proofs.lemmas.List.Folds.{list_all-append, list_all-map}
use Rattle.ic_leb.specs.Spelling.{unsigned_spelling}
use Rattle.ic_behaviour.specs.declared.call.Response.{Response}
use Rattle.ic_behaviour.specs.declared.call.Response.TheVariants.{Reply, Reject}
use Rattle.ic_behaviour.specs.declared.request.Request.{Request}
use Rattle.ic_behaviour.specs.State.{Canister, Code, State}
use Rattle.ic_tree.specs.HashTree.{HashTree, empty, fork, labeled, leaf, pruned, forked, forked_in, half, leaf_at}
use Rattle.ic_tree.specs.StateTree.{by_id, canister_part, id_of_request, request_part, state_tree_of}
use Rattle.ic_witness.specs.At.{is_level, is_ordered, is_ordered_below, rise}
use Rattle.ic_witness.specs.Nodes.{Label, flat, has_label_or_hash, is_one_leaf, labels, precedes}
use Rattle.ic_witness.specs.Whole.{is_whole}
use Rattle.ic_witness.proofs.Cuts.{is_labeled}
use Rattle.ic_witness.proofs.Labels.{both_hold, or_right}

-- ---- trees under forks

pub both : (a b : Bool) → a ≡ true → b ≡ true → (a && b) ≡ true
both a b e f = rw (e, f) refl

-- a test of both halves of a list
pub halved : (test : HashTree → Bool) (k : ℕ) (xs : List HashTree) → list_all test xs ≡ true → (list_all test (take k xs) ≡ true) × (list_all test (drop k xs) ≡ true)
halved test k xs a = both_hold (list_all test (take k xs)) (list_all test (drop k xs)) (sym (list_all-append test (take k xs) (drop k xs)) ∙ ap (list_all test) (take-append-drop k xs) ∙ a)

-- a test that a fork passes where both its parts do
forked_all : (test : HashTree → Bool) → test empty ≡ true → ((left right : HashTree) → test (fork left right) ≡ (test left && test right))
    → (steps : ℕ) (xs : List HashTree) → list_all test xs ≡ true → test (forked_in steps xs) ≡ true
unfolding forked_in
forked_all test none parts zero xs a = none
forked_all test none parts (suc n) [] a = none
forked_all test none parts (suc n) (x ∷ []) a = (both_hold (test x) true a).0
forked_all test none parts (suc n) (x ∷ y ∷ rest) a =
    let xs = x ∷ y ∷ rest in
    let h = halved test (half (length xs)) xs a in
    parts (forked_in n (take (half (length xs)) xs)) (forked_in n (drop (half (length xs)) xs))
    ∙ both (test (forked_in n (take (half (length xs)) xs))) (test (forked_in n (drop (half (length xs)) xs))) (forked_all test none parts n (take (half (length xs)) xs) h.0) (forked_all test none parts n (drop (half (length xs)) xs) h.1)

below_all : (steps : ℕ) (xs : List HashTree) → list_all is_ordered_below xs ≡ true → is_ordered_below (forked_in steps xs) ≡ true
unfolding is_ordered_below
below_all steps xs a = forked_all is_ordered_below refl (λ left right. refl) steps xs a

whole_all : (steps : ℕ) (xs : List HashTree) → list_all is_whole xs ≡ true → is_whole (forked_in steps xs) ≡ true
unfolding is_whole
whole_all steps xs a = forked_all is_whole refl (λ left right. refl) steps xs a

flat_one : (x : HashTree) → list_all is_labeled (x ∷ []) ≡ true → flat x ≡ x ∷ []
unfolding flat
flat_one (labeled label part) a = refl
flat_one empty a = absurd cc
flat_one (fork left right) a = absurd cc
flat_one (leaf bytes) a = absurd cc
flat_one (pruned hash) a = absurd cc

pub flat_forked : (steps : ℕ) (xs : List HashTree) → length xs ≤ steps → list_all is_labeled xs ≡ true → flat (forked_in steps xs) ≡ xs
unfolding forked_in flat
flat_forked zero [] le a = refl
flat_forked zero (x ∷ xs) le a = absurd (omega arith)
flat_forked (suc n) [] le a = refl
flat_forked (suc n) (x ∷ []) le a = flat_one x a
flat_forked (suc n) (x ∷ y ∷ rest) le a =
    let xs = x ∷ y ∷ rest in
    let h = halved is_labeled (half (length xs)) xs a in
    let front : length (take (half (length xs)) xs) ≡ half (length xs) = length-take-le (half (length xs)) xs (omega arith) in
    let back : length (drop (half (length xs)) xs) ≡ length xs - half (length xs) = length-drop (half (length xs)) xs in
    ap₂ (λ a b. a ++ b) (flat_forked n (take (half (length xs)) xs) (omega arith) h.0) (flat_forked n (drop (half (length xs)) xs) (omega arith) h.1) ∙ take-append-drop (half (length xs)) xs

-- nodes that have labels have labels or are pruned
have_labels : (xs : List HashTree) → list_all is_labeled xs ≡ true → list_all has_label_or_hash xs ≡ true
have_labels [] a = refl
have_labels (labeled label part ∷ xs) a = have_labels xs a
have_labels (empty ∷ xs) a = absurd cc
have_labels (fork left right ∷ xs) a = absurd cc
have_labels (leaf bytes ∷ xs) a = absurd cc
have_labels (pruned hash ∷ xs) a = absurd cc

-- labeled trees under forks, whose labels rise
forked_ordered : (xs : List HashTree) → list_all is_labeled xs ≡ true → rise (labels xs) ≡ true → list_all is_ordered_below xs ≡ true → is_ordered (forked xs) ≡ true
forked_ordered xs a r b =
    let level : is_level xs ≡ true = or_right (is_one_leaf xs) (both (list_all has_label_or_hash xs) (rise (labels xs)) (have_labels xs a) r) in
    both (is_level (flat (forked xs))) (is_ordered_below (forked xs)) (ap is_level (flat_forked (length xs) xs (omega arith) a) ∙ level) (below_all (length xs) xs b)

-- ---- trees under keys

-- a tree for the value of each entry, under its key
abbrev pub under : {A : Type 0} → (A → HashTree) → List ℕ × A → HashTree
under tree_of e = labeled e.0 (tree_of e.1)

pub under_labeled : {A : Type 0} (tree_of : A → HashTree) (es : List (List ℕ × A)) → list_all is_labeled (map (under tree_of) es) ≡ true
under_labeled tree_of [] = refl
under_labeled tree_of (e ∷ es) = under_labeled tree_of es

under_labels : {A : Type 0} (tree_of : A → HashTree) (es : List (List ℕ × A)) → labels (map (under tree_of) es) ≡ keys_of es
unfolding labels
under_labels tree_of [] = refl
under_labels tree_of (e ∷ es) = ap (λ (names : List Label). e.0 ∷ names) (under_labels tree_of es)

under_ordered : {A : Type 0} (tree_of : A → HashTree) (es : List (List ℕ × A)) → rise (keys_of es) ≡ true → list_all (λ e. is_ordered (tree_of e.1)) es ≡ true
    → is_ordered (forked (map (under tree_of) es)) ≡ true
unfolding is_ordered_below
under_ordered tree_of es r a =
    forked_ordered (map (under tree_of) es) (under_labeled tree_of es) (ap rise (under_labels tree_of es) ∙ r) (list_all-map is_ordered_below (under tree_of) es ∙ a)

under_whole : {A : Type 0} (tree_of : A → HashTree) (es : List (List ℕ × A)) → list_all (λ e. is_whole (tree_of e.1)) es ≡ true → is_whole (forked (map (under tree_of) es)) ≡ true
unfolding is_whole
under_whole tree_of es a = whole_all (length (map (under tree_of) es)) (map (under tree_of) es) (list_all-map is_whole (under tree_of) es ∙ a)

-- ---- keys

sorted_rise : (names : List Label) → IsStrictlySortedBy (slice_cmp nat_cmp) names → rise names ≡ true
unfolding rise IsStrictlySortedBy
sorted_rise [] s = refl
sorted_rise (a ∷ []) s = refl
sorted_rise (a ∷ b ∷ rest) s = both (precedes a b) (rise (b ∷ rest)) (ap is_lt s.0.0) (sorted_rise (b ∷ rest) s.1)

abbrev pub Entry : Type 0
Entry = List ℕ × HashTree

abbrev pub put : List Entry → List ℕ → HashTree → List Entry
put entries key tree = insert_entry (slice_cmp nat_cmp) entries key tree

precedes_since : (a b : Label) → slice_cmp nat_cmp a b ≡ Less → precedes a b ≡ true
precedes_since a b e = ap is_lt e

precedes_back : (a b : Label) → slice_cmp nat_cmp a b ≡ Greater → precedes b a ≡ true
precedes_back a b e = ap is_lt (nat_list_cmp_total.antisymm b a ∙ ap ordering_reverse e)

rise_after_put : (first : Label) (entries : List Entry) (key : List ℕ) (tree : HashTree) → precedes first key ≡ true → rise (first ∷ keys_of entries) ≡ true → rise (first ∷ keys_of (put entries key tree)) ≡ true
unfolding rise
rise_after_put first [] key tree p r = both (precedes first key) true p refl
rise_after_put first (e ∷ entries) key tree p r =
    let h = both_hold (precedes first e.0) (rise (e.0 ∷ keys_of entries)) r in
    go h (λ q. rise_after_put e.0 entries key tree q h.1) (slice_cmp nat_cmp key e.0) refl
  where
    go : (precedes first e.0 ≡ true) × (rise (e.0 ∷ keys_of entries) ≡ true) → (precedes e.0 key ≡ true → rise (e.0 ∷ keys_of (put entries key tree)) ≡ true)
        → (o : Ordering) → slice_cmp nat_cmp key e.0 ≡ o → rise (first ∷ keys_of (match_ordering o ((key, tree) ∷ e ∷ entries) ((e.0, tree) ∷ entries) (e ∷ put entries key tree))) ≡ true
    go h tail Less is = both (precedes first key) (precedes key e.0 && rise (e.0 ∷ keys_of entries)) p (both (precedes key e.0) (rise (e.0 ∷ keys_of entries)) (precedes_since key e.0 is) h.1)
    go h tail Equal is = r
    go h tail Greater is = both (precedes first e.0) (rise (e.0 ∷ keys_of (put entries key tree))) h.0 (tail (precedes_back key e.0 is))

rise_put : (entries : List Entry) (key : List ℕ) (tree : HashTree) → rise (keys_of entries) ≡ true → rise (keys_of (put entries key tree)) ≡ true
unfolding rise
rise_put [] key tree r = refl
rise_put (e ∷ entries) key tree r = go (slice_cmp nat_cmp key e.0) refl
  where
    go : (o : Ordering) → slice_cmp nat_cmp key e.0 ≡ o → rise (keys_of (match_ordering o ((key, tree) ∷ e ∷ entries) ((e.0, tree) ∷ entries) (e ∷ put entries key tree))) ≡ true
    go Less is = both (precedes key e.0) (rise (e.0 ∷ keys_of entries)) (precedes_since key e.0 is) r
    go Equal is = r
    go Greater is = rise_after_put e.0 entries key tree (precedes_back key e.0 is) r

-- a test of the parts of all entries stays true
put_all : (test : HashTree → Bool) (entries : List Entry) (key : List ℕ) (tree : HashTree) → list_all (λ e. test e.1) entries ≡ true → test tree ≡ true → list_all (λ e. test e.1) (put entries key tree) ≡ true
put_all test [] key tree a t = both (test tree) true t refl
put_all test (e ∷ entries) key tree a t =
    let h = both_hold (test e.1) (list_all (λ e. test e.1) entries) a in
    go h (put_all test entries key tree h.1 t) (slice_cmp nat_cmp key e.0)
  where
    go : (test e.1 ≡ true) × (list_all (λ e. test e.1) entries ≡ true) → list_all (λ e. test e.1) (put entries key tree) ≡ true
        → (o : Ordering) → list_all (λ e. test e.1) (match_ordering o ((key, tree) ∷ e ∷ entries) ((e.0, tree) ∷ entries) (e ∷ put entries key tree)) ≡ true
    go h tail Less = both (test tree) (list_all (λ e. test e.1) (e ∷ entries)) t a
    go h tail Equal = both (test tree) (list_all (λ e. test e.1) entries) t h.1
    go h tail Greater = both (test e.1) (list_all (λ e. test e.1) (put entries key tree)) h.0 tail

by_id_rise : (number : ℕ) (rs : List Request) → rise (keys_of (by_id number rs)) ≡ true
unfolding by_id rise
by_id_rise number [] = refl
by_id_rise number (r ∷ rs) = rise_put (by_id (number + 1) rs) (id_of_request number r) (request_part r.answer) (by_id_rise (number + 1) rs)

-- ---- parts

-- what holds of all holds of each of a list
pub each : {A : Type 0} (test : A → Bool) → ((x : A) → test x ≡ true) → (xs : List A) → list_all test xs ≡ true
each test holds [] = refl
each test holds (x ∷ xs) = both (test x) (list_all test xs) (holds x) (each test holds xs)

pub by_id_all : (test : HashTree → Bool) → ((answer : Option Response) → test (request_part answer) ≡ true) → (number : ℕ) (rs : List Request)
    → list_all (λ e. test e.1) (by_id number rs) ≡ true
unfolding by_id
by_id_all test holds number [] = refl
by_id_all test holds number (r ∷ rs) = put_all test (by_id (number + 1) rs) (id_of_request number r) (request_part r.answer) (by_id_all test holds (number + 1) rs) (holds r.answer)

abbrev pub part_of : Canister → HashTree
part_of c = canister_part c.certified c.code

part_ordered : (certified : List ℕ) (code : Option Code) → is_ordered (canister_part certified code) ≡ true
unfolding forked_in flat labels rise is_ordered_below
part_ordered certified None = refl
part_ordered certified (Some code) = refl

part_whole : (certified : List ℕ) (code : Option Code) → is_whole (canister_part certified code) ≡ true
unfolding forked_in is_whole
part_whole certified None = refl
part_whole certified (Some code) = refl

request_ordered : (answer : Option Response) → is_ordered (request_part answer) ≡ true
unfolding forked_in flat labels rise is_ordered_below
request_ordered None = refl
request_ordered (Some (Reply bytes)) = refl
request_ordered (Some (Reject code message)) = refl

request_whole : (answer : Option Response) → is_whole (request_part answer) ≡ true
unfolding forked_in is_whole
request_whole None = refl
request_whole (Some (Reply bytes)) = refl
request_whole (Some (Reject code message)) = refl

-- ---- the state

top_ordered : (canisters requests : HashTree) (time : List ℕ) → is_ordered canisters ≡ true → is_ordered requests ≡ true
    → is_ordered (forked (labeled (codes "canister") canisters ∷ labeled (codes "request_status") requests ∷ leaf_at (codes "time") time ∷ [])) ≡ true
unfolding forked_in flat labels rise is_ordered_below
top_ordered canisters requests time c r = both (is_ordered canisters && is_ordered requests) true (both (is_ordered canisters) (is_ordered requests) c r) refl

-- the ids of canisters rise
pub state_ordered : (s : State) → IsStrictlySortedBy (slice_cmp nat_cmp) (keys_of s.canisters) → is_ordered (state_tree_of s) ≡ true
unfolding state_tree_of
state_ordered s sorted = top_ordered _ _ (unsigned_spelling s.time)
    (under_ordered part_of s.canisters (sorted_rise (keys_of s.canisters) sorted) (each (λ e. is_ordered (part_of e.1)) (λ e. part_ordered e.1.certified e.1.code) s.canisters))
    (under_ordered (λ part. part) (by_id 0 s.requests) (by_id_rise 0 s.requests) (by_id_all is_ordered request_ordered 0 s.requests))

top_whole : (canisters requests : HashTree) (time : List ℕ) → is_whole canisters ≡ true → is_whole requests ≡ true
    → is_whole (forked (labeled (codes "canister") canisters ∷ labeled (codes "request_status") requests ∷ leaf_at (codes "time") time ∷ [])) ≡ true
unfolding forked_in is_whole
top_whole canisters requests time c r = both (is_whole canisters && is_whole requests) true (both (is_whole canisters) (is_whole requests) c r) refl

pub state_whole : (s : State) → is_whole (state_tree_of s) ≡ true
unfolding state_tree_of
state_whole s = top_whole _ _ (unsigned_spelling s.time)
    (under_whole part_of s.canisters (each (λ e. is_whole (part_of e.1)) (λ e. part_whole e.1.certified e.1.code) s.canisters))
    (under_whole (λ part. part) (by_id 0 s.requests) (by_id_all is_whole request_whole 0 s.requests))
