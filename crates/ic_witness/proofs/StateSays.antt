-- The tree of a state says of each path of its table what the state has.
use Rattle.std.proofs.Common.{◌≡◌, ◌∙◌, ap, refl, sym, arith, ℕ, ◌+◌, Bool, true, false, List, [], ◌∷◌, length, map, codes, Option, Some, None, option_map, Ordering, Less, Equal, Greater, if◌then◌else◌}
use Rattle.std.specs.BTreeMap.{is_at}
use Rattle.std.specs.Cmp.Lexicographic.{slice_cmp}
use Rattle.std.specs.List.{AllByRecursion, list_all, list_any}
use Rattle.std.specs.Map.{lookup}
use Rattle.std.specs.Option.{option_map_or}
use Rattle.std.specs.Ordering.{is_eq, match_ordering, nat_cmp}
use Rattle.std.specs.Str.{bytes_eq}
use Rattle.std.proofs.lemmas.Map.Text.{is_eq-slice_cmp}
use Rattle.ic_leb.specs.Spelling.{unsigned_spelling}
use Rattle.ic_behaviour.specs.declared.call.Response.{Response}
use Rattle.ic_behaviour.specs.declared.call.Response.TheVariants.{Reply, Reject}
use Rattle.ic_behaviour.specs.declared.request.Request.{Request}
use Rattle.ic_behaviour.specs.State.{Canister, Code, State}
use Rattle.ic_tree.specs.HashTree.{HashTree, empty, fork, labeled, leaf, pruned, forked, forked_in, leaf_at}
use Rattle.ic_tree.specs.StateTree.{by_id, canister_part, id_of_request, request_part, state_tree_of}
use Rattle.ic_witness.specs.At.{Answer, absent, at, is_hidden, is_pruned, part_under, value}
use Rattle.ic_witness.specs.Nodes.{Label, Path, flat}
use Rattle.ic_witness.specs.Table.{Row, SaysRows, SaysState, canister_rows, request_of, request_rows}
use Rattle.ic_witness.proofs.Cuts.{is_labeled}
use Rattle.ic_witness.proofs.Kept.{is_absent, none_hidden}
use Rattle.ic_witness.proofs.Labels.{eq_back, same_label}
use Rattle.ic_witness.proofs.StateOrder.{Entry, flat_forked, part_of, put, under, under_labeled}

-- ---- trees under keys

not_pruned : (trees : List HashTree) → list_all is_labeled trees ≡ true → list_any is_pruned trees ≡ false
not_pruned [] a = refl
not_pruned (labeled label part ∷ trees) a = not_pruned trees a
not_pruned (empty ∷ trees) a = absurd cc
not_pruned (fork left right ∷ trees) a = absurd cc
not_pruned (leaf bytes ∷ trees) a = absurd cc
not_pruned (pruned hash ∷ trees) a = absurd cc

-- what a part says of the rest of a path, or that there is nothing
abbrev part_says : Path → Option HashTree → Answer
part_says rest found = option_map_or (λ part. at part rest) found absent

forked_says : (trees : List HashTree) → list_all is_labeled trees ≡ true → (label : Label) (rest : Path) → at (forked trees) (label ∷ rest) ≡ part_says rest (part_under label trees)
unfolding at
forked_says trees a label rest =
    rw (flat_forked (length trees) trees (omega arith) a) (ap (option_map_or (λ part. at part rest) (part_under label trees)) (is_absent label trees (none_hidden label trees (not_pruned trees a))))

-- the part under a key
under_key : {A : Type 0} (tree_of : A → HashTree) (id : Label) (es : List (List ℕ × A)) → part_under id (map (under tree_of) es) ≡ option_map tree_of (lookup (is_at (slice_cmp nat_cmp id)) es)
unfolding part_under
under_key tree_of id [] = refl
under_key tree_of id (e ∷ es) = rw (is_eq-slice_cmp id e.0, eq_back e.0 id) (go (under_key tree_of id es) (bytes_eq id e.0))
  where
    go : part_under id (map (under tree_of) es) ≡ option_map tree_of (lookup (is_at (slice_cmp nat_cmp id)) es)
        → (b : Bool) → (if b then Some (tree_of e.1) else part_under id (map (under tree_of) es)) ≡ option_map tree_of (if b then Some e.1 else lookup (is_at (slice_cmp nat_cmp id)) es)
    go below true = refl
    go below false = below

-- ---- requests by their ids

same_twice : {A : Type 0} (x y : A) (z : A) (b : Bool) → (if b then x else z) ≡ (if b then x else (if b then y else z))
same_twice x y z true = refl
same_twice x y z false = refl

either_way : {A : Type 0} (x y z : A) (b c : Bool) → (b ≡ true → c ≡ false) → (if b then y else (if c then x else z)) ≡ (if c then x else (if b then y else z))
either_way x y z true c never = rw (never refl) refl
either_way x y z false c never = refl

other_key : (key other query : Label) → bytes_eq key other ≡ false → bytes_eq other query ≡ true → bytes_eq key query ≡ false
other_key key other query differ is = ap (bytes_eq key) (sym (same_label other query is)) ∙ differ

put_says : (key query : Label) (tree : HashTree) (es : List Entry) → part_under query (map (under (λ part. part)) (put es key tree)) ≡ (if bytes_eq key query then Some tree else part_under query (map (under (λ part. part)) es))
unfolding part_under
put_says key query tree [] = refl
put_says key query tree (e ∷ es) = go (put_says key query tree es) (slice_cmp nat_cmp key e.0) refl
  where
    behind : Option HashTree
    behind = part_under query (map (under (λ part. part)) es)

    go : part_under query (map (under (λ part. part)) (put es key tree)) ≡ (if bytes_eq key query then Some tree else behind)
        → (o : Ordering) → slice_cmp nat_cmp key e.0 ≡ o
        → part_under query (map (under (λ part. part)) (match_ordering o ((key, tree) ∷ e ∷ es) ((e.0, tree) ∷ es) (e ∷ put es key tree)))
        ≡ (if bytes_eq key query then Some tree else (if bytes_eq e.0 query then Some e.1 else behind))
    go below Less is = refl
    go below Equal is =
        let same = same_label key e.0 (sym (is_eq-slice_cmp key e.0) ∙ ap is_eq is) in
        rw same (same_twice (Some tree) (Some e.1) behind (bytes_eq e.0 query))
    go below Greater is =
        ap (λ found. if bytes_eq e.0 query then Some e.1 else found) below
        ∙ either_way (Some tree) (Some e.1) behind (bytes_eq e.0 query) (bytes_eq key query) (other_key key e.0 query (sym (is_eq-slice_cmp key e.0) ∙ ap is_eq is))

by_id_says : (id : Label) (number : ℕ) (rs : List Request) → part_under id (map (under (λ part. part)) (by_id number rs)) ≡ option_map (λ (r : Request). request_part r.answer) (request_of id number rs)
unfolding by_id part_under request_of
by_id_says id number [] = refl
by_id_says id number (r ∷ rs) =
    put_says (id_of_request number r) id (request_part r.answer) (by_id (number + 1) rs)
    ∙ go (bytes_eq (id_of_request number r) id) (by_id_says id (number + 1) rs)
  where
    go : (b : Bool) → part_under id (map (under (λ part. part)) (by_id (number + 1) rs)) ≡ option_map (λ (r : Request). request_part r.answer) (request_of id (number + 1) rs)
        → (if b then Some (request_part r.answer) else part_under id (map (under (λ part. part)) (by_id (number + 1) rs)))
        ≡ option_map (λ (r : Request). request_part r.answer) (if b then Some r else request_of id (number + 1) rs)
    go true below = refl
    go false below = below

-- ---- parts

canister_says : (c : Canister) → AllByRecursion (λ (row : Row). at (part_of c) (row.0 ∷ []) ≡ row.1) (canister_rows c)
unfolding at forked_in flat part_under is_hidden
canister_says c = go c.code
  where
    go : (code : Option Code) → AllByRecursion (λ (row : Row). at (canister_part c.certified code) (row.0 ∷ []) ≡ row.1) ((codes "certified_data", value c.certified) ∷ (codes "module_hash", option_map_or (λ code. value code.hash) code absent) ∷ [])
    go None = (refl, (refl, tt))
    go (Some code) = (refl, (refl, tt))

request_says : (answer : Option Response) → AllByRecursion (λ (row : Row). at (request_part answer) (row.0 ∷ []) ≡ row.1) (request_rows answer)
unfolding at forked_in flat part_under is_hidden
request_says None = (refl, (refl, (refl, (refl, tt))))
request_says (Some (Reply bytes)) = (refl, (refl, (refl, (refl, tt))))
request_says (Some (Reject code message)) = (refl, (refl, (refl, (refl, tt))))

-- ---- the state

abbrev top : (canisters requests : HashTree) (time : List ℕ) → HashTree
top canisters requests time = forked (labeled (codes "canister") canisters ∷ labeled (codes "request_status") requests ∷ leaf_at (codes "time") time ∷ [])

top_says : (canisters requests : HashTree) (time : List ℕ) (rest : Path)
    → (at (top canisters requests time) (codes "canister" ∷ rest) ≡ at canisters rest)
    × (at (top canisters requests time) (codes "request_status" ∷ rest) ≡ at requests rest)
    × (at (top canisters requests time) (codes "time" ∷ []) ≡ value time)
unfolding at forked_in flat part_under
top_says canisters requests time rest = (refl, refl, refl)

rows_say : {A : Type 0} (tree : HashTree) (label id : Label) (part_of : A → HashTree) (rows_of : A → List Row) (found : Option A)
    → ((rest : Path) → at tree (label ∷ id ∷ rest) ≡ part_says rest (option_map part_of found))
    → ((x : A) → AllByRecursion (λ (row : Row). at (part_of x) (row.0 ∷ []) ≡ row.1) (rows_of x))
    → SaysRows tree (label ∷ id ∷ []) (option_map rows_of found)
rows_say tree label id part_of rows_of None says each = says
rows_say tree label id part_of rows_of (Some x) says each = all (rows_of x) (each x)
  where
    all : (rows : List Row) → AllByRecursion (λ (row : Row). at (part_of x) (row.0 ∷ []) ≡ row.1) rows → AllByRecursion (λ (row : Row). at tree (label ∷ id ∷ row.0 ∷ []) ≡ row.1) rows
    all [] a = tt
    all (row ∷ rows) a = (says (row.0 ∷ []) ∙ a.0, all rows a.1)

pub state_says : (s : State) → SaysState (state_tree_of s) s
unfolding state_tree_of
state_says s = record {
  time = (top_says canisters requests (unsigned_spelling s.time) []).2;
  canisters = λ id. rows_say _ (codes "canister") id part_of canister_rows (lookup (is_at (slice_cmp nat_cmp id)) s.canisters)
      (λ rest. (top_says canisters requests (unsigned_spelling s.time) (id ∷ rest)).0
      ∙ forked_says (map (under part_of) s.canisters) (under_labeled part_of s.canisters) id rest
      ∙ ap (part_says rest) (under_key part_of id s.canisters))
      canister_says;
  requests = λ id. rows_say _ (codes "request_status") id (λ (r : Request). request_part r.answer) (λ (r : Request). request_rows r.answer) (request_of id 0 s.requests)
      (λ rest. (top_says canisters requests (unsigned_spelling s.time) (id ∷ rest)).1
      ∙ forked_says (map (under (λ part. part)) (by_id 0 s.requests)) (under_labeled (λ part. part) (by_id 0 s.requests)) id rest
      ∙ ap (part_says rest) (by_id_says id 0 s.requests))
      (λ r. request_says r.answer);
} where
  canisters : HashTree
  canisters = forked (map (under part_of) s.canisters)

  requests : HashTree
  requests = forked (map (under (λ part. part)) (by_id 0 s.requests))
