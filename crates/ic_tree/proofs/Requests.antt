-- Requests by their ids.
use Rattle.std.proofs.Common.{◌≡◌, ◌∙◌, ap, ap₂, sym, arith, ℕ, suc, ◌+◌, ◌<◌, ◌≤◌, List, ◌∷◌, ◌++◌, length, map, take, drop, Bor}
use Rattle.std.specs.BTreeMap.{insert_entry}
use Rattle.std.specs.List.{slice_index_or}
use Rattle.std.specs.Ordering.{nat_cmp}
use Rattle.std.specs.Cmp.Lexicographic.{slice_cmp}
use Rattle.std.proofs.Math.Seq.{drop-cons}
use Rattle.std.proofs.lemmas.List.{take_all}
use Rattle.std.proofs.lemmas.Simd.{map-map}
use Rattle.sha2.specs.Sha256.{sha256}
use Rattle.ic_behaviour.specs.declared.request.Request.{Request}
use Rattle.ic_tree.specs.RequestId.{put_in_order}
use Rattle.ic_tree.specs.HashTree.{forked}
use Rattle.ic_tree.specs.StateTree.{by_id, id_of_request, lent_tree, part_of, request_part, request_tree, requests_tree}

-- the requests after one, with this one
pub one_more : (rs : List Request) (r : Request) (number : ℕ) → number < length rs → r ≡ slice_index_or rs number r
    → insert_entry (slice_cmp nat_cmp) (by_id (number + 1) (drop (number + 1) rs)) (id_of_request number r) (request_part r.answer) ≡ by_id number (drop number rs)
unfolding by_id
one_more rs r number lt is =
    let next : suc number ≡ number + 1 = omega arith in
    let less : drop number rs ≡ r ∷ drop (number + 1) rs =
    drop-cons rs number r lt ∙ ap₂ (λ x n. x ∷ drop n rs) (sym is) next in
    sym (ap (by_id number) less)

-- the requests that are lent in the order of their ids, under forks
pub all_lent : (es : List (List ℕ × Bor Request)) (rs : List Request) (count : ℕ) → length es ≤ count → map part_of es ≡ by_id 0 rs
    → forked (map lent_tree (take count es)) ≡ requests_tree rs
all_lent es rs count all is =
    ap forked (ap (map lent_tree) (take_all count es all) ∙ (sym (map-map request_tree part_of es) ∙ ap (map request_tree) is))

-- the pair of a key and a value of bytes
abbrev pub pair : (key value : List ℕ) → List ℕ
pair key value = sha256 key ++ sha256 value

-- pairs with one more, in other words for it and for the pairs before
pub put : (given wanted : List ℕ) (before pairs all : List (List ℕ)) → all ≡ put_in_order given before → given ≡ wanted → before ≡ pairs
    → all ≡ put_in_order wanted pairs
put given wanted before pairs all is as_wanted as_pairs = is ∙ ap₂ put_in_order as_wanted as_pairs
