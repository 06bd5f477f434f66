-- The tree of a state (IC Interface Specification, "The system state tree").
use Rattle.std.specs.Borrow.{Bor}
use Rattle.std.specs.Prelude.{ℕ, ◌+◌, List, [], ◌∷◌, codes, map, option_map, Option, Some, None}
use Rattle.std.specs.BTreeMap.{insert_entry}
use Rattle.std.specs.Int.{to_be_bytes, w64}
use Rattle.std.specs.Option.{option_to_list}
use Rattle.std.specs.Ordering.{nat_cmp}
use Rattle.std.specs.Cmp.Lexicographic.{slice_cmp}
use Rattle.ic_leb.specs.Spelling.{unsigned_spelling}
use Rattle.ic_behaviour.specs.declared.call.Response.{Response}
use Rattle.ic_behaviour.specs.declared.call.Response.TheVariants.{Reply, Reject}
use Rattle.ic_behaviour.specs.declared.request.Request.{Request}
use Rattle.ic_behaviour.specs.State.{Canister, Code, State}
use Rattle.ic_tree.specs.declared.fields.Field.{Field}
use Rattle.ic_tree.specs.declared.fields.Field.TheVariants.{Bytes, Number}
use Rattle.ic_tree.specs.declared.state.Keep.{Keep}
use Rattle.ic_tree.specs.declared.state.Keep.TheVariants.{Whole, Root}
use Rattle.ic_tree.specs.HashTree.{HashTree, forked, labeled, leaf_at, pruned, root_hash}
use Rattle.ic_tree.specs.RequestId.{request_id_of}

-- ---- canisters

abbrev pub code_leaf : Code → HashTree
code_leaf code = leaf_at (codes "module_hash") code.hash

-- what is under the id of a canister
abbrev pub canister_part : (certified : List ℕ) → Option Code → HashTree
canister_part certified code = forked (leaf_at (codes "certified_data") certified ∷ option_to_list (option_map code_leaf code))

abbrev pub canister_tree : List ℕ × Canister → HashTree
canister_tree e = labeled e.0 (canister_part e.1.certified e.1.code)

-- ---- requests

abbrev pub status_leaf : List ℕ → HashTree
status_leaf status = leaf_at (codes "status") status

-- what is under the id of a request
abbrev pub request_part : Option Response → HashTree
request_part None = forked (status_leaf (codes "processing") ∷ [])
request_part (Some (Reply bytes)) = forked (leaf_at (codes "reply") bytes ∷ status_leaf (codes "replied") ∷ [])
request_part (Some (Reject code message)) = forked
    (leaf_at (codes "reject_code") (unsigned_spelling code)
    ∷ leaf_at (codes "reject_message") message
    ∷ status_leaf (codes "rejected") ∷ [])

-- what the request with this number is hashed as: it expires five minutes after it was submitted
abbrev pub fields_of : ℕ → Request → List (List ℕ × Field)
fields_of number r =
    (codes "request_type", Bytes (codes "call"))
    ∷ (codes "sender", Bytes r.sender)
    ∷ (codes "canister_id", Bytes r.callee)
    ∷ (codes "method_name", Bytes r.method)
    ∷ (codes "arg", Bytes r.arg)
    ∷ (codes "ingress_expiry", Number (r.time + 300000000000))
    ∷ (codes "nonce", Bytes (to_be_bytes w64 number)) ∷ []

unfoldable pub id_of_request : ℕ → Request → List ℕ
id_of_request number r = request_id_of (fields_of number r)

-- what is under the ids of the requests, in rising order; of two requests with one id the earlier
unfoldable pub by_id : ℕ → List Request → List (List ℕ × HashTree)
by_id number [] = []
by_id number (r ∷ rs) =
    insert_entry (slice_cmp nat_cmp) (by_id (number + 1) rs) (id_of_request number r) (request_part r.answer)

abbrev pub request_tree : List ℕ × HashTree → HashTree
request_tree e = labeled e.0 e.1

-- the id of a request that is lent, and what is under it
abbrev pub part_of : List ℕ × Bor Request → List ℕ × HashTree
part_of e = (e.0, request_part e.1.now.answer)

-- the tree of a request that is lent, under its id
abbrev pub lent_tree : List ℕ × Bor Request → HashTree
lent_tree e = request_tree (part_of e)

-- a tree, or its root hash in its place
unfoldable pub kept : Keep → HashTree → HashTree
kept Whole tree = tree
kept Root tree = pruned (root_hash tree)

-- the tree of the requests
abbrev pub requests_tree : List Request → HashTree
requests_tree requests = forked (map request_tree (by_id 0 requests))

-- ---- the state

-- the tree of a state with this tree for its requests
abbrev pub tree_over : State → HashTree → HashTree
tree_over s requests = forked
    (labeled (codes "canister") (forked (map canister_tree s.canisters))
    ∷ labeled (codes "request_status") requests
    ∷ leaf_at (codes "time") (unsigned_spelling s.time) ∷ [])

unfoldable pub state_tree_of : State → HashTree
state_tree_of s = tree_over s (requests_tree s.requests)
