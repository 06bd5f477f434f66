use Rattle.std.proofs.Common.{◌≡◌, ◌∙◌, ◌+◌, ap, codes, rules}
use Rattle.std.specs.Int.{to_be_bytes, w64}
use Rattle.std.specs.List.{concat}
use Rattle.sha2.specs.Sha256.{sha256}
use Rattle.ic_leb.specs.Spelling.{unsigned_spelling}
use Rattle.ic_tree.specs.RequestId.{put_all, request_id_of}
use Rattle.ic_tree.specs.StateTree.{id_of_request}
use Rattle.ic_tree.proofs.Requests.{pair, put}
use Rattle.ic_tree.proofs.state.id_of_request.Goals as goal

pub returns : goal.returns
unfolding id_of_request request_id_of put_all
returns c =
    let r = c.args.request.now in
    let kind : c.as_slice.result.now ≡ codes "call" = search rules in
    let sender : c.bytes.result.now ≡ r.sender = search rules in
    let callee : c.bytes-2.result.now ≡ r.callee = search rules in
    let method : c.as_bytes.result.now ≡ r.method = search rules in
    let arg : c.deref.result.now ≡ r.arg = search rules in
    let nonce : c.as_slice-2.result.now ≡ to_be_bytes w64 c.args.number = search rules in
    let p1 = put _ (pair (codes "request_type") (codes "call")) _ _ _ c.in_ok-put_bytes.ensures (ap (pair (codes "request_type")) kind) c.new-pairs.ensures in
    let p2 = put _ (pair (codes "sender") r.sender) _ _ _ c.in_ok-put_bytes-2.ensures (ap (pair (codes "sender")) sender) p1 in
    let p3 = put _ (pair (codes "canister_id") r.callee) _ _ _ c.in_ok-put_bytes-3.ensures (ap (pair (codes "canister_id")) callee) p2 in
    let p4 = put _ (pair (codes "method_name") r.method) _ _ _ c.in_ok-put_bytes-4.ensures (ap (pair (codes "method_name")) method) p3 in
    let p5 = put _ (pair (codes "arg") r.arg) _ _ _ c.in_ok-put_bytes-5.ensures (ap (pair (codes "arg")) arg) p4 in
    let p6 = put _ (pair (codes "ingress_expiry") (unsigned_spelling (r.time + 300000000000))) _ _ _ c.in_ok-put_number.ensures
    (ap (λ t. pair (codes "ingress_expiry") (unsigned_spelling t)) c.expiry.ensures) p5 in
    let p7 = put _ (pair (codes "nonce") (to_be_bytes w64 c.args.number)) _ _ _ c.in_ok-put_bytes-6.ensures (ap (pair (codes "nonce")) nonce) p6 in
    c.hash.ensures ∙ ap (λ l. sha256 (concat l)) p7
