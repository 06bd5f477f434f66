use Rattle.std.proofs.Common.{◌≡◌, ◌∙◌, ◌+◌, ◌∷◌, ◌++◌, [], ap, ap₂, rules, sym, map, take}
use Rattle.std.specs.List.{concat}
use Rattle.std.proofs.lemmas.List.{map-append, take_all, take_more}
use Rattle.sha2.specs.Sha256.{sha256}
use Rattle.ic_tree.specs.RequestId.{in_order, pair_of, put_all, put_in_order, request_id_of}
use Rattle.ic_tree.proofs.Order.{put_more}
use Rattle.ic_tree.proofs.fields.request_id.Goals as goal

pub loop-field-init : goal.loop-field-init
unfolding put_all
loop-field-init c = c.new-pairs.ensures

pub loop-field-preserved : goal.loop-field-preserved
loop-field-preserved c =
    let i = c.loop-field.field-index in
    let fields = c.args.fields.now in
    let field = c.field-item.result in
    let more : map pair_of (take (i + 1) fields) ≡ map pair_of (take i fields) ++ pair_of field ∷ [] =
    ap (map pair_of) (take_more fields i field c.loop-field-test.true)
    ∙ (map-append pair_of (take i fields) _ ∙ ap (λ f. map pair_of (take i fields) ++ pair_of f ∷ []) (sym c.field-item.is)) in
    let key : c.as_str.result.now ≡ field.0 = search rules in
    let value : c.field.inside.0.1.0 ≡ field.1 = search rules in
    let given : pair_of (c.as_str.result.now, c.field.inside.0.1.0) ≡ pair_of field = ap₂ (λ k v. pair_of (k, v)) key value in
    c.in_ok-put_field.ensures ∙ (ap (λ p. put_in_order p c.loop-field.pairs) given ∙ (ap (put_in_order (pair_of field)) c.loop-field.invariant
    ∙ (sym (put_more [] (map pair_of (take i fields)) (pair_of field)) ∙ ap in_order (sym more))))

pub returns : goal.returns
unfolding request_id_of
returns c =
    let fields = c.args.fields.now in
    let whole : take c.loop-field.field-index fields ≡ fields = take_all c.loop-field.field-index fields c.loop-field-test.false in
    c.hash.ensures ∙ (ap (λ l. sha256 (concat l)) c.loop-field.invariant ∙ ap (λ l. sha256 (concat (in_order (map pair_of l)))) whole)
