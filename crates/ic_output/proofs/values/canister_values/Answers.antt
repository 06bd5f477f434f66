use Rattle.std.proofs.Common.{◌≡◌, ◌∙◌, ◌++◌, ap, rules, sym, map}
use Rattle.std.proofs.lemmas.List.{append-nil}
use Rattle.serde_json.specs.Data.{array}
use Rattle.serde_json.specs.View.{items_of, view}
use Rattle.serde_json.specs.declared.value.Value.{the_lemmas, Array}
use Rattle.ic_state.specs.Seen.{entry_of}
use Rattle.ic_output.specs.StateLine.{canister_data}
use Rattle.ic_output.proofs.Adding.{pushed}
use Rattle.ic_output.proofs.values.canister_values.Goals as goal

pub loop-id-init : goal.loop-id-init
loop-id-init c =
    let entries : c.into_iter-id-iterator.result ≡ c.args.canisters.now.entries = search rules in
    λ i. map view (c.new-values.ensures.items i) ++ map canister_data (map entry_of (entries i))

pub loop-id-preserved : goal.loop-id-preserved
loop-id-preserved c =
    let values = c.loop-id.values.items in
    let rest = c.next.new.self in
    ap (λ xs. map view xs ++ map canister_data (map entry_of rest)) c.in_ok-push.ensures.items
    ∙ (pushed canister_data values c.in_ok-canister_value.field-0 (entry_of (c.in-Some.id.now, c.in-Some.canister.now)) (map entry_of rest)
    (c.in_ok-canister_value.ensures ∙ ap (λ canister. canister_data (entry_of (c.in-Some.id.now, canister))) c.get.ensures)
    ∙ (ap (λ es. map view values ++ map canister_data (map entry_of es)) (sym c.in-Some.ensures.steps) ∙ c.loop-id.invariant))

pub returns : goal.returns
returns c =
    let values = c.loop-id.values.items in
    let done : map view values ≡ map canister_data (map entry_of c.args.canisters.now.entries) =
    sym (append-nil (map view values))
    ∙ (ap (λ es. map view values ++ map canister_data (map entry_of es)) (sym c.in-None.ensures.steps.0) ∙ c.loop-id.invariant) in
    let last : view (Array c.loop-id.values) ≡ array (items_of (map view values)) = search (rules, the_lemmas) in
    last ∙ ap (λ l. array (items_of l)) done
