use Rattle.std.proofs.Common.{◌≡◌, ◌-◌, ◌∙◌, ap, codes, length, rules, sym, arith}
use Rattle.serde_json.specs.Data.{no_members, object}
use Rattle.serde_json.specs.View.{members_view, view}
use Rattle.serde_json.proofs.OnLiterals.{serde_json_on_literals}
use Rattle.serde_json.specs.declared.value.Value.{the_lemmas, Object}
use Rattle.ic_behaviour.specs.Items.{held}
use Rattle.ic_state.specs.Seen.{state_of}
use Rattle.ic_output.specs.StateLine.{canister_data, count_data, decimal_data, list_of, state_data}
use Rattle.ic_output.proofs.Adding.{add}
use Rattle.ic_output.proofs.values.state_value.Goals as goal

pub returns : goal.returns
unfolding serde_json_on_literals state_data
returns c list keeps count =
    let s = state_of (record c.args.parts.now { messages = list }) in
    let cycles : c.args.parts.now.created - c.args.parts.now.burned ≡ held s = (let sum = keeps.sound.cycles.conserved in omega arith) in
    let m0 : members_view c.new-map.result.entries ≡ no_members = ap (λ es. members_view es) c.new-map.ensures.empty in
    let m1 = add (codes "burned") _ (decimal_data s.burned) _ _ _ c.in_ok-map.ensures c.in_ok-burned.ensures m0 in
    let m2 = add (codes "canisters") _ (list_of canister_data s.canisters) _ _ _ c.in_ok-map-2.ensures c.in_ok-canisters.ensures m1 in
    let m3 = add (codes "created") _ (decimal_data s.created) _ _ _ c.in_ok-map-3.ensures c.in_ok-created.ensures m2 in
    let m4 = add (codes "held") _ (decimal_data (held s)) _ _ _ c.in_ok-map-4.ensures (c.in_ok-held.ensures ∙ ap decimal_data cycles) m3 in
    let m5 = add (codes "messages") _ (count_data (length list)) _ _ _ c.in_ok-map-5.ensures (c.from-messages.ensures ∙ ap count_data (sym count)) m4 in
    let m6 = add (codes "time") _ (decimal_data s.time) _ _ _ c.in_ok-map-6.ensures c.in_ok-time.ensures m5 in
    let last : view (Object c.in_ok-map-6.map) ≡ object (members_view c.in_ok-map-6.map.entries) = search (rules, the_lemmas) in
    last ∙ ap object m6
