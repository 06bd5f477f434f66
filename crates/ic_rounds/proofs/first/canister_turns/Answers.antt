use Rattle.std.proofs.Common.{List, length, refl, ap, ◌∙◌, arith}
use Rattle.std.specs.List.{fold}
use Rattle.ic_behaviour.specs.declared.call.Message.{Message}
use Rattle.ic_behaviour.specs.State.{State}
use Rattle.ic_behaviour.specs.Steps.{along}
use Rattle.ic_behaviour.specs.Round.{first_phase}
use Rattle.ic_run_laws.specs.System.{system_rules}
use Rattle.ic_rounds.specs.Taking.{is_key, sort_out, none_taken}
use Rattle.ic_rounds.proofs.FirstPhases.{passed, passed_few, passed_firsts, passed_ready, code_ends, many}
use Rattle.ic_rounds.proofs.first.canister_turns.Goals as goal

pub handle_firsts-requires-clause-few : goal.handle_firsts-requires-clause-few
handle_firsts-requires-clause-few g c κs within =
    let p = c.open-parts.result in
    let is = c.open-parts.ensures.keeps in
    let firsts = c.in_ok-firsts.firsts.items in
    let left = c.in_ok-firsts.left in
    let taken = c.in_ok-taken_out.ensures ∙ ap (λ (ms : List Message). fold (sort_out (is_key p.canisters.entries)) none_taken ms) c.replace-messages.ensures.value in
    let values = passed p is c.in_ok-taken_out.field-0 firsts left taken c.in_ok-firsts.ensures.firsts c.in_ok-firsts.ensures.left in
    omega (arith, c.in_ok-firsts.firsts.ok.0, passed_few p is left firsts values)

pub handle_firsts-requires-clause-firsts : goal.handle_firsts-requires-clause-firsts
handle_firsts-requires-clause-firsts g c κs within =
    let p = c.open-parts.result in
    let is = c.open-parts.ensures.keeps in
    let firsts = c.in_ok-firsts.firsts.items in
    let left = c.in_ok-firsts.left in
    let taken = c.in_ok-taken_out.ensures ∙ ap (λ (ms : List Message). fold (sort_out (is_key p.canisters.entries)) none_taken ms) c.replace-messages.ensures.value in
    let values = passed p is c.in_ok-taken_out.field-0 firsts left taken c.in_ok-firsts.ensures.firsts c.in_ok-firsts.ensures.left in
    passed_firsts p is left firsts values

pub handle_firsts-requires-clause-ready : goal.handle_firsts-requires-clause-ready
handle_firsts-requires-clause-ready g c κs within =
    let p = c.open-parts.result in
    let is = c.open-parts.ensures.keeps in
    let firsts = c.in_ok-firsts.firsts.items in
    let left = c.in_ok-firsts.left in
    let taken = c.in_ok-taken_out.ensures ∙ ap (λ (ms : List Message). fold (sort_out (is_key p.canisters.entries)) none_taken ms) c.replace-messages.ensures.value in
    let values = passed p is c.in_ok-taken_out.field-0 firsts left taken c.in_ok-firsts.ensures.firsts c.in_ok-firsts.ensures.left in
    rw c.at-env.ensures (passed_ready p is left firsts values c.args.limit c.args.price _ refl)

pub seal-requires : goal.seal-requires
seal-requires g c =
    let p = c.open-parts.result in
    let is = c.open-parts.ensures.keeps in
    let firsts = c.in_ok-firsts.firsts.items in
    let left = c.in_ok-firsts.left in
    let taken = c.in_ok-taken_out.ensures ∙ ap (λ (ms : List Message). fold (sort_out (is_key p.canisters.entries)) none_taken ms) c.replace-messages.ensures.value in
    let values = passed p is c.in_ok-taken_out.field-0 firsts left taken c.in_ok-firsts.ensures.firsts c.in_ok-firsts.ensures.left in
    (code_ends p is left firsts values c.args.limit c.args.price c.in_ok-parts.parts c.in_ok-parts.ensures.keep (rw c.at-env.ensures at c.in_ok-parts.ensures.stored)).0

pub returns-clause-state : goal.returns-clause-state
returns-clause-state g c =
    let p = c.open-parts.result in
    let is = c.open-parts.ensures.keeps in
    let firsts = c.in_ok-firsts.firsts.items in
    let left = c.in_ok-firsts.left in
    let taken = c.in_ok-taken_out.ensures ∙ ap (λ (ms : List Message). fold (sort_out (is_key p.canisters.entries)) none_taken ms) c.replace-messages.ensures.value in
    let values = passed p is c.in_ok-taken_out.field-0 firsts left taken c.in_ok-firsts.ensures.firsts c.in_ok-firsts.ensures.left in
    λ outside.
    let rules = system_rules outside c.args.limit c.args.price in
    c.seal.ensures ∙ (code_ends p is left firsts values c.args.limit c.args.price c.in_ok-parts.parts c.in_ok-parts.ensures.keep (rw c.at-env.ensures at c.in_ok-parts.ensures.stored)).1 outside
    ∙ ap (λ (t : State). along rules t (first_phase rules t)) c.open-parts.ensures.state

pub returns-clause-handled : goal.returns-clause-handled
returns-clause-handled g c =
    let p = c.open-parts.result in
    let is = c.open-parts.ensures.keeps in
    let firsts = c.in_ok-firsts.firsts.items in
    let left = c.in_ok-firsts.left in
    let taken = c.in_ok-taken_out.ensures ∙ ap (λ (ms : List Message). fold (sort_out (is_key p.canisters.entries)) none_taken ms) c.replace-messages.ensures.value in
    let values = passed p is c.in_ok-taken_out.field-0 firsts left taken c.in_ok-firsts.ensures.firsts c.in_ok-firsts.ensures.left in
    λ outside.
    c.len-handled.ensures ∙ c.in_ok-firsts.firsts.ok.0 ∙ ap length values.firsts_are ∙ many p is outside c.args.limit c.args.price
    ∙ ap (λ (t : State). length (first_phase (system_rules outside c.args.limit c.args.price) t)) c.open-parts.ensures.state
