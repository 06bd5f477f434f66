use Rattle.std.proofs.Common.{ap, ◌∙◌, arith}
use Rattle.ic_behaviour.specs.State.{State}
use Rattle.ic_behaviour.specs.Steps.{along}
use Rattle.ic_behaviour.specs.Round.{first_phase}
use Rattle.ic_run_laws.specs.System.{system_rules}
use Rattle.ic_queue_rounds.proofs.Fronts.{begins, firsts_ready, are_firsts, few_firsts, rest_keep, sealed}
use Rattle.ic_queue_rounds.proofs.first.canister_turns.Goals as goal

pub handle_firsts-requires-clause-few : goal.handle_firsts-requires-clause-few
handle_firsts-requires-clause-few g c κs within =
    let rest = c.open-rest.result.0 in
    let queues = c.open-rest.result.1 in
    let is = c.open-rest.ensures.keeps in
    let firsts = c.open-firsts.result.0.items in
    let left = c.open-firsts.result.1 in
    let began = begins rest queues is c.in_ok-keys.keys.items c.in_ok-draw_all.field-0 firsts left c.in_ok-keys.ensures c.in_ok-draw_all.ensures c.open-firsts.ensures.firsts c.open-firsts.ensures.queues in
    omega (arith, c.open-firsts.result.0.ok.0, few_firsts rest queues is c.args.charge.limit c.args.charge.price firsts left began)

pub handle_firsts-requires-clause-firsts : goal.handle_firsts-requires-clause-firsts
handle_firsts-requires-clause-firsts g c κs within =
    let rest = c.open-rest.result.0 in
    let queues = c.open-rest.result.1 in
    let is = c.open-rest.ensures.keeps in
    let firsts = c.open-firsts.result.0.items in
    let left = c.open-firsts.result.1 in
    let began = begins rest queues is c.in_ok-keys.keys.items c.in_ok-draw_all.field-0 firsts left c.in_ok-keys.ensures c.in_ok-draw_all.ensures c.open-firsts.ensures.firsts c.open-firsts.ensures.queues in
    are_firsts rest queues is c.args.charge.limit c.args.charge.price firsts left began

pub handle_firsts-requires-clause-ready : goal.handle_firsts-requires-clause-ready
handle_firsts-requires-clause-ready g c κs within =
    let rest = c.open-rest.result.0 in
    let queues = c.open-rest.result.1 in
    let is = c.open-rest.ensures.keeps in
    let firsts = c.open-firsts.result.0.items in
    let left = c.open-firsts.result.1 in
    let began = begins rest queues is c.in_ok-keys.keys.items c.in_ok-draw_all.field-0 firsts left c.in_ok-keys.ensures c.in_ok-draw_all.ensures c.open-firsts.ensures.firsts c.open-firsts.ensures.queues in
    rw c.at-env.ensures (firsts_ready rest queues is c.args.charge.limit c.args.charge.price firsts left began)

pub handle_firsts-requires-clause-keep : goal.handle_firsts-requires-clause-keep
handle_firsts-requires-clause-keep g c κs within =
    let rest = c.open-rest.result.0 in
    let queues = c.open-rest.result.1 in
    let is = c.open-rest.ensures.keeps in
    let firsts = c.open-firsts.result.0.items in
    let left = c.open-firsts.result.1 in
    let began = begins rest queues is c.in_ok-keys.keys.items c.in_ok-draw_all.field-0 firsts left c.in_ok-keys.ensures c.in_ok-draw_all.ensures c.open-firsts.ensures.firsts c.open-firsts.ensures.queues in
    rest_keep rest queues is c.args.charge.limit c.args.charge.price firsts left began

pub seal-requires : goal.seal-requires
seal-requires g c =
    let rest = c.open-rest.result.0 in
    let queues = c.open-rest.result.1 in
    let is = c.open-rest.ensures.keeps in
    let firsts = c.open-firsts.result.0.items in
    let left = c.open-firsts.result.1 in
    let began = begins rest queues is c.in_ok-keys.keys.items c.in_ok-draw_all.field-0 firsts left c.in_ok-keys.ensures c.in_ok-draw_all.ensures c.open-firsts.ensures.firsts c.open-firsts.ensures.queues in
    let ends = sealed rest queues is c.args.charge.limit c.args.charge.price firsts left began c.in_ok-parts.parts c.taken_apart-rest.result.0 c.in_ok-queues.queues
    c.taken_apart-rest.result.1 c.in_ok-parts.ensures.keep (rw c.at-env.ensures at c.in_ok-parts.ensures.stored) c.taken_apart-rest.ensures.rest c.taken_apart-rest.ensures.messages
    c.in_ok-queues.ensures.messages c.in_ok-queues.ensures.canisters in
    ends.keeps

pub returns : goal.returns
returns g c =
    let rest = c.open-rest.result.0 in
    let queues = c.open-rest.result.1 in
    let is = c.open-rest.ensures.keeps in
    let firsts = c.open-firsts.result.0.items in
    let left = c.open-firsts.result.1 in
    let began = begins rest queues is c.in_ok-keys.keys.items c.in_ok-draw_all.field-0 firsts left c.in_ok-keys.ensures c.in_ok-draw_all.ensures c.open-firsts.ensures.firsts c.open-firsts.ensures.queues in
    let ends = sealed rest queues is c.args.charge.limit c.args.charge.price firsts left began c.in_ok-parts.parts c.taken_apart-rest.result.0 c.in_ok-queues.queues
    c.taken_apart-rest.result.1 c.in_ok-parts.ensures.keep (rw c.at-env.ensures at c.in_ok-parts.ensures.stored) c.taken_apart-rest.ensures.rest c.taken_apart-rest.ensures.messages
    c.in_ok-queues.ensures.messages c.in_ok-queues.ensures.canisters in
    λ outside.
    let rules = system_rules outside c.args.charge.limit c.args.charge.price in
    c.seal.ensures ∙ ends.state outside ∙ ap (λ (t : State). along rules t (first_phase rules t)) c.open-rest.ensures.state
