use Rattle.std.proofs.Common.{ap, sym, ◌∙◌}
use Rattle.ic_behaviour.specs.declared.call.Message.TheVariants.{Answer}
use Rattle.ic_state.specs.declared.canister.Canister.{Canister}
use Rattle.ic_state.specs.Seen.{seen}
use Rattle.ic_calls.specs.Received.{runs_callback}
use Rattle.ic_calls.proofs.Receives.{runs_there}
use Rattle.ic_calls.proofs.receiving.take_response.Goals as goal

pub returns-clause-runs : goal.returns-clause-runs
returns-clause-runs c =
    runs_there c.in-Canister.context c.args.canister.now.contexts c.take_refund-place.new.canister.contexts c.take_refund-place.result c.context_at.result
    (ap (λ (a : Canister). a.contexts) c.take_refund-place.ensures.taken) c.take_refund-place.ensures.place c.context_at.ensures
    ∙ ap (λ from. runs_callback (seen c.args.canister.now) (Answer from c.in-Answer.sender c.in-Answer.response c.in-Answer.refund)) (sym c.in-Canister.is)
    ∙ ap (runs_callback (seen c.args.canister.now)) (sym c.in-Answer.is)
