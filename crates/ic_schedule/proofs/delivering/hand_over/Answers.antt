use Rattle.std.proofs.Common.{◌≡◌, false, sym, ap, ◌∙◌}
use Rattle.ic_behaviour.specs.State.{State}
use Rattle.ic_state.specs.Seen.{state_of}
use Rattle.ic_behaviour.specs.Steps.{step}
use Rattle.ic_run_laws.specs.System.{system_rules}
use Rattle.ic_schedule.specs.Delivery.{is_to_management, is_managed_message, is_managed}
use Rattle.ic_schedule.proofs.Handings.{IsDelivered, takes_at, handed_over}
use Rattle.ic_schedule.proofs.delivering.hand_over.Goals as goal

pub deliver-requires : goal.deliver-requires
deliver-requires c = record {
  ready = rw c.at-env.ensures
      (takes_at c.args.charge.limit c.args.charge.price c.open.result c.take_out-parts.result.0 c.open.ensures.keeps c.args.place c.take_out-parts.result.1 c.take_out-parts.ensures.message c.take_out-parts.ensures.left
      c.callee-callee.result c.callee-callee.ensures);
}

is_delivered : (c : goal.In_ok-deliver) → IsDelivered c.args.charge.limit c.args.charge.price c.open.result c.args.place c.deliver.new.parts
is_delivered c =
    let m = c.take_out-parts.result.1 in
    let is_m = c.take_out-parts.ensures.message in
    let other : is_to_management m ≡ false = sym (ap is_managed_message is_m) ∙ ap (λ (s : State). is_managed s c.args.place) c.open.ensures.state ∙ c.requires.other in
    handed_over c.args.charge.limit c.args.charge.price c.open.result c.take_out-parts.result.0 c.open.ensures.keeps c.args.place m is_m c.take_out-parts.ensures.left c.callee-callee.result c.callee-callee.ensures
    c.deliver.new.parts other (rw c.at-env.ensures at c.in_ok-deliver.ensures.handled) c.in_ok-deliver.ensures.refused

pub seal-requires : goal.seal-requires
seal-requires c = (is_delivered c).keeps

pub returns : goal.returns
returns c = λ outside.
    c.seal.ensures ∙ (is_delivered c.before).state outside ∙ ap (λ (s : State). step (system_rules outside c.args.charge.limit c.args.charge.price) s c.args.place) c.open.ensures.state
