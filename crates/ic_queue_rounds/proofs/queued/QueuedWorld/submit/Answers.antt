use Rattle.std.proofs.Common.{◌≡◌, ◌++◌, ◌∷◌, [], length, refl, ap, ap₂, ◌∙◌, rules}
use Rattle.ic_behaviour.specs.declared.call.Origin.TheVariants.{Ingress}
use Rattle.ic_behaviour.specs.declared.call.Message.TheVariants.{Call}
use Rattle.ic_state.specs.Seen.{state_of}
use Rattle.ic_state.proofs.Worlds.{submitted_now}
use Rattle.ic_queues.specs.Queued.{Queued}
use Rattle.ic_queue_rounds.specs.InQueues.{with_messages}
use Rattle.ic_queue_rounds.proofs.queued.QueuedWorld.submit.Goals as goal

pub invariant_of-result : goal.invariant_of-result
invariant_of-result c =
    let rest = c.self.inside.rest in
    let queues = c.self.inside.queues in
    let after = record rest { requests = c.push-2.new.self } in
    let more = c.in_ok-queues.queues in
    let messages : more.messages ≡ queues.messages ++ Call (Ingress (length rest.requests)) c.args.sender c.args.callee c.in_ok-copy.field-0 c.in_ok-copy-2.field-0 0 ∷ [] =
    ap (λ (w : Queued). w.messages) c.in_ok-queues.ensures ∙ ap (λ n. queues.messages ++ Call (Ingress n) c.args.sender c.args.callee c.in_ok-copy.field-0 c.in_ok-copy-2.field-0 0 ∷ []) (search rules) in
    record {
      keeps = submitted_now (with_messages rest queues.messages) (with_messages after more.messages) c.args.sender c.args.callee c.args.method c.args.arg c.in_ok-copy.field-0 c.in_ok-copy-2.field-0 c.args.self
          c.self.view_is c.self.invariant.keeps c.requires c.in_ok-copy.ensures c.in_ok-copy-2.ensures refl
          (ap₂ (λ ms rs. record (state_of (with_messages rest queues.messages)) { messages = ms; requests = rs }) messages (search rules));
      canisters = ap (λ (w : Queued). w.canisters) c.in_ok-queues.ensures ∙ c.self.invariant.canisters;
      none = c.self.invariant.none;
    }
