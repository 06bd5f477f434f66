use Rattle.std.proofs.Common.{ap, sym, ◌∙◌, arith, length, slice_set}
use Rattle.ic_behaviour.specs.Deliver.{fill}
use Rattle.ic_calls.proofs.Sends.{fill-at, fill-beyond}
use Rattle.ic_calls.proofs.routing.fill.Goals as goal

pub returns-then-place-len : goal.returns-then-place-len
returns-then-place-len c =
    ap (slice_set c.requests.inside.items.items c.args.number) c.set_answer.ensures
    ∙ fill-at c.args.number c.args.response c.requests.inside.items.items c.index_mut.result.now (omega (arith, c.if-place-len.true, c.len.ensures, c.requests.inside.items.ok.0)) c.index_mut.ensures.value
    ∙ ap (fill c.args.number c.args.response) c.requests.view_is

pub returns-else-place-len : goal.returns-else-place-len
returns-else-place-len c =
    sym (fill-beyond c.args.number c.args.response c.args.requests.now (omega (arith, c.if-place-len.false, c.len.ensures, c.requests.inside.items.ok.0, ap length c.requests.view_is)))
