use Rattle.ic_state.specs.Seen.{code_of}
use Rattle.ic_api.specs.Running.{api_reply}
use Rattle.ic_entry.proofs.Enters.{returns_is, traps_is}
use Rattle.ic_entry.proofs.entering.enter_unheard.Goals as goal

pub returns-in-Returned-clause-outcome : goal.returns-in-Returned-clause-outcome
returns-in-Returned-clause-outcome c =
    returns_is (code_of c.args.code.now) c.args.store.now.lists c.invoke.new.store.lists c.args.entry.target c.args.entry.kind c.args.entry.view c.new-api.result c.invoke.new.host c.args.meter.now c.invoke.new.meter.used c.in_ok-ended.ended
    c.new-api.ensures (c.in_ok-ended.ensures.function api_reply c.host_is_function.ensures.rises c.host_is_function.ensures.agrees) c.finish.result c.in-Returned.is c.finish.ensures.effects

pub returns-in-Trapped-clause-outcome : goal.returns-in-Trapped-clause-outcome
returns-in-Trapped-clause-outcome c =
    traps_is (code_of c.args.code.now) c.args.store.now.lists c.invoke.new.store.lists c.args.entry.target c.args.entry.kind c.args.entry.view c.new-api.result c.invoke.new.host c.args.meter.now c.invoke.new.meter.used c.in_ok-ended.ended
    c.new-api.ensures (c.in_ok-ended.ensures.function api_reply c.host_is_function.ensures.rises c.host_is_function.ensures.agrees) c.in-Trapped.cause c.in-Trapped.is
