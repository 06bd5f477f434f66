use Rattle.std.proofs.Common.{◌∙◌}
use Rattle.ic_state.specs.Seen.{code_of}
use Rattle.ic_api.specs.Hearing.{hearing_reply}
use Rattle.ic_entry.proofs.Listens.{heard_returns, heard_traps, heard_is}
use Rattle.ic_entry.proofs.entering.enter_traced.Goals as goal

pub returns-in-Returned-clause-outcome : goal.returns-in-Returned-clause-outcome
returns-in-Returned-clause-outcome c =
    heard_returns c.args.heard.now (code_of c.args.code.now) c.args.store.now.lists c.invoke_traced.new.store.lists c.args.entry.target c.args.entry.kind c.args.entry.view c.new-host.result c.invoke_traced.new.host c.args.meter.now c.invoke_traced.new.meter.used c.in_ok-ended.field-0.ended
    (cc) (c.in_ok-ended.ensures.function hearing_reply c.hearing_is_function.ensures.rises c.hearing_is_function.ensures.agrees) c.finish.result c.in-Returned.is (cc)

pub returns-in-Returned-clause-heard : goal.returns-in-Returned-clause-heard
returns-in-Returned-clause-heard c =
    c.spend.ensures ∙ c.end-api.ensures.heard
    ∙ heard_is c.args.heard.now (code_of c.args.code.now) c.args.store.now.lists c.invoke_traced.new.store.lists c.args.entry.target c.args.entry.kind c.args.entry.view c.new-host.result c.invoke_traced.new.host c.args.meter.now c.invoke_traced.new.meter.used c.in_ok-ended.field-0.ended
    (cc) (c.in_ok-ended.ensures.function hearing_reply c.hearing_is_function.ensures.rises c.hearing_is_function.ensures.agrees)

pub returns-in-Trapped-clause-outcome : goal.returns-in-Trapped-clause-outcome
returns-in-Trapped-clause-outcome c =
    heard_traps c.args.heard.now (code_of c.args.code.now) c.args.store.now.lists c.invoke_traced.new.store.lists c.args.entry.target c.args.entry.kind c.args.entry.view c.new-host.result c.invoke_traced.new.host c.args.meter.now c.invoke_traced.new.meter.used c.in_ok-ended.field-0.ended
    (cc) (c.in_ok-ended.ensures.function hearing_reply c.hearing_is_function.ensures.rises c.hearing_is_function.ensures.agrees) c.in-Trapped.trap c.in-Trapped.is

pub returns-in-Trapped-clause-heard : goal.returns-in-Trapped-clause-heard
returns-in-Trapped-clause-heard c =
    c.spend.ensures ∙ c.end-api.ensures.heard
    ∙ heard_is c.args.heard.now (code_of c.args.code.now) c.args.store.now.lists c.invoke_traced.new.store.lists c.args.entry.target c.args.entry.kind c.args.entry.view c.new-host.result c.invoke_traced.new.host c.args.meter.now c.invoke_traced.new.meter.used c.in_ok-ended.field-0.ended
    (cc) (c.in_ok-ended.ensures.function hearing_reply c.hearing_is_function.ensures.rises c.hearing_is_function.ensures.agrees)
