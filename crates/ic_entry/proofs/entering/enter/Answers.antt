use Rattle.ic_state.specs.Seen.{code_of}
use Rattle.ic_entry.proofs.Enters.{fresh_is}
use Rattle.ic_entry.proofs.entering.enter.Goals as goal

pub returns-clause-outcome : goal.returns-clause-outcome
returns-clause-outcome c =
    fresh_is (code_of c.args.code.now) c.args.store.now.lists c.enter_after.new.store.lists c.args.entry.target c.args.entry.kind c.args.entry.view c.args.limit c.used.result c.enter_after.new.meter.used c.new-meter.result c.in_ok-ended.ended
    c.new-meter.ensures c.used.ensures.used c.in_ok-ended.ensures.outcome
