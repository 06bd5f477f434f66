use Rattle.std.proofs.Common.{rules}
use Rattle.ic_calls.proofs.Sends.{sent-after}
use Rattle.ic_calls.proofs.routing.send.Goals as goal

pub returns-clause-sent : goal.returns-clause-sent
returns-clause-sent c = sent-after c.args.sender.now c.args.calls c.args.answers c.args.parts.now _ c.give_all.new.parts c.give_all.result (search rules) c.give_all.ensures.given
