use Rattle.ic_calls.proofs.Keeps.{closes_keep}
use Rattle.ic_calls.proofs.closing.close_after.Goals as goal

pub returns-clause-keeps : goal.returns-clause-keeps
returns-clause-keeps c = closes_keep c.args.canister.now c.remove_closed.new.contexts c.stop_if_due.new.phase c.remove_closed.ensures c.stop_if_due.ensures c.requires.keeps
