use Rattle.ic_calls.proofs.PhaseKeeps.{waited_keeps}
use Rattle.ic_calls.proofs.phases.await_stop.Goals as goal

pub returns-clause-keeps : goal.returns-clause-keeps
returns-clause-keeps c = waited_keeps c.args.canister.now c.wait.new.phase c.args.waiter c.wait.result c.requires.keeps c.requires.room c.wait.ensures.waits c.wait.ensures.same
