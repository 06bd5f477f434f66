use Rattle.ic_calls.specs.Changes.{deleted}
use Rattle.ic_calls.proofs.Sets.{one_more}
use Rattle.ic_calls.proofs.deleting.delete_all.Goals as goal

pub loop-context-preserved : goal.loop-context-preserved
loop-context-preserved c = one_more deleted c.args.contexts.now c.loop-context.contexts c.loop-context.context-index c.context-item.result c.deleted.result c.loop-context.invariant c.deleted.ensures
