use Rattle.ic_entry.proofs.Stores.{no_stable}
use Rattle.ic_entry.proofs.staging.new_store.Goals as goal

pub fill_stable-requires-clause-none : goal.fill_stable-requires-clause-none
fill_stable-requires-clause-none c = no_stable c.args.valid.now.«module» c.in-Ok.store.lists c.in-Ok.ensures.lists
