use Rattle.ic_tree.specs.View.{view}
use Rattle.ic_witness.proofs.Depths.{pruned_shallow}
use Rattle.ic_witness.proofs.state.written.Goals as goal

pub write-requires : goal.write-requires
write-requires c = record { deep = pruned_shallow (view c.args.tree.now) c.args.paths.now _ 128 c.in_ok-pruned.ensures c.requires.shallow }
