use Rattle.std.proofs.Common.{sym}
use Rattle.wm_valid.specs.Space.{imported_type}
use Rattle.wm_valid.proofs.Steps.{filter_map_more}
use Rattle.wm_valid.proofs.space.function_types.Goals as goal

pub loop-import-preserved : goal.loop-import-preserved
loop-import-preserved c =
    rw (c.in_ok-push_imported.ensures, c.loop-import.invariant)
    (sym (filter_map_more imported_type c.deref-import-items.result.now c.loop-import.import-index c.import-item.result c.loop-import-test.true c.import-item.is))
