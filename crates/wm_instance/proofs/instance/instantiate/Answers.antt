use Rattle.std.proofs.Common.{◌≡◌, None, sym}
use Rattle.wm_typing.proofs.Past.{both_true}
use Rattle.wm_valid.specs.Checked.{checked}
use Rattle.wm_valid.proofs.EveryCheck.{passes_of_checked}
use Rattle.wm_semantics.specs.Instance.{elements_fit, segments_fit, table_size, memory_size}
use Rattle.wm_instance.proofs.FirstStore.{first_store_fits, pages_within}
use Rattle.wm_instance.proofs.instance.instantiate.Goals as goal

pub first_store-requires-clause-pages : goal.first_store-requires-clause-pages
first_store-requires-clause-pages c = rw c.module-module.ensures.same (pages_within c.args.valid.now.«module» (passes_of_checked c.args.valid.now.«module» c.module-module.ensures.valid.passes))

pub returns-clause-fits : goal.returns-clause-fits
returns-clause-fits c =
    let m = c.module-module.result.now in
    let inside = both_true (elements_fit (table_size m) m.elements) (segments_fit (memory_size m) m.segments) (sym c.if-not-segments_are_inside.ensures) in
    let passes : checked m ≡ None = rw c.module-module.ensures.same c.module-module.ensures.valid.passes in
    rw (c.in_ok-store.ensures.lists, ← c.module-module.ensures.same) (first_store_fits m (passes_of_checked m passes) inside.0 inside.1)
