use Rattle.std.proofs.Common.{◌≡◌, None, length, drop, replicate}
use Rattle.wm_semantics.specs.Instance.{with_elements}
use Rattle.wm_instance.proofs.tables.table_of.Given as goal

abbrev pub invariant-loop-element : goal.invariant-loop-element
invariant-loop-element l = record {
  size : length l.table.items ≡ l.size;
  laid : with_elements (drop l.element-index l.elements) l.table.items ≡ with_elements l.elements (replicate l.size None);
}
