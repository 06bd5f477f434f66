use Rattle.std.proofs.Common.{◌≡◌, length, drop}
use Rattle.wm_semantics.specs.Instance.{with_segments}
use Rattle.wm_instance.proofs.instance.write_segments.Given as goal

abbrev pub invariant-loop-segment : goal.invariant-loop-segment
invariant-loop-segment l = record {
  size : length l.store.lists.memory ≡ length l.fn.store.lists.memory;
  lists : record l.store.lists { memory = with_segments (drop l.segment-index l.segments) l.store.lists.memory } ≡ record l.fn.store.lists { memory = with_segments l.segments l.fn.store.lists.memory };
  begun : l.store.begun ≡ l.fn.store.begun;
}
