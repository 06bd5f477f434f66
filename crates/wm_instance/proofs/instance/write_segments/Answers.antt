use Rattle.std.proofs.Common.{◌+◌, ◌≤◌, ℕ, List, length, drop, sym, ap, ◌∙◌, arith}
use Rattle.wm_store.specs.Lists.{Lists}
use Rattle.wm_semantics.specs.Instance.{constant_of, with_segments}
use Rattle.wm_instance.proofs.Laid.{segment_fits, length-laid, with_segments-drop}
use Rattle.wm_instance.proofs.instance.write_segments.Goals as goal

pub write_segment-requires : goal.write_segment-requires
write_segment-requires c =
    let fits = segment_fits (length c.args.store.now.lists.memory) c.args.segments.now c.loop-segment.segment-index c.segment-item.result c.requires (omega arith) c.segment-item.is in
    omega arith

pub loop-segment-preserved : goal.loop-segment-preserved
loop-segment-preserved c =
    let s = c.segment-item.result in
    let old = c.loop-segment.store.lists in
    let others = drop (c.loop-segment.segment-index + 1) c.args.segments.now in
    let fits = segment_fits (length c.args.store.now.lists.memory) c.args.segments.now c.loop-segment.segment-index s c.requires (omega arith) c.segment-item.is in
    let room : constant_of s.offset + length s.bytes ≤ length old.memory = omega arith in
    let new = c.in_ok-write_segment.ensures.lists in
    let step = with_segments-drop c.args.segments.now c.loop-segment.segment-index s old.memory (omega arith) c.segment-item.is in
    record {
      size = ap (λ (l : Lists). length l.memory) new ∙ length-laid (constant_of s.offset) s.bytes old.memory room ∙ c.loop-segment.invariant.size;
      lists = ap (λ (l : Lists). record l { memory = with_segments others l.memory }) new ∙ ap (λ (m : List ℕ). record old { memory = m }) (sym step) ∙ c.loop-segment.invariant.lists;
      begun = c.in_ok-write_segment.ensures.begun ∙ c.loop-segment.invariant.begun;
    }
