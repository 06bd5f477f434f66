use Rattle.std.proofs.Common.{ℕ, List, Option, ap, ◌∙◌}
use Rattle.wm_tree.specs.declared.parts.Segment.{Segment}
use Rattle.wm_store.specs.Lists.{written, or_stays}
use Rattle.wm_semantics.specs.Instance.{constant_of}
use Rattle.wm_instance.proofs.Laid.{written-laid}
use Rattle.wm_instance.proofs.instance.write_segment.Goals as goal

pub returns-clause-lists : goal.returns-clause-lists
returns-clause-lists c =
    let s = c.args.segment.now in
    let lists = c.args.store.now.lists in
    let at = c.constant_of-at.ensures ∙ ap constant_of (c.deref.ensures.value ∙ ap (λ (x : Segment). x.offset) c.segment.view_is) in
    let bytes = c.deref-2.ensures.value ∙ ap (λ (x : Segment). x.bytes) c.segment.view_is in
    let here = ap (λ (n : ℕ). written n c.deref-2.result.now lists.memory) at ∙ ap (λ (bs : List ℕ). written (constant_of s.offset) bs lists.memory) bytes
    ∙ written-laid (constant_of s.offset) s.bytes lists.memory c.requires in
    c.in_ok-written.ensures.lists ∙ ap (λ (o : Option (List ℕ)). record lists { memory = or_stays o lists.memory }) here
