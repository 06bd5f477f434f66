use Rattle.std.proofs.Common.{◌+◌, ◌≤◌, ℕ, Some, length, drop, map, sym, ap, ◌∙◌, arith}
use Rattle.std.proofs.lemmas.List.{length-map, take_at}
use Rattle.wm_semantics.specs.Instance.{constant_of, laid, with_elements}
use Rattle.wm_instance.proofs.Laid.{element_fits, length-laid, with_elements-drop}
use Rattle.wm_instance.proofs.tables.table_of.Goals as goal

pub lay_element-requires : goal.lay_element-requires
lay_element-requires c =
    let fits = element_fits c.args.size c.args.elements.now c.loop-element.element-index c.element-item.result c.requires (omega arith) c.element-item.is in
    omega (arith, ap length c.deref_mut.ensures.value)

pub loop-element-preserved : goal.loop-element-preserved
loop-element-preserved c =
    let e = c.element-item.result in
    let old = c.loop-element.table.items in
    let others = drop (c.loop-element.element-index + 1) c.args.elements.now in
    let functions = map (λ (f : ℕ). Some f) e.functions in
    let fits = element_fits c.args.size c.args.elements.now c.loop-element.element-index e c.requires (omega arith) c.element-item.is in
    let room : constant_of e.offset + length functions ≤ length old = omega (arith, length-map e.functions (λ (f : ℕ). Some f)) in
    let new = c.lay_element.ensures ∙ ap (laid (constant_of e.offset) functions) c.deref_mut.ensures.value in
    let long = ap length new ∙ length-laid (constant_of e.offset) functions old room in
    let whole = take_at c.lay_element.new.table (drop (length c.lay_element.new.table) old) c.loop-element.table.len (long ∙ sym c.loop-element.table.ok.0) in
    let step = with_elements-drop c.args.elements.now c.loop-element.element-index e old (omega arith) c.element-item.is in
    record {
      size = ap length whole ∙ long ∙ c.loop-element.invariant.size;
      laid = ap (with_elements others) (whole ∙ new) ∙ sym step ∙ c.loop-element.invariant.laid;
    }
