use Rattle.std.proofs.Common.{sym, ◌∙◌, ◌-◌}
use Rattle.std.proofs.lemmas.Result.{err_from_is_err_and}
use Rattle.cd_types.specs.declared.primitive.Primitive.TheVariants.{Nat8}
use Rattle.cd_types.specs.declared.entry.TyRef.TheVariants.{Prim}
use Rattle.ct_values.specs.Steps.{reading}
use Rattle.ct_values.specs.Spelled.{annotated_at, byte_at}
use Rattle.ct_values.proofs.Loops.{at_end, too_many, no_part, no_separator, one_more}
use Rattle.ct_values.proofs.reader.Reader.bytes.Goals as goal

pub returns-then-count-most : goal.returns-then-count-most
returns-then-count-most c =
    too_many (annotated_at (Prim Nat8) (byte_at c.args.self.now.admitted c.args.depth)) c.args.most c.loop-depth.count (reading c.loop-depth.cursor) _ (sym c.starts_mark.ensures ∙ c.loop-depth-test.true) c.if-count-most.true c.loop-depth.invariant

pub returns-in_err-annotated_byte : goal.returns-in_err-annotated_byte
returns-in_err-annotated_byte c =
    let p = err_from_is_err_and c.from_residual.result c.from_residual.ensures.1 in
    rw (p.1, p.2) (no_part c.in_err-annotated_byte.field-0.0 (annotated_at (Prim Nat8) (byte_at c.args.self.now.admitted c.args.depth)) c.args.most c.loop-depth.count (reading c.loop-depth.cursor) _ c.if-count-most.false (sym c.starts_mark.ensures ∙ c.loop-depth-test.true) c.in_err-annotated_byte.ensures c.loop-depth.invariant)

pub returns-in_err-separator : goal.returns-in_err-separator
returns-in_err-separator c =
    let p = err_from_is_err_and c.from_residual-in_err-separator.result c.from_residual-in_err-separator.ensures.1 in
    rw (p.1, p.2) (no_separator c.in_err-separator.field-0.0 (annotated_at (Prim Nat8) (byte_at c.args.self.now.admitted c.args.depth)) c.args.most c.loop-depth.count (reading c.loop-depth.cursor) _ _ _ c.if-count-most.false (sym c.starts_mark.ensures ∙ c.loop-depth-test.true) c.in_ok-annotated_byte.ensures c.in_err-separator.ensures c.loop-depth.invariant)

pub loop-depth-preserved : goal.loop-depth-preserved
loop-depth-preserved c =
    one_more (annotated_at (Prim Nat8) (byte_at c.args.self.now.admitted c.args.depth)) c.args.most c.loop-depth.count (reading c.loop-depth.cursor) _ _ _ _ c.if-count-most.false (sym c.starts_mark.ensures ∙ c.loop-depth-test.true) c.in_ok-annotated_byte.ensures c.in_ok-separator.ensures c.loop-depth.invariant

pub returns : goal.returns
returns c =
    at_end (annotated_at (Prim Nat8) (byte_at c.args.self.now.admitted c.args.depth)) (c.args.most - c.loop-depth.count) c.loop-depth.count (reading c.loop-depth.cursor) _ (sym c.starts_mark.ensures ∙ c.loop-depth-test.false) c.loop-depth.invariant
