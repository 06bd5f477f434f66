use Rattle.std.proofs.lemmas.Result.{err_from_is_err_and}
use Rattle.ct_values.specs.Steps.{reading}
use Rattle.ct_values.specs.Spelled.{value_at}
use Rattle.ct_values.proofs.Loops.{no_argument, no_comma, one_argument}
use Rattle.ct_values.proofs.reader.Reader.arguments.Goals as goal

pub returns-in_err-annotated : goal.returns-in_err-annotated
returns-in_err-annotated c =
    let p = err_from_is_err_and c.from_residual.result c.from_residual.ensures.1 in
    rw (p.1, p.2) (no_argument c.in_err-annotated.field-0.0 (value_at c.args.self.now.admitted c.args.self.now.table.now 128) c.args.types.now c.loop-ty.ty-index _ (reading c.loop-ty.cursor) _ c.loop-ty-test.true c.in_err-annotated.ensures c.loop-ty.invariant)

pub returns-in_err-comma : goal.returns-in_err-comma
returns-in_err-comma c =
    let p = err_from_is_err_and c.from_residual-in_err-comma.result c.from_residual-in_err-comma.ensures.1 in
    rw (p.1, p.2) (no_comma c.in_err-comma.field-0.0 (value_at c.args.self.now.admitted c.args.self.now.table.now 128) c.args.types.now c.loop-ty.ty-index _ (reading c.loop-ty.cursor) _ _ _ c.loop-ty-test.true c.in_ok-annotated.ensures c.in_err-comma.ensures c.loop-ty.invariant)

pub loop-ty-preserved : goal.loop-ty-preserved
loop-ty-preserved c =
    one_argument (value_at c.args.self.now.admitted c.args.self.now.table.now 128) c.args.types.now c.loop-ty.ty-index _ (reading c.loop-ty.cursor) _ _ _ _ c.loop-ty-test.true c.in_ok-annotated.ensures c.in_ok-comma.ensures c.loop-ty.invariant
