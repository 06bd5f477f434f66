use Rattle.std.proofs.Common.{◌≡◌, ◌++◌, ◌∷◌, []}
use Rattle.std.proofs.lemmas.Result.{err_from_is_err_and}
use Rattle.std.proofs.lemmas.List.{map_push}
use Rattle.cd_codec.specs.View.{view, views}
use Rattle.cd_codec.specs.ReadValue.{value_at}
use Rattle.cd_codec.proofs.Loops.{each_read, each_refused, each_done}
use Rattle.cd_codec.proofs.reading.each_of.Goals as goal

pub returns-in_err-value : goal.returns-in_err-value
returns-in_err-value c =
    let p = err_from_is_err_and c.from_residual-in_err-value.result c.from_residual-in_err-value.ensures.1 in
    rw (p.1, p.2) (each_refused c.in_err-value.field-0.0 (value_at c.args.table.now 128) (views c.loop-ty.values.items) c.args.types.now c.loop-ty.ty-index c.loop-ty.unread c.loop-ty.rest.now _ _ c.loop-ty-test.true c.in_err-value.ensures c.loop-ty.invariant)

pub loop-ty-preserved : goal.loop-ty-preserved
loop-ty-preserved c =
    let more : views c.push.new.self.items ≡ views c.loop-ty.values.items ++ view c.in_ok-value.value ∷ [] = rw c.in_ok-push.ensures.items (map_push _ c.loop-ty.values.items c.in_ok-value.value) in
    rw more (each_read (value_at c.args.table.now 128) (views c.loop-ty.values.items) c.args.types.now c.loop-ty.ty-index c.loop-ty.unread c.loop-ty.rest.now _ (view c.in_ok-value.value) c.in_ok-value.left c.in_ok-value.after.now _ c.loop-ty-test.true c.in_ok-value.ensures c.loop-ty.invariant)

pub returns : goal.returns
returns c = each_done (value_at c.args.table.now 128) (views c.loop-ty.values.items) c.args.types.now c.loop-ty.ty-index c.loop-ty.unread c.loop-ty.rest.now _ c.loop-ty-test.false c.loop-ty.invariant
