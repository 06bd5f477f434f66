use Rattle.std.proofs.Common.{arith}
use Rattle.std.proofs.lemmas.Result.{err_from_is_err_and}
use Rattle.cd_types.proofs.EntryLemmas.{few_ids}
use Rattle.ct_values.specs.Steps.{reading, said_view}
use Rattle.ct_values.proofs.Loops.{not_filled, one_filled, all_there}
use Rattle.ct_values.proofs.reader.Reader.missing_fields.Goals as goal

pub overflow_cast-place : goal.overflow_cast-place
overflow_cast-place c = let few = few_ids c.args.fields.now c.requires in omega (arith, few)

pub returns-in_err-if_missing : goal.returns-in_err-if_missing
returns-in_err-if_missing c =
    let p = err_from_is_err_and c.from_residual.result c.from_residual.ensures.1 in
    rw (p.1, p.2) (not_filled c.in_err-if_missing.field-0.0 c.args.depth c.args.self.now.table.now c.args.fields.now c.loop-place.place _ (said_view c.loop-place.said) (reading c.loop-place.cursor) _ c.loop-place-test.true c.in_err-if_missing.ensures c.loop-place.invariant)

pub loop-place-preserved : goal.loop-place-preserved
loop-place-preserved c =
    one_filled c.args.depth c.args.self.now.table.now c.args.fields.now c.loop-place.place _ (said_view c.loop-place.said) _ (reading c.loop-place.cursor) _ _ c.loop-place-test.true c.in_ok-if_missing.ensures c.loop-place.invariant

pub returns : goal.returns
returns c = all_there c.args.depth c.args.self.now.table.now c.args.fields.now c.loop-place.place (said_view c.loop-place.said) (reading c.loop-place.cursor) _ c.loop-place-test.false c.loop-place.invariant
