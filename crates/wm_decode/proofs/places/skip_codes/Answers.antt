use Rattle.std.proofs.lemmas.Result.{err_from_is_err_and}
use Rattle.wm_decode.specs.Readers.{vec_bytes_at}
use Rattle.wm_decode.proofs.ListingSteps.{not_skipped, one_skipped, all_skipped}
use Rattle.wm_decode.proofs.places.skip_codes.Goals as goal

pub returns-in_err-_code : goal.returns-in_err-_code
returns-in_err-_code c =
    let p = err_from_is_err_and c.from_residual.result c.from_residual.ensures.1 in
    rw (p.1, p.2) (not_skipped c.in_err-_code.field-0.0 vec_bytes_at c.args.count c.loop.counter c.loop.rest.now _ c.loop-test.true c.in_err-_code.ensures c.loop.invariant)

pub loop-preserved : goal.loop-preserved
loop-preserved c = one_skipped vec_bytes_at c.args.count c.loop.counter c.loop.rest.now c.in_ok-_code.after.now c.in_ok-_code._code.now _ c.loop-test.true c.in_ok-_code.ensures c.loop.invariant

pub returns : goal.returns
returns c = all_skipped vec_bytes_at c.args.count c.loop.counter c.loop.rest.now _ c.loop-test.false c.loop.invariant
