use Rattle.std.proofs.Common.{false}
use Rattle.std.proofs.lemmas.Result.{err_from_is_err_and}
use Rattle.wm_decode.specs.Readers.{word_at}
use Rattle.wm_decode.proofs.ListingSteps.{not_skipped, one_skipped, all_skipped}
use Rattle.wm_decode.proofs.places.skip_words.Goals as goal

pub returns-in_err-_word : goal.returns-in_err-_word
returns-in_err-_word c =
    let p = err_from_is_err_and c.from_residual.result c.from_residual.ensures.1 in
    rw (p.1, p.2) (not_skipped c.in_err-_word.field-0.0 (word_at false) c.args.words c.loop.counter c.loop.rest.now _ c.loop-test.true c.in_err-_word.ensures c.loop.invariant)

pub loop-preserved : goal.loop-preserved
loop-preserved c = one_skipped (word_at false) c.args.words c.loop.counter c.loop.rest.now c.in_ok-_word.after.now c.in_ok-_word._word _ c.loop-test.true c.in_ok-_word.ensures c.loop.invariant

pub returns : goal.returns
returns c = all_skipped (word_at false) c.args.words c.loop.counter c.loop.rest.now _ c.loop-test.false c.loop.invariant
