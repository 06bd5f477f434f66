use Rattle.std.proofs.Common.{sym, ◌∙◌}
use Rattle.std.proofs.lemmas.Result.{err_from_is_err_and}
use Rattle.cd_tokens.specs.Placed.{placed_views}
use Rattle.ct_file.specs.Read.{are_none, test_at}
use Rattle.ct_file.proofs.Exact.{shrinks}
use Rattle.ct_file.proofs.Whole.{all_tests}
use Rattle.ct_file.proofs.Loops.{at_end, at_fault, goes_on, fewer}
use Rattle.ct_file.proofs.reader.Reader.tests.Goals as goal

pub returns-in_err-test : goal.returns-in_err-test
returns-in_err-test c =
    let p = err_from_is_err_and c.from_residual.result c.from_residual.ensures.1 in
    rw (p.1, p.2) (at_fault c.in_err-test.field-0.0 are_none test_at c.loop-items.items.items (placed_views c.loop-items.self.rest.now) _ (sym c.is_done.ensures ∙ c.loop-items-test.true) c.in_err-test.ensures c.loop-items.invariant)

pub loop-items-smaller : goal.loop-items-smaller
loop-items-smaller c = fewer test_at (shrinks all_tests) _ c.test.new.self.rest.now c.loop-items.self.rest.now c.in_ok-test.ensures

pub loop-items-preserved : goal.loop-items-preserved
loop-items-preserved c = rw c.in_ok-push.ensures.items (goes_on are_none test_at (shrinks all_tests) c.loop-items.items.items (placed_views c.loop-items.self.rest.now) _ _ _ (sym c.is_done.ensures ∙ c.loop-items-test.true) c.in_ok-test.ensures c.loop-items.invariant)

pub returns : goal.returns
returns c = at_end are_none test_at c.loop-items.items.items (placed_views c.loop-items.self.rest.now) _ (sym c.is_done.ensures ∙ c.loop-items-test.false) c.loop-items.invariant
