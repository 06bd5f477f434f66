use Rattle.std.proofs.Common.{sym, ◌∙◌}
use Rattle.std.proofs.lemmas.Result.{err_from_is_err_and}
use Rattle.cd_tokens.specs.Front.{is_mark, starts}
use Rattle.cd_tokens.specs.Placed.{placed_views}
use Rattle.ct_file.specs.Codes.{close_brace_code}
use Rattle.ct_file.specs.Read.{step_at}
use Rattle.ct_file.proofs.Exact.{shrinks}
use Rattle.ct_file.proofs.Whole.{all_steps}
use Rattle.ct_file.proofs.Loops.{at_end, at_fault, goes_on, fewer}
use Rattle.ct_file.proofs.reader.Reader.steps.Goals as goal

pub returns-in_err-step : goal.returns-in_err-step
returns-in_err-step c =
    let p = err_from_is_err_and c.from_residual.result c.from_residual.ensures.1 in
    rw (p.1, p.2) (at_fault c.in_err-step.field-0.0 (starts (is_mark close_brace_code)) step_at c.loop-items.items.items (placed_views c.loop-items.self.rest.now) _ (sym c.starts_mark.ensures ∙ c.loop-items-test.true) c.in_err-step.ensures c.loop-items.invariant)

pub loop-items-smaller : goal.loop-items-smaller
loop-items-smaller c = fewer step_at (shrinks all_steps) _ c.step.new.self.rest.now c.loop-items.self.rest.now c.in_ok-step.ensures

pub loop-items-preserved : goal.loop-items-preserved
loop-items-preserved c = rw c.in_ok-push.ensures.items (goes_on (starts (is_mark close_brace_code)) step_at (shrinks all_steps) c.loop-items.items.items (placed_views c.loop-items.self.rest.now) _ _ _ (sym c.starts_mark.ensures ∙ c.loop-items-test.true) c.in_ok-step.ensures c.loop-items.invariant)

pub returns : goal.returns
returns c = at_end (starts (is_mark close_brace_code)) step_at c.loop-items.items.items (placed_views c.loop-items.self.rest.now) _ (sym c.starts_mark.ensures ∙ c.loop-items-test.false) c.loop-items.invariant
