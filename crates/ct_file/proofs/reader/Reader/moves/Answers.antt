use Rattle.std.proofs.Common.{sym, ◌∙◌}
use Rattle.std.proofs.lemmas.Result.{err_from_is_err_and}
use Rattle.cd_tokens.specs.Front.{is_mark, starts}
use Rattle.cd_tokens.specs.Placed.{placed_views}
use Rattle.ct_file.specs.Codes.{close_brace_code}
use Rattle.ct_file.specs.Read.{move_line_at}
use Rattle.ct_file.proofs.Exact.{shrinks}
use Rattle.ct_file.proofs.Whole.{moves}
use Rattle.ct_file.proofs.Loops.{at_end, at_fault, goes_on, fewer}
use Rattle.ct_file.proofs.reader.Reader.moves.Goals as goal

pub returns-in_err-move_line-2 : goal.returns-in_err-move_line-2
returns-in_err-move_line-2 c =
    let p = err_from_is_err_and c.from_residual-in_err-move_line-2.result c.from_residual-in_err-move_line-2.ensures.1 in
    rw (p.1, p.2) (at_fault c.in_err-move_line-2.field-0.0 (starts (is_mark close_brace_code)) move_line_at c.loop-items.items.items (placed_views c.loop-items.self.rest.now) _ (sym c.starts_mark.ensures ∙ c.loop-items-test.true) c.in_err-move_line-2.ensures c.loop-items.invariant)

pub loop-items-smaller : goal.loop-items-smaller
loop-items-smaller c = fewer move_line_at (shrinks moves) _ c.move_line-in-loop-items.new.self.rest.now c.loop-items.self.rest.now c.in_ok-move_line-2.ensures

pub loop-items-preserved : goal.loop-items-preserved
loop-items-preserved c = rw c.in_ok-push-2.ensures.items (goes_on (starts (is_mark close_brace_code)) move_line_at (shrinks moves) c.loop-items.items.items (placed_views c.loop-items.self.rest.now) _ _ _ (sym c.starts_mark.ensures ∙ c.loop-items-test.true) c.in_ok-move_line-2.ensures c.loop-items.invariant)

pub returns : goal.returns
returns c = at_end (starts (is_mark close_brace_code)) move_line_at c.loop-items.items.items (placed_views c.loop-items.self.rest.now) _ (sym c.starts_mark.ensures ∙ c.loop-items-test.false) c.loop-items.invariant
