use Rattle.std.proofs.Common.{length}
use Rattle.cd_tokens.specs.Placed.{placed_views}
use Rattle.cd_tokens.specs.Front.{is_mark, starts}
use Rattle.ct_file.specs.Codes.{close_brace_code}
use Rattle.ct_file.specs.Read.{many_at, step_at, steps_at}
use Rattle.ct_file.proofs.Loops.{Still}
use Rattle.ct_file.proofs.reader.Reader.steps.Given as goal

abbrev pub invariant-loop-items : goal.invariant-loop-items
invariant-loop-items l = Still l.items.items (many_at (starts (is_mark close_brace_code)) step_at (placed_views l.self.rest.now)) (steps_at (placed_views l.fn.self.rest.now))

abbrev pub decreases-loop-items : goal.decreases-loop-items
decreases-loop-items l = length l.self.rest.now
