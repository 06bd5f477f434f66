use Rattle.std.proofs.Common.{[], length}
use Rattle.cd_tokens.specs.Placed.{placed_views}
use Rattle.ct_file.specs.Read.{inside_at}
use Rattle.ct_file.proofs.Loops.{Still}
use Rattle.ct_file.proofs.reader.Reader.tokens_inside.Given as goal

abbrev pub invariant-loop-items : goal.invariant-loop-items
invariant-loop-items l = Still (placed_views l.items.items) (inside_at l.closers (placed_views l.self.rest.now)) (inside_at [] (placed_views l.fn.self.rest.now))

abbrev pub decreases-loop-items : goal.decreases-loop-items
decreases-loop-items l = length l.self.rest.now
