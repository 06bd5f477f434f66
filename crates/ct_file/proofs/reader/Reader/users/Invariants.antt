use Rattle.std.proofs.Common.{length}
use Rattle.cd_tokens.specs.Placed.{placed_views}
use Rattle.cd_tokens.specs.Front.{is_mark}
use Rattle.ct_file.specs.Codes.{comma_code}
use Rattle.ct_file.specs.Read.{many_at, starts_not, next_user_at, users_at}
use Rattle.ct_file.proofs.Loops.{Still}
use Rattle.ct_file.proofs.reader.Reader.users.Given as goal

abbrev pub invariant-loop-items : goal.invariant-loop-items
invariant-loop-items l = Still l.items.items (many_at (starts_not (is_mark comma_code)) next_user_at (placed_views l.self.rest.now)) (users_at (placed_views l.fn.self.rest.now))

abbrev pub decreases-loop-items : goal.decreases-loop-items
decreases-loop-items l = length l.self.rest.now
