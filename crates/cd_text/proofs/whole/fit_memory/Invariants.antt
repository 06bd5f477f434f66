use Rattle.std.proofs.Common.{◌*◌, ◌≤◌, ◌^◌, length, take}
use Rattle.cd_tokens.specs.View.{token_views}
use Rattle.cd_text.specs.Room.{room}
use Rattle.cd_text.proofs.whole.fit_memory.Given as goal

abbrev pub invariant-loop-token : goal.invariant-loop-token
invariant-loop-token l = room (token_views (take l.token-index l.tokens)) ≤ length (token_views (take l.token-index l.tokens)) * 2 ^ 63
