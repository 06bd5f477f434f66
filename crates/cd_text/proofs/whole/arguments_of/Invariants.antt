use Rattle.std.proofs.Common.{◌-◌, length}
use Rattle.cd_codec.specs.View.{views}
use Rattle.cd_tokens.specs.View.{token_views}
use Rattle.cd_text.specs.Placed.{placed}
use Rattle.cd_text.specs.ReadSaid.{parts_at, argument_at, after_field}
use Rattle.cd_tokens.proofs.Loops.{Still}
use Rattle.cd_text.proofs.whole.arguments_of.Given as goal

abbrev pub invariant-loop : goal.invariant-loop
invariant-loop l =
    Still 44 41 (argument_at l.table l.types) after_field (placed 0 (views l.values.items)) (l.most - l.counter) (length l.values.items) l.unread (token_views l.rest) (parts_at 44 41 (argument_at l.table l.types) after_field l.most 0 1000000 (token_views l.tokens))
