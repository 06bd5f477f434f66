use Rattle.std.proofs.Common.{◌-◌}
use Rattle.cd_tokens.specs.View.{token_views}
use Rattle.cd_text.specs.ReadSaid.{braces_at, item_at, no_place_of, byte_at}
use Rattle.cd_tokens.proofs.Loops.{Still}
use Rattle.cd_text.proofs.reading.bytes_of.Given as goal

abbrev pub invariant-loop : goal.invariant-loop
invariant-loop l = Still 59 125 (item_at l.item (byte_at l.item l.depth)) no_place_of l.bytes.items (l.most - l.counter) 0 l.unread (token_views l.rest) (braces_at (item_at l.item (byte_at l.item l.depth)) no_place_of l.most l.left (token_views l.tokens))
