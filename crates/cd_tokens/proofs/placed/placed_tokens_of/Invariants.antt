use Rattle.std.proofs.Common.{◌≡◌, ◌≤◌, true, length}
use Rattle.cd_tokens.specs.Placed.{placed_views, are_within}
use Rattle.cd_tokens.proofs.Streams.{Read}
use Rattle.cd_tokens.proofs.placed.placed_tokens_of.Given as goal

abbrev pub invariant-loop-rest : goal.invariant-loop-rest
invariant-loop-rest l = Read l.comments (placed_views l.items.items) l.rest l.text × (length l.rest ≤ length l.text) × (are_within l.text l.items.items ≡ true)

abbrev pub decreases-loop-rest : goal.decreases-loop-rest
decreases-loop-rest l = length l.rest
