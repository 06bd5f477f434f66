use Rattle.std.proofs.Common.{◌≡◌, drop, ◌+◌}
use Rattle.std.specs.Prelude.{None}
use Rattle.std.specs.List.{prefix_len}
use Rattle.cd_tokens.specs.Placed.{placed_views}
use Rattle.ct_file.specs.Fits.{is_proper}
use Rattle.ct_file.proofs.tokens.whole_len.Given as goal

-- the tokens so far are whole
abbrev pub invariant-loop-placed : goal.invariant-loop-placed
invariant-loop-placed l = (l.len ≡ l.placed-index) × (l.invalid ≡ None → l.len + prefix_len is_proper (placed_views (drop l.placed-index l.tokens)) ≡ prefix_len is_proper (placed_views l.tokens))
