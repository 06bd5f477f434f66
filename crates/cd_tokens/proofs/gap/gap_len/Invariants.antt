use Rattle.std.proofs.Common.{◌≤◌}
use Rattle.cd_tokens.proofs.gap.gap_len.Given as goal

abbrev pub invariant-loop-index : goal.invariant-loop-index
invariant-loop-index l = l.len ≤ l.index
