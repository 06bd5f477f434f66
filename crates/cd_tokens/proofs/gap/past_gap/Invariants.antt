use Rattle.std.proofs.Common.{◌≡◌, drop}
use Rattle.cd_tokens.specs.ReadGap.{past_from, past_gap}
use Rattle.cd_tokens.proofs.gap.past_gap.Given as goal

abbrev pub invariant-loop-index : goal.invariant-loop-index
invariant-loop-index l = past_from l.comments l.place (drop l.index l.text) ≡ past_gap l.comments l.text
