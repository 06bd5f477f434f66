use Rattle.std.proofs.Common.{◌≡◌}
use Rattle.std.specs.List.{fold}
use Rattle.ic_rounds.specs.Dealing.{deal, none_dealt}
use Rattle.ic_rounds.proofs.dealt.deal_out.Given as goal

abbrev pub invariant-loop-key : goal.invariant-loop-key
invariant-loop-key l = l.dealt ≡ fold deal (none_dealt l.fn.canisters.entries) l.yielded
