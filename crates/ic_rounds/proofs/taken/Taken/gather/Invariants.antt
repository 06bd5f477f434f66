use Rattle.std.proofs.Common.{◌≡◌, length}
use Rattle.std.specs.List.{fold}
use Rattle.ic_rounds.specs.Taking.{sort_out, is_key, AreTheirs}
use Rattle.ic_rounds.proofs.taken.Taken.gather.Given as goal

abbrev pub invariant-loop-message : goal.invariant-loop-message
invariant-loop-message l = record {
  same : fold (sort_out (is_key l.canisters.entries)) l.fn.self l.initial.messages.items ≡ fold (sort_out (is_key l.canisters.entries)) l.taken l.messages.items;
  theirs : AreTheirs (is_key l.canisters.entries) l.taken;
}

abbrev pub decreases-loop-message : goal.decreases-loop-message
decreases-loop-message l = length l.messages.items
