use Rattle.std.proofs.Common.{◌≡◌}
use Rattle.std.specs.List.{fold}
use Rattle.ic_rounds.specs.Slots.{stored_of, AreCanisters}
use Rattle.ic_rounds.specs.HandledSlots.{put_handled}
use Rattle.ic_rounds.proofs.putting_back.handle_and_put_back.Given as goal

abbrev pub invariant-loop-slot : goal.invariant-loop-slot
invariant-loop-slot g l = record {
  stored : stored_of l.parts ≡ fold put_handled (stored_of l.fn.parts) l.yielded;
  keep : AreCanisters l.parts;
}
