use Rattle.std.proofs.Common.{◌≡◌, length, vec_len}
use Rattle.std.specs.Prelude.{vec_capacity}
use Rattle.ic_rounds.specs.Slots.{stored_of}
use Rattle.ic_rounds.proofs.HandledSlots.{Aside}
use Rattle.ic_rounds.proofs.putting_back.put_all_handled.Given as goal

abbrev pub invariant-loop-slot : goal.invariant-loop-slot
invariant-loop-slot l = record {
  aside : Aside (stored_of l.fn.parts) l.yielded l.parts l.canisters.items;
  many : vec_len l.canisters ≡ length l.yielded;
  room : vec_capacity l.canisters ≡ vec_len l.fn.handled;
}
