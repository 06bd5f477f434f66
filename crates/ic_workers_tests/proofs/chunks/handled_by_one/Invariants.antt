use Rattle.std.proofs.Common.{◌≡◌, length, vec_len}
use Rattle.std.specs.Prelude.{vec_capacity}
use Rattle.std.specs.List.{AllZip}
use Rattle.ic_rounds.specs.HandledSlots.{IsHandled}
use Rattle.ic_workers_tests.proofs.chunks.handled_by_one.Given as goal

abbrev pub invariant-loop-slot : goal.invariant-loop-slot
invariant-loop-slot g l = record {
  turns : AllZip (IsHandled l.fn.env) l.yielded l.turns.items;
  many : vec_len l.turns ≡ length l.yielded;
  room : vec_capacity l.turns ≡ vec_len l.fn.share.slots;
}
