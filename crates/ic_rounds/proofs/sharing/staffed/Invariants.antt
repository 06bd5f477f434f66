use Rattle.std.proofs.Common.{◌≡◌, length, vec_len}
use Rattle.std.specs.Prelude.{vec_capacity}
use Rattle.std.specs.List.{AllByRecursion}
use Rattle.ic_rounds.specs.Workers.{IsIdle, AreNumbered}
use Rattle.ic_rounds.proofs.sharing.staffed.Given as goal

abbrev pub invariant-loop-pass : goal.invariant-loop-pass
invariant-loop-pass l = record {
  workers : AllByRecursion (IsIdle l.tickets l.fn.env) l.workers.items;
  numbers : AreNumbered 0 l.workers.items;
  many : vec_len l.workers ≡ length l.yielded;
  room : vec_capacity l.workers ≡ vec_len l.fn.passes;
}
