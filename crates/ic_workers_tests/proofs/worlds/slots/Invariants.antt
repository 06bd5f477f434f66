use Rattle.std.proofs.Common.{◌≡◌, vec_len}
use Rattle.std.specs.Prelude.{vec_capacity}
use Rattle.std.specs.List.{AllByRecursion}
use Rattle.ic_rounds.specs.Slots.{IsReady}
use Rattle.ic_workers_tests.proofs.worlds.slots.Given as goal

abbrev pub invariant-loop-number : goal.invariant-loop-number
invariant-loop-number l = record {
  ready : AllByRecursion IsReady l.slots.items;
  many : vec_len l.slots ≡ l.number;
  room : vec_capacity l.slots ≡ l.canisters;
}
