use Rattle.std.proofs.Common.{◌≡◌, vec_len}
use Rattle.std.specs.Prelude.{vec_capacity}
use Rattle.ic_rounds.proofs.OutboxPlaces.{Gathers}
use Rattle.ic_rounds.proofs.sharing.gathered.Given as goal

abbrev pub invariant-loop-worker : goal.invariant-loop-worker
invariant-loop-worker l = record {
  gathers : Gathers l.slots.value.items l.env l.tickets l.initial.places.items l.places.items l.yielded l.passes.items;
  room : vec_capacity l.passes ≡ vec_len l.fn.workers;
}
