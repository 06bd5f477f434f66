use Rattle.std.proofs.Common.{◌≡◌, map, Some, vec_len}
use Rattle.std.specs.Prelude.{vec_capacity}
use Rattle.ic_rounds.proofs.places.take_handled.Given as goal

abbrev pub invariant-loop-place : goal.invariant-loop-place
invariant-loop-place l = (map Some l.all.items ≡ l.yielded) × (vec_capacity l.all ≡ vec_len l.fn.places)
