use Rattle.ic_rounds.proofs.OutboxPlaces.{Puts}
use Rattle.ic_rounds.proofs.places.put_outbox.Given as goal

abbrev pub invariant-loop-entry : goal.invariant-loop-entry
invariant-loop-entry l = Puts l.slots.value.items l.fn.env l.initial.places.items l.places.items l.yielded
