use Rattle.ic_tickets.specs.Tickets.{IsOpen, IsOf}
use Rattle.ic_tickets_tests.proofs.tests.drain.Given as goal

abbrev pub invariant-loop : goal.invariant-loop
invariant-loop l = IsOf l.tickets l.pass × IsOpen l.pass
