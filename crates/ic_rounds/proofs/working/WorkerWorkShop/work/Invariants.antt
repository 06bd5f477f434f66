use Rattle.std.proofs.Common.{◌≡◌, ◌-◌, ◌≤◌, length}
use Rattle.std.specs.Prelude.{vec_capacity}
use Rattle.ic_tickets.specs.Tickets.{items_of, numbers_of}
use Rattle.ic_rounds.proofs.Works.{Works, after_last}
use Rattle.ic_rounds.proofs.working.WorkerWorkShop.work.Given as goal

abbrev pub invariant-loop-drawn : goal.invariant-loop-drawn
invariant-loop-drawn g l = record {
  works : Works l.shop.tickets.now l.shop.env l.self.number l.self.pass l.self.outbox.items;
  number : l.self.number ≡ l.initial.self.number;
  room : length (items_of l.shop.tickets.now) ≤ vec_capacity l.self.outbox;
}

abbrev pub decreases-loop-drawn : goal.decreases-loop-drawn
decreases-loop-drawn g l = length (items_of l.shop.tickets.now) - after_last (numbers_of l.self.pass)
