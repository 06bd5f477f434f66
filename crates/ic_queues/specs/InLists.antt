-- The parts of queues, as queues. No standard has this.
use Rattle.std.specs.Prelude.{ℕ, List}
use Rattle.std.specs.Map.{keys_of, values_of}
use Rattle.ic_queues.specs.declared.lists.Lists.{Lists}
use Rattle.ic_queues.specs.Queued.{Queued, Walked}
use Rattle.ic_queues.specs.Lines.{IsQueued}
use Rattle.ic_queues.specs.Walking.{IsWalked, gone, coming}

abbrev pub queued_of : Lists → Queued
queued_of l = record { canisters = keys_of l.waiting.entries; messages = values_of l.messages.entries }

abbrev pub AreQueued : Lists → Type 0
AreQueued l = IsQueued l.messages.entries l.waiting.entries l.outside l.messages.next

abbrev pub walk_of : Lists → (place : ℕ) → Walked
walk_of l place = record {
  canisters = keys_of l.waiting.entries;
  kept = values_of (gone place l.messages.entries);
  todo = values_of (coming place l.messages.entries);
}

abbrev pub AreWalked : Lists → (stay : List ℕ) → (place : ℕ) → Type 0
AreWalked l stay place = IsWalked l.messages.entries l.waiting.entries l.outside stay l.messages.next place
