-- What workers have before and after their work, and what is put in the order of slots. No standard has this.
use Rattle.std.specs.Prelude.{◌≡◌, ℕ, ◌+◌, ◌≤◌, List, [], ◌∷◌, Option, Some, length, slice_get, map, vec_capacity}
use Rattle.std.specs.List.{AllByRecursion}
use Rattle.ic_behaviour.specs.declared.env.Env.{Env}
use Rattle.ic_tickets.specs.declared.rule.Tickets.{Tickets}
use Rattle.ic_tickets.specs.Tickets.{items_of, numbers_of, HasEnded, IsOf, IsFresh}
use Rattle.ic_rounds.specs.declared.slot.Slot.{Slot}
use Rattle.ic_rounds.specs.declared.handled_slot.HandledSlot.{HandledSlot}
use Rattle.ic_rounds.specs.declared.worker.Worker.{Worker}
use Rattle.ic_rounds.specs.Slots.{IsReady}
use Rattle.ic_rounds.specs.HandledSlots.{IsHandled, Entry}

abbrev pub entry_numbers : List Entry → List ℕ
entry_numbers entries = map (λ (e : Entry). e.number) entries

-- an entry is of the slot with its number
abbrev pub IsAt : List Slot → Env → Entry → Type 0
IsAt slots env e = (slice_get slots e.number ≡ Some e.slot) × (e.env ≡ env)

-- an entry is by the worker with this number
abbrev pub IsBy : ℕ → Entry → Type 0
IsBy number e = e.worker ≡ number

-- workers have their numbers, from this one on
abbrev pub AreNumbered : ℕ → List Worker → Type 0
AreNumbered number [] = Unit {0}
AreNumbered number (w ∷ ws) = (w.number ≡ number) × AreNumbered (number + 1) ws

-- a worker has drawn nothing, and has room for all
pub record IsIdle (t : Tickets Slot) (env : Env) (w : Worker) : Type 0 where
  pub own : IsOf t w.pass
  pub fresh : IsFresh w.pass
  pub outbox : w.outbox.items ≡ []
  pub room : length (items_of t) ≤ vec_capacity w.outbox
  pub ready : AllByRecursion IsReady (items_of t)

-- a worker found no slot left, and has an entry of its own for each that it drew
pub record IsDone (t : Tickets Slot) (env : Env) (w : Worker) : Type 0 where
  pub own : IsOf t w.pass
  pub ended : HasEnded w.pass
  pub numbers : entry_numbers w.outbox.items ≡ numbers_of w.pass
  pub entries : AllByRecursion (IsAt (items_of t) env) w.outbox.items
  pub by : AllByRecursion (IsBy w.number) w.outbox.items

-- what came of slot k is in its place
pub record IsFilled (slots : List Slot) (env : Env) (places : List (Option HandledSlot)) (k : ℕ) : Type 0 where
  pub slot : Slot
  pub handled : HandledSlot
  pub is_slot : slice_get slots k ≡ Some slot
  pub is_there : slice_get places k ≡ Some (Some handled)
  pub is_handled : IsHandled env slot handled
