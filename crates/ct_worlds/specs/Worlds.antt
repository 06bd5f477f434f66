-- Worlds as a system whose every order is searched. No standard has this.
use Rattle.std.specs.Prelude.{◌≡◌, ℕ}
use Rattle.ic_behaviour.specs.State.{State}
use Rattle.ic_behaviour.specs.Steps.{step}
use Rattle.ic_mgmt_laws.specs.Managed.{managed_rules}
use Rattle.ic_order.specs.Ways.{next_places}
use Rattle.ic_order.specs.Order.{SameState}
use Rattle.ic_keep.specs.Kept.{Tables, state_at}
use Rattle.ic_keep.specs.IsKept.{IsKept}
use Rattle.ic_keep.specs.Key.{key_of}
use Rattle.ct_search.specs.Meaning.{Meaning}
use Rattle.ct_worlds.specs.declared.worlds.NamedWorld.{NamedWorld}

-- the number of what names stand for, and the state
abbrev pub Named : Type 0
Named = ℕ × State

-- names stand for the same, and the states are equal up to the order of messages that go different ways
abbrev pub SameNamed : Named → Named → Type 0
SameNamed s t = (s.0 ≡ t.0) × SameState s.1 t.1

-- a move delivers a message that may come next
abbrev pub worlds : (limit price : ℕ) → Meaning Named
worlds limit price = record {
  moves = λ s. next_places s.1.messages;
  next = λ s place. (s.0, step (managed_rules limit price) s.1 place);
  Same = SameNamed;
  key = λ s. key_of s.1;
}

-- ---- what is kept

abbrev pub IsKeptNamed : Tables → NamedWorld → Type 0
IsKeptNamed t k = IsKept t k.kept

abbrev pub named_at : Tables → NamedWorld → Named
named_at t k = (k.names, state_at t k.kept)
