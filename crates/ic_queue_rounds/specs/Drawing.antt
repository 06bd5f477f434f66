-- The first messages to canisters, taken from their queues. No standard has this.
use Rattle.std.specs.Prelude.{ℕ, List, [], ◌∷◌, ◌++◌, Option, Some, None}
use Rattle.ic_behaviour.specs.declared.call.Message.{Message}
use Rattle.ic_queues.specs.Queued.{Queued, first_to, without_first_to}

-- the first message to each canister that has one, and the queues without them
pub record Drawing : Type 0 where
  pub firsts : List (List ℕ × Message)
  pub queues : Queued

abbrev pub none_drawn : Queued → Drawing
none_drawn queues = record { firsts = []; queues = queues }

abbrev pub with_first : List (List ℕ × Message) → (key : List ℕ) → Option Message → List (List ℕ × Message)
with_first firsts key None = firsts
with_first firsts key (Some m) = firsts ++ (key, m) ∷ []

-- the first message to a canister is taken, if there is one
abbrev pub draw : Drawing → (key : List ℕ) → Drawing
draw w key = record { firsts = with_first w.firsts key (first_to key w.queues); queues = without_first_to key w.queues }
