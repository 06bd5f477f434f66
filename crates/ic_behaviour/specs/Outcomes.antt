-- What code does when it is entered (IC Interface Specification, "Abstract Canisters").
use Rattle.std.specs.Prelude.{ℕ, List, Option, Some, None, option_map}
use Rattle.wm_store.specs.Lists.{Lists}
use Rattle.wm_valid.specs.declared.entry.EntryName.TheVariants as entry
use Rattle.wm_valid.specs.Entries.{entry_of}
use Rattle.wm_semantics.specs.declared.trap.Trap.{Trap}
use Rattle.wm_semantics.specs.declared.target.Target.{Target}
use Rattle.ic_behaviour.specs.declared.env.Admitted.{Admitted}
use Rattle.ic_behaviour.specs.declared.env.Admitted.TheVariants.{Update, Query}
use Rattle.ic_behaviour.specs.declared.execution.EntryKind.{EntryKind}
use Rattle.ic_behaviour.specs.declared.execution.View.{View}
use Rattle.ic_behaviour.specs.declared.execution.Effects.{Effects}
use Rattle.ic_behaviour.specs.State.{Code}

-- the store that it leaves and its effects, or why it trapped, with the instructions that were used
pub data Outcome : Type 0 where
  Returns : Lists → Effects → (used : ℕ) → Outcome
  Traps : Trap → (used : ℕ) → Outcome

-- the outcome of code on a store, at what it sees, where it may use this many instructions
abbrev pub Enters : Type 0
Enters = Code → Lists → Target → EntryKind → View → (limit : ℕ) → Outcome

-- the method of that name: an update, or else a query
abbrev pub or_query : Option ℕ → Option ℕ → Option Admitted
or_query (Some f) query = Some (Update f)
or_query None query = option_map Query query

abbrev pub method_of : Code → List ℕ → Option Admitted
method_of code name = or_query (entry_of code.«module» entry.Update name) (entry_of code.«module» entry.Query name)
