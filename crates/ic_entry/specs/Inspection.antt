-- A canister looks at a user's call before it is accepted (IC Interface Specification, "Ingress message inspection").
use Rattle.std.specs.Prelude.{ℕ, Bool, true, false, List, [], Option, Some, None, option_map}
use Rattle.wm_valid.specs.declared.entry.EntryName.TheVariants as entry
use Rattle.wm_valid.specs.Entries.{entry_of}
use Rattle.wm_semantics.specs.declared.target.Target.TheVariants.{Function}
use Rattle.ic_behaviour.specs.declared.phase.Phase.{Phase}
use Rattle.ic_behaviour.specs.declared.phase.Phase.TheVariants.{Running}
use Rattle.ic_behaviour.specs.declared.env.Env.{Env}
use Rattle.ic_behaviour.specs.declared.execution.EntryKind.TheVariants as kind
use Rattle.ic_behaviour.specs.State.{Code}
use Rattle.ic_behaviour.specs.Counted.{CountedCanister}
use Rattle.ic_behaviour.specs.Outcomes.{Outcome, Returns, Traps, Enters}
use Rattle.ic_behaviour.specs.Views.{user_view}

-- the code and its function for inspection, where the canister is running and has one
abbrev pub inspection_of : Phase → Option Code → Option (Code × ℕ)
inspection_of Running (Some code) = option_map (λ f. (code, f)) (entry_of code.«module» entry.Inspect [])
inspection_of phase code = None

abbrev pub is_accepted_by : Outcome → Bool
is_accepted_by (Returns store e used) = e.accepted_message
is_accepted_by (Traps cause used) = false

-- where nothing looks at calls, each is accepted
abbrev pub is_accepted_in : Enters → Env → CountedCanister → (sender method arg : List ℕ) → Option (Code × ℕ) → Bool
is_accepted_in enters env c sender method arg None = true
is_accepted_in enters env c sender method arg (Some entry) =
    is_accepted_by (enters entry.0 c.store (Function entry.1) kind.Inspect (user_view env c sender method arg) env.limit)

abbrev pub is_accepted : Enters → Env → CountedCanister → (sender method arg : List ℕ) → Bool
is_accepted enters env c sender method arg = is_accepted_in enters env c sender method arg (inspection_of c.phase c.code)
