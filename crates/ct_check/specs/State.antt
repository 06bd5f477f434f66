-- What is known at a place of a test file.
use Rattle.std.specs.Prelude.{ℕ, List}
use Rattle.ct_scope.specs.Scope.{NamesInScope, with_bound, with_interface, settled}
use Rattle.ct_scope.specs.declared.bound.InterfaceId.{InterfaceId}
use Rattle.ct_scope.specs.declared.bound.Kind.{Kind}
use Rattle.ct_sources.specs.Files.{Files}

-- the files, the names, and the last time that was set
pub record State : Type 0 where
  pub sources : Files
  pub scope : NamesInScope
  pub time : ℕ

abbrev pub in_scope : State → NamesInScope → State
in_scope state scope = record { sources = state.sources; scope = scope; time = state.time }

-- a name more is bound, and not seen yet
abbrev pub binding : State → List ℕ → Kind → State
binding state name kind = in_scope state (with_bound state.scope name kind)

-- a canister has another interface
abbrev pub interfaced : State → List ℕ → ℕ → InterfaceId → State
interfaced state name slot interface = in_scope state (with_interface state.scope name slot interface)

-- all names are seen
abbrev pub settling : State → State
settling state = in_scope state (settled state.scope)

-- the time is set
abbrev pub timed : State → ℕ → State
timed state time = record { sources = state.sources; scope = state.scope; time = time }
