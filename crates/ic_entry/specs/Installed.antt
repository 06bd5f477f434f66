-- An installation, as the code has it. No standard has this.
use Rattle.std.specs.Prelude.{◌≡◌, ℕ, Bool, true, false, List, Option, Some, None, Result, Ok, Err, alloc_error}
use Rattle.wm_store.specs.Lists.{Lists}
use Rattle.wm_store.specs.Held.{Held}
use Rattle.ic_behaviour.specs.declared.install.Mode.{Mode}
use Rattle.ic_behaviour.specs.declared.install.Mode.TheVariants.{Upgrade}
use Rattle.std.specs.declared.alloc.AllocError.{AllocError}
use Rattle.ic_state.specs.declared.canister.Code.{Code as StoredCode}
use Rattle.ic_behaviour.specs.declared.install.InstallFault.{InstallFault}
use Rattle.ic_behaviour.specs.declared.install.InstallFault.TheVariants.{Segment}
use Rattle.ic_behaviour.specs.declared.env.Env.{Env}
use Rattle.ic_behaviour.specs.Installing.{enters_after, Stage, Staged, Goes, Refused, Installing, Installation}
use Rattle.ic_state.specs.declared.canister.Canister.{Canister}
use Rattle.ic_api.specs.System.{system_api}
use Rattle.ic_state.specs.Seen.{seen}
use Rattle.ic_entry.specs.declared.staging.Draft.{Draft}
use Rattle.ic_entry.specs.declared.staging.Stop.{Stop}
use Rattle.ic_entry.specs.declared.staging.Stop.TheVariants as stop
use Rattle.ic_entry.specs.declared.installing.Installed.{Installed}

abbrev pub installation_of : Installed → Installation
installation_of i = record { canister = seen i.canister; refusal = i.refusal; used = i.used }

abbrev pub is_upgrade : Mode → Bool
is_upgrade (Upgrade skips) = true
is_upgrade mode = false

-- what stays on the way of an installation on this canister
abbrev pub asked_of : Env → Canister → (sender : List ℕ) → Installing
asked_of env c sender = record { enters = enters_after system_api; env = env; canister = seen c; sender = sender }

abbrev pub stage_of : Lists → (certified : List ℕ) → (used : ℕ) → Stage
stage_of store certified used = record { store = store; certified = certified; used = used }

-- a step answers so, where it leaves this store, certified data and use of the meter
abbrev pub Steps : Result (Unit {0}) Stop → Stage → Staged → Type 0
Steps (Ok done) now step = step ≡ Goes now
Steps (Err (stop.Refused cause)) now step = step ≡ Refused cause now.used
Steps (Err stop.NoMemory) now step = Unit {0}

-- code that ran answers so, where it leaves this store and use of the meter
abbrev pub Leaves : Result (List ℕ) Stop → Lists → (used : ℕ) → Staged → Type 0
Leaves (Ok certified) store used step = step ≡ Goes (stage_of store certified used)
Leaves (Err (stop.Refused cause)) store used step = step ≡ Refused cause used
Leaves (Err stop.NoMemory) store used step = Unit {0}

-- steps answer so, that make a store and certified data
abbrev pub Drafts : Result Draft Stop → (used : ℕ) → Staged → Type 0
Drafts (Ok draft) used steps = steps ≡ Goes (stage_of draft.store.lists draft.certified used)
Drafts (Err (stop.Refused cause)) used steps = steps ≡ Refused cause used
Drafts (Err stop.NoMemory) used steps = Unit {0}

-- a new store is made of this, or a segment is out of bounds
abbrev pub Makes : Result Held Stop → Option Lists → Type 0
Makes (Ok store) made = made ≡ Some store.lists
Makes (Err (stop.Refused cause)) made = (cause ≡ Segment) × (made ≡ None)
Makes (Err stop.NoMemory) made = Unit {0}

-- what the canister is afterwards, and why it is as before, if it is
abbrev pub with_draft : Canister → StoredCode → Result Draft Stop → Canister
with_draft c code (Ok draft) = record c { code = Some code; store = draft.store; certified = draft.certified }
with_draft c code (Err stop) = c

abbrev pub refusal_of : Result Draft Stop → Result (Option InstallFault) AllocError
refusal_of (Ok draft) = Ok None
refusal_of (Err (stop.Refused cause)) = Ok (Some cause)
refusal_of (Err stop.NoMemory) = Err alloc_error
