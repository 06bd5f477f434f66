-- Code is installed on a canister (IC Interface Specification, "IC method install_code").
use Rattle.std.specs.Prelude.{ℕ, Bool, cond, List, [], Option, Some, None, option_map}
use Rattle.wm_valid.specs.declared.entry.EntryName.{EntryName}
use Rattle.wm_valid.specs.declared.entry.EntryName.TheVariants as entry
use Rattle.wm_valid.specs.Entries.{entry_of}
use Rattle.wm_store.specs.Lists.{Lists}
use Rattle.wm_semantics.specs.declared.target.Target.{Target}
use Rattle.wm_semantics.specs.declared.target.Target.TheVariants.{Function}
use Rattle.wm_semantics.specs.Instance.{instance}
use Rattle.wm_semantics.specs.Entry as run
use Rattle.ic_behaviour.specs.declared.env.Env.{Env}
use Rattle.ic_behaviour.specs.declared.execution.EntryKind.{EntryKind}
use Rattle.ic_behaviour.specs.declared.execution.EntryKind.TheVariants as kind
use Rattle.ic_behaviour.specs.declared.execution.View.{View}
use Rattle.ic_behaviour.specs.declared.install.Mode.{Mode}
use Rattle.ic_behaviour.specs.declared.install.Mode.TheVariants.{Install, Reinstall, Upgrade}
use Rattle.ic_behaviour.specs.declared.install.InstallFault.{InstallFault}
use Rattle.ic_behaviour.specs.declared.install.InstallFault.TheVariants as fault
use Rattle.ic_behaviour.specs.State.{Code}
use Rattle.ic_behaviour.specs.Counted.{CountedCanister}
use Rattle.ic_behaviour.specs.Outcomes.{Outcome, Returns, Traps}
use Rattle.ic_behaviour.specs.Entry.{SystemApi, outcome_of}
use Rattle.ic_behaviour.specs.Views.{user_view}

-- ---- code on a meter that runs on

-- the outcome of code on a store, at what it sees, where this many of the instructions of the limit were used before
abbrev pub EntersAfter : Type 0
EntersAfter = Code → Lists → Target → EntryKind → View → (limit spent : ℕ) → Outcome

-- `enters_by` is this with nothing spent
unfoldable pub enters_after : {H : Type 0} → SystemApi H → EntersAfter
enters_after api code s target kind view limit spent = outcome_of api (run.entry api.reply code.«module» s target (api.begin kind view) limit spent)

-- ---- how far an installation is

-- the store and the certified data, and what the one meter of the installation has used
pub record Stage : Type 0 where
  pub store : Lists
  pub certified : List ℕ
  pub used : ℕ

pub data Staged : Type 0 where
  Goes : Stage → Staged
  Refused : InstallFault → (used : ℕ) → Staged

infixl 10 ◌>>=◌
abbrev pub ◌>>=◌ : Staged → (Stage → Staged) → Staged
(Goes now) >>= next = next now
(Refused cause used) >>= next = Refused cause used

-- ---- one step

-- Beside the store and the certified data nothing is kept of what code did: it may not answer, accept cycles or make calls.
abbrev pub staged : Outcome → Staged
staged (Returns store e used) = Goes (record { store = store; certified = e.certified; used = used })
staged (Traps cause used) = Refused (fault.Trapped cause) used

abbrev pub start_of : Code → Option Target
start_of code = option_map Function code.«module».start

abbrev pub point_of : Code → EntryName → Option Target
point_of code name = option_map Function (entry_of code.«module» name [])

-- what code sees: the canister as it is, but for the certified data; the caller is who asks for the installation
abbrev pub install_view : Env → CountedCanister → (sender arg certified : List ℕ) → View
install_view env c sender arg certified = record (user_view env c sender [] arg) { certified = certified }

-- the function runs, if there is one
abbrev pub entered : EntersAfter → Code → Option Target → EntryKind → View → (limit : ℕ) → Stage → Staged
entered enters code None kind view limit now = Goes now
entered enters code (Some target) kind view limit now = staged (enters code now.store target kind view limit now.used)

abbrev pub with_stable : List ℕ → Lists → Lists
with_stable bytes s = record s { stable = bytes }

abbrev pub made_of : Option Lists → Stage → Staged
made_of None now = Refused fault.Segment now.used
made_of (Some store) now = Goes (record now { store = store })

-- the store of the module, with this stable memory, unless a segment is out of bounds
abbrev pub made : Code → (stable : List ℕ) → Stage → Staged
made code stable now = made_of (option_map (with_stable stable) (instance code.«module»)) now

-- ---- all steps

-- what stays on the way
pub record Installing : Type 0 where
  pub enters : EntersAfter
  pub env : Env
  pub canister : CountedCanister
  pub sender : List ℕ

-- an entry point or the start function of code, with an argument
abbrev pub runs : Installing → Code → Option Target → EntryKind → (arg : List ℕ) → Stage → Staged
runs i code target kind arg now =
    entered i.enters code target kind (install_view i.env i.canister i.sender arg now.certified) i.env.limit now

-- new code, on a new store: its start function, and then the entry point with the argument
abbrev pub started : Installing → Code → EntryName → (arg : List ℕ) → Stage → Staged
started i new name arg now = do
  now ← runs i new (start_of new) kind.Start [] now
  runs i new (point_of new name) kind.Init arg now

abbrev pub install_steps : Installing → (new : Code) → (arg : List ℕ) → Stage → Staged
install_steps i new arg now = do
  now ← made new [] (record now { certified = [] })
  started i new entry.Init arg now

-- the old code is told, on its own store, unless that is skipped
abbrev pub left : Installing → (old : Code) → (skips : Bool) → Stage → Staged
left i old skips now = cond skips (Goes now) (runs i old (point_of old entry.PreUpgrade) kind.PreUpgrade [] now)

-- the stable memory is kept as the old code left it
abbrev pub upgrade_steps : Installing → (old new : Code) → (skips : Bool) → (arg : List ℕ) → Stage → Staged
upgrade_steps i old new skips arg now = do
  now ← left i old skips now
  now ← made new now.store.stable now
  started i new entry.PostUpgrade arg now

-- without code there is nothing to upgrade, and the code is installed
abbrev pub steps : Installing → Mode → (old : Option Code) → (new : Code) → (arg : List ℕ) → Stage → Staged
steps i (Upgrade skips) (Some old) new arg now = upgrade_steps i old new skips arg now
steps i mode old new arg now = install_steps i new arg now

-- ---- the whole

-- the canister afterwards, why the code is not installed, if it is not, and what was used
pub record Installation : Type 0 where
  pub canister : CountedCanister
  pub refusal : Option InstallFault
  pub used : ℕ

abbrev pub first_stage : CountedCanister → Stage
first_stage c = record { store = c.store; certified = c.certified; used = 0 }

-- contexts stay, and the balance; where it is refused, all stays
abbrev pub installation_by : CountedCanister → Code → Staged → Installation
installation_by c new (Goes now) = record {
  canister = record c { code = Some new; store = now.store; certified = now.certified };
  refusal = None;
  used = now.used;
}
installation_by c new (Refused cause used) = record { canister = c; refusal = Some cause; used = used }

-- the canister has the counts of the state that still has the call that asks for the installation
unfoldable pub installed : EntersAfter → Env → CountedCanister → Mode → Code → (arg sender : List ℕ) → Installation
installed enters env c mode new arg sender =
    installation_by c new (steps (record { enters = enters; env = env; canister = c; sender = sender }) mode c.code new arg (first_stage c))
