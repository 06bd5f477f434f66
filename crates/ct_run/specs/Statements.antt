-- When a statement is met in a state with what the names stand for, what happens then and which names it binds; and what comes
-- instead where it is not met. A row for each kind.
use Rattle.std.specs.Prelude.{◌≡◌, ◌⊎◌, ◌++◌, ◌&&◌, ℕ, false, nat_le, if◌then◌else◌, List, [], ◌∷◌, map, slice_get, option_map, unwrap_or, Option, Some, None, codes}
use Rattle.ic_behaviour.specs.State.{State}
use Rattle.ic_behaviour.specs.Runs.{Act, SetsTime}
use Rattle.ic_behaviour.specs.declared.charge.Charge.{Charge}
use Rattle.ct_scope.specs.declared.bound.InterfaceId.{InterfaceId}
use Rattle.ct_sources.specs.Files.{Files}
use Rattle.ct_check.specs.Moving.{Moving}
use Rattle.ct_check.specs.declared.checked.CheckedAction.{CheckedAction}
use Rattle.ct_check.specs.declared.checked.CheckedAction.TheVariants as actions
use Rattle.ct_check.specs.declared.checked.CheckedCreation.{CheckedCreation}
use Rattle.ct_check.specs.declared.checked.CheckedKind.{CheckedKind}
use Rattle.ct_check.specs.declared.checked.CheckedKind.TheVariants as kinds
use Rattle.ct_check.specs.declared.checked.CheckedOrigin.TheVariants as origins
use Rattle.ct_check.specs.declared.checked.CheckedOutcome.{CheckedOutcome}
use Rattle.ct_check.specs.declared.checked.CheckedUser.{CheckedUser}
use Rattle.ct_outcomes.specs.declared.standing.Standing.TheVariants.{Principal}
use Rattle.ct_outcomes.specs.declared.named.Named.{Named}
use Rattle.ct_outcomes.specs.declared.came.Came.{Came}
use Rattle.ct_outcomes.specs.declared.came.Came.TheVariants.{NotValues, NotPrincipal}
use Rattle.ct_outcomes.specs.Types.{Types}
use Rattle.ct_outcomes.specs.Meets.{MeetsOne}
use Rattle.ct_asked.specs.declared.asked.Asked.{Asked}
use Rattle.ct_asked.specs.Requests.{Code}
use Rattle.ct_asked.specs.Asked.{principal_at, types_of, IsAsked, IsCreation}
use Rattle.ct_run.specs.Called.{doing, after_acts}
use Rattle.ct_run.specs.Created.{Making, making}

-- what tests are run with: the files that the test file names, the limit of instructions, and their price
pub record Setting : Type 0 where
  pub files : Files
  pub charge : Charge

-- ---- names

abbrev pub principal_named : List ℕ → List ℕ → Named
principal_named name id = record { name = name; standing = Principal id }

abbrev pub user_named : CheckedUser → Named
user_named user = principal_named user.name user.principal

-- the names that are there from the start
abbrev pub first_names : List Named
first_names = principal_named (codes "anonymous") (4 ∷ []) ∷ principal_named (codes "ic") [] ∷ []

-- the name in a slot
abbrev pub name_at : List Named → ℕ → List ℕ
name_at names slot = unwrap_or (option_map (λ (named : Named). named.name) (slice_get names slot)) []

-- ---- outcomes

-- what came meets one of the outcomes, where a reply is read at these types, and binds names
abbrev pub MeetsAt : Option Types → List Named → List CheckedOutcome → Came → List Named → Type 0
MeetsAt None names expected came bound = ⊥
MeetsAt (Some types) names expected came bound = MeetsOne types names expected came bound

-- what is expected of an action, and the types at which its reply is read
abbrev pub expected_of : CheckedAction → List CheckedOutcome
expected_of (actions.Call message) = message.expected
expected_of (actions.Query message) = message.expected
expected_of (actions.Upgrade change) = change.expected
expected_of (actions.Reinstall change) = change.expected

abbrev pub reply_types : Files → CheckedAction → Option Types
reply_types files (actions.Call message) = types_of files message.interface message.method.results
reply_types files (actions.Query message) = types_of files message.interface message.method.results
reply_types files (actions.Upgrade change) = types_of files change.interface []
reply_types files (actions.Reinstall change) = types_of files change.interface []

abbrev pub IsMoveMet : Files → List Named → CheckedAction → Came → List Named → Type 0
IsMoveMet files names action came bound = MeetsAt (reply_types files action) names (expected_of action) came bound

-- ---- a canister that is made

-- nothing is made, since the arguments are no values of their types
abbrev pub unmade : Making
unmade = record { acts = []; came = NotValues; canister = None }

abbrev pub IsMaking : Setting → State → List Named → (by : ℕ) → CheckedCreation → Making → Type 0
IsMaking setting s names by creation m =
    ((maker : List ℕ × Code) × IsCreation setting.files names by creation maker × (m ≡ making setting.charge s maker creation.cycles))
    ⊎ (((maker : List ℕ × Code) → IsCreation setting.files names by creation maker → ⊥) × (m ≡ unmade))

-- there is a canister, and what came meets one of the outcomes
abbrev pub IsMadeAsExpected : Files → List Named → CheckedCreation → Making → (id : List ℕ) → List Named → Type 0
IsMadeAsExpected files names creation m id bound =
    (m.canister ≡ Some id) × MeetsAt (types_of files creation.interface []) names creation.expected m.came bound

-- ---- statements

-- the time is set, if it does not go back: no checked file has one that does
abbrev pub time_set : State → ℕ → List Act
time_set s time = if nat_le s.time time && nat_le time 9223372036854775807 then SetsTime time ∷ [] else []

-- a statement is met: what happens then, and the names that it binds
abbrev pub IsMet : Setting → State → List Named → CheckedKind → List Act → List Named → Type 0
IsMet setting s names (kinds.Users us) acts bound = (acts ≡ []) × (bound ≡ map user_named us)
IsMet setting s names (kinds.Time time) acts bound = (acts ≡ time_set s time) × (bound ≡ [])
IsMet setting s names (kinds.Canister by name (origins.Principal id interface)) acts bound = (acts ≡ []) × (bound ≡ principal_named name id ∷ [])
IsMet setting s names (kinds.Canister by name (origins.Named slot interface)) acts bound =
    (acts ≡ []) × ((id : List ℕ) × (principal_at names slot ≡ Some id) × (bound ≡ principal_named name id ∷ []))
IsMet setting s names (kinds.Canister by name (origins.Made creation)) acts bound =
    (m : Making) × (id : List ℕ) × (met : List Named) × IsMaking setting s names by creation m × IsMadeAsExpected setting.files names creation m id met
    × (acts ≡ m.acts) × (bound ≡ met ++ principal_named name id ∷ [])
IsMet setting s names (kinds.Move moving) acts bound =
    (asked : Asked) × IsAsked setting.files names moving asked × IsMoveMet setting.files names moving.action (doing setting.charge s asked).came bound
    × (acts ≡ (doing setting.charge s asked).acts)

-- a statement is not met: what came in place of what is expected
abbrev pub IsUnmet : Setting → State → List Named → CheckedKind → Came → Type 0
IsUnmet setting s names (kinds.Canister by name (origins.Named slot interface)) came = (principal_at names slot ≡ None) × (came ≡ NotPrincipal (name_at names slot))
IsUnmet setting s names (kinds.Canister by name (origins.Made creation)) came =
    (m : Making) × IsMaking setting s names by creation m × ((id : List ℕ) (met : List Named) → IsMadeAsExpected setting.files names creation m id met → ⊥) × (came ≡ m.came)
IsUnmet setting s names (kinds.Move moving) came =
    (asked : Asked) × IsAsked setting.files names moving asked
    × ((bound : List Named) → IsMoveMet setting.files names moving.action (doing setting.charge s asked).came bound → ⊥) × (came ≡ (doing setting.charge s asked).came)
IsUnmet setting s names kind came = ⊥

-- ---- what code holds of these

-- what came meets an outcome, and the names that this binds come last; or it meets none and is told, and binds nothing
abbrev pub Judges : Option Types → List Named → List CheckedOutcome → Came → List Named → Option Came → Type 0
Judges types names expected came next None = (bound : List Named) × MeetsAt types names expected came bound × (next ≡ names ++ bound)
Judges types names expected came next (Some told) =
    ((bound : List Named) → MeetsAt types names expected came bound → ⊥) × (told ≡ came) × (next ≡ names)

-- a canister that is there is bound, as what the name in a slot stands for; or that name stands for no principal, and nothing is bound
abbrev pub IsThere : List Named → (name : List ℕ) → (slot : ℕ) → List Named → Option Came → Type 0
IsThere names name slot next None = (id : List ℕ) × (principal_at names slot ≡ Some id) × (next ≡ names ++ principal_named name id ∷ [])
IsThere names name slot next (Some told) = (principal_at names slot ≡ None) × (told ≡ NotPrincipal (name_at names slot)) × (next ≡ names)

-- what is done where a canister is to be made: the state after it, the canister, if there is one, and what came
abbrev pub IsMadeBy : Setting → State → List Named → (by : ℕ) → CheckedCreation → State → Option (List ℕ) → Came → Type 0
IsMadeBy setting s names by creation end canister came =
    (m : Making) × IsMaking setting s names by creation m × (end ≡ after_acts setting.charge s m.acts) × (canister ≡ m.canister) × (came ≡ m.came)

-- the canister is bound, where what came meets an outcome; or there is none, or it meets none, and nothing is bound
abbrev pub Binds : Files → List Named → (name : List ℕ) → CheckedCreation → Option (List ℕ) → Came → List Named → Option Came → Type 0
Binds files names name creation canister came next None =
    (id : List ℕ) × (bound : List Named) × (canister ≡ Some id) × MeetsAt (types_of files creation.interface []) names creation.expected came bound
    × (next ≡ names ++ (bound ++ principal_named name id ∷ []))
Binds files names name creation canister came next (Some told) =
    ((id : List ℕ) (bound : List Named) → canister ≡ Some id → MeetsAt (types_of files creation.interface []) names creation.expected came bound → ⊥)
    × (told ≡ came) × (next ≡ names)
