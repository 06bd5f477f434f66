-- The refusals that every call to the management canister meets first, in their order (IC Interface Specification, "The IC management canister"; the order is a profile of this project).
use Rattle.std.specs.Prelude.{◌≡◌, ℕ, Bool, true, false, not, ◌||◌, List, Option, Some, None, Result, Ok, Err}
use Rattle.std.specs.List.{list_any}
use Rattle.std.specs.Str.{bytes_eq}
use Rattle.ic_behaviour.specs.declared.call.Origin.{Origin}
use Rattle.ic_behaviour.specs.declared.call.Origin.TheVariants as origin
use Rattle.ic_mgmt_candid.specs.declared.method.Method.{Method}
use Rattle.ic_mgmt_candid.specs.declared.demand.Demand.{Demand}
use Rattle.ic_mgmt_candid.specs.declared.demand.Demand.TheVariants as demand
use Rattle.ic_mgmt_candid.specs.declared.demand.Who.{Who}
use Rattle.ic_mgmt_candid.specs.declared.demand.Who.TheVariants.{All, Controllers, ControllersAndItself}
use Rattle.ic_mgmt_candid.specs.declared.denial.Denial.{Denial}
use Rattle.ic_mgmt_candid.specs.declared.denial.Denial.TheVariants as D
use Rattle.ic_mgmt_candid.specs.declared.denial.Unmet.{Unmet}
use Rattle.ic_mgmt_candid.specs.declared.denial.Unmet.TheVariants.{Denied, NoMemory}
use Rattle.ic_mgmt_candid.specs.Methods.{method_of, is_only_for_canisters}
use Rattle.ic_mgmt_candid.specs.Demands.{demand_of}

infixl 10 ◌>>=◌
-- go on where nothing is refused
abbrev pub ◌>>=◌ : {A B : Type 0} → Result A Denial → (A → Result B Denial) → Result B Denial
(Ok x) >>= next = next x
(Err denial) >>= next = Err denial

-- what code returned, as it is seen, is what comes, unless memory ran out
abbrev pub MeetsBy : {A B : Type 0} → (A → B) → Result A Unmet → Result B Denial → Type 0
MeetsBy seen (Ok x) comes = comes ≡ Ok (seen x)
MeetsBy seen (Err (Denied denial)) comes = comes ≡ Err denial
MeetsBy seen (Err NoMemory) comes = Unit {0}

abbrev pub Meets : {A : Type 0} → Result A Unmet → Result A Denial → Type 0
Meets result comes = MeetsBy (λ x. x) result comes

-- what is there, or else a refusal
abbrev pub or_else : {A : Type 0} → Option A → Denial → Result A Denial
or_else None denial = Err denial
or_else (Some x) denial = Ok x

-- a refusal, where the test fails
abbrev pub unless : Bool → Denial → Result (Unit {0}) Denial
unless true denial = Ok tt
unless false denial = Err denial

-- whether a canister made the call
abbrev pub is_canisters : Origin → Bool
is_canisters (origin.Ingress number) = false
is_canisters (origin.Canister caller number context callback) = true

-- the canister that a demand is for
abbrev pub target : Demand → Option (List ℕ)
target (demand.CreateCanister controllers) = None
target (demand.ProvisionalCreateCanisterWithCycles amount controllers) = None
target (demand.ProvisionalTopUpCanister id amount) = Some id
target (demand.DepositCycles id) = Some id
target (demand.UpdateSettings id controllers) = Some id
target (demand.InstallCode install) = Some install.canister_id
target (demand.UninstallCode id) = Some id
target (demand.StartCanister id) = Some id
target (demand.StopCanister id) = Some id
target (demand.DeleteCanister id) = Some id
target (demand.CanisterStatus id) = Some id

-- who may make it
abbrev pub who : Demand → Who
who (demand.CreateCanister controllers) = All
who (demand.ProvisionalCreateCanisterWithCycles amount controllers) = All
who (demand.ProvisionalTopUpCanister id amount) = All
who (demand.DepositCycles id) = All
who (demand.CanisterStatus id) = ControllersAndItself
who _ = Controllers

-- the controllers of the canister that a demand is for, if it is for one
abbrev pub known : (List ℕ → Option (List (List ℕ))) → Option (List ℕ) → Result (Option (List (List ℕ))) Denial
known controllers None = Ok None
known controllers (Some id) = do
  found ← or_else (controllers id) (D.NoCanister id)
  Ok (Some found)

abbrev pub is_controller : List ℕ → Option (List (List ℕ)) → Bool
is_controller sender None = false
is_controller sender (Some controllers) = list_any (bytes_eq sender) controllers

abbrev pub is_itself : List ℕ → Option (List ℕ) → Bool
is_itself sender None = false
is_itself sender (Some id) = bytes_eq id sender

abbrev pub may : Who → (sender : List ℕ) → Option (List ℕ) → Option (List (List ℕ)) → Bool
may All sender id controllers = true
may Controllers sender id controllers = is_controller sender controllers
may ControllersAndItself sender id controllers = is_controller sender controllers || is_itself sender id

-- what a call demands
abbrev pub demanded : Origin → (name arg : List ℕ) → Result Demand Denial
demanded from name arg = do
  m ← or_else (method_of name) D.NoMethod
  _ ← unless (is_canisters from || not (is_only_for_canisters m)) D.OnlyForCanisters
  or_else (demand_of m arg) D.NotDecoded

-- whether the sender may demand it, with the controllers of each canister
abbrev pub permitted : (List ℕ → Option (List (List ℕ))) → (sender : List ℕ) → Demand → Result (Unit {0}) Denial
permitted controllers sender demanded = do
  found ← known controllers (target demanded)
  unless (may (who demanded) sender (target demanded) found) D.NotController

-- what a call demands, unless it is refused before the method's own refusals
abbrev pub ordered : (List ℕ → Option (List (List ℕ))) → Origin → (sender name arg : List ℕ) → Result Demand Denial
ordered controllers from sender name arg = do
  demand' ← demanded from name arg
  _ ← permitted controllers sender demand'
  Ok demand'
