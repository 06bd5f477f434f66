-- Which methods and demands make or delete canisters.
use Rattle.std.proofs.Common.{◌≡◌, ℕ, Bool, true, false, ◌||◌, List, Option, Some, None, refl, sym}
use Rattle.std.specs.Prelude.{codes, option_map, if◌then◌else◌}
use Rattle.std.specs.Str.{bytes_eq}
use Rattle.std.proofs.lemmas.Bool.{or_parts, false≢true}
use Rattle.ic_base.specs.Reader.{◌>>=◌}
use Rattle.cd_codec.specs.Content.{Content}
use Rattle.ic_mgmt_candid.specs.declared.method.Method.{Method}
use Rattle.ic_mgmt_candid.specs.declared.method.Method.TheVariants as M
use Rattle.ic_mgmt_candid.specs.declared.demand.Demand.{Demand}
use Rattle.ic_mgmt_candid.specs.declared.demand.Demand.TheVariants as demand
use Rattle.ic_mgmt_candid.specs.Methods.{method_of}
use Rattle.ic_mgmt_candid.specs.Demands.{canister_id, install, with_settings, controllers_of, argument, type_of, picked, demand_of}
use Rattle.ic_mgmt_candid.specs.Picks.{only_two, as_principal, as_nat}
use Rattle.ic_queues.specs.Queued.{may_change_canisters}

abbrev pub steady_method : Method → Bool
steady_method M.CreateCanister = false
steady_method M.ProvisionalCreateCanisterWithCycles = false
steady_method M.DeleteCanister = false
steady_method _ = true

abbrev pub steady_demand : Demand → Bool
steady_demand (demand.CreateCanister controllers) = false
steady_demand (demand.ProvisionalCreateCanisterWithCycles amount controllers) = false
steady_demand (demand.DeleteCanister id) = false
steady_demand _ = true

abbrev pub Given : {A : Type 0} → (A → Bool) → Option A → Type 0
Given p None = Unit {0}
Given p (Some x) = p x ≡ true

given_bound : {A B : Type 0} (p : B → Bool) (o : Option A) (f : A → Option B) → ((x : A) → Given p (f x)) → Given p (o >>= f)
given_bound p None f all = tt
given_bound p (Some x) f all = all x

given_map : {A B : Type 0} (p : B → Bool) (f : A → B) (o : Option A) → ((x : A) → p (f x) ≡ true) → Given p (option_map f o)
given_map p f None all = tt
given_map p f (Some x) all = all x

chosen : (create provisional top_up deposit update install uninstall start stop delete status : Bool) → create ≡ false → provisional ≡ false → delete ≡ false
    → Given steady_method (
    if create then Some M.CreateCanister else
    if provisional then Some M.ProvisionalCreateCanisterWithCycles else
    if top_up then Some M.ProvisionalTopUpCanister else
    if deposit then Some M.DepositCycles else
    if update then Some M.UpdateSettings else
    if install then Some M.InstallCode else
    if uninstall then Some M.UninstallCode else
    if start then Some M.StartCanister else
    if stop then Some M.StopCanister else
    if delete then Some M.DeleteCanister else
    if status then Some M.CanisterStatus else None)
chosen true provisional top_up deposit update install uninstall start stop delete status h p d = absurd (false≢true (sym h))
chosen false true top_up deposit update install uninstall start stop delete status c h d = absurd (false≢true (sym h))
chosen false false true deposit update install uninstall start stop delete status c p d = refl
chosen false false false true update install uninstall start stop delete status c p d = refl
chosen false false false false true install uninstall start stop delete status c p d = refl
chosen false false false false false true uninstall start stop delete status c p d = refl
chosen false false false false false false true start stop delete status c p d = refl
chosen false false false false false false false true stop delete status c p d = refl
chosen false false false false false false false false true delete status c p d = refl
chosen false false false false false false false false false true status c p h = absurd (false≢true (sym h))
chosen false false false false false false false false false false true c p d = refl
chosen false false false false false false false false false false false c p d = tt

pub method_steady : (name : List ℕ) → may_change_canisters name ≡ false → Given steady_method (method_of name)
method_steady name none =
    let is = λ (text : List ℕ). bytes_eq name text in
    let first = or_parts (is (codes "create_canister")) (is (codes "provisional_create_canister_with_cycles") || is (codes "delete_canister")) none in
    let second = or_parts (is (codes "provisional_create_canister_with_cycles")) (is (codes "delete_canister")) first.1 in
    chosen (is (codes "create_canister")) (is (codes "provisional_create_canister_with_cycles")) (is (codes "provisional_top_up_canister")) (is (codes "deposit_cycles")) (is (codes "update_settings")) (is (codes "install_code")) (is (codes "uninstall_code")) (is (codes "start_canister")) (is (codes "stop_canister")) (is (codes "delete_canister")) (is (codes "canister_status"))
    first.0 second.0 second.1

amount_steady : (id : List ℕ) (amount : Option ℕ) → Given steady_demand (amount >>= λ n. Some (demand.ProvisionalTopUpCanister id n))
amount_steady id None = tt
amount_steady id (Some n) = refl

top_up_steady : (fields : Option (Content × Content)) → Given steady_demand (fields >>= λ f. as_principal f.0 >>= λ id. as_nat f.1 >>= λ n. Some (demand.ProvisionalTopUpCanister id n))
top_up_steady None = tt
top_up_steady (Some f) = by (as_principal f.0) where
  by : (id : Option (List ℕ)) → Given steady_demand (id >>= λ id. as_nat f.1 >>= λ n. Some (demand.ProvisionalTopUpCanister id n))
  by None = tt
  by (Some id) = amount_steady id (as_nat f.1)

settings_steady : (id : Option (List ℕ)) (controllers : Option (Option (List (List ℕ)))) → Given steady_demand (with_settings id controllers)
settings_steady None controllers = tt
settings_steady (Some id) None = tt
settings_steady (Some id) (Some controllers) = refl

update_steady : (fields : Option (Content × Content)) → Given steady_demand (fields >>= λ f. with_settings (as_principal f.0) (controllers_of f.1))
update_steady None = tt
update_steady (Some f) = settings_steady (as_principal f.0) (controllers_of f.1)

picked_steady : (m : Method) (values : List Content) → steady_method m ≡ true → Given steady_demand (picked m values)
picked_steady M.CreateCanister values is = absurd (false≢true is)
picked_steady M.ProvisionalCreateCanisterWithCycles values is = absurd (false≢true is)
picked_steady M.ProvisionalTopUpCanister values is = top_up_steady (only_two values)
picked_steady M.DepositCycles values is = given_map steady_demand demand.DepositCycles (canister_id values) (λ id. refl)
picked_steady M.UpdateSettings values is = update_steady (only_two values)
picked_steady M.InstallCode values is = given_map steady_demand demand.InstallCode (install values) (λ asked. refl)
picked_steady M.UninstallCode values is = given_map steady_demand demand.UninstallCode (canister_id values) (λ id. refl)
picked_steady M.StartCanister values is = given_map steady_demand demand.StartCanister (canister_id values) (λ id. refl)
picked_steady M.StopCanister values is = given_map steady_demand demand.StopCanister (canister_id values) (λ id. refl)
picked_steady M.DeleteCanister values is = absurd (false≢true is)
picked_steady M.CanisterStatus values is = given_map steady_demand demand.CanisterStatus (canister_id values) (λ id. refl)

pub demand_steady : (m : Method) (arg : List ℕ) → steady_method m ≡ true → Given steady_demand (demand_of m arg)
unfolding demand_of
demand_steady m arg is = given_bound steady_demand (argument (type_of m) arg) (picked m) (λ values. picked_steady m values is)
