-- What code does to a canister that code is installed on is what the row says.
use Rattle.std.proofs.Common.{◌≡◌, ℕ, Option, Some, None, refl, sym, ap, ◌∙◌}
use Rattle.std.specs.Prelude.{Result, Ok, Err}
use Rattle.std.specs.Option.{IsSome}
use Rattle.ic_behaviour.specs.declared.install.InstallFault.{InstallFault}
use Rattle.ic_behaviour.specs.State.{Code, Canister, State}
use Rattle.ic_behaviour.specs.Counted.{CountedCanister, counted, dropped}
use Rattle.ic_behaviour.specs.Closing.{empty_reply}
use Rattle.ic_behaviour.specs.Deliver.{env_at}
use Rattle.ic_behaviour.specs.Installing.{EntersAfter, Installation, installed}
use Rattle.ic_mgmt_candid.specs.declared.demand.InstallCode.{InstallCode}
use Rattle.ic_mgmt_candid.specs.declared.denial.Denial.{Denial}
use Rattle.ic_mgmt_candid.specs.Checks.{◌>>=◌}
use Rattle.ic_mgmt_candid.specs.Modules.{code_of}
use Rattle.ic_mgmt_laws.specs.Moves.{with_canister, replied}
use Rattle.ic_behaviour.specs.declared.call.IncomingCall.{IncomingCall}
use Rattle.ic_mgmt_laws.specs.Rows.{unless_unsuited, installation_on, unless_refused, installs}

module _ (enters : EntersAfter) (limit : ℕ) (now s : State) (call : IncomingCall) (asked : InstallCode) (a : Canister) where
  abbrev row : Result State Denial
  row = installs enters limit now s call asked a

  -- what comes once the code is there, and its mode suits
  abbrev done : Installation → Result State Denial
  done i = unless_refused i.refusal >>= λ v. Ok (replied call empty_reply (with_canister asked.canister_id (dropped i.canister) s))

  abbrev tried : Code → Result State Denial
  tried code = unless_unsuited asked.mode a.code >>= λ u. done (installation_on enters limit now call asked a code)

  pub no_code : (denial : Denial) → code_of asked.wasm_module ≡ Err denial → row ≡ Err denial
  no_code denial is = ap (λ r. r >>= tried) is

  module _ (code : Code) (read : code_of asked.wasm_module ≡ Ok code) where
    pub unsuited : (denial : Denial) → unless_unsuited asked.mode a.code ≡ Err denial → row ≡ Err denial
    unsuited denial is = ap (λ r. r >>= tried) read ∙ ap (λ r. r >>= (λ u. done (installation_on enters limit now call asked a code))) is

    module _ (suits : unless_unsuited asked.mode a.code ≡ Ok tt) (i : Installation) (c : CountedCanister) (counts : counted now asked.canister_id a ≡ c)
        (after : i ≡ installed enters (env_at now.time limit 0) c asked.mode code asked.arg call.sender) where
      reached : row ≡ done i
      reached = ap (λ r. r >>= tried) read
          ∙ ap (λ r. r >>= (λ u. done (installation_on enters limit now call asked a code))) suits
          ∙ ap (λ k. done (installed enters (env_at now.time limit 0) k asked.mode code asked.arg call.sender)) counts
          ∙ ap done (sym after)

      pub not_installed : (denial : Denial) → unless_refused i.refusal ≡ Err denial → row ≡ Err denial
      not_installed denial is = reached ∙ ap (λ r. r >>= (λ v. Ok (replied call empty_reply (with_canister asked.canister_id (dropped i.canister) s)))) is

      pub is_installed : i.refusal ≡ None → row ≡ Ok (replied call empty_reply (with_canister asked.canister_id (dropped i.canister) s))
      is_installed is = reached ∙ ap (λ (r : Option InstallFault). unless_refused r >>= (λ v. Ok (replied call empty_reply (with_canister asked.canister_id (dropped i.canister) s)))) is

-- ---- what the code tells of a refusal

pub refuses : (refusal : Option InstallFault) (denial : Denial) → Err denial ≡ unless_refused refusal → IsSome refusal
refuses None denial is = absurd cc
refuses (Some fault) denial is = refl

pub none_refused : (refusal : Option InstallFault) → Ok tt ≡ unless_refused refusal → refusal ≡ None
none_refused None is = refl
none_refused (Some fault) is = absurd cc
