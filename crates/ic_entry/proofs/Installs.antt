-- A canister after its installation.
use Rattle.std.proofs.Common.{◌≡◌, ℕ, false, List, Option, Some, None, Result, Ok, Err, refl, sym, ap, ◌∙◌, subst}
use Rattle.std.specs.Prelude.{IfOk, OnErr}
use Rattle.std.specs.Option.{option_map, IsSome}
use Rattle.wm_store.specs.Held.{Held}
use Rattle.wm_store.specs.Fits.{Fits}
use Rattle.ic_behaviour.specs.declared.context.Context.{Context}
use Rattle.ic_behaviour.specs.declared.env.Env.{Env}
use Rattle.ic_behaviour.specs.declared.install.Mode.{Mode}
use Rattle.ic_behaviour.specs.declared.install.InstallFault.{InstallFault}
use Rattle.ic_behaviour.specs.State.{Code}
use Rattle.ic_behaviour.specs.Installing.{enters_after, Staged, Goes, Refused, steps, first_stage, installation_by, installed}
use Rattle.ic_behaviour.proofs.Weights.{each-map}
use Rattle.ic_state.specs.declared.canister.Canister.{Canister}
use Rattle.ic_state.specs.declared.canister.Code.{Code as StoredCode}
use Rattle.ic_api.specs.System.{system_api}
use Rattle.ic_state.specs.Seen.{seen, code_of}
use Rattle.ic_state.specs.IsCanister.{IsCanister}
use Rattle.ic_entry.specs.declared.staging.Draft.{Draft}
use Rattle.ic_entry.specs.declared.staging.Stop.{Stop}
use Rattle.ic_entry.specs.declared.staging.Stop.TheVariants as stop
use Rattle.ic_entry.specs.Installed.{installation_of, asked_of, stage_of, Drafts, with_draft, refusal_of}

-- what a canister keeps, it keeps with new code and a store of its module
keeps_installed : (c : Canister) (code : StoredCode) (store : Held) (certified : List ℕ) → IsCanister c → Fits code.valid.«module» store.lists → store.begun ≡ None
    → IsCanister (record c { code = Some code; store = store; certified = certified })
keeps_installed c code store certified keeps fits idle = record {
  contexts = keeps.contexts;
  once = keeps.once;
  has_code = each-map (λ (x : Context). x.deleted ≡ false → IsSome c.code) (λ (x : Context). x.deleted ≡ false → IsSome (Some code)) (λ x has alive. refl) c.contexts keeps.has_code;
  counts = keeps.counts;
  few = keeps.few;
  cycles = keeps.cycles;
  controllers = keeps.controllers;
  rising = keeps.rising;
  fits = fits;
  idle = idle;
}

by_steps : (env : Env) (c : Canister) (mode : Mode) (code : Code) (arg sender : List ℕ) (s : Staged) → steps (asked_of env c sender) mode (option_map code_of c.code) code arg (first_stage (seen c)) ≡ s
    → installation_by (seen c) code s ≡ installed (enters_after system_api) env (seen c) mode code arg sender
unfolding installed
by_steps env c mode code arg sender s is = sym (ap (installation_by (seen c) code) is)

-- ---- by how the steps ended, which may have left another store

pub installs : (env : Env) (c d : Canister) (mode : Mode) (code : StoredCode) (arg sender : List ℕ) (ended : Result Draft Stop) (refusal : Option InstallFault) (used : ℕ)
    → d ≡ record c { store = d.store } → OnErr ended (d ≡ c) → Ok refusal ≡ refusal_of ended
    → Drafts ended used (steps (asked_of env c sender) mode (option_map code_of c.code) (code_of code) arg (first_stage (seen c)))
    → installation_of (record { canister = with_draft d code ended; refusal = refusal; used = used }) ≡ installed (enters_after system_api) env (seen c) mode (code_of code) arg sender
installs env c d mode code arg sender (Ok draft) refusal used rest same told does =
    let k : Ok refusal ≡ Ok None = told in
    let none : refusal ≡ None = cc in
    ap (λ r. installation_of (record { canister = with_draft d code (Ok draft); refusal = r; used = used })) none
    ∙ ap (λ (x : Canister). installation_of (record { canister = with_draft x code (Ok draft); refusal = None; used = used })) rest
    ∙ by_steps env c mode (code_of code) arg sender (Goes (stage_of draft.store.lists draft.certified used)) does
installs env c d mode code arg sender (Err (stop.Refused cause)) refusal used rest same told does =
    let k : Ok refusal ≡ Ok (Some cause) = told in
    let some : refusal ≡ Some cause = cc in
    ap (λ r. installation_of (record { canister = d; refusal = r; used = used })) some
    ∙ ap (λ (x : Canister). installation_of (record { canister = x; refusal = Some cause; used = used })) same
    ∙ by_steps env c mode (code_of code) arg sender (Refused cause used) does
installs env c d mode code arg sender (Err stop.NoMemory) refusal used rest same told does = absurd cc

pub installed_keeps : (c d : Canister) (code : StoredCode) (ended : Result Draft Stop) → IsCanister c → d ≡ record c { store = d.store } → OnErr ended (d ≡ c)
    → IfOk ended (λ (draft : Draft). Fits code.valid.«module» draft.store.lists) → IfOk ended (λ (draft : Draft). draft.store.begun ≡ None) → IsCanister (with_draft d code ended)
installed_keeps c d code (Ok draft) keeps rest same fits idle =
    subst (λ (x : Canister). IsCanister (with_draft x code (Ok draft))) (sym rest) (keeps_installed c code draft.store draft.certified keeps fits idle)
installed_keeps c d code (Err e) keeps rest same fits idle = subst IsCanister (sym same) keeps
