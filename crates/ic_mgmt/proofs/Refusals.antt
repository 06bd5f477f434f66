-- A check that fails: the row is refused, and nothing is changed.
use Rattle.std.proofs.Common.{◌≡◌, ℕ, List, refl, sym, ap, ◌∙◌, subst}
use Rattle.std.specs.Prelude.{Result, Ok, Err}
use Rattle.ic_behaviour.specs.State.{Canister, State}
use Rattle.ic_behaviour.specs.Counted.{dropped}
use Rattle.ic_state.specs.declared.canister.Canister.{Canister as StoredCanister}
use Rattle.ic_state.specs.Seen.{seen}
use Rattle.ic_mgmt_candid.specs.declared.denial.Denial.{Denial}
use Rattle.ic_mgmt_candid.specs.declared.denial.Unmet.{Unmet}
use Rattle.ic_mgmt_candid.specs.declared.denial.Unmet.TheVariants.{Denied, NoMemory}
use Rattle.ic_mgmt_candid.specs.Checks.{◌>>=◌, MeetsBy}
use Rattle.ic_mgmt_laws.specs.Moves.{with_canister}
use Rattle.ic_behaviour.specs.declared.call.IncomingCall.{IncomingCall}
use Rattle.ic_mgmt.specs.declared.ending.Ending.{Ending}
use Rattle.ic_mgmt.specs.Ending.{IfMemory, Does}
use Rattle.ic_mgmt.specs.Changes.{DoesAt}
use Rattle.ic_mgmt.proofs.Sends.{with_same}

-- ---- what holds unless memory ran out

pub both_memory : {A : Type 0} (r : Result A Unmet) (P Q R : Type 0) → (P → Q → R) → IfMemory r P → IfMemory r Q → IfMemory r R
both_memory (Ok x) P Q R f h k = f h k
both_memory (Err (Denied denial)) P Q R f h k = f h k
both_memory (Err NoMemory) P Q R f h k = tt

-- ---- rows

-- equal states and rows
pub does_as : (r : Result Ending Unmet) (call : IncomingCall) (before after other : State) (row others : Result State Denial) → after ≡ other → row ≡ others → Does r call before other others → Does r call before after row
does_as r call before after other row others same rows does = subst (λ s. Does r call before s row) (sym same) (subst (Does r call before other) (sym rows) does)

module _ {A B : Type 0} (seen : A → B) (comes : Result B Denial) (next : B → Result State Denial) where
  -- the first check of a row
  pub refused : (e : Unmet) (call : IncomingCall) (before after : State) → MeetsBy seen (Err e) comes → after ≡ before → Does (Err e) call before after (comes >>= next)
  refused (Denied denial) call before after is same = (ap (λ r. r >>= next) is, same)
  refused NoMemory call before after is same = tt

-- a check that takes no memory, and fails, ends the row
pub denied : {A B : Type 0} (comes : Result A Denial) (next : A → Result B Denial) (denial : Denial) → Err denial ≡ comes → (comes >>= next) ≡ Err denial
denied comes next denial is = ap (λ r. r >>= next) (sym is)

-- a check that fails refuses the row
pub by_denial : {A B : Type 0} (seen : A → B) (comes : Result B Denial) (e : Unmet) (call : IncomingCall) (s : State) (row : Result State Denial) → MeetsBy seen (Err e) comes
    → ((denial : Denial) → comes ≡ Err denial → row ≡ Err denial) → Does (Err e) call s s row
by_denial seen comes (Denied denial) call s row is refuses = (refuses denial is, refl)
by_denial seen comes NoMemory call s row is refuses = tt

-- of one canister
module _ (call : IncomingCall) (id : List ℕ) (c : StoredCanister) where
  pub refused_at : (e : Unmet) (d : StoredCanister) (row : State → State → Canister → Result State Denial)
      → ((now s : State) → Does (Err e) call s s (row now s (dropped (seen c)))) → d ≡ c → DoesAt (Err e) call id c d row
  refused_at e d row does same now s stands =
      does_as (Err e) call s (with_canister id (dropped (seen d)) s) s _ _
      (ap (λ (x : StoredCanister). with_canister id (dropped (seen x)) s) same ∙ with_same s id (dropped (seen c)) stands.found) refl (does now s)
