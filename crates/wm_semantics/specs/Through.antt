-- A host that is looked at through a function; no standard has this.
use Rattle.std.specs.Prelude.{◌≡◌, ℕ, List}
use Rattle.wm_store.specs.Lists.{Lists}
use Rattle.wm_semantics.specs.Steps.{Outcome, outcome}
use Rattle.wm_semantics.specs.Fuel.{Reply, HostOf}

abbrev pub reply_through : {H G : Type 0} → (H → G) → Reply H → Reply G
reply_through see r = record { answer = r.answer; host = see r.host; store = r.store; used = r.used }

abbrev pub outcome_through : {H G : Type 0} → (H → G) → Outcome H → Outcome G
outcome_through see o = outcome o.ended (see o.host) o.store o.used

-- through the function, the first host answers as the second does
abbrev pub IsSeenAs : {H G : Type 0} → (H → G) → HostOf H → HostOf G → Type 0
IsSeenAs {H} see reply seen =
    (h : H) (import : ℕ) (args : List ℕ) (s : Lists) (limit used : ℕ)
    → seen (see h) import args s limit used ≡ reply_through see (reply h import args s limit used)
