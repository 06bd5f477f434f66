-- The outcome as a function, where the host answers by a function; no standard has this.
use Rattle.std.specs.Prelude.{◌≡◌, ℕ, zero, suc, ◌+◌, ◌*◌, ◌-◌, ◌≤◌, List, ◌∷◌, length, Option, Some, None, sum_by}
use Rattle.wm_tree.specs.declared.types.ValType.{ValType}
use Rattle.wm_tree.specs.declared.parts.Module.{Module}
use Rattle.wm_store.specs.Lists.{Lists}
use Rattle.wm_semantics.specs.declared.host.HostAnswer.{HostAnswer}
use Rattle.wm_semantics.specs.declared.target.Target.{Target}
use Rattle.wm_semantics.specs.Hosts.{Answers}
use Rattle.wm_semantics.specs.Configs.{Frame, Config, Next, Asks}
use Rattle.wm_semantics.specs.Steps.{State, Outcome, After, Further, Over, alone, answered, paid, charged}
use Rattle.wm_semantics.specs.Begin.{begins}

pub record Reply (H : Type 0) : Type 0 where
  pub answer : HostAnswer
  pub host : H
  pub store : Lists
  pub used : ℕ

-- a host as a function: of itself, the call's number, the arguments, the store, the limit and what is used
abbrev pub HostOf : Type 0 → Type 0
HostOf H = H → ℕ → List ℕ → Lists → ℕ → ℕ → Reply H

abbrev pub answers_of : {H : Type 0} → HostOf H → Answers H
answers_of reply h import args s limit used answer h' t used' =
    reply h import args s limit used ≡ record { answer = answer; host = h'; store = t; used = used' }

-- the relation has one answer at most
abbrev pub IsFunctional : {H : Type 0} → Answers H → Type 0
IsFunctional {H} answers =
    (h : H) (import : ℕ) (args : List ℕ) (s : Lists) (limit used : ℕ) (a a' : HostAnswer) (h' h'' : H) (t t' : Lists) (used' used'' : ℕ)
    → answers h import args s limit used a h' t used' → answers h import args s limit used a' h'' t' used''
    → ◌≡◌ {A = Reply H} (record { answer = a; host = h'; store = t; used = used' }) (record { answer = a'; host = h''; store = t'; used = used'' })

-- the function gives each answer of the relation
abbrev pub AgreesWith : {H : Type 0} → HostOf H → Answers H → Type 0
AgreesWith {H} reply answers =
    (h : H) (import : ℕ) (args : List ℕ) (s : Lists) (limit used : ℕ) (a : HostAnswer) (h' : H) (t : Lists) (used' : ℕ)
    → answers h import args s limit used a h' t used' → answers_of reply h import args s limit used a h' t used'

-- what is used does not fall
abbrev pub Rises : {H : Type 0} → HostOf H → Type 0
Rises {H} reply = (h : H) (import : ℕ) (args : List ℕ) (s : Lists) (limit used : ℕ) → used ≤ (reply h import args s limit used).used

-- ---- runs

abbrev pub by_reply : {H : Type 0} → Config → Option ValType → Reply H → Option (After H)
by_reply c result r = answered r.host r.store r.used c result r.answer

abbrev pub made : {H : Type 0} → HostOf H → ℕ → H → Lists → ℕ → Next → Option (After H)
made reply limit h s used (Asks import args result c) = by_reply c result (reply h import args s limit used)
made reply limit h s used n = alone h s used n

abbrev pub step_of : {H : Type 0} → HostOf H → Module → ℕ → State H → Option (After H)
step_of reply m limit s = made reply limit s.host s.store (paid limit s) (charged m limit s)

-- go on from a state, unless the run is over
abbrev pub run_on : {H : Type 0} → (State H → Option (Outcome H)) → Option (After H) → Option (Outcome H)
run_on next None = None
run_on next (Some (Further s)) = next s
run_on next (Some (Over o)) = Some o

-- the outcome, where at most n steps lead to it
abbrev pub run_for : {H : Type 0} → HostOf H → Module → ℕ → ℕ → State H → Option (Outcome H)
run_for reply m limit zero s = None
run_for reply m limit (suc n) s = run_on (run_for reply m limit n) (step_of reply m limit s)

-- ---- how many steps there are at most

abbrev pub size_of : Frame → ℕ
size_of f = suc (length f.labels)

-- A paid reduction enters a frame and a label at most; a free one leaves one.
abbrev pub measure : {H : Type 0} → ℕ → State H → ℕ
measure limit s = 3 * (limit - s.used) + sum_by size_of (s.config.frame ∷ s.config.callers)

-- the outcome of a target
abbrev pub invoked : {H : Type 0} → HostOf H → Module → ℕ → H → Lists → ℕ → Target → Option (Outcome H)
invoked reply m limit h s used target =
    run_on (λ t. run_for reply m limit (suc (measure limit t)) t) (alone h s used (begins m s target))
