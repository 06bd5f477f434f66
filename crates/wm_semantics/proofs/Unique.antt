-- A state leads to one outcome at most, where the host answers in one way at most.
use Rattle.std.proofs.Common.{◌≡◌, ℕ, List, Option, Some, sym, ◌∙◌, subst, ap}
use Rattle.wm_tree.specs.declared.types.ValType.{ValType}
use Rattle.wm_tree.specs.declared.parts.Module.{Module}
use Rattle.wm_store.specs.Lists.{Lists}
use Rattle.wm_semantics.specs.declared.host.HostAnswer.{HostAnswer}
use Rattle.wm_semantics.specs.declared.target.Target.{Target}
use Rattle.wm_semantics.specs.Hosts.{Answers}
use Rattle.wm_semantics.specs.Configs.{Config, Next, Asks}
use Rattle.wm_semantics.specs.Steps.{State, Outcome, After, Further, Over, alone, answered, Made, by_itself, by_host, paid, charged, Step, Reaches, goes, over}
use Rattle.wm_semantics.specs.Begin.{From, Invokes}
use Rattle.wm_semantics.specs.Fuel.{Reply, IsFunctional, by_reply}

module _ {H : Type 0} (answers : Answers H) (functional : IsFunctional answers) where
  -- what the host's answer leads to, by the question
  asked_once : (limit : ℕ) (h : H) (s : Lists) (used : ℕ) (import import' : ℕ) (args args' : List ℕ) (result result' : Option ValType) (c c' : Config)
      (reply reply' : HostAnswer) (h' h'' : H) (t t' : Lists) (used' used'' : ℕ)
      → Asks import args result c ≡ Asks import' args' result' c'
      → answers h import args s limit used reply h' t used' → answers h import' args' s limit used reply' h'' t' used''
      → answered h' t used' c result reply ≡ answered h'' t' used'' c' result' reply'
  asked_once limit h s used import import' args args' result result' c c' reply reply' h' h'' t t' used' used'' same told told' =
      let same_import : import ≡ import' = cc in
      let same_args : args ≡ args' = cc in
      let same_result : result ≡ result' = cc in
      let same_config : c ≡ c' = cc in
      let again : answers h import args s limit used reply' h'' t' used'' = rw (same_import, same_args) told' in
      let one : ◌≡◌ {A = Reply H} (record { answer = reply; host = h'; store = t; used = used' }) (record { answer = reply'; host = h''; store = t'; used = used'' }) =
      functional h import args s limit used reply reply' h' h'' t t' used' used'' told again in
      rw (same_result, same_config) (ap (by_reply c' result') one)

  made_once : (limit : ℕ) (h : H) (s : Lists) (used : ℕ) (n : Next) (a b : After H) → Made answers limit h s used n a → Made answers limit h s used n b → a ≡ b
  made_once limit h s used n a b (by_itself is) (by_itself is') = cc
  made_once limit h s used n a b (by_itself is) (by_host import args result c reply h' t used' asks told leads) = cc (ap (alone h s used) asks)
  made_once limit h s used n a b (by_host import args result c reply h' t used' asks told leads) (by_itself is) = cc (ap (alone h s used) asks)
  made_once limit h s used n a b (by_host import args result c reply h' t used' asks told leads) (by_host import' args' result' c' reply' h'' t' used'' asks' told' leads') =
      let same : Asks import args result c ≡ Asks import' args' result' c' = cc in
      cc (asked_once limit h s used import import' args args' result result' c c' reply reply' h' h'' t t' used' used'' same told told')

  step_once : (m : Module) (limit : ℕ) (s : State H) (a b : After H) → Step answers m limit s a → Step answers m limit s b → a ≡ b
  step_once m limit s a b = made_once limit s.host s.store (paid limit s) (charged m limit s) a b

  pub reaches_once : {m : Module} {limit : ℕ} {s : State H} {o p : Outcome H} → Reaches answers m limit s o → Reaches answers m limit s p → o ≡ p
  reaches_once {m} {limit} {s} {o} {p} (goes t step r) (goes t' step' r') =
      let same : Further t ≡ Further t' = step_once m limit s (Further t) (Further t') step step' in
      let next : t' ≡ t = cc in
      reaches_once r (subst (λ x. Reaches answers m limit x p) next r')
  reaches_once {m} {limit} {s} {o} {p} (goes t step r) (over step') = cc (step_once m limit s (Further t) (Over p) step step')
  reaches_once {m} {limit} {s} {o} {p} (over step) (goes t step' r) = cc (step_once m limit s (Over o) (Further t) step step')
  reaches_once {m} {limit} {s} {o} {p} (over step) (over step') = cc (step_once m limit s (Over o) (Over p) step step')

  from_once : (m : Module) (limit : ℕ) (a : After H) (o p : Outcome H) → From answers m limit a o → From answers m limit a p → o ≡ p
  from_once m limit (Further s) o p r r' = reaches_once r r'
  from_once m limit (Over q) o p is is' = cc

  pub invokes_once : (m : Module) (limit : ℕ) (h : H) (s : Lists) (used : ℕ) (target : Target) (o p : Outcome H)
      → Invokes answers m limit h s used target o → Invokes answers m limit h s used target p → o ≡ p
  invokes_once m limit h s used target o p i j =
      let same : Some i.first ≡ Some j.first = sym i.begins_so ∙ j.begins_so in
      let next : j.first ≡ i.first = cc in
      from_once m limit i.first o p i.from (subst (λ a. From answers m limit a p) next j.from)
