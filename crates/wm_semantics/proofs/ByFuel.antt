-- The outcome by a function and by the relation of a host.
use Rattle.std.proofs.Common.{◌≡◌, ℕ, zero, suc, ◌<◌, Option, Some, None, refl, ap, ◌∙◌, arith}
use Rattle.wm_tree.specs.declared.parts.Module.{Module}
use Rattle.wm_store.specs.Lists.{Lists}
use Rattle.wm_semantics.specs.declared.target.Target.{Target}
use Rattle.wm_semantics.specs.Hosts.{Answers}
use Rattle.wm_semantics.specs.Configs.{Next, Goes, Asks, Ends, Traps, Stuck}
use Rattle.wm_semantics.specs.Steps.{State, Outcome, After, Further, Over, alone, Made, by_itself, by_host, paid, charged, Step, Reaches, goes, over}
use Rattle.wm_semantics.specs.Begin.{begins, From, Invokes}
use Rattle.wm_semantics.specs.Fuel.{Reply, HostOf, answers_of, AgreesWith, Rises, by_reply, made, step_of, run_on, run_for, measure, invoked}
use Rattle.wm_semantics.proofs.Measure.{measure_falls}

-- what a reduction leads to without the host, it leads to with it
made_alone : {H : Type 0} (reply : HostOf H) (limit : ℕ) (h : H) (s : Lists) (used : ℕ) (n : Next) (a : After H) → alone h s used n ≡ Some a → made reply limit h s used n ≡ Some a
made_alone reply limit h s used (Goes t c) a is = is
made_alone reply limit h s used (Asks import args result c) a is = absurd (cc)
made_alone reply limit h s used Ends a is = is
made_alone reply limit h s used (Traps t) a is = is
made_alone reply limit h s used Stuck a is = is

-- ---- from the relation to the function

module _ {H : Type 0} (answers : Answers H) (reply : HostOf H) (rises : Rises reply) (agrees : AgreesWith reply answers) where
  made_by : (limit : ℕ) (h : H) (s : Lists) (used : ℕ) (n : Next) (a : After H) → Made answers limit h s used n a → made reply limit h s used n ≡ Some a
  made_by limit h s used n a (by_itself is) = made_alone reply limit h s used n a is
  made_by limit h s used n a (by_host import args result c told h' t used' asks says leads) =
      ap (made reply limit h s used) asks ∙ (ap (by_reply c result) (agrees h import args s limit used told h' t used' says) ∙ leads)

  pub step_by : (m : Module) (limit : ℕ) (s : State H) (a : After H) → Step answers m limit s a → step_of reply m limit s ≡ Some a
  step_by m limit s a = made_by limit s.host s.store (paid limit s) (charged m limit s) a

  pub reached_by_fuel : {m : Module} {limit : ℕ} (n : ℕ) {s : State H} {o : Outcome H} → Reaches answers m limit s o → measure limit s < n → run_for reply m limit n s ≡ Some o
  reached_by_fuel zero r enough = absurd (omega arith)
  reached_by_fuel {m} {limit} (suc n) {s} {o} (goes t step r) enough =
      let leads : step_of reply m limit s ≡ Some (Further t) = step_by m limit s (Further t) step in
      let less : measure limit t < measure limit s = measure_falls reply rises m limit s t leads in
      ap (run_on (run_for reply m limit n)) leads ∙ reached_by_fuel n r (omega arith)
  reached_by_fuel {m} {limit} (suc n) {s} {o} (over step) enough = ap (run_on (run_for reply m limit n)) (step_by m limit s (Over o) step)

  from_by : (m : Module) (limit : ℕ) (a : After H) (o : Outcome H) → From answers m limit a o → run_on (λ t. run_for reply m limit (suc (measure limit t)) t) (Some a) ≡ Some o
  from_by m limit (Further t) o r = reached_by_fuel (suc (measure limit t)) r (omega arith)
  from_by m limit (Over p) o is = cc

  pub invoked_by_fuel : (m : Module) (limit : ℕ) (h : H) (s : Lists) (used : ℕ) (target : Target) (o : Outcome H)
      → Invokes answers m limit h s used target o → invoked reply m limit h s used target ≡ Some o
  invoked_by_fuel m limit h s used target o i =
      ap (run_on (λ t. run_for reply m limit (suc (measure limit t)) t)) i.begins_so ∙ from_by m limit i.first o i.from

-- ---- from the function to the relation

module _ {H : Type 0} (reply : HostOf H) where
  pub agrees_itself : AgreesWith reply (answers_of reply)
  agrees_itself h import args s limit used told h' t used' says = says

  of_made : (limit : ℕ) (h : H) (s : Lists) (used : ℕ) (n : Next) (a : After H) → made reply limit h s used n ≡ Some a → Made (answers_of reply) limit h s used n a
  of_made limit h s used (Goes t c) a is = by_itself is
  of_made limit h s used (Asks import args result c) a is =
      let told : Reply H = reply h import args s limit used in
      by_host import args result c told.answer told.host told.store told.used refl refl is
  of_made limit h s used Ends a is = by_itself is
  of_made limit h s used (Traps t) a is = by_itself is
  of_made limit h s used Stuck a is = by_itself is

  of_step : (m : Module) (limit : ℕ) (s : State H) (a : After H) → step_of reply m limit s ≡ Some a → Step (answers_of reply) m limit s a
  of_step m limit s a = of_made limit s.host s.store (paid limit s) (charged m limit s) a

  -- by what the first step leads to
  fuel_leads : (m : Module) (limit : ℕ) (s : State H) (o : Outcome H) (next : State H → Option (Outcome H))
      → ((t : State H) → next t ≡ Some o → Reaches (answers_of reply) m limit t o)
      → (a : Option (After H)) → step_of reply m limit s ≡ a → run_on next a ≡ Some o → Reaches (answers_of reply) m limit s o
  fuel_leads m limit s o next each None leads is = absurd (cc)
  fuel_leads m limit s o next each (Some (Further t)) leads is = goes t (of_step m limit s (Further t) leads) (each t is)
  fuel_leads m limit s o next each (Some (Over p)) leads is =
      let same : p ≡ o = cc in over (of_step m limit s (Over o) (rw (← same) leads))

  pub fuel_reaches : (m : Module) (limit n : ℕ) (s : State H) (o : Outcome H) → run_for reply m limit n s ≡ Some o → Reaches (answers_of reply) m limit s o
  fuel_reaches m limit zero s o is = absurd (cc)
  fuel_reaches m limit (suc n) s o is =
      fuel_leads m limit s o (run_for reply m limit n) (λ t there. fuel_reaches m limit n t o there) (step_of reply m limit s) refl is

  of_first : (m : Module) (limit : ℕ) (h : H) (s : Lists) (used : ℕ) (target : Target) (o : Outcome H) (a : Option (After H)) → alone h s used (begins m s target) ≡ a
      → run_on (λ t. run_for reply m limit (suc (measure limit t)) t) a ≡ Some o → Invokes (answers_of reply) m limit h s used target o
  of_first m limit h s used target o None first is = absurd (cc)
  of_first m limit h s used target o (Some (Further t)) first is =
      record { first = Further t; begins_so = first; from = fuel_reaches m limit (suc (measure limit t)) t o is }
  of_first m limit h s used target o (Some (Over p)) first is = record { first = Over p; begins_so = first; from = cc }

  pub fuel_invokes : (m : Module) (limit : ℕ) (h : H) (s : Lists) (used : ℕ) (target : Target) (o : Outcome H)
      → invoked reply m limit h s used target ≡ Some o → Invokes (answers_of reply) m limit h s used target o
  fuel_invokes m limit h s used target o is = of_first m limit h s used target o (alone h s used (begins m s target)) refl is
