-- A run that never gets stuck has an outcome.
use Rattle.std.proofs.Common.{◌≡◌, ℕ, zero, suc, ◌<◌, List, [], ◌∷◌, Option, Some, None, true, refl, ap, ◌∙◌, arith}
use Rattle.std.specs.Prelude.{is_some}
use Rattle.wm_tree.specs.declared.types.ValType.TheVariants.{I32}
use Rattle.wm_tree.specs.declared.parts.Module.{Module}
use Rattle.wm_store.specs.Lists.{Lists}
use Rattle.wm_semantics.specs.declared.target.Target.{Target}
use Rattle.wm_semantics.specs.declared.target.Target.TheVariants as target
use Rattle.wm_semantics.specs.Values.{Value, value}
use Rattle.wm_semantics.specs.Functions.{Function, of_host, of_module, function_at, Found, found, refused, missing, look_up, callback_type}
use Rattle.wm_semantics.specs.Configs.{Next, Goes, Asks, Ends, Traps, Stuck}
use Rattle.wm_semantics.specs.Steps.{State, Outcome, After, Further, Over, alone, Made, by_itself, by_host, paid, charged, Step, Reaches, goes, over, here, more, GoesOn, NeverStuck}
use Rattle.wm_semantics.specs.Begin.{entered, entered_at, begins, From, Invokes, InvokesOn}
use Rattle.wm_semantics.specs.Fuel.{Reply, HostOf, answers_of, Rises, by_reply, run_for, measure, invoked}
use Rattle.wm_semantics.proofs.Measure.{measure_falls}
use Rattle.wm_semantics.proofs.ByFuel.{step_by, reached_by_fuel, invoked_by_fuel, agrees_itself}

a_value : {A : Type 0} (o : Option A) → is_some o ≡ true → (x : A) × (o ≡ Some x)
a_value None is = absurd (cc)
a_value (Some x) is = (x, refl)

module _ {H : Type 0} (reply : HostOf H) where
  -- what goes on leads somewhere
  advances : (limit : ℕ) (h : H) (s : Lists) (used : ℕ) (n : Next) → GoesOn (answers_of reply) limit h s used n → (a : After H) × Made (answers_of reply) limit h s used n a
  advances limit h s used (Goes t c) on = (_, by_itself refl)
  advances limit h s used (Asks import args result c) on =
      let told : Reply H = reply h import args s limit used in
      let leads = a_value (by_reply c result told) (on.told import args result c told.answer told.host told.store told.used refl refl) in
      (leads.0, by_host import args result c told.answer told.host told.store told.used refl refl leads.1)
  advances limit h s used Ends on = (_, by_itself refl)
  advances limit h s used (Traps t) on = (_, by_itself refl)
  advances limit h s used Stuck on = absurd (on.never refl)

  module _ (rises : Rises reply) (m : Module) (limit : ℕ) where
    ends_on : (s : State H) (a : After H) → Step (answers_of reply) m limit s a → NeverStuck (answers_of reply) m limit s
        → ((t : State H) → measure limit t < measure limit s → NeverStuck (answers_of reply) m limit t → (o : Outcome H) × Reaches (answers_of reply) m limit t o)
        → (o : Outcome H) × Reaches (answers_of reply) m limit s o
    ends_on s (Further t) step on each =
        let less = measure_falls reply rises m limit s t (step_by (answers_of reply) reply rises (agrees_itself reply) m limit s (Further t) step) in
        let rest = each t less (λ u path. on u (more t step path)) in
        (rest.0, goes t step rest.1)
    ends_on s (Over o) step on each = (o, over step)

    ends : (n : ℕ) (s : State H) → measure limit s < n → NeverStuck (answers_of reply) m limit s → (o : Outcome H) × Reaches (answers_of reply) m limit s o
    ends zero s enough on = absurd (omega arith)
    ends (suc n) s enough on =
        let next = advances limit s.host s.store (paid limit s) (charged m limit s) (on s here) in
        ends_on s next.0 next.1 on (λ t less there. ends n t (omega arith) there)

    pub reaches_total : (s : State H) → NeverStuck (answers_of reply) m limit s
        → (o : Outcome H) × (run_for reply m limit (suc (measure limit s)) s ≡ Some o) × Reaches (answers_of reply) m limit s o
    reaches_total s on =
        let end = ends (suc (measure limit s)) s (omega arith) on in
        (end.0, reached_by_fuel (answers_of reply) reply rises (agrees_itself reply) (suc (measure limit s)) end.1 (omega arith), end.1)

    from_there : (a : After H) → ((t : State H) → a ≡ Further t → NeverStuck (answers_of reply) m limit t) → (o : Outcome H) × From (answers_of reply) m limit a o
    from_there (Further t) on = let end = reaches_total t (on t refl) in (end.0, end.2)
    from_there (Over o) on = (o, refl)

    -- a target begins with no question
    begun_there : (h : H) (used : ℕ) (s : Lists) (f : ℕ) (args : List Value) (g : Option Function) → ¬ (entered s f args g ≡ Stuck)
        → (a : After H) × (alone h s used (entered s f args g) ≡ Some a)
    begun_there h used s f args None on = absurd (on refl)
    begun_there h used s f args (Some (of_module t code)) on = (_, refl)
    begun_there h used s f args (Some (of_host t number)) on = (_, refl)

    begun_at_there : (h : H) (used : ℕ) (s : Lists) (env : ℕ) (f : Found) → ¬ (entered_at m s env f ≡ Stuck) → (a : After H) × (alone h s used (entered_at m s env f) ≡ Some a)
    begun_at_there h used s env (found f) on = begun_there h used s f (value I32 env ∷ []) (function_at m f) on
    begun_at_there h used s env (refused t) on = (_, refl)
    begun_at_there h used s env missing on = absurd (on refl)

    begins_there : (h : H) (used : ℕ) (s : Lists) (target : Target) → ¬ (begins m s target ≡ Stuck) → (a : After H) × (alone h s used (begins m s target) ≡ Some a)
    begins_there h used s (target.Function f) on = begun_there h used s f [] (function_at m f) on
    begins_there h used s (target.Element i env) on = begun_at_there h used s env (look_up m s.table callback_type i) on

    pub invokes_total : (h : H) (s : Lists) (used : ℕ) (target : Target) → InvokesOn (answers_of reply) m limit h s used target
        → (o : Outcome H) × (invoked reply m limit h s used target ≡ Some o) × Invokes (answers_of reply) m limit h s used target o
    invokes_total h s used target on =
        let first = begins_there h used s target on.begins_on in
        let end = from_there first.0 (λ t is. on.runs_on t (first.1 ∙ ap Some is)) in
        let all : Invokes (answers_of reply) m limit h s used target end.0 = record { first = first.0; begins_so = first.1; from = end.1 } in
        (end.0, invoked_by_fuel (answers_of reply) reply rises (agrees_itself reply) m limit h s used target end.0 all, all)
