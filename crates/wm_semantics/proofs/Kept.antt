-- What each reduction and each answer of the host keeps, a whole run keeps.
use Rattle.std.proofs.Common.{◌≡◌, ℕ, ◌≤◌, Bool, true, false, cond, List, [], Option, Some, None, refl, sym, subst, arith}
use Rattle.std.proofs.lemmas.Bool.{ltb-false}
use Rattle.std.specs.Prelude.{nat_lt}
use Rattle.wm_tree.specs.declared.types.ValType.{ValType}
use Rattle.wm_tree.specs.declared.parts.Module.{Module}
use Rattle.wm_valid.specs.IsValid.{Validated, IsValid}
use Rattle.wm_store.specs.Lists.{Lists}
use Rattle.wm_semantics.specs.declared.trap.Trap.TheVariants as trap
use Rattle.wm_semantics.specs.declared.host.HostAnswer.{HostAnswer}
use Rattle.wm_semantics.specs.declared.host.HostAnswer.TheVariants as answer
use Rattle.wm_semantics.specs.declared.target.Target.{Target}
use Rattle.wm_semantics.specs.declared.target.Target.TheVariants as target
use Rattle.wm_semantics.specs.Hosts.{Answers, IsAsked, Lawful}
use Rattle.wm_semantics.specs.Values.{Value}
use Rattle.wm_semantics.specs.Functions.{Function, of_host, of_module, function_at, Found, found, refused, missing, look_up, callback_type}
use Rattle.wm_semantics.specs.Configs.{Config, Next, Goes, Asks, Ends, Traps, Stuck}
use Rattle.wm_semantics.specs.Reduce.{reduce}
use Rattle.wm_semantics.specs.Steps.{State, Outcome, After, Further, Over, alone, answered, Made, by_itself, by_host, due, paid, charged, Step, Reaches, goes, over}
use Rattle.wm_semantics.specs.Begin.{entered, entered_at, begins, From, Invokes, IsTarget}
use Rattle.wm_semantics.specs.Keeps.{Change, IsKept}
use Rattle.wm_semantics.specs.Sound.{StoreWell}
use Rattle.wm_semantics.proofs.Moves.{GoesWell}
use Rattle.wm_semantics.proofs.Stays.{stays, NextStays, reduce_stays}
use Rattle.wm_semantics.proofs.NeverStuck.{SoundState, AfterWell, charged_well, made_well, stepped}
use Rattle.wm_semantics.proofs.Beginnings.{begins_well}

-- ---- one step

-- a step from there keeps the relation
abbrev pub KeptTo : {H : Type 0} → Change H → H → Lists → ℕ → After H → Type 0
KeptTo Kept h s used (Further t) = Kept h s used t.host t.store t.used
KeptTo Kept h s used (Over o) = Kept h s used o.host o.store o.used

pub same_after : {A : Type 0} (x y : A) → ◌≡◌ {A = Option A} (Some x) (Some y) → x ≡ y
same_after x y e = cc

pub record Paid (limit used paid : ℕ) : Type 0 where
  pub rises : used ≤ paid
  pub within : used ≤ limit → paid ≤ limit

pub paid_so : {H : Type 0} (limit : ℕ) (s : State H) → Paid limit s.used (paid limit s)
paid_so limit s = by_test (nat_lt limit (due s)) refl
  where
    by_test : (test : Bool) → nat_lt limit (due s) ≡ test → Paid limit s.used (cond test s.used (due s))
    by_test true e = record { rises = omega arith; within = λ h. h }
    by_test false e =
        let fits = ltb-false limit (due s) e in
        record { rises = omega arith; within = λ _. fits }

pub charged_stays : {H : Type 0} (m : Module) (limit : ℕ) (s : State H) → NextStays s.store (charged m limit s)
charged_stays m limit s = by_test (nat_lt limit (due s))
  where
    by_test : (test : Bool) → NextStays s.store (cond test (Traps trap.Limit) (reduce m s.store s.config s.config.frame.rest))
    by_test true = tt
    by_test false = reduce_stays m s.store s.config s.config.frame.rest

module _ {H : Type 0} (answers : Answers H) (limit : ℕ) (Kept : Change H) (k : IsKept answers limit Kept) where
  pub alone_kept : (h : H) (s : Lists) (used spent : ℕ) (n : Next) (a : After H) → Paid limit used spent → NextStays s n → alone h s spent n ≡ Some a → KeptTo Kept h s used a
  alone_kept h s used spent (Goes t c) a p on e = subst (KeptTo Kept h s used) (same_after _ a e) (k.reduced h s t used spent on p.rises p.within)
  alone_kept h s used spent (Asks import args result c) a p on e = absurd cc
  alone_kept h s used spent Ends a p on e = subst (KeptTo Kept h s used) (same_after _ a e) (k.reduced h s s used spent (stays s) p.rises p.within)
  alone_kept h s used spent (Traps t) a p on e = subst (KeptTo Kept h s used) (same_after _ a e) (k.reduced h s s used spent (stays s) p.rises p.within)
  alone_kept h s used spent Stuck a p on e = absurd cc

  pub answered_kept : (h : H) (s : Lists) (used : ℕ) (h' : H) (t : Lists) (used' : ℕ) (c : Config) (result : Option ValType) (reply : HostAnswer) (a : After H)
      → Kept h s used h' t used' → answered h' t used' c result reply ≡ Some a → KeptTo Kept h s used a
  answered_kept h s used h' t used' c None answer.Nothing a x e = subst (KeptTo Kept h s used) (same_after _ a e) x
  answered_kept h s used h' t used' c None (answer.Number n) a x e = absurd cc
  answered_kept h s used h' t used' c (Some r) answer.Nothing a x e = absurd cc
  answered_kept h s used h' t used' c (Some r) (answer.Number n) a x e = subst (KeptTo Kept h s used) (same_after _ a e) x
  answered_kept h s used h' t used' c None (answer.Trap r) a x e = subst (KeptTo Kept h s used) (same_after _ a e) x
  answered_kept h s used h' t used' c (Some q) (answer.Trap r) a x e = subst (KeptTo Kept h s used) (same_after _ a e) x

  made_kept : (m : Module) (h : H) (s : Lists) (used spent : ℕ) (n : Next) (a : After H) → Paid limit used spent → NextStays s n → GoesWell m n → Made answers limit h s spent n a
      → KeptTo Kept h s used a
  made_kept m h s used spent n a p on g (by_itself e) = alone_kept h s used spent n a p on e
  made_kept m h s used spent n a p on g (by_host import args result c reply h' t used' e said led) =
      let w = subst (GoesWell m) e g in
      let asked : IsAsked import args = (w.0, w.1, w.2) in
      answered_kept h s used h' t used' c result reply a
      (k.joined h h h' s s t used spent used' (k.reduced h s s used spent (stays s) p.rises p.within) (k.told h import args s spent reply h' t used' asked said)) led

  -- ---- runs

  module _ (v : Validated) (valid : IsValid v) (lawful : Lawful answers) where
    pub step_kept : (s : State H) (a : After H) → SoundState v s → Step answers v.module limit s a → KeptTo Kept s.host s.store s.used a
    step_kept s a sound step =
        made_kept v.module s.host s.store s.used (paid limit s) (charged v.module limit s) a (paid_so limit s) (charged_stays v.module limit s) (charged_well v limit s valid sound) step

    pub run_kept : {s : State H} {o : Outcome H} → Reaches answers v.module limit s o → SoundState v s → Kept s.host s.store s.used o.host o.store o.used
    run_kept {s} {o} (goes t step rest) sound =
        k.joined s.host t.host o.host s.store t.store o.store s.used t.used o.used (step_kept s (Further t) sound step)
        (run_kept rest (stepped v valid answers lawful limit s (Further t) sound step))
    run_kept {s} {o} (over step) sound = step_kept s (Over o) sound step

-- ---- targets

entered_stays : (s : Lists) (f : ℕ) (args : List Value) (o : Option Function) → NextStays s (entered s f args o)
entered_stays s f args None = tt
entered_stays s f args (Some (of_module t code)) = stays s
entered_stays s f args (Some (of_host t number)) = stays s

found_stays : (m : Module) (s : Lists) (env : ℕ) (o : Found) → NextStays s (entered_at m s env o)
found_stays m s env (found f) = entered_stays s f _ (function_at m f)
found_stays m s env (refused t) = tt
found_stays m s env missing = tt

pub begins_stays : (m : Module) (s : Lists) (to : Target) → NextStays s (begins m s to)
begins_stays m s (target.Function f) = entered_stays s f [] (function_at m f)
begins_stays m s (target.Element i env) = found_stays m s env (look_up m s.table callback_type i)

module _ {H : Type 0} (answers : Answers H) (limit : ℕ) (Kept : Change H) (k : IsKept answers limit Kept) (v : Validated) (valid : IsValid v) (lawful : Lawful answers)
    (s : Lists) (well : StoreWell v.module s) (h : H) (used : ℕ) (to : Target) (is : IsTarget v.module to) where
  first_kept : (a : After H) → alone h s used (begins v.module s to) ≡ Some a → KeptTo Kept h s used a
  first_kept a e = alone_kept answers limit Kept k h s used used (begins v.module s to) a (record { rises = omega arith; within = λ x. x }) (begins_stays v.module s to) e

  first_well : (a : After H) → alone h s used (begins v.module s to) ≡ Some a → AfterWell v a
  first_well a e = made_well v answers limit h s used (begins v.module s to) a lawful well (begins_well v valid s well to is) (by_itself e)

  from_kept : (a : After H) (o : Outcome H) → KeptTo Kept h s used a → AfterWell v a → From answers v.module limit a o → Kept h s used o.host o.store o.used
  from_kept (Further t) o x sound from =
      k.joined h t.host o.host s t.store o.store used t.used o.used x (run_kept answers limit Kept k v valid lawful from sound)
  from_kept (Over p) o x sound same = subst (λ (q : Outcome H). Kept h s used q.host q.store q.used) (sym same) x

  pub invoked_kept : (o : Outcome H) → Invokes answers v.module limit h s used to o → Kept h s used o.host o.store o.used
  invoked_kept o i = from_kept i.first o (first_kept i.first i.begins_so) (first_well i.first i.begins_so) i.from
