-- A run of any module, valid or not, keeps what each reduction and each answer of the relation keeps.
use Rattle.std.proofs.Common.{ℕ, sym, subst, arith}
use Rattle.wm_tree.specs.declared.parts.Module.{Module}
use Rattle.wm_store.specs.Lists.{Lists}
use Rattle.wm_semantics.specs.declared.target.Target.{Target}
use Rattle.wm_semantics.specs.Hosts.{Answers}
use Rattle.wm_semantics.specs.Configs.{Next}
use Rattle.wm_semantics.specs.Steps.{State, Outcome, After, Further, Over, Made, by_itself, by_host, paid, charged, Step, Reaches, goes, over}
use Rattle.wm_semantics.specs.Begin.{begins, From, Invokes}
use Rattle.wm_semantics.specs.Keeps.{Change, IsKept, IsAlwaysKept}
use Rattle.wm_semantics.proofs.Stays.{stays, NextStays}
use Rattle.wm_semantics.proofs.Kept.{KeptTo, Paid, paid_so, charged_stays, begins_stays, alone_kept, answered_kept}

module _ {H : Type 0} (answers : Answers H) (limit : ℕ) (Kept : Change H) (always : IsAlwaysKept answers limit Kept) where
  -- it is kept by answers to calls that are there
  kept : IsKept answers limit Kept
  kept = record {
    same = always.same;
    joined = always.joined;
    reduced = always.reduced;
    told = λ h import args s used reply h' t used' asked said. always.told h import args s used reply h' t used' said;
  }

  made_kept : (h : H) (s : Lists) (used spent : ℕ) (n : Next) (a : After H) → Paid limit used spent → NextStays s n → Made answers limit h s spent n a → KeptTo Kept h s used a
  made_kept h s used spent n a p on (by_itself e) = alone_kept answers limit Kept kept h s used spent n a p on e
  made_kept h s used spent n a p on (by_host import args result c reply h' t used' e said led) =
      answered_kept answers limit Kept kept h s used h' t used' c result reply a
      (always.joined h h h' s s t used spent used' (always.reduced h s s used spent (stays s) p.rises p.within) (always.told h import args s spent reply h' t used' said)) led

  step_kept : (m : Module) (s : State H) (a : After H) → Step answers m limit s a → KeptTo Kept s.host s.store s.used a
  step_kept m s a step = made_kept s.host s.store s.used (paid limit s) (charged m limit s) a (paid_so limit s) (charged_stays m limit s) step

  pub reaches_kept : {m : Module} {s : State H} {o : Outcome H} → Reaches answers m limit s o → Kept s.host s.store s.used o.host o.store o.used
  reaches_kept {m} {s} {o} (goes t step rest) =
      always.joined s.host t.host o.host s.store t.store o.store s.used t.used o.used (step_kept m s (Further t) step) (reaches_kept rest)
  reaches_kept {m} {s} {o} (over step) = step_kept m s (Over o) step

  from_kept : (m : Module) (h : H) (s : Lists) (used : ℕ) (a : After H) (o : Outcome H) → KeptTo Kept h s used a → From answers m limit a o → Kept h s used o.host o.store o.used
  from_kept m h s used (Further t) o x from = always.joined h t.host o.host s t.store o.store used t.used o.used x (reaches_kept from)
  from_kept m h s used (Over p) o x same = subst (λ (q : Outcome H). Kept h s used q.host q.store q.used) (sym same) x

  pub invokes_kept : (m : Module) (h : H) (s : Lists) (used : ℕ) (to : Target) (o : Outcome H) → Invokes answers m limit h s used to o → Kept h s used o.host o.store o.used
  invokes_kept m h s used to o i =
      from_kept m h s used i.first o
      (alone_kept answers limit Kept kept h s used used (begins m s to) i.first (record { rises = omega arith; within = λ x. x }) (begins_stays m s to) i.begins_so) i.from
