-- Where the host's answers keep a fact of the host, a run from a host with the fact is one of the relation with it.
use Rattle.std.proofs.Common.{◌≡◌, ℕ, Option, Some, None, subst}
use Rattle.wm_tree.specs.declared.types.ValType.{ValType}
use Rattle.wm_tree.specs.declared.parts.Module.{Module}
use Rattle.wm_store.specs.Lists.{Lists}
use Rattle.wm_semantics.specs.declared.host.HostAnswer.{HostAnswer}
use Rattle.wm_semantics.specs.declared.host.HostAnswer.TheVariants as answer
use Rattle.wm_semantics.specs.declared.target.Target.{Target}
use Rattle.wm_semantics.specs.Hosts.{Answers}
use Rattle.wm_semantics.specs.Configs.{Config, Next, Goes, Asks, Ends, Traps, Stuck}
use Rattle.wm_semantics.specs.Steps.{State, Outcome, After, Further, Over, alone, answered, Made, by_itself, by_host, paid, charged, Reaches, goes, over}
use Rattle.wm_semantics.specs.Begin.{begins, From, Invokes}
use Rattle.wm_semantics.specs.Keeps.{within, KeepsFact}
use Rattle.wm_semantics.proofs.Kept.{same_after}

-- the host in what a step leads to has the fact
abbrev Holds : {H : Type 0} → (H → Type 0) → After H → Type 0
Holds Fact (Further t) = Fact t.host
Holds Fact (Over o) = Fact o.host

module _ {H : Type 0} (Fact : H → Type 0) (answers : Answers H) (keeps : KeepsFact Fact answers) where
  alone_holds : (h : H) (s : Lists) (used : ℕ) (n : Next) (a : After H) → Fact h → alone h s used n ≡ Some a → Holds Fact a
  alone_holds h s used (Goes t c) a i e = subst (Holds Fact) (same_after _ a e) i
  alone_holds h s used (Asks import args result c) a i e = absurd cc
  alone_holds h s used Ends a i e = subst (Holds Fact) (same_after _ a e) i
  alone_holds h s used (Traps t) a i e = subst (Holds Fact) (same_after _ a e) i
  alone_holds h s used Stuck a i e = absurd cc

  answered_holds : (h : H) (s : Lists) (used : ℕ) (c : Config) (result : Option ValType) (reply : HostAnswer) (a : After H) → Fact h → answered h s used c result reply ≡ Some a → Holds Fact a
  answered_holds h s used c None answer.Nothing a i e = subst (Holds Fact) (same_after _ a e) i
  answered_holds h s used c None (answer.Number n) a i e = absurd cc
  answered_holds h s used c (Some r) answer.Nothing a i e = absurd cc
  answered_holds h s used c (Some r) (answer.Number n) a i e = subst (Holds Fact) (same_after _ a e) i
  answered_holds h s used c None (answer.Trap r) a i e = subst (Holds Fact) (same_after _ a e) i
  answered_holds h s used c (Some q) (answer.Trap r) a i e = subst (Holds Fact) (same_after _ a e) i

  made_within : (limit : ℕ) (h : H) (s : Lists) (used : ℕ) (n : Next) (a : After H) → Fact h → Made answers limit h s used n a → Made (within Fact answers) limit h s used n a × Holds Fact a
  made_within limit h s used n a i (by_itself e) = (by_itself e, alone_holds h s used n a i e)
  made_within limit h s used n a i (by_host import args result c reply h' t used' asks said led) = (
    by_host import args result c reply h' t used' asks (i, said) led,
    answered_holds h' t used' c result reply a (keeps h import args s limit used reply h' t used' i said) led,
  )

  pub reaches_within : {m : Module} {limit : ℕ} {s : State H} {o : Outcome H} → Fact s.host → Reaches answers m limit s o → Reaches (within Fact answers) m limit s o
  reaches_within {m} {limit} {s} {o} i (goes t step rest) =
      let p = made_within limit s.host s.store (paid limit s) (charged m limit s) (Further t) i step in
      goes t p.0 (reaches_within p.1 rest)
  reaches_within {m} {limit} {s} {o} i (over step) =
      over (made_within limit s.host s.store (paid limit s) (charged m limit s) (Over o) i step).0

  from_within : (m : Module) (limit : ℕ) (a : After H) (o : Outcome H) → Holds Fact a → From answers m limit a o → From (within Fact answers) m limit a o
  from_within m limit (Further t) o i r = reaches_within i r
  from_within m limit (Over p) o i is = is

  pub invokes_within : (m : Module) (limit : ℕ) (h : H) (s : Lists) (used : ℕ) (target : Target) (o : Outcome H) → Fact h → Invokes answers m limit h s used target o
      → Invokes (within Fact answers) m limit h s used target o
  invokes_within m limit h s used target o i r = record {
    first = r.first;
    begins_so = r.begins_so;
    from = from_within m limit r.first o (alone_holds h s used (begins m s target) r.first i r.begins_so) r.from;
  }
