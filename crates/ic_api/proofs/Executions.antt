-- What a run keeps, its effects keep, whatever code it ran.
use Rattle.std.proofs.Common.{◌≡◌, ℕ, false, [], Option, Some, None, refl, subst, ap, arith}
use Rattle.std.proofs.lemmas.Option.{none-some}
use Rattle.wm_store.specs.Lists.{Lists}
use Rattle.wm_semantics.specs.declared.target.Target.{Target}
use Rattle.wm_semantics.specs.declared.target.Ended.{Ended}
use Rattle.wm_semantics.specs.declared.target.Ended.TheVariants.{Returned, Trapped}
use Rattle.wm_semantics.specs.Keeps.{IsAlwaysKept}
use Rattle.wm_semantics.specs.Steps as run
use Rattle.wm_semantics.specs.Fuel.{answers_of, invoked}
use Rattle.wm_semantics.specs.Entry.{entered_by, entered_or, entry}
use Rattle.wm_semantics.proofs.AlwaysKept.{invokes_kept}
use Rattle.wm_semantics.proofs.ByFuel.{fuel_invokes}
use Rattle.ic_behaviour.specs.declared.execution.EntryKind.{EntryKind}
use Rattle.ic_behaviour.specs.declared.execution.View.{View}
use Rattle.ic_behaviour.specs.declared.execution.Effects.{Effects}
use Rattle.ic_behaviour.specs.State.{Code}
use Rattle.ic_behaviour.specs.Outcomes.{Outcome, Returns, Traps}
use Rattle.ic_behaviour.specs.Entry.{outcome_of, enters_by}
use Rattle.ic_behaviour.specs.Installing.{enters_after}
use Rattle.ic_api.specs.Kinds.{may_call}
use Rattle.ic_api.specs.Calling.{begun_cycles}
use Rattle.ic_api.specs.Running.{Running, starting, api_reply}
use Rattle.ic_api.specs.Effects.{effects_of}
use Rattle.ic_api.specs.System.{system_api}
use Rattle.ic_api.specs.Kept.{RunKept}
use Rattle.ic_api.specs.Laws.Hosts.{run_kept, unchanged, joined, answer_kept}
use Rattle.ic_api.specs.Executed.{Executed}

pub executed : (kind : EntryKind) (view : View) (h : Running) → RunKept (starting kind view) h → Executed kind view (effects_of h)
executed kind view h kept = record {
  cycles = omega (arith, kept.es.cycles (λ e. refl));
  few = λ few. omega (arith, kept.es.few (omega (arith, few)), ap (λ v. v.outstanding) kept.es.view);
  numbers = λ below. omega (arith, kept.es.numbers (omega (arith, below)), ap (λ v. v.next_call) kept.es.view);
  late = λ e. (kept.es.late e).1;
  gift = omega (arith, kept.es.gift);
  spent = kept.es.spent (λ a e. absurd (none-some a e));
  quiet = λ quiet. let q = kept.quiet quiet in (omega (arith, q.balance, ap begun_cycles q.begun), q.performed);
}

-- ---- code that is entered

abbrev Fine : EntryKind → View → Outcome → Type 0
Fine kind view (Returns s e used) = Executed kind view e
Fine kind view (Traps cause used) = Unit {0}

ended_fine : (kind : EntryKind) (view : View) (ended : Ended) (h : Running) (s : Lists) (used : ℕ) → RunKept (starting kind view) h → Fine kind view (outcome_of system_api (entered_by ended h s used))
ended_fine kind view Returned h s used kept = executed kind view h kept
ended_fine kind view (Trapped cause) h s used kept = tt

entered_fine : (kind : EntryKind) (view : View) (o : Option (run.Outcome Running)) → ((p : run.Outcome Running) → o ≡ Some p → RunKept (starting kind view) p.host)
    → (spent : ℕ) → Fine kind view (outcome_of system_api (entered_or spent o))
entered_fine kind view None kept spent = tt
entered_fine kind view (Some p) kept spent = ended_fine kind view p.ended p.host p.store p.used (kept p refl)

always_kept : (limit : ℕ) → IsAlwaysKept (answers_of api_reply) limit run_kept
always_kept limit = record {
  same = λ h s used. unchanged h;
  joined = λ h h' h'' s s' s'' used used' used''. joined h h' h'';
  reduced = λ h s t used used' stays up within. unchanged h;
  told = λ h import args s used. answer_kept h import args s limit used;
}

entered_after : (code : Code) (s : Lists) (target : Target) (kind : EntryKind) (view : View) (limit spent : ℕ) (t : Lists) (e : Effects) (used : ℕ)
    → enters_after system_api code s target kind view limit spent ≡ Returns t e used → Executed kind view e
unfolding enters_after entry
entered_after code s target kind view limit spent t e used is =
    let h = starting kind view in
    subst (Fine kind view) is (entered_fine kind view (invoked api_reply code.«module» limit h s spent target)
    (λ p invokes. invokes_kept (answers_of api_reply) limit run_kept (always_kept limit) code.«module» h s spent target p (fuel_invokes api_reply code.«module» limit h s spent target p invokes)) spent)

pub entered : (code : Code) (s : Lists) (target : Target) (kind : EntryKind) (view : View) (limit : ℕ) (t : Lists) (e : Effects) (used : ℕ)
    → enters_by system_api code s target kind view limit ≡ Returns t e used → Executed kind view e
unfolding enters_by enters_after
entered code s target kind view limit t e used is = entered_after code s target kind view limit 0 t e used is

-- what may not call leaves the balance, and calls nobody
pub quiet : (code : Code) (s : Lists) (target : Target) (kind : EntryKind) (view : View) (limit spent : ℕ) (t : Lists) (e : Effects) (used : ℕ)
    → may_call kind ≡ false → enters_after system_api code s target kind view limit spent ≡ Returns t e used → (e.balance ≡ view.balance) × (e.calls ≡ [])
quiet code s target kind view limit spent t e used silent is = (entered_after code s target kind view limit spent t e used is).quiet silent
