-- What a message does is a chain of moves, whichever entry runs.
use Rattle.std.proofs.Common.{◌≡◌, ℕ, ◌+◌, Bool, true, false, cond, not, List, [], ◌++◌, Option, Some, None, refl, sym, ap, ◌∙◌, arith, find, fold}
use Rattle.std.specs.List.{flat_map}
use Rattle.wm_store.specs.Lists.{Lists}
use Rattle.wm_semantics.specs.declared.trap.Trap.{Trap}
use Rattle.wm_semantics.specs.declared.target.Target.TheVariants.{Function, Element}
use Rattle.ic_behaviour.specs.declared.call.Callback.{Callback}
use Rattle.ic_behaviour.specs.declared.call.Response.{Response}
use Rattle.ic_behaviour.specs.declared.call.Response.TheVariants.{Reply, Reject}
use Rattle.ic_behaviour.specs.declared.context.Context.{Context}
use Rattle.ic_behaviour.specs.declared.request.Request.{Request}
use Rattle.ic_behaviour.specs.declared.env.Env.{Env}
use Rattle.ic_behaviour.specs.declared.env.Admitted.{Admitted}
use Rattle.ic_behaviour.specs.declared.env.Admitted.TheVariants as method
use Rattle.ic_behaviour.specs.declared.execution.EntryKind.{EntryKind}
use Rattle.ic_behaviour.specs.declared.execution.EntryKind.TheVariants as kind
use Rattle.ic_behaviour.specs.declared.execution.View.{View}
use Rattle.ic_behaviour.specs.declared.execution.OutCall.{OutCall}
use Rattle.ic_behaviour.specs.declared.execution.Effects.{Effects}
use Rattle.ic_behaviour.specs.Totals.{total}
use Rattle.ic_behaviour.specs.State.{Code}
use Rattle.ic_behaviour.specs.Counted.{CountedCanister}
use Rattle.ic_behaviour.specs.Outcomes.{Outcome, Returns, Traps, Enters}
use Rattle.ic_behaviour.specs.Executing.{Work, nothing, is_own, returned, trapped_with, updated, queried, answer_alone, view, call_view, answer_view, called, cleaned, cleaned_up, called_back, kind_of, target_of, answered_with}
use Rattle.ic_behaviour.specs.Local.{on_answer}
use Rattle.ic_behaviour.specs.Deliver.{filled, routed}
use Rattle.ic_behaviour.proofs.Weights.{same_id-is}
use Rattle.std.specs.Option.{is_some}
use Rattle.ic_run_laws.specs.EntryKeeps.{EntryKeeps, EntriesKeep}
use Rattle.ic_api.specs.IsRecord.{refund_of}
use Rattle.ic_run_laws.proofs.Amid.{Scene}
use Rattle.ic_run_laws.proofs.Works.{At, Fits, left, split, amid_applied}

-- what was done at a canister, and what stays
pub record Worked (z : Scene) (c : CountedCanister) (rs : List Request) (burned : ℕ) (w : Work) : Type 0 where
  pub amid : At z w.canister (w.calls ++ flat_map (routed z.key) w.answers) (fold filled rs w.answers) burned
  pub id : w.canister.id ≡ c.id
  pub code : w.canister.code ≡ c.code
  pub phase : w.canister.phase ≡ c.phase

-- what is seen of the canister and of the context
record Shows (c : CountedCanister) (x : Context) (v : View) : Type 0 where
  balance : v.balance ≡ c.balance
  available : v.available ≡ x.available
  responded : v.responded ≡ not x.must_respond
  outstanding : v.outstanding ≡ c.outstanding

shows_call : (env : Env) (c : CountedCanister) (x : Context) (name arg : List ℕ) → Shows c x (call_view (view env c x) name arg)
shows_call env c x name arg = record { balance = refl; available = refl; responded = refl; outstanding = refl }

shows_answer : (env : Env) (c : CountedCanister) (x : Context) (response : Response) (refund : ℕ) → Shows c x (answer_view (view env c x) response refund)
shows_answer env c x (Reply arg) refund = record { balance = refl; available = refl; responded = refl; outstanding = refl }
shows_answer env c x (Reject code message) refund = record { balance = refl; available = refl; responded = refl; outstanding = refl }

fits_entry : (k : EntryKind) (c : CountedCanister) (x : Context) (v : View) (e : Effects) → Shows c x v → EntryKeeps k v e → Fits c x e
fits_entry k c x v e shows l = record {
  cycles = omega (arith, l.cycles, shows.balance, shows.available, all_left);
  few = λ h. (let small = l.few (omega (arith, h, shows.outstanding)) in omega (arith, small, shows.outstanding));
  late = λ h. l.late (shows.responded ∙ h);
  gift = omega (arith, l.gift, shows.available, all_left);
} where
  all_left : left e ≡ e.available
  all_left = by e.answer refl where
    by : (answer : Option (Response × ℕ)) → e.answer ≡ answer → left e ≡ e.available
    by None e_is = ap (λ o. cond (is_some o) 0 e.available) e_is
    by (Some answer) e_is = ap (λ o. cond (is_some o) 0 e.available) e_is ∙ sym (l.spent answer e_is)

-- a query gives its answer alone
fits_alone : (c : CountedCanister) (x : Context) (v : View) (e : Effects) → Shows c x v → EntryKeeps kind.Query v e → Fits c x (answer_alone c x e)
fits_alone c x v e shows l = record {
  cycles = omega (arith, sent);
  few = λ h. omega (arith, h);
  late = λ h. l.late (shows.responded ∙ h);
  gift = omega (arith, sent);
} where
  sent : left (answer_alone c x e) + refund_of e.answer ≡ x.available
  sent = by e.answer refl where
    by : (answer : Option (Response × ℕ)) → e.answer ≡ answer → left (answer_alone c x e) + refund_of e.answer ≡ x.available
    by None e_is = omega (arith, ap (λ o. cond (is_some o) 0 x.available) e_is, ap refund_of e_is)
    by (Some answer) e_is = omega (
      arith,
      ap (λ o. cond (is_some o) 0 x.available) e_is,
      l.cycles,
      (l.quiet refl).0,
      ap (total (λ (o : OutCall). o.cycles)) (l.quiet refl).1,
      l.spent answer e_is,
      shows.available,
    )

module _ (enters : Enters) (lawful : EntriesKeep enters) (z : Scene) (c : CountedCanister) (x : Context) (rs : List Request) (burned : ℕ) (is_key : c.id ≡ z.key)
    (is_found : find (is_own z.own) c.contexts ≡ Some x) (at : At z c [] rs burned) where
  own_id : x.id ≡ z.own
  own_id = let parts = split (is_own z.own) c.contexts x is_found in sym (same_id-is z.own x.id parts.passes)

  worked_returned : (store : Lists) (e : Effects) (used : ℕ) → Fits c x e → Worked z c rs burned (returned c z.own x store e used)
  worked_returned store e used fits = record { amid = amid_applied z c x store e [] rs burned is_key is_found own_id fits at; id = refl; code = refl; phase = refl }

  worked_trapped : (store : Lists) (cause : Trap) (used : ℕ) → Worked z c rs burned (trapped_with c z.own store cause used)
  worked_trapped store cause used = record { amid = at; id = refl; code = refl; phase = refl }

  worked_updated : (o : Outcome) → ((t : Lists) (e : Effects) (used : ℕ) → o ≡ Returns t e used → Fits c x e) → Worked z c rs burned (updated c z.own x o)
  worked_updated (Returns t e used) law = worked_returned t e used (law t e used refl)
  worked_updated (Traps cause used) law = worked_trapped c.store cause used

  worked_queried : (o : Outcome) → ((t : Lists) (e : Effects) (used : ℕ) → o ≡ Returns t e used → Fits c x (answer_alone c x e)) → Worked z c rs burned (queried c z.own x o)
  worked_queried (Returns t e used) law = worked_returned c.store (answer_alone c x e) used (law t e used refl)
  worked_queried (Traps cause used) law = worked_trapped c.store cause used

  pub worked_called : (env : Env) (name arg : List ℕ) (code : Code) (admitted : Admitted) → Worked z c rs burned (called enters env c z.own x name arg code admitted)
  worked_called env name arg code (method.Update f) = worked_updated (enters code c.store (Function f) kind.Update (call_view (view env c x) name arg) env.limit)
      (λ t e used is. fits_entry kind.Update c x (call_view (view env c x) name arg) e (shows_call env c x name arg) (lawful code c.store (Function f) kind.Update (call_view (view env c x) name arg) env.limit t e used is))
  worked_called env name arg code (method.Query f) = worked_queried (enters code c.store (Function f) kind.Query (call_view (view env c x) name arg) env.limit)
      (λ t e used is. fits_alone c x (call_view (view env c x) name arg) e (shows_call env c x name arg) (lawful code c.store (Function f) kind.Query (call_view (view env c x) name arg) env.limit t e used is))

  worked_cleaned : (cause : Trap) (used : ℕ) (o : Outcome) → Worked z c rs burned (cleaned c z.own cause used o)
  worked_cleaned cause used (Returns t e more) = worked_trapped t cause (used + more)
  worked_cleaned cause used (Traps other more) = worked_trapped c.store cause (used + more)

  worked_cleaned_up : (env : Env) (code : Code) (cause : Trap) (used : ℕ) (cleanup : Option (ℕ × ℕ)) → Worked z c rs burned (cleaned_up enters env c z.own x code cause used cleanup)
  worked_cleaned_up env code cause used None = worked_trapped c.store cause used
  worked_cleaned_up env code cause used (Some target) = worked_cleaned cause used (enters code c.store (Element target.0 target.1) kind.Cleanup (view env c x) env.limit)

  worked_back : (env : Env) (code : Code) (cleanup : Option (ℕ × ℕ)) (o : Outcome)
      → ((t : Lists) (e : Effects) (used : ℕ) → o ≡ Returns t e used → Fits c x e) → Worked z c rs burned (called_back enters env c z.own x code cleanup o)
  worked_back env code cleanup (Returns t e used) law = worked_returned t e used (law t e used refl)
  worked_back env code cleanup (Traps cause used) law = worked_cleaned_up env code cause used cleanup

  worked_answered : (env : Env) (callback : Callback) (response : Response) (refund : ℕ) (code : Code)
      → Worked z c rs burned (answered_with enters env c z.own callback response x (answer_view (view env c x) response refund) code)
  worked_answered env callback response refund code =
      let v : View = answer_view (view env c x) response refund in
      worked_back env code callback.cleanup (enters code c.store (target_of callback response) (kind_of response) v env.limit)
      (λ t e used is. fits_entry (kind_of response) c x v e (shows_answer env c x response refund) (lawful code c.store (target_of callback response) (kind_of response) v env.limit t e used is))

module _ (enters : Enters) (lawful : EntriesKeep enters) (z : Scene) (c : CountedCanister) (rs : List Request) (burned : ℕ) (is_key : c.id ≡ z.key) (at : At z c [] rs burned) where
  worked_nothing : Worked z c rs burned (nothing c)
  worked_nothing = record { amid = at; id = refl; code = refl; phase = refl }

  pub worked_on_answer : (env : Env) (callback : Callback) (response : Response) (refund : ℕ)
      → Worked z c rs burned (on_answer enters env c z.own callback response refund (find (is_own z.own) c.contexts) c.code)
  worked_on_answer env callback response refund = by (find (is_own z.own) c.contexts) refl c.code where
    live : (x : Context) → find (is_own z.own) c.contexts ≡ Some x → (code : Code) (deleted : Bool)
        → Worked z c rs burned (cond deleted (nothing c) (answered_with enters env c z.own callback response x (answer_view (view env c x) response refund) code))
    live x e code true = worked_nothing
    live x e code false = worked_answered enters lawful z c x rs burned is_key e at env callback response refund code

    by : (o : Option Context) → find (is_own z.own) c.contexts ≡ o → (code : Option Code) → Worked z c rs burned (on_answer enters env c z.own callback response refund o code)
    by None e code = worked_nothing
    by (Some x) e None = worked_nothing
    by (Some x) e (Some code) = live x e code x.deleted
