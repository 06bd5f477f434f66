-- A method that runs in the context of its call.
use Rattle.std.proofs.Common.{◌≡◌, ℕ, Bool, false, List, Some, Result, Ok, Err, IfOk, sym, ap, ◌∙◌}
use Rattle.std.specs.Option.{option_map}
use Rattle.wm_store.specs.Held.{Held}
use Rattle.wm_semantics.specs.declared.target.Target.TheVariants.{Function}
use Rattle.ic_behaviour.specs.declared.call.CallId.{CallId}
use Rattle.ic_behaviour.specs.declared.context.Context.{Context}
use Rattle.ic_behaviour.specs.declared.env.Env.{Env}
use Rattle.ic_behaviour.specs.declared.env.Admitted.{Admitted}
use Rattle.ic_behaviour.specs.declared.env.Admitted.TheVariants.{Update, Query}
use Rattle.ic_behaviour.specs.declared.execution.EntryKind.{EntryKind}
use Rattle.ic_behaviour.specs.declared.execution.View.{View}
use Rattle.ic_behaviour.specs.declared.execution.Effects.{Effects}
use Rattle.ic_behaviour.specs.State.{Code}
use Rattle.ic_behaviour.specs.Counted.{CountedCanister}
use Rattle.ic_behaviour.specs.Outcomes.{Outcome, Returns, Traps, Enters}
use Rattle.ic_behaviour.specs.Executing.{Work, view, call_view, returned, answer_alone, queried, called}
use Rattle.ic_behaviour.specs.Entry.{enters_by}
use Rattle.ic_state.specs.declared.canister.Canister.{Canister}
use Rattle.ic_state.specs.declared.canister.Code.{Code as StoredCode}
use Rattle.ic_state.specs.Seen.{seen, code_of}
use Rattle.ic_api.specs.System.{system_api}
use Rattle.ic_exec.specs.declared.work.Work.{Work as StoredWork}
use Rattle.ic_exec.specs.Executed.{work_of, parts_of}
use Rattle.ic_entry.specs.declared.entering.Entered.{Entered}
use Rattle.ic_entry.specs.Entered.{told}

module _ (enters : Enters) (env : Env) (c : CountedCanister) (own : CallId) (x : Context) (method arg : List ℕ) (code : Code) where
  query_work : (o : Outcome) (t : Entered) (e : Effects) → t ≡ told o → t.ended ≡ Ok e → queried c own x o ≡ returned c own x c.store (answer_alone c x e) t.used
  query_work (Returns store f used) t e is ok =
      let same : f ≡ e = cc in
      let n : used ≡ t.used = cc in
      λ i. returned c own x c.store (answer_alone c x (same i)) (n i)
  query_work (Traps cause used) t e is ok = absurd cc

  pub query_called : (entry : Admitted) (p : ℕ × EntryKind × Bool) (v : View) (t : Entered) (e alone : Effects) (w : Work) → p ≡ parts_of entry → p.2 ≡ false → v ≡ call_view (view env c x) method arg
      → t ≡ told (enters code c.store (Function p.0) p.1 v env.limit) → t.ended ≡ Ok e → alone ≡ answer_alone c x e → w ≡ returned c own x c.store alone t.used → w ≡ called enters env c own x method arg code entry
  query_called (Update f) p v t e alone w parts undone sees is ok alone_is done = absurd cc
  query_called (Query f) p v t e alone w parts undone sees is ok alone_is done =
      let now : t ≡ told (enters code c.store (Function f) (parts_of (Query f)).1 (call_view (view env c x) method arg) env.limit) =
      is ∙ (λ i. told (enters code c.store (Function (parts i).0) (parts i).1 (sees i) env.limit)) in
      done ∙ ap (λ a. returned c own x c.store a t.used) alone_is
      ∙ sym (query_work (enters code c.store (Function f) (parts_of (Query f)).1 (call_view (view env c x) method arg) env.limit) t e now ok)

-- as the code has it: the answer of a query is kept, and the store is as before
pub query_done : {E : Type 0} (a d : Canister) (x : Context) (env : Env) (method arg : List ℕ) (entry : Admitted) (p : ℕ × EntryKind × Bool) (v0 v : View) (s : Held) (t : Entered) (e alone : Effects) (stored : StoredCode)
    (r : Result StoredWork E)
    → p ≡ parts_of entry → p.2 ≡ false → v0 ≡ view env (seen a) x → v ≡ call_view v0 method arg → s ≡ a.store → a.code ≡ Some stored
    → t ≡ told (enters_by system_api (code_of stored) a.store.lists (Function p.0) p.1 v env.limit) → t.ended ≡ Ok e → alone ≡ answer_alone (seen (record a { store = s })) x e
    → IfOk r (λ w. work_of x.id d w ≡ returned (seen (record a { store = s })) x.id x s.lists alone t.used)
    → IfOk r (λ w. (code : Code) → option_map code_of a.code ≡ Some code → work_of x.id d w ≡ called (enters_by system_api) env (seen a) x.id x method arg code entry)
query_done a d x env method arg entry p v0 v s t e alone stored (Err f) parts undone view_is call_is same has is ok alone_is done = tt
query_done a d x env method arg entry p v0 v s t e alone stored (Ok w) parts undone view_is call_is same has is ok alone_is done = λ code has_code.
    let its : code_of stored ≡ code = cc in
    query_called (enters_by system_api) env (seen a) x.id x method arg code entry p v t e alone (work_of x.id d w) parts undone
    (call_is ∙ ap (λ u. call_view u method arg) view_is)
    (is ∙ ap (λ f. told (enters_by system_api f a.store.lists (Function p.0) p.1 v env.limit)) its) ok
    (alone_is ∙ ap (λ (h : Held). answer_alone (seen (record a { store = h })) x e) same)
    (done ∙ ap (λ (h : Held). returned (seen (record a { store = h })) x.id x h.lists alone t.used) same)
