-- A callback that runs for an answer, and its cleanup.
use Rattle.std.proofs.Common.{◌≡◌, ℕ, ◌+◌, true, [], Option, Some, None, Result, Ok, Err, IfOk, refl, ap, ap₂, ◌∙◌, arith}
use Rattle.std.specs.Option.{option_map}
use Rattle.wm_store.specs.Lists.{Lists}
use Rattle.wm_store.specs.Held.{Held}
use Rattle.wm_semantics.specs.declared.trap.Trap.{Trap}
use Rattle.wm_semantics.specs.declared.target.Target.{Target}
use Rattle.wm_semantics.specs.declared.target.Target.TheVariants.{Element}
use Rattle.ic_behaviour.specs.declared.call.CallId.{CallId}
use Rattle.ic_behaviour.specs.declared.call.Callback.{Callback}
use Rattle.ic_behaviour.specs.declared.call.Response.{Response}
use Rattle.ic_behaviour.specs.declared.context.Context.{Context}
use Rattle.ic_behaviour.specs.declared.env.Env.{Env}
use Rattle.ic_behaviour.specs.declared.execution.EntryKind.{EntryKind}
use Rattle.ic_behaviour.specs.declared.execution.EntryKind.TheVariants as kind
use Rattle.ic_behaviour.specs.declared.execution.View.{View}
use Rattle.ic_behaviour.specs.declared.execution.Effects.{Effects}
use Rattle.ic_behaviour.specs.State.{Code}
use Rattle.ic_behaviour.specs.Counted.{CountedCanister}
use Rattle.ic_behaviour.specs.Outcomes.{Outcome, Returns, Traps, Enters}
use Rattle.ic_behaviour.specs.Executing.{view, answer_view, returned, trapped_with, cleaned, cleaned_up, called_back, kind_of, target_of, answered_with}
use Rattle.ic_behaviour.specs.Entry.{enters_by}
use Rattle.ic_state.specs.declared.canister.Canister.{Canister}
use Rattle.ic_state.specs.declared.canister.Code.{Code as StoredCode}
use Rattle.ic_state.specs.Seen.{seen, code_of}
use Rattle.ic_api.specs.System.{system_api}
use Rattle.ic_entry.specs.declared.entering.Entered.{Entered}
use Rattle.ic_exec.specs.declared.work.Work.{Work as StoredWork}
use Rattle.ic_exec.specs.Executed.{work_of}
use Rattle.ic_entry.specs.Entered.{told, store_after}
use Rattle.ic_exec.specs.Cleanups.{cleaned_by, after_cleanup}

-- what traps leaves the store as it was
stays : (s : Lists) (o : Outcome) (t : Entered) (cause : Trap) → t ≡ told o → t.ended ≡ Err cause → store_after true s o ≡ s
stays s (Returns store e used) t cause is err = absurd cc
stays s (Traps other used) t cause is err = refl

module _ (enters : Enters) (env : Env) (c : CountedCanister) (own : CallId) (x : Context) (code : Code) where
  returned_back : (cleanup : Option (ℕ × ℕ)) (o : Outcome) (t : Entered) (e : Effects) (s : Lists) → t ≡ told o → t.ended ≡ Ok e → s ≡ store_after true c.store o
      → returned c own x s e t.used ≡ called_back enters env c own x code cleanup o
  returned_back cleanup (Returns store f used) t e s is ok kept =
      let same : e ≡ f = cc in
      let n : t.used ≡ used = cc in
      λ i. returned c own x (kept i) (same i) (n i)
  returned_back cleanup (Traps cause used) t e s is ok kept = absurd cc

  cleaned_is : (cause : Trap) (used more : ℕ) (o : Outcome) (left : Lists) → (left, more) ≡ cleaned_by c.store o → trapped_with c own left cause (used + more) ≡ cleaned c own cause used o
  cleaned_is cause used more (Returns store e n) left is = ap (λ (p : Lists × ℕ). trapped_with c own p.0 cause (used + p.1)) is
  cleaned_is cause used more (Traps other n) left is = ap (λ (p : Lists × ℕ). trapped_with c own p.0 cause (used + p.1)) is

  cleaned_up_is : (cause : Trap) (used more : ℕ) (o : Option (ℕ × ℕ)) (left : Lists) → (left, more) ≡ after_cleanup enters env c x code o
      → trapped_with c own left cause (used + more) ≡ cleaned_up enters env c own x code cause used o
  cleaned_up_is cause used more None left is = ap (λ (p : Lists × ℕ). trapped_with c own p.0 cause (used + p.1)) is ∙ ap (trapped_with c own c.store cause) (omega arith)
  cleaned_up_is cause used more (Some target) left is = cleaned_is cause used more (enters code c.store (Element target.0 target.1) kind.Cleanup (view env c x) env.limit) left is

  trapped_back : (cleanup : Option (ℕ × ℕ)) (o : Outcome) (t : Entered) (cause : Trap) (more : ℕ) (left : Lists) → t ≡ told o → t.ended ≡ Err cause
      → (left, more) ≡ after_cleanup enters env c x code cleanup → trapped_with c own left cause (t.used + more) ≡ called_back enters env c own x code cleanup o
  trapped_back cleanup (Returns store f used) t cause more left is err after = absurd cc
  trapped_back cleanup (Traps other used) t cause more left is err after =
      let same : cause ≡ other = cc in
      let n : t.used ≡ used = cc in
      ap₂ (λ k m. trapped_with c own left k (m + more)) same n ∙ cleaned_up_is other used more cleanup left after

-- as the code has it
module _ (a : Canister) (x : Context) (env : Env) (callback : Callback) (response : Response) (refund : ℕ) (target : Target) (entry : EntryKind) (v0 v : View) (s : Held) (t : Entered) (stored : StoredCode)
    (target_is : target ≡ target_of callback response) (kind_is : entry ≡ kind_of response) (view_is : v0 ≡ view env (seen a) x) (answer_is : v ≡ answer_view v0 response refund) (has : a.code ≡ Some stored)
    (is : t ≡ told (enters_by system_api (code_of stored) a.store.lists target entry v env.limit)) (kept : s.lists ≡ store_after true a.store.lists (enters_by system_api (code_of stored) a.store.lists target entry v env.limit)) where
  abbrev seen_view : View
  seen_view = answer_view (view env (seen a) x) response refund

  abbrev outcome : Outcome
  outcome = enters_by system_api (code_of stored) a.store.lists (target_of callback response) (kind_of response) seen_view env.limit

  sees : v ≡ seen_view
  sees = answer_is ∙ ap (λ u. answer_view u response refund) view_is

  same : enters_by system_api (code_of stored) a.store.lists target entry v env.limit ≡ outcome
  same = λ i. enters_by system_api (code_of stored) a.store.lists (target_is i) (kind_is i) (sees i) env.limit

  its : (code : Code) → option_map code_of a.code ≡ Some code → code_of stored ≡ code
  its code has_code = cc

  pub returns_done : {E : Type 0} (d : Canister) (e : Effects) (r : Result StoredWork E) → t.ended ≡ Ok e → IfOk r (λ w. work_of x.id d w ≡ returned (seen (record a { store = s })) x.id x s.lists e t.used)
      → IfOk r (λ w. (code : Code) → option_map code_of a.code ≡ Some code → work_of x.id d w ≡ answered_with (enters_by system_api) env (seen a) x.id callback response x seen_view code)
  returns_done d e (Err f) ok done = tt
  returns_done d e (Ok w) ok done = λ code has_code.
      done ∙ returned_back (enters_by system_api) env (seen a) x.id x (code_of stored) callback.cleanup outcome t e s.lists (is ∙ ap told same) ok (kept ∙ ap (store_after true a.store.lists) same)
      ∙ ap (λ f. answered_with (enters_by system_api) env (seen a) x.id callback response x seen_view f) (its code has_code)

  pub traps_done : (d : Canister) (h : Held) (w : StoredWork) (cause : Trap) (more : ℕ) → t.ended ≡ Err cause → d ≡ record a { store = h }
      → ((code : Code) → option_map code_of a.code ≡ Some code → (h.lists, more) ≡ after_cleanup (enters_by system_api) env (seen (record a { store = s })) x code callback.cleanup)
      → w ≡ record { calls = []; answers = []; used = t.used + more; trapped = Some cause }
      → (code : Code) → option_map code_of a.code ≡ Some code → work_of x.id d w ≡ answered_with (enters_by system_api) env (seen a) x.id callback response x seen_view code
  traps_done d h w cause more err rest after silent code has_code =
      let before : s.lists ≡ a.store.lists = kept ∙ stays a.store.lists (enters_by system_api (code_of stored) a.store.lists target entry v env.limit) t cause is err in
      ap₂ (work_of x.id) rest silent
      ∙ trapped_back (enters_by system_api) env (seen a) x.id x (code_of stored) callback.cleanup outcome t cause more h.lists (is ∙ ap told same) err
      (after (code_of stored) (ap (option_map code_of) has) ∙ ap (λ l. after_cleanup (enters_by system_api) env (record (seen a) { store = l }) x (code_of stored) callback.cleanup) before)
      ∙ ap (λ f. answered_with (enters_by system_api) env (seen a) x.id callback response x seen_view f) (its code has_code)
