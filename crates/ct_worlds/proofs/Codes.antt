-- A delivery keeps the code of each canister, unless the management canister is called.
use Rattle.std.proofs.Common.{◌≡◌, ℕ, ◌*◌, nat_lt, Bool, true, false, cond, List, [], ◌∷◌, map, Option, Some, None, Result, Ok, Err, refl, sym, ap, ◌∙◌, find}
use Rattle.std.specs.Prelude.{slice_get}
use Rattle.std.specs.Map.{lookup, set_value}
use Rattle.wm_semantics.specs.declared.trap.Trap.{Trap}
use Rattle.wm_semantics.specs.declared.target.Target.TheVariants.{Function, Element}
use Rattle.ic_behaviour.specs.declared.call.CallId.{CallId}
use Rattle.ic_behaviour.specs.declared.call.Callback.{Callback}
use Rattle.ic_behaviour.specs.declared.call.Origin.{Origin}
use Rattle.ic_behaviour.specs.declared.call.Origin.TheVariants as origin
use Rattle.ic_behaviour.specs.declared.call.Response.{Response}
use Rattle.ic_behaviour.specs.declared.call.Message.{Message}
use Rattle.ic_behaviour.specs.declared.call.Message.TheVariants.{Call, Answer}
use Rattle.ic_behaviour.specs.declared.context.Context.{Context}
use Rattle.ic_behaviour.specs.declared.env.Env.{Env}
use Rattle.ic_behaviour.specs.declared.env.Admitted.{Admitted}
use Rattle.ic_behaviour.specs.declared.env.Admitted.TheVariants as method
use Rattle.ic_behaviour.specs.declared.env.Refusal.{Refusal}
use Rattle.ic_behaviour.specs.declared.execution.EntryKind.TheVariants as kind
use Rattle.ic_behaviour.specs.State.{at, callee_of, Code, Canister, State}
use Rattle.ic_behaviour.specs.Counted.{CountedCanister, counted, dropped}
use Rattle.ic_behaviour.specs.Outcomes.{Outcome, Returns, Traps, Enters}
use Rattle.ic_behaviour.specs.Executing.{nothing, is_own, updated, queried, view, call_view, answer_view, called, cleaned, cleaned_up, called_back, kind_of, target_of, answered_with}
use Rattle.ic_behaviour.specs.Local.{admitted, context_of, with_context, with_answer, refused, begin_call, local_call, on_answer, local}
use Rattle.ic_behaviour.specs.Texts.{out_of_cycles}
use Rattle.ic_behaviour.specs.Deliver.{Outside, env_at, sent_back, handled_by, deliver, delivered, without}
use Rattle.ic_behaviour.specs.Steps.{Rules, step}
use Rattle.ic_keep.specs.IsKept.{codes_in}
use Rattle.ic_schedule.specs.Delivery.{is_managed, is_managed_message, is_to_management}

-- ---- a canister that handles a message

module _ (enters : Enters) (env : Env) (c : CountedCanister) (own : CallId) (x : Context) where
  updated_code : (o : Outcome) → (updated c own x o).canister.code ≡ c.code
  updated_code (Returns store e used) = refl
  updated_code (Traps cause used) = refl

  queried_code : (o : Outcome) → (queried c own x o).canister.code ≡ c.code
  queried_code (Returns store e used) = refl
  queried_code (Traps cause used) = refl

  called_code : (name arg : List ℕ) (code : Code) (entry : Admitted) → (called enters env c own x name arg code entry).canister.code ≡ c.code
  called_code name arg code (method.Update f) = updated_code (enters code c.store (Function f) kind.Update (call_view (view env c x) name arg) env.limit)
  called_code name arg code (method.Query f) = queried_code (enters code c.store (Function f) kind.Query (call_view (view env c x) name arg) env.limit)

  cleaned_code : (cause : Trap) (used : ℕ) (o : Outcome) → (cleaned c own cause used o).canister.code ≡ c.code
  cleaned_code cause used (Returns store e more) = refl
  cleaned_code cause used (Traps other more) = refl

  cleaned_up_code : (code : Code) (cause : Trap) (used : ℕ) (cleanup : Option (ℕ × ℕ)) → (cleaned_up enters env c own x code cause used cleanup).canister.code ≡ c.code
  cleaned_up_code code cause used None = refl
  cleaned_up_code code cause used (Some target) = cleaned_code cause used (enters code c.store (Element target.0 target.1) kind.Cleanup (view env c x) env.limit)

  back_code : (code : Code) (cleanup : Option (ℕ × ℕ)) (o : Outcome) → (called_back enters env c own x code cleanup o).canister.code ≡ c.code
  back_code code cleanup (Returns store e used) = refl
  back_code code cleanup (Traps cause used) = cleaned_up_code code cause used cleanup

on_answer_code : (enters : Enters) (env : Env) (c : CountedCanister) (own : CallId) (callback : Callback) (response : Response) (refund : ℕ) (found : Option Context) (code : Option Code)
    → (on_answer enters env c own callback response refund found code).canister.code ≡ c.code
on_answer_code enters env c own callback response refund None code = refl
on_answer_code enters env c own callback response refund (Some x) None = refl
on_answer_code enters env c own callback response refund (Some x) (Some code) = by x.deleted where
  by : (gone : Bool) → (cond gone (nothing c) (answered_with enters env c own callback response x (answer_view (view env c x) response refund) code)).canister.code ≡ c.code
  by true = refl
  by false = back_code enters env c own x code callback.cleanup (enters code c.store (target_of callback response) (kind_of response) (answer_view (view env c x) response refund) env.limit)

module _ (enters : Enters) (env : Env) (c : CountedCanister) where
  call_code : (from : Origin) (sender name arg : List ℕ) (cycles : ℕ) (entry : Result (Code × Admitted) Refusal) → (local_call enters env c from sender name arg cycles entry).canister.code ≡ c.code
  call_code from sender name arg cycles (Err refusal) = refl
  call_code from sender name arg cycles (Ok entry) = by (nat_lt c.balance (env.limit * env.price)) where
    by : (poor : Bool) → (cond poor (refused c from cycles out_of_cycles) (begin_call enters env c (context_of from sender cycles) name arg entry)).canister.code ≡ c.code
    by true = refl
    by false = called_code enters env (with_context (context_of from sender cycles) c) (context_of from sender cycles).id (context_of from sender cycles) name arg entry.0 entry.1

  local_code : (m : Message) → (local enters env c m).canister.code ≡ c.code
  unfolding local
  local_code (Call from sender callee name arg cycles) = call_code from sender name arg cycles (admitted c name)
  local_code (Answer (origin.Ingress k) sender response refund) = refl
  local_code (Answer (origin.Canister caller n own callback) sender response refund) =
      on_answer_code enters env (with_answer own refund c) own callback response refund (find (is_own own) (with_answer own refund c).contexts) c.code

-- ---- a state in which a message is delivered

abbrev codes : List (List ℕ × Canister) → List (Option Code)
codes es = map (λ (e : List ℕ × Canister). e.1.code) es

-- another canister of the same code is put in its place
codes_set : (key : List ℕ) (es : List (List ℕ × Canister)) (c d : Canister) → lookup (at key) es ≡ Some c → d.code ≡ c.code → codes (set_value (at key) es d) ≡ codes es
codes_set key [] c d found same = refl
codes_set key (e ∷ es) c d found same = by (λ later. codes_set key es c d later same) (at key e.0) found where
  by : (lookup (at key) es ≡ Some c → codes (set_value (at key) es d) ≡ codes es) → (here : Bool) → cond here (Some e.1) (lookup (at key) es) ≡ Some c
      → codes (cond here ((e.0, d) ∷ es) (e ∷ set_value (at key) es d)) ≡ codes (e ∷ es)
  by later true is = let it : e.1 ≡ c = cc in ap (λ o. o ∷ codes es) (same ∙ ap (λ (x : Canister). x.code) (sym it))
  by later false is = ap (λ l. e.1.code ∷ l) (later is)

module _ (enters : Enters) (outside : Outside) (limit price : ℕ) (s : State) (place : ℕ) where
  no_canister_codes : (m : Message) → is_to_management m ≡ false → codes_in (handled_by enters outside limit price s (without s place) m None) ≡ codes_in s
  no_canister_codes (Call from sender callee name arg cycles) other =
      ap (λ b. codes_in (cond b (outside limit (without s place) (Call from sender callee name arg cycles)) (sent_back from callee cycles (without s place)))) other
  no_canister_codes (Answer from sender response refund) other = refl

  handled_codes : (m : Message) (o : Option Canister) → lookup (at (callee_of m)) s.canisters ≡ o → is_to_management m ≡ false
      → codes_in (handled_by enters outside limit price s (without s place) m o) ≡ codes_in s
  handled_codes m None found other = no_canister_codes m other
  handled_codes m (Some c) found other =
      codes_set (callee_of m) s.canisters c (dropped (local enters (env_at s.time limit price) (counted s (callee_of m) c) m).canister) found
      (local_code enters (env_at s.time limit price) (counted s (callee_of m) c) m)

  delivered_codes : (o : Option Message) → is_managed_message o ≡ false → codes_in (delivered enters outside limit price s place o) ≡ codes_in s
  delivered_codes None other = refl
  delivered_codes (Some m) other = handled_codes m (lookup (at (callee_of m)) s.canisters) refl other

pub step_codes : (rules : Rules) (s : State) (place : ℕ) → is_managed s place ≡ false → codes_in (step rules s place) ≡ codes_in s
unfolding deliver
step_codes rules s place other = delivered_codes rules.enters rules.outside rules.limit rules.price s place (slice_get s.messages place) other
