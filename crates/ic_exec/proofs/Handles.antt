-- The handling of a message, step by step.
use Rattle.std.proofs.Common.{◌≡◌, ℕ, ◌+◌, ◌-◌, ◌*◌, ◌≤◌, nat_lt, Bool, true, false, not, ◌&&◌, cond, List, [], ◌∷◌, ◌++◌, Option, Some, None, Result, Ok, Err, IfOk, find, slice_get, refl, sym, ap, ◌∙◌, subst, arith}
use Rattle.std.specs.List.{position}
use Rattle.std.specs.Option.{is_some, option_map}
use Rattle.std.proofs.lemmas.Bool.Decides.{nat_tests}
use Rattle.ic_behaviour.specs.declared.call.CallId.{CallId}
use Rattle.ic_behaviour.specs.declared.call.Callback.{Callback}
use Rattle.ic_behaviour.specs.declared.call.Origin.{Origin}
use Rattle.ic_behaviour.specs.declared.call.Origin.TheVariants as origin
use Rattle.ic_behaviour.specs.declared.call.Response.{Response}
use Rattle.ic_behaviour.specs.declared.call.Message.{Message}
use Rattle.ic_behaviour.specs.declared.call.Message.TheVariants.{Call, Answer}
use Rattle.ic_behaviour.specs.declared.context.Context.{Context}
use Rattle.ic_behaviour.specs.declared.phase.Phase.{Phase}
use Rattle.ic_behaviour.specs.declared.phase.Phase.TheVariants.{Running, Stopping, Stopped}
use Rattle.ic_behaviour.specs.declared.env.Env.{Env}
use Rattle.ic_behaviour.specs.declared.env.Admitted.{Admitted}
use Rattle.ic_behaviour.specs.State.{id_of, Code}
use Rattle.ic_behaviour.specs.Texts.{out_of_cycles}
use Rattle.ic_behaviour.specs.Counted.{CountedCanister}
use Rattle.ic_behaviour.specs.Outcomes.{Enters, method_of}
use Rattle.ic_behaviour.specs.Executing.{Work, is_own, change, nothing, view, answer_view, called, answered_with}
use Rattle.ic_behaviour.specs.Closing.{Handled, finished}
use Rattle.ic_behaviour.specs.Local.{admitted_by, admitted, or_no_method, function_of, admit, refused, context_of, with_answer, one_less, begin_call, local_call, on_answer, begin_answer, local}
use Rattle.ic_behaviour.proofs.Weights.{same_id-self, same_id-is}
use Rattle.ic_state.specs.declared.canister.Canister.{Canister}
use Rattle.ic_state.specs.declared.canister.Code.{Code as StoredCode}
use Rattle.ic_state.specs.Seen.{seen, code_of}
use Rattle.ic_calls.proofs.Splits.{at_place, at_end, find-split, get-split}
use Rattle.ic_exec.specs.declared.work.Done.{Done}
use Rattle.ic_exec.specs.Executed.{done_of}

-- ---- results

pub done_is : {E : Type 0} (r : Result Done E) (n : Canister) (h g : Handled) → IfOk r (λ k. done_of n k ≡ h) → h ≡ g → IfOk r (λ k. done_of n k ≡ g)
done_is (Err e) n h g done same = tt
done_is (Ok k) n h g done same = done ∙ same

pub done_for : {E : Type 0} (r : Result Done E) (n : Canister) (h : Handled) (C : Code → Type 0) (g : Code → Handled) → IfOk r (λ k. done_of n k ≡ h) → ((code : Code) → C code → h ≡ g code)
    → IfOk r (λ k. (code : Code) → C code → done_of n k ≡ g code)
done_for (Err e) n h C g done same = tt
done_for (Ok k) n h C g done same = λ code has. done ∙ same code has

pub done_with : {E : Type 0} (r : Result Done E) (n : Canister) (C : Code → Type 0) (g : Code → Handled) (h : Handled) (code : Code) → C code → IfOk r (λ k. (code : Code) → C code → done_of n k ≡ g code) → g code ≡ h
    → IfOk r (λ k. done_of n k ≡ h)
done_with (Err e) n C g h code has done same = tt
done_with (Ok k) n C g h code has done same = done code has ∙ same

-- ---- a call that is taken

module _ (a d : Canister) (from : Origin) (sender : List ℕ) (cycles place : ℕ) (fresh : find (is_own (id_of from)) a.contexts ≡ None)
    (made : d ≡ record a { contexts = a.contexts ++ context_of from sender cycles ∷ [] }) (found : position (is_own (id_of from)) d.contexts ≡ Some place) where
  there : slice_get d.contexts place ≡ Some (context_of from sender cycles)
  there =
      let s = at_place (is_own (id_of from)) d.contexts place found in
      let g = get-split s.1 in
      let f = find-split s.1 in
      let e = ap (λ (b : Canister). find (is_own (id_of from)) b.contexts) made ∙ find-split (at_end (is_own (id_of from)) a.contexts (context_of from sender cycles) fresh (same_id-self (id_of from))) in
      cc

  module _ (x : Context) (is : x ≡ context_of from sender cycles) where
    pub taken_there : slice_get d.contexts place ≡ Some x
    taken_there = there ∙ ap Some (sym is)

    pub taken_place : position (is_own x.id) d.contexts ≡ Some place
    taken_place = ap (λ (z : Context). position (is_own z.id) d.contexts) is ∙ found

    pub begun : (enters : Enters) (env : Env) (method arg : List ℕ) (entry : Admitted) (w : Work) (code : Code) → w ≡ called enters env (seen d) x.id x method arg code entry
        → finished env.price w ≡ begin_call enters env (seen a) (context_of from sender cycles) method arg (code, entry)
    begun enters env method arg entry w code w_is =
        ap (finished env.price) (w_is ∙ (λ i. called enters env (seen (made i)) (is i).id (is i) method arg code entry))

-- ---- a call

-- what admits a call has code
pub admitted_is : (c : CountedCanister) (method : List ℕ) (entry : Admitted) → Ok entry ≡ admit c method → (code : Code) × (c.code ≡ Some code) × (admitted c method ≡ Ok (code, entry))
admitted_is c method entry e = by c.phase c.code e where
  by_method : (code : Code) (o : Option Admitted) → Ok entry ≡ function_of (or_no_method code o) → or_no_method code o ≡ Ok (code, entry)
  by_method code None e = absurd cc
  by_method code (Some f) e = let same : entry ≡ f = cc in ap (λ g. Ok (code, g)) (sym same)

  by : (phase : Phase) (o : Option Code) → Ok entry ≡ function_of (admitted_by phase o method) → (code : Code) × (o ≡ Some code) × (admitted_by phase o method ≡ Ok (code, entry))
  by Running None e = absurd cc
  by Running (Some code) e = (code, refl, by_method code (method_of code method) e)
  by (Stopping waiters) o e = absurd cc
  by Stopped o e = absurd cc

pub taken_call : (enters : Enters) (env : Env) (c : CountedCanister) (from : Origin) (sender method arg : List ℕ) (cycles : ℕ) (entry : Admitted) (code : Code) → env.limit * env.price ≤ c.balance → admitted c method ≡ Ok (code, entry)
    → begin_call enters env c (context_of from sender cycles) method arg (code, entry) ≡ local_call enters env c from sender method arg cycles (admitted c method)
taken_call enters env c from sender method arg cycles entry code rich is =
    let enough : nat_lt c.balance (env.limit * env.price) ≡ false = grind (arith, nat_tests) in
    sym (ap (local_call enters env c from sender method arg cycles) is
    ∙ ap (λ b. cond b (refused c from cycles out_of_cycles) (begin_call enters env c (context_of from sender cycles) method arg (code, entry))) enough)

pub local_of_call : (enters : Enters) (env : Env) (c : CountedCanister) (m : Message) (from : Origin) (sender callee method arg : List ℕ) (cycles : ℕ) → m ≡ Call from sender callee method arg cycles
    → local_call enters env c from sender method arg cycles (admitted c method) ≡ local enters env c m
unfolding local
local_of_call enters env c m from sender callee method arg cycles is = ap (local enters env c) (sym is)

-- ---- an answer

pub own_is : (own : CallId) (xs : List Context) (place : ℕ) (x : Context) → position (is_own own) xs ≡ Some place → slice_get xs place ≡ Some x → own ≡ x.id
own_is own xs place x found got =
    let s = at_place (is_own own) xs place found in
    let g = get-split s.1 in
    let e : s.0 ≡ x = cc in
    same_id-is own x.id (subst (λ (y : Context). is_own own y ≡ true) e s.1.here)

pub own_place : (own : CallId) (xs : List Context) (place : ℕ) (x : Context) → position (is_own own) xs ≡ Some place → slice_get xs place ≡ Some x → position (is_own x.id) xs ≡ Some place
own_place own xs place x found got = subst (λ id. position (is_own id) xs ≡ Some place) (own_is own xs place x found got) found

module _ (enters : Enters) (env : Env) (a d : Canister) (own : CallId) (callback : Callback) (response : Response) (refund place : ℕ) (x : Context)
    (taken : d ≡ record a { balance = a.balance + refund; contexts = change (is_own own) one_less a.contexts; outstanding = a.outstanding - 1 })
    (found : position (is_own own) d.contexts ≡ Some place) (got : slice_get d.contexts place ≡ Some x) where
  found_is : find (is_own own) d.contexts ≡ Some x
  found_is =
      let s = at_place (is_own own) d.contexts place found in
      let g = get-split s.1 in
      let f = find-split s.1 in
      cc

  -- the canister is the one that has received the answer
  received : (w : Work) → w ≡ on_answer enters env (seen d) own callback response refund (Some x) (option_map code_of d.code)
      → finished env.price w ≡ begin_answer enters env (with_answer own refund (seen a)) own callback response refund
  received w is =
      ap (finished env.price) (is ∙ ap (λ o. on_answer enters env (seen d) own callback response refund o (option_map code_of d.code)) (sym found_is))
      ∙ ap (λ (b : Canister). begin_answer enters env (seen b) own callback response refund) taken

  no_callback : (b : Bool) (o : Option StoredCode) → (not b && is_some o) ≡ false → b ≡ x.deleted → nothing (seen d) ≡ on_answer enters env (seen d) own callback response refund (Some x) (option_map code_of o)
  no_callback b None e is = refl
  no_callback true (Some stored) e is = ap (λ t. cond t (nothing (seen d)) (answered_with enters env (seen d) own callback response x (answer_view (view env (seen d) x) response refund) (code_of stored))) is
  no_callback false (Some stored) e is = absurd cc

  pub nothing_runs : (w : Work) → (not x.deleted && is_some d.code) ≡ false → w ≡ nothing (seen d) → finished env.price w ≡ begin_answer enters env (with_answer own refund (seen a)) own callback response refund
  nothing_runs w none is = received w (is ∙ no_callback x.deleted d.code none refl)

  runs_by : (b : Bool) (o : Option StoredCode) → (not b && is_some o) ≡ true → x.deleted ≡ b → (code : Code) × (option_map code_of o ≡ Some code)
      × (answered_with enters env (seen d) own callback response x (answer_view (view env (seen d) x) response refund) code ≡ on_answer enters env (seen d) own callback response refund (Some x) (option_map code_of o))
  runs_by true o e is = absurd cc
  runs_by false None e is = absurd cc
  runs_by false (Some stored) e is =
      (code_of stored, refl, sym (ap (λ t. cond t (nothing (seen d)) (answered_with enters env (seen d) own callback response x (answer_view (view env (seen d) x) response refund) (code_of stored))) is))

  pub callback_runs : (w : Work) → (not x.deleted && is_some d.code) ≡ true
      → ((code : Code) → option_map code_of d.code ≡ Some code → w ≡ answered_with enters env (seen d) x.id callback response x (answer_view (view env (seen d) x) response refund) code)
      → finished env.price w ≡ begin_answer enters env (with_answer own refund (seen a)) own callback response refund
  callback_runs w runs is =
      let r = runs_by x.deleted d.code runs refl in
      let e = own_is own d.contexts place x found got in
      received w (is r.0 r.1 ∙ ap (λ id. answered_with enters env (seen d) id callback response x (answer_view (view env (seen d) x) response refund) r.0) (sym e) ∙ r.2)

pub local_of_answer : (enters : Enters) (env : Env) (c : CountedCanister) (m : Message) (from : Origin) (caller : List ℕ) (n : ℕ) (own : CallId) (callback : Callback) (sender : List ℕ) (response : Response) (refund : ℕ)
    → m ≡ Answer from sender response refund → from ≡ origin.Canister caller n own callback → begin_answer enters env (with_answer own refund c) own callback response refund ≡ local enters env c m
unfolding local
local_of_answer enters env c m from caller n own callback sender response refund is is_from = ap (local enters env c) (sym (is ∙ ap (λ f. Answer f sender response refund) is_from))
