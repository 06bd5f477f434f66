-- The handling of a message makes and loses no cycles.
use Rattle.std.proofs.Common.{◌≡◌, ℕ, ◌+◌, ◌-◌, ◌*◌, nat_lt, Bool, true, false, cond, List, [], ◌∷◌, ◌++◌, Option, Some, None, Result, Ok, Err, find, length, refl, sym, ap, ◌∙◌, subst, arith}
use Rattle.std.specs.List.{filter, flat_map, AllByRecursion}
use Rattle.std.specs.Option.{is_some}
use Rattle.wm_store.specs.Lists.{Lists}
use Rattle.wm_semantics.specs.declared.trap.Trap.{Trap}
use Rattle.wm_semantics.specs.declared.target.Target.{Target}
use Rattle.wm_semantics.specs.declared.target.Target.TheVariants.{Function, Element}
use Rattle.ic_behaviour.specs.declared.call.CallId.{CallId}
use Rattle.ic_behaviour.specs.declared.call.Callback.{Callback}
use Rattle.ic_behaviour.specs.declared.call.Origin.{Origin}
use Rattle.ic_behaviour.specs.declared.call.Origin.TheVariants as origin
use Rattle.ic_behaviour.specs.declared.call.Response.{Response}
use Rattle.ic_behaviour.specs.declared.call.Response.TheVariants.{Reply, Reject}
use Rattle.ic_behaviour.specs.declared.call.Message.{Message}
use Rattle.ic_behaviour.specs.declared.call.Message.TheVariants.{Call, Answer}
use Rattle.ic_behaviour.specs.declared.call.Answered.{Answered}
use Rattle.ic_behaviour.specs.declared.context.Context.{Context}
use Rattle.ic_behaviour.specs.declared.phase.Waiter.{Waiter}
use Rattle.ic_behaviour.specs.declared.phase.Phase.{Phase}
use Rattle.ic_behaviour.specs.declared.phase.Phase.TheVariants.{Running, Stopping, Stopped}
use Rattle.ic_behaviour.specs.declared.env.Env.{Env}
use Rattle.ic_behaviour.specs.declared.env.Admitted.{Admitted}
use Rattle.ic_behaviour.specs.declared.env.Admitted.TheVariants.{Update, Query}
use Rattle.ic_behaviour.specs.declared.env.Refusal.{Refusal}
use Rattle.ic_behaviour.specs.declared.execution.EntryKind.{EntryKind}
use Rattle.ic_behaviour.specs.declared.execution.EntryKind.TheVariants as kind
use Rattle.ic_behaviour.specs.declared.execution.View.{View}
use Rattle.ic_behaviour.specs.declared.execution.OutCall.{OutCall}
use Rattle.ic_behaviour.specs.declared.execution.Effects.{Effects}
use Rattle.ic_behaviour.specs.Totals.{total}
use Rattle.ic_behaviour.specs.State.{id_of, waiting, Code}
use Rattle.ic_behaviour.specs.Counted.{CountedCanister}
use Rattle.ic_behaviour.specs.Texts.{refuses, out_of_cycles}
use Rattle.ic_behaviour.specs.Outcomes.{Outcome, Returns, Traps, Enters}
use Rattle.ic_behaviour.specs.Executing.{Work, nothing, is_own, change, view, call_view, answer_view, served, numbered, given_answer, returned, trapped_with, updated, answer_alone, queried, called, cleaned, called_back, kind_of, target_of, answered_with}
use Rattle.ic_behaviour.specs.Closing.{Handled, charge, is_open, rejected, response_for, released, phase_after, releases, finished}
use Rattle.ic_behaviour.specs.Local.{admitted, refused, context_of, with_context, begin_call, local_call, one_less, with_answer, on_answer, local}
use Rattle.ic_behaviour.proofs.Weights.{total-append, total-map, same_id-self}
use Rattle.ic_calls.specs.Received.{IsExpected}
use Rattle.ic_calls.proofs.Splits.{at_end, find-split}
use Rattle.ic_api.specs.IsRecord.{refund_of, calls_cycles}
use Rattle.ic_api.specs.Executed.{Executed}
use Rattle.ic_exec.specs.Executed.{message_cycles}

-- ---- what is there

abbrev available_of : List Context → ℕ
available_of xs = total (λ (x : Context). x.available) xs

abbrev waiting_of : Phase → ℕ
waiting_of phase = total (λ (w : Waiter). w.cycles) (waiting phase)

abbrev pub counted_cycles : CountedCanister → ℕ
counted_cycles c = c.balance + available_of c.contexts + waiting_of c.phase

abbrev refunds : List Answered → ℕ
refunds answers = total (λ (a : Answered). a.refund) answers

abbrev pub handled_cycles : Handled → ℕ
handled_cycles h = counted_cycles h.canister + total message_cycles h.calls + refunds h.answers + h.burned

-- a context that need not respond has nothing
abbrev pub Settled : Context → Type 0
Settled x = x.must_respond ≡ false → x.available ≡ 0

record Holds (funds : ℕ) (w : Work) : Type 0 where
  settled : AllByRecursion Settled w.canister.contexts
  cycles : counted_cycles w.canister + total message_cycles w.calls + refunds w.answers ≡ funds

-- ---- contexts that close

closes : (own : Option (CallId × Trap)) (xs : List Context) → AllByRecursion Settled xs → available_of (filter is_open xs) + refunds (flat_map (rejected own) xs) ≡ available_of xs
closes own [] all = refl
closes own (x ∷ xs) all = omega (arith, one (is_open x) x.must_respond refl, total-append (λ (a : Answered). a.refund) (rejected own x) (flat_map (rejected own) xs), closes own xs all.1) where
  one : (b must : Bool) → x.must_respond ≡ must
      → available_of (cond b (x ∷ filter is_open xs) (filter is_open xs)) + refunds (cond b [] (cond must ((record { origin = x.origin; response = response_for own x.id; refund = x.available }) ∷ []) []))
      ≡ available_of (filter is_open xs) + x.available
  one true must e = omega arith
  one false true e = omega arith
  one false false e = omega (arith, all.0 e)

stops : (phase : Phase) (xs : List Context) → waiting_of (phase_after phase xs) + refunds (releases phase xs) ≡ waiting_of phase
stops Running xs = refl
stops (Stopping waiters) [] = omega (arith, total-map released (λ (a : Answered). a.refund) waiters)
stops (Stopping waiters) (x ∷ xs) = omega arith
stops Stopped xs = refl

paid : (price : ℕ) (w : Work) → w.canister.balance - charge price w + charge price w ≡ w.canister.balance
paid price w = omega arith

finished_cycles : (price funds : ℕ) (w : Work) → Holds funds w → handled_cycles (finished price w) ≡ funds
finished_cycles price funds w holds = omega (
  arith,
  holds.cycles,
  paid price w,
  closes w.trapped w.canister.contexts holds.settled,
  stops w.canister.phase (filter is_open w.canister.contexts),
  total-append (λ (a : Answered). a.refund) w.answers (flat_map (rejected w.trapped) w.canister.contexts ++ releases w.canister.phase (filter is_open w.canister.contexts)),
  total-append (λ (a : Answered). a.refund) (flat_map (rejected w.trapped) w.canister.contexts) (releases w.canister.phase (filter is_open w.canister.contexts)),
)

-- ---- effects

change-total : (test : Context → Bool) (f : Context → Context) (xs : List Context) (x : Context) → find test xs ≡ Some x → available_of (change test f xs) + x.available ≡ available_of xs + (f x).available
change-total test f [] x e = absurd cc
change-total test f (y ∷ xs) x e = by (test y) e (change-total test f xs x) where
  by : (b : Bool) → cond b (Some y) (find test xs) ≡ Some x → (find test xs ≡ Some x → available_of (change test f xs) + x.available ≡ available_of xs + (f x).available)
      → available_of (cond b (f y ∷ xs) (y ∷ change test f xs)) + x.available ≡ y.available + available_of xs + (f x).available
  by true e later = let same : y ≡ x = cc in omega (arith, ap (λ (z : Context). z.available) same, ap (λ (z : Context). (f z).available) same)
  by false e later = omega (arith, later e)

each-change : (test : Context → Bool) (f : Context → Context) (xs : List Context) (x : Context) → find test xs ≡ Some x → AllByRecursion Settled xs → Settled (f x) → AllByRecursion Settled (change test f xs)
each-change test f [] x e all here = tt
each-change test f (y ∷ xs) x e all here = by (test y) e (λ found. each-change test f xs x found all.1 here) where
  by : (b : Bool) → cond b (Some y) (find test xs) ≡ Some x → (find test xs ≡ Some x → AllByRecursion Settled (change test f xs)) → AllByRecursion Settled (cond b (f y ∷ xs) (y ∷ change test f xs))
  by true e later = let same : y ≡ x = cc in (subst (λ z. Settled (f z)) (sym same) here, all.1)
  by false e later = (all.0, later e)

found_settled : (test : Context → Bool) (xs : List Context) (x : Context) → find test xs ≡ Some x → AllByRecursion Settled xs → Settled x
found_settled test [] x e all = absurd cc
found_settled test (y ∷ xs) x e all = by (test y) e (λ found. found_settled test xs x found all.1) where
  by : (b : Bool) → cond b (Some y) (find test xs) ≡ Some x → (find test xs ≡ Some x → Settled x) → Settled x
  by true e later = let same : y ≡ x = cc in subst Settled same all.0
  by false e later = later e

numbered_cycles : (key : List ℕ) (own : CallId) (n : ℕ) (cs : List OutCall) → total message_cycles (numbered key own n cs) ≡ calls_cycles cs
numbered_cycles key own n [] = refl
numbered_cycles key own n (c ∷ cs) = omega (arith, numbered_cycles key own (n + 1) cs)

given_cycles : (to : Origin) (answer : Option (Response × ℕ)) → refunds (given_answer to answer) ≡ refund_of answer
given_cycles to None = refl
given_cycles to (Some answer) = omega arith

served_settled : (x : Context) (answer : Option (Response × ℕ)) (available n : ℕ) → (x.must_respond ≡ false → available ≡ 0)
    → Settled (record x { must_respond = cond (is_some answer) false x.must_respond; available = cond (is_some answer) 0 available; outstanding = x.outstanding + n })
served_settled x None available n h = h
served_settled x (Some answer) available n h = λ e. refl

-- effects that make and lose no cycles
record Fair (c : CountedCanister) (x : Context) (e : Effects) : Type 0 where
  cycles : e.balance + cond (is_some e.answer) 0 e.available + refund_of e.answer + calls_cycles e.calls ≡ c.balance + x.available
  settled : x.must_respond ≡ false → e.available ≡ 0

left_nothing : (answer : Option (Response × ℕ)) (available : ℕ) → ((a : Response × ℕ) → answer ≡ Some a → available ≡ 0) → cond (is_some answer) 0 available ≡ available
left_nothing None available spent = refl
left_nothing (Some a) available spent = sym (spent a refl)

module _ (c : CountedCanister) (own : CallId) (x : Context) (found : find (is_own own) c.contexts ≡ Some x) (all : AllByRecursion Settled c.contexts) where
  returned_holds : (store : Lists) (e : Effects) (used : ℕ) → Fair c x e → Holds (counted_cycles c) (returned c own x store e used)
  returned_holds store e used fair = record {
    settled = each-change (is_own own) (served e) c.contexts x found all (served_settled x e.answer e.available (length e.calls) fair.settled);
    cycles = omega (arith, change-total (is_own own) (served e) c.contexts x found, numbered_cycles c.id own c.next_call e.calls, given_cycles x.origin e.answer, fair.cycles);
  }

  trapped_holds : (store : Lists) (cause : Trap) (used : ℕ) → Holds (counted_cycles c) (trapped_with c own store cause used)
  trapped_holds store cause used = record { settled = all; cycles = omega arith }

  module _ (v : View) (balance : v.balance ≡ c.balance) (available : v.available ≡ x.available) (k : EntryKind) (e : Effects) (lawful : Executed k v e) where
    settled_after : x.must_respond ≡ false → e.available ≡ 0
    settled_after r = omega (arith, lawful.gift, available, found_settled (is_own own) c.contexts x found all r)

    fair : Fair c x e
    fair = record { cycles = omega (arith, lawful.cycles, balance, available, left_nothing e.answer e.available lawful.spent); settled = settled_after }

    answer_takes : (answer : Option (Response × ℕ)) → answer ≡ e.answer → e.balance ≡ v.balance → e.calls ≡ [] → x.available ≡ cond (is_some answer) 0 x.available + refund_of answer → c.balance + cond (is_some answer) 0 x.available + refund_of answer + 0 ≡ c.balance + x.available
    answer_takes answer is b n h = omega (arith, h)

    alone_takes : (answer : Option (Response × ℕ)) → answer ≡ e.answer → e.balance ≡ v.balance → e.calls ≡ [] → x.available ≡ cond (is_some answer) 0 x.available + refund_of answer
    alone_takes None is b n = omega arith
    alone_takes (Some a) is b n = omega (arith, lawful.cycles, b, ap calls_cycles n, ap refund_of is, lawful.spent a (sym is), available)

    fair_alone : (e.balance ≡ v.balance) × (e.calls ≡ []) → Fair c x (answer_alone c x e)
    fair_alone quiet = record {
      cycles = answer_takes e.answer refl quiet.0 quiet.1 (alone_takes e.answer refl quiet.0 quiet.1);
      settled = found_settled (is_own own) c.contexts x found all;
    }

-- ---- code is entered

-- what enters makes and loses no cycles
abbrev pub IsFair : Enters → Type 0
IsFair enters =
    (code : Code) (s : Lists) (target : Target) (k : EntryKind) (v : View) (limit : ℕ) (t : Lists) (e : Effects) (used : ℕ) → enters code s target k v limit ≡ Returns t e used → Executed k v e

module _ (enters : Enters) (env : Env) (is_fair : IsFair enters) (c : CountedCanister) (own : CallId) (x : Context) (found : find (is_own own) c.contexts ≡ Some x) (all : AllByRecursion Settled c.contexts) where
  updated_holds : (method arg : List ℕ) (code : Code) (f : ℕ) (o : Outcome) → enters code c.store (Function f) kind.Update (call_view (view env c x) method arg) env.limit ≡ o → Holds (counted_cycles c) (updated c own x o)
  updated_holds method arg code f (Returns store e used) is =
      returned_holds c own x found all store e used (fair c own x found all (call_view (view env c x) method arg) refl refl kind.Update e (is_fair code c.store (Function f) kind.Update (call_view (view env c x) method arg) env.limit store e used is))
  updated_holds method arg code f (Traps cause used) is = trapped_holds c own x found all c.store cause used

  queried_holds : (method arg : List ℕ) (code : Code) (f : ℕ) (o : Outcome) → enters code c.store (Function f) kind.Query (call_view (view env c x) method arg) env.limit ≡ o → Holds (counted_cycles c) (queried c own x o)
  queried_holds method arg code f (Returns store e used) is =
      let lawful = is_fair code c.store (Function f) kind.Query (call_view (view env c x) method arg) env.limit store e used is in
      returned_holds c own x found all c.store (answer_alone c x e) used (fair_alone c own x found all (call_view (view env c x) method arg) refl refl kind.Query e lawful (lawful.quiet refl))
  queried_holds method arg code f (Traps cause used) is = trapped_holds c own x found all c.store cause used

  called_holds : (method arg : List ℕ) (code : Code) (entry : Admitted) → Holds (counted_cycles c) (called enters env c own x method arg code entry)
  called_holds method arg code (Update f) = updated_holds method arg code f (enters code c.store (Function f) kind.Update (call_view (view env c x) method arg) env.limit) refl
  called_holds method arg code (Query f) = queried_holds method arg code f (enters code c.store (Function f) kind.Query (call_view (view env c x) method arg) env.limit) refl

  cleaned_holds : (cause : Trap) (used : ℕ) (o : Outcome) → Holds (counted_cycles c) (cleaned c own cause used o)
  cleaned_holds cause used (Returns store e more) = trapped_holds c own x found all store cause (used + more)
  cleaned_holds cause used (Traps other more) = trapped_holds c own x found all c.store cause (used + more)

  back_holds : (v : View) → v.balance ≡ c.balance → v.available ≡ x.available → (code : Code) (cleanup : Option (ℕ × ℕ)) (target : Target) (k : EntryKind) (o : Outcome) → enters code c.store target k v env.limit ≡ o
      → Holds (counted_cycles c) (called_back enters env c own x code cleanup o)
  back_holds v balance available code cleanup target k (Returns store e used) is =
      returned_holds c own x found all store e used (fair c own x found all v balance available k e (is_fair code c.store target k v env.limit store e used is))
  back_holds v balance available code None target k (Traps cause used) is = trapped_holds c own x found all c.store cause used
  back_holds v balance available code (Some t) target k (Traps cause used) is = cleaned_holds cause used (enters code c.store (Element t.0 t.1) kind.Cleanup (view env c x) env.limit)

  answered_holds : (callback : Callback) (response : Response) (refund : ℕ) (code : Code) → Holds (counted_cycles c) (answered_with enters env c own callback response x (answer_view (view env c x) response refund) code)
  answered_holds callback (Reply arg) refund code =
      back_holds (answer_view (view env c x) (Reply arg) refund) refl refl code callback.cleanup (target_of callback (Reply arg)) (kind_of (Reply arg)) (enters code c.store (target_of callback (Reply arg)) (kind_of (Reply arg)) (answer_view (view env c x) (Reply arg) refund) env.limit) refl
  answered_holds callback (Reject n message) refund code =
      back_holds (answer_view (view env c x) (Reject n message) refund) refl refl code callback.cleanup (target_of callback (Reject n message)) (kind_of (Reject n message))
      (enters code c.store (target_of callback (Reject n message)) (kind_of (Reject n message)) (answer_view (view env c x) (Reject n message) refund) env.limit) refl

nothing_holds : (c : CountedCanister) → AllByRecursion Settled c.contexts → Holds (counted_cycles c) (nothing c)
nothing_holds c all = record { settled = all; cycles = omega arith }

-- ---- the whole

module _ (enters : Enters) (env : Env) (is_fair : IsFair enters) (c : CountedCanister) (all : AllByRecursion Settled c.contexts) where
  refused_cycles : (from : Origin) (cycles : ℕ) (response : Response) → handled_cycles (refused c from cycles response) ≡ counted_cycles c + cycles
  refused_cycles from cycles response = omega arith

  settled-push : (xs : List Context) (x : Context) → AllByRecursion Settled xs → Settled x → AllByRecursion Settled (xs ++ x ∷ [])
  settled-push [] x h here = (here, tt)
  settled-push (y ∷ xs) x h here = (h.0, settled-push xs x h.1 here)

  begun_cycles : (from : Origin) (sender method arg : List ℕ) (cycles : ℕ) (entry : Code × Admitted) → find (is_own (id_of from)) c.contexts ≡ None
      → handled_cycles (begin_call enters env c (context_of from sender cycles) method arg entry) ≡ counted_cycles c + cycles
  begun_cycles from sender method arg cycles entry fresh =
      let x = context_of from sender cycles in
      let d = with_context x c in
      finished_cycles env.price (counted_cycles d) (called enters env d x.id x method arg entry.0 entry.1)
      (called_holds enters env is_fair d x.id x (find-split (at_end (is_own x.id) c.contexts x fresh (same_id-self x.id))) (settled-push c.contexts x all (λ e. absurd cc)) method arg entry.0 entry.1)
      ∙ omega (arith, total-append (λ (y : Context). y.available) c.contexts (x ∷ []))

  call_cycles : (from : Origin) (sender method arg : List ℕ) (cycles : ℕ) → find (is_own (id_of from)) c.contexts ≡ None
      → handled_cycles (local_call enters env c from sender method arg cycles (admitted c method)) ≡ counted_cycles c + cycles
  call_cycles from sender method arg cycles fresh = by (admitted c method) where
    poor : (b : Bool) (entry : Code × Admitted) → handled_cycles (cond b (refused c from cycles out_of_cycles) (begin_call enters env c (context_of from sender cycles) method arg entry)) ≡ counted_cycles c + cycles
    poor true entry = refused_cycles from cycles out_of_cycles
    poor false entry = begun_cycles from sender method arg cycles entry fresh

    by : (r : Result (Code × Admitted) Refusal) → handled_cycles (local_call enters env c from sender method arg cycles r) ≡ counted_cycles c + cycles
    by (Err refusal) = refused_cycles from cycles (refuses refusal)
    by (Ok entry) = poor (nat_lt c.balance (env.limit * env.price)) entry

  on_answer_holds : (d : CountedCanister) (own : CallId) (callback : Callback) (response : Response) (refund : ℕ) (o : Option Context) (code : Option Code) → find (is_own own) d.contexts ≡ o → AllByRecursion Settled d.contexts
      → Holds (counted_cycles d) (on_answer enters env d own callback response refund o code)
  on_answer_holds d own callback response refund None code found h = nothing_holds d h
  on_answer_holds d own callback response refund (Some x) None found h = nothing_holds d h
  on_answer_holds d own callback response refund (Some x) (Some code) found h = by x.deleted where
    by : (b : Bool) → Holds (counted_cycles d) (cond b (nothing d) (answered_with enters env d own callback response x (answer_view (view env d x) response refund) code))
    by true = nothing_holds d h
    by false = answered_holds enters env is_fair d own x found h callback response refund code

  less-total : (test : Context → Bool) (xs : List Context) → available_of (change test one_less xs) ≡ available_of xs
  less-total test [] = refl
  less-total test (y ∷ xs) = by (test y) (less-total test xs) where
    by : (b : Bool) → available_of (change test one_less xs) ≡ available_of xs → available_of (cond b (one_less y ∷ xs) (y ∷ change test one_less xs)) ≡ y.available + available_of xs
    by true rest = omega arith
    by false rest = omega (arith, rest)

  less-settled : (test : Context → Bool) (xs : List Context) → AllByRecursion Settled xs → AllByRecursion Settled (change test one_less xs)
  less-settled test [] h = tt
  less-settled test (y ∷ xs) h = by (test y) (less-settled test xs h.1) where
    by : (b : Bool) → AllByRecursion Settled (change test one_less xs) → AllByRecursion Settled (cond b (one_less y ∷ xs) (y ∷ change test one_less xs))
    by true rest = (h.0, h.1)
    by false rest = (h.0, rest)

  pub conserves : (m : Message) → IsExpected c m → handled_cycles (local enters env c m) ≡ counted_cycles c + message_cycles m
  unfolding local
  conserves (Call from sender callee method arg cycles) fresh = call_cycles from sender method arg cycles fresh
  conserves (Answer (origin.Ingress k) sender response refund) expected = absurd expected
  conserves (Answer (origin.Canister caller n own callback) sender response refund) expected =
      let d = with_answer own refund c in
      finished_cycles env.price (counted_cycles d) (on_answer enters env d own callback response refund (find (is_own own) d.contexts) d.code)
      (on_answer_holds d own callback response refund (find (is_own own) d.contexts) d.code refl (less-settled (is_own own) c.contexts all))
      ∙ omega (arith, less-total (is_own own) c.contexts)
