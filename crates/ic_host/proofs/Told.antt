-- Whom a canister answers: the call of the message, and calls whose answers it owes already.
use Rattle.std.proofs.Common.{◌≡◌, ℕ, ◌+◌, ◌*◌, ◌≤◌, nat_lt, Bool, true, false, cond, not, List, [], ◌∷◌, find, filter, Option, Some, None, Result, Ok, Err, refl, ap, ◌∙◌, sym, arith, true≢false}
use Rattle.std.specs.List.{flat_map}
use Rattle.std.specs.Option.{is_some}
use Rattle.wm_store.specs.Lists.{Lists}
use Rattle.wm_semantics.specs.declared.trap.Trap.{Trap}
use Rattle.wm_semantics.specs.declared.target.Target.{Target}
use Rattle.wm_semantics.specs.declared.target.Target.TheVariants.{Function, Element}
use Rattle.ic_behaviour.specs.declared.call.CallId.{CallId}
use Rattle.ic_behaviour.specs.declared.call.Callback.{Callback}
use Rattle.ic_behaviour.specs.declared.call.Origin.{Origin}
use Rattle.ic_behaviour.specs.declared.call.Origin.TheVariants as origin
use Rattle.ic_behaviour.specs.declared.call.Response.{Response}
use Rattle.ic_behaviour.specs.declared.call.Response.TheVariants.{Reply, Reject}
use Rattle.ic_behaviour.specs.declared.call.Message.{Message}
use Rattle.ic_behaviour.specs.declared.call.Message.TheVariants.{Call, Answer}
use Rattle.ic_behaviour.specs.declared.call.Answered.{Answered}
use Rattle.ic_behaviour.specs.declared.context.Context.{Context}
use Rattle.ic_behaviour.specs.declared.phase.Waiter.{Waiter}
use Rattle.ic_behaviour.specs.declared.phase.Phase.{Phase}
use Rattle.ic_behaviour.specs.declared.phase.Phase.TheVariants.{Running, Stopping, Stopped}
use Rattle.ic_behaviour.specs.declared.env.Env.{Env}
use Rattle.ic_behaviour.specs.declared.env.Admitted.{Admitted}
use Rattle.ic_behaviour.specs.declared.env.Admitted.TheVariants as method
use Rattle.ic_behaviour.specs.declared.env.Refusal.{Refusal}
use Rattle.ic_behaviour.specs.declared.execution.EntryKind.{EntryKind}
use Rattle.ic_behaviour.specs.declared.execution.EntryKind.TheVariants as kind
use Rattle.ic_behaviour.specs.declared.execution.View.{View}
use Rattle.ic_behaviour.specs.declared.execution.Effects.{Effects}
use Rattle.ic_behaviour.specs.Totals.{total, one}
use Rattle.ic_behaviour.specs.State.{waiting, Code}
use Rattle.ic_behaviour.specs.Counted.{CountedCanister, bare}
use Rattle.ic_behaviour.specs.Items.{InContext, InWaiter, item_of, counted_at, is_id, bears}
use Rattle.ic_behaviour.specs.Texts.{out_of_cycles, refuses}
use Rattle.ic_behaviour.specs.Outcomes.{Outcome, Returns, Traps, Enters}
use Rattle.ic_behaviour.specs.Executing.{Work, nothing, change, is_own, served, given_answer, returned, trapped_with, updated, queried, answer_alone, view, call_view, answer_view, called, cleaned, called_back, kind_of, target_of, answered_with}
use Rattle.ic_behaviour.specs.Closing.{Handled, is_open, response_for, rejected, released, releases, phase_after, closing, finished}
use Rattle.ic_behaviour.specs.Local.{admitted, refused, context_of, with_context, begin_call, local_call, one_less, with_answer, on_answer, local}
use Rattle.ic_behaviour.proofs.Weights.{total-append, total-map, total-below, total-flat, total-at}
use Rattle.ic_run_laws.specs.EntryKeeps.{EntriesKeep}
use Rattle.ic_run_laws.proofs.Works.{split}

-- 1 for an answer to this call
abbrev pub tells : CallId → Answered → ℕ
tells id a = one (is_id id a.origin)

-- 1 for a context that owes this call its answer
abbrev pub owes : CallId → Context → ℕ
owes id x = bears id (InContext [] (bare x))

-- 1 where this call waits
abbrev pub awaits : CallId → Waiter → ℕ
awaits id v = bears id (InWaiter [] v)

-- ---- contexts that are changed, and those that close

module _ (id : CallId) where
  change_owes : (test : Context → Bool) (f : Context → Context) → ((x : Context) → owes id (f x) ≤ owes id x) → (xs : List Context) → total (owes id) (change test f xs) ≤ total (owes id) xs
  change_owes test f fewer [] = omega arith
  change_owes test f fewer (x ∷ xs) = by (test x) (change_owes test f fewer xs) where
    by : (b : Bool) → total (owes id) (change test f xs) ≤ total (owes id) xs → total (owes id) (cond b (f x ∷ xs) (x ∷ change test f xs)) ≤ total (owes id) (x ∷ xs)
    by true later = omega (arith, fewer x)
    by false later = omega (arith, later)

  served_owes : (e : Effects) (x : Context) → owes id (served e x) ≤ owes id x
  served_owes e x = by (is_some e.answer) where
    by : (b : Bool) → counted_at (is_id id) (cond (cond b false x.must_respond) (Some x.origin) None) ≤ owes id x
    by true = omega arith
    by false = omega arith

  given_tells : (x : Context) (answer : Option (Response × ℕ)) → (not x.must_respond ≡ true → answer ≡ None) → owes id x ≡ 0 → total (tells id) (given_answer x.origin answer) ≡ 0
  given_tells x None late free = refl
  given_tells x (Some answer) late free = by x.must_respond refl where
    by : (b : Bool) → x.must_respond ≡ b → total (tells id) (given_answer x.origin (Some answer)) ≡ 0
    by true must = omega (arith, free, ap (λ c. counted_at (is_id id) (cond c (Some x.origin) None)) must)
    by false silent = absurd (true≢false (ap is_some (late (ap not silent))))

  rejected_tells : (own : Option (CallId × Trap)) (x : Context) → total (tells id) (rejected own x) ≤ owes id x
  rejected_tells own x = by (is_open x) x.must_respond where
    by : (stays must : Bool)
        → total (tells id) (cond stays [] (cond must ((record { origin = x.origin; response = response_for own x.id; refund = x.available }) ∷ []) [])) ≤ counted_at (is_id id) (cond must (Some x.origin) None)
    by true must = omega arith
    by false true = omega arith
    by false false = omega arith

  releases_tell : (phase : Phase) (xs : List Context) → total (tells id) (releases phase xs) ≤ total (awaits id) (waiting phase)
  releases_tell Running xs = omega arith
  releases_tell (Stopping waiters) [] = omega (arith, total-map released (tells id) waiters)
  releases_tell (Stopping waiters) (x ∷ xs) = omega arith
  releases_tell Stopped xs = omega arith

  pub closing_tells : (own : Option (CallId × Trap)) (c : CountedCanister) → total (tells id) (closing own c) ≤ total (owes id) c.contexts + total (awaits id) (waiting c.phase)
  closing_tells own c = omega (
    arith,
    total-append (tells id) (flat_map (rejected own) c.contexts) (releases c.phase (filter is_open c.contexts)),
    total-flat (rejected own) (tells id) c.contexts,
    total-below (λ x. total (tells id) (rejected own x)) (owes id) (rejected_tells own) c.contexts,
    releases_tell c.phase (filter is_open c.contexts),
  )

-- ---- what was done at a canister

-- its phase stays, and where none of its contexts owes the call an answer none is given, and none owes it one now
record Works (c : CountedCanister) (w : Work) : Type 0 where
  phase : w.canister.phase ≡ c.phase
  silent : (id : CallId) → total (owes id) c.contexts ≡ 0 → total (tells id) w.answers ≡ 0
  free : (id : CallId) → total (owes id) c.contexts ≡ 0 → total (owes id) w.canister.contexts ≡ 0

-- who has answered gives no answer
abbrev IsLate : Context → Outcome → Type 0
IsLate x (Returns store e used) = not x.must_respond ≡ true → e.answer ≡ None
IsLate x (Traps cause used) = Unit {0}

shows_answer : (v : View) (response : Response) (refund : ℕ) → (answer_view v response refund).responded ≡ v.responded
shows_answer v (Reply arg) refund = refl
shows_answer v (Reject code message) refund = refl

module _ (enters : Enters) (lawful : EntriesKeep enters) (env : Env) (c : CountedCanister) (own : CallId) where
  nothing_works : Works c (nothing c)
  nothing_works = record { phase = refl; silent = λ id none. refl; free = λ id none. none }

  trapped_works : (store : Lists) (cause : Trap) (used : ℕ) → Works c (trapped_with c own store cause used)
  trapped_works store cause used = record { phase = refl; silent = λ id none. refl; free = λ id none. none }

  module _ (x : Context) (among : (id : CallId) → total (owes id) c.contexts ≡ 0 → owes id x ≡ 0) where
    late : (code : Code) (target : Target) (k : EntryKind) (v : View) → v.responded ≡ not x.must_respond → IsLate x (enters code c.store target k v env.limit)
    late code target k v shows = by (enters code c.store target k v env.limit) refl where
      by : (o : Outcome) → enters code c.store target k v env.limit ≡ o → IsLate x o
      by (Returns store e used) is = λ silent. (lawful code c.store target k v env.limit store e used is).late (shows ∙ silent)
      by (Traps cause used) is = tt

    returned_works : (store : Lists) (e : Effects) (used : ℕ) → (not x.must_respond ≡ true → e.answer ≡ None) → Works c (returned c own x store e used)
    returned_works store e used late = record {
      phase = refl;
      silent = λ id none. given_tells id x e.answer late (among id none);
      free = λ id none. omega (arith, none, change_owes id (is_own own) (served e) (served_owes id e) c.contexts);
    }

    updated_works : (o : Outcome) → IsLate x o → Works c (updated c own x o)
    updated_works (Returns store e used) late = returned_works store e used late
    updated_works (Traps cause used) late = trapped_works c.store cause used

    queried_works : (o : Outcome) → IsLate x o → Works c (queried c own x o)
    queried_works (Returns store e used) late = returned_works c.store (answer_alone c x e) used late
    queried_works (Traps cause used) late = trapped_works c.store cause used

    called_works : (name arg : List ℕ) (code : Code) (entry : Admitted) → Works c (called enters env c own x name arg code entry)
    called_works name arg code (method.Update f) = updated_works _ (late code (Function f) kind.Update (call_view (view env c x) name arg) refl)
    called_works name arg code (method.Query f) = queried_works _ (late code (Function f) kind.Query (call_view (view env c x) name arg) refl)

    cleaned_works : (cause : Trap) (used : ℕ) (o : Outcome) → Works c (cleaned c own cause used o)
    cleaned_works cause used (Returns store e more) = trapped_works store cause (used + more)
    cleaned_works cause used (Traps other more) = trapped_works c.store cause (used + more)

    back_works : (code : Code) (cleanup : Option (ℕ × ℕ)) (o : Outcome) → IsLate x o → Works c (called_back enters env c own x code cleanup o)
    back_works code cleanup (Returns store e used) late = returned_works store e used late
    back_works code None (Traps cause used) late = trapped_works c.store cause used
    back_works code (Some target) (Traps cause used) late = cleaned_works cause used (enters code c.store (Element target.0 target.1) kind.Cleanup (view env c x) env.limit)

    answered_works : (callback : Callback) (response : Response) (refund : ℕ) (code : Code) (deleted : Bool)
        → Works c (cond deleted (nothing c) (answered_with enters env c own callback response x (answer_view (view env c x) response refund) code))
    answered_works callback response refund code true = nothing_works
    answered_works callback response refund code false =
        let v : View = answer_view (view env c x) response refund in
        back_works code callback.cleanup (enters code c.store (target_of callback response) (kind_of response) v env.limit)
        (late code (target_of callback response) (kind_of response) v (shows_answer (view env c x) response refund))

  on_answer_works : (callback : Callback) (response : Response) (refund : ℕ) → Works c (on_answer enters env c own callback response refund (find (is_own own) c.contexts) c.code)
  on_answer_works callback response refund = by (find (is_own own) c.contexts) refl c.code where
    found : (x : Context) → find (is_own own) c.contexts ≡ Some x → (id : CallId) → total (owes id) c.contexts ≡ 0 → owes id x ≡ 0
    found x is id none = let p = split (is_own own) c.contexts x is in omega (arith, none, ap (total (owes id)) p.whole, total-at (owes id) p.front x p.back)

    by : (o : Option Context) → find (is_own own) c.contexts ≡ o → (code : Option Code) → Works c (on_answer enters env c own callback response refund o code)
    by None is code = nothing_works
    by (Some x) is None = nothing_works
    by (Some x) is (Some code) = answered_works x (found x is) callback response refund code x.deleted

-- ---- the whole

-- where a message trapped a stopping canister stops if its last context closed; and a call that the message does not
-- bear, and the canister owes no answer, is given none
pub record Settles (c : CountedCanister) (m : Message) (h : Handled) : Type 0 where
  pub phase : is_some h.trapped ≡ true → h.canister.phase ≡ phase_after c.phase h.canister.contexts
  pub silent : (id : CallId) → bears id (item_of m) ≡ 0 → total (owes id) c.contexts + total (awaits id) (waiting c.phase) ≡ 0 → total (tells id) h.answers ≡ 0

refused_settles : (c : CountedCanister) (from : Origin) (sender callee method arg : List ℕ) (cycles : ℕ) (response : Response)
    → Settles c (Call from sender callee method arg cycles) (refused c from cycles response)
refused_settles c from sender callee method arg cycles response = record { phase = λ is. absurd (true≢false (sym is)); silent = λ id free none. omega (arith, free) }

finished_settles : (c d : CountedCanister) (m : Message) (price : ℕ) (w : Work) → d.phase ≡ c.phase
    → ((id : CallId) → bears id (item_of m) ≡ 0 → total (owes id) c.contexts ≡ 0 → total (owes id) d.contexts ≡ 0) → Works d w → Settles c m (finished price w)
finished_settles c d m price w same taken works = record {
  phase = λ is. ap (λ p. phase_after p (filter is_open w.canister.contexts)) (works.phase ∙ same);
  silent = λ id free none. (let start : total (owes id) d.contexts ≡ 0 = taken id free (omega (arith, none)) in omega (
    arith,
    none,
    works.silent id start,
    works.free id start,
    ap (λ p. total (awaits id) (waiting p)) (works.phase ∙ same),
    total-append (tells id) w.answers (closing w.trapped w.canister),
    closing_tells id w.trapped w.canister,
  ));
}

module _ (enters : Enters) (lawful : EntriesKeep enters) (env : Env) (c : CountedCanister) where
  call_settles : (from : Origin) (sender callee name arg : List ℕ) (cycles : ℕ) (r : Result (Code × Admitted) Refusal)
      → Settles c (Call from sender callee name arg cycles) (local_call enters env c from sender name arg cycles r)
  call_settles from sender callee name arg cycles (Err refusal) = refused_settles c from sender callee name arg cycles (refuses refusal)
  call_settles from sender callee name arg cycles (Ok entry) = by (nat_lt c.balance (env.limit * env.price)) where
    by : (poor : Bool) → Settles c (Call from sender callee name arg cycles) (cond poor (refused c from cycles out_of_cycles) (begin_call enters env c (context_of from sender cycles) name arg entry))
    by true = refused_settles c from sender callee name arg cycles out_of_cycles
    by false =
        let x : Context = context_of from sender cycles in
        finished_settles c (with_context x c) (Call from sender callee name arg cycles) env.price (called enters env (with_context x c) x.id x name arg entry.0 entry.1) refl
        (λ id free none. omega (arith, free, none, total-append (owes id) c.contexts (x ∷ [])))
        (called_works enters lawful env (with_context x c) x.id x (λ id none. omega (arith, none, total-append (owes id) c.contexts (x ∷ []))) name arg entry.0 entry.1)

  pub settles : (m : Message) → Settles c m (local enters env c m)
  unfolding local
  settles (Call from sender callee name arg cycles) = call_settles from sender callee name arg cycles (admitted c name)
  settles (Answer (origin.Ingress k) sender response refund) =
      finished_settles c c (Answer (origin.Ingress k) sender response refund) env.price (nothing c) refl (λ id free none. none) (record { phase = refl; silent = λ id none. refl; free = λ id none. none })
  settles (Answer (origin.Canister caller n own callback) sender response refund) =
      let d : CountedCanister = with_answer own refund c in
      finished_settles c d (Answer (origin.Canister caller n own callback) sender response refund) env.price (on_answer enters env d own callback response refund (find (is_own own) d.contexts) d.code) refl
      (λ id free none. omega (arith, none, change_owes id (is_own own) one_less (λ x. omega arith) c.contexts))
      (on_answer_works enters lawful env d own callback response refund)
