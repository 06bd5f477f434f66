-- Every delivery keeps the state sound.
use Rattle.ic_behaviour.specs.declared.env.Env.{Env}
use Rattle.ic_behaviour.specs.Outcomes.{Enters}
use Rattle.ic_run_laws.specs.EntryKeeps.{EntriesKeep}
use Rattle.std.proofs.Common.{◌≡◌, ℕ, ◌+◌, ◌*◌, ◌<◌, ◌≤◌, nat_lt, Bool, true, false, cond, ◌&&◌, List, [], ◌∷◌, ◌++◌, map, length, slice_get, Option, Some, None, Result, Ok, Err, refl, sym, ap, ◌∙◌, subst, arith, true≢false, not-suc-le-zero, filter, find, fold}
use Rattle.std.specs.List.{flat_map, remove}
use Rattle.std.specs.Option.{IsSome}
use Rattle.std.specs.Result.{is_ok}
use Rattle.std.specs.Map.{lookup}
use Rattle.std.proofs.lemmas.Map.{none_passes_from_lookup}
use Rattle.std.proofs.lemmas.Bool.{and_parts}
use Rattle.ic_behaviour.specs.declared.call.CallId.TheVariants as call_id
use Rattle.ic_behaviour.specs.declared.call.Origin.TheVariants as origin
use Rattle.ic_run_laws.proofs.Amid.{Amid, Scene, total-desk}
use Rattle.ic_run_laws.proofs.Ended.{all_open, advances, in_phase_after, shut_open, stores_counts}
use Rattle.ic_run_laws.proofs.Ends.{Frame, balances, each-filled, each-filled_by, sound_holds, sound_of}
use Rattle.ic_run_laws.proofs.Fills.{total-remove}
use Rattle.ic_run_laws.proofs.Holds.{Holds, Swaps, Within, given_anew, replied, replies}
use Rattle.ic_run_laws.proofs.Locals.{Worked, worked_called, worked_on_answer}
use Rattle.ic_run_laws.proofs.Places.{actors, call_scene, start_call}
use Rattle.ic_run_laws.proofs.Spots.{Spot, no_others, spot}
use Rattle.ic_run_laws.proofs.Starts.{answered_scene, own_stands, refused_scene, start_answer, start_refused}
use Rattle.ic_run_laws.proofs.Takes.{call_leaves}
use Rattle.ic_run_laws.proofs.Works.{amid_finished}
use Rattle.ic_run_laws.specs.Advances.{Advances, OutsideKeeps, ends}
use Rattle.ic_behaviour.proofs.Spots.{no_contexts}
use Rattle.ic_behaviour.proofs.Ties.{tallied, sound as sound_from}
use Rattle.ic_behaviour.proofs.Weights.{at-self, each-map, laws, same_id-self, total-append, total-map}
use Rattle.ic_behaviour.specs.Closing.{Handled, finished, is_open}
use Rattle.ic_behaviour.specs.Counted.{CountedCanister, bare, counted, dropped, with_count}
use Rattle.ic_behaviour.specs.Deliver.{Outside, is_management, sent_back, answered_by, as_absent, env_at, deliver, delivered, filled, filled_by, handled_by, placed, routed, routed_by, without}
use Rattle.ic_behaviour.specs.Executing.{Work, called, is_own}
use Rattle.ic_behaviour.specs.Items.{Given, InCall, Item, awaited, begins, calls_of, is_context, item_of, items, items_at, outstanding}
use Rattle.ic_behaviour.specs.Local.{admitted, admitted_by, begin_call, context_of, local, local_call, on_answer, refused, with_context, with_answer}
use Rattle.ic_behaviour.specs.Sound.{Sound, IsInPhase}
use Rattle.ic_behaviour.specs.State.{CallContext, Canister, Code, State, at, callee_of, id_of, same_id, waiting}
use Rattle.ic_behaviour.specs.Tallied.{Tallied, lost_answer}
use Rattle.ic_behaviour.specs.Texts.{no_canister, refuses, out_of_cycles}
use Rattle.ic_behaviour.specs.Totals.{one, total}
use Rattle.ic_behaviour.specs.declared.call.CallId.{CallId}
use Rattle.ic_behaviour.specs.declared.call.Callback.{Callback}
use Rattle.ic_behaviour.specs.declared.call.Message.{Message}
use Rattle.ic_behaviour.specs.declared.call.Message.TheVariants.{Answer, Call}
use Rattle.ic_behaviour.specs.declared.call.Origin.{Origin}
use Rattle.ic_behaviour.specs.declared.call.Response.{Response}
use Rattle.ic_behaviour.specs.declared.context.Context.{Context}
use Rattle.ic_behaviour.specs.declared.env.Admitted.{Admitted}
use Rattle.ic_behaviour.specs.declared.env.Refusal.{Refusal}
use Rattle.ic_behaviour.specs.declared.phase.Phase.{Phase}
use Rattle.ic_behaviour.specs.declared.phase.Phase.TheVariants.{Running, Stopped, Stopping}

-- what a delivery at a canister gives: the state advances, and the canister stores its counts
pub record DeliversTo (s t : State) (key : List ℕ) (less : CallId → ℕ) (c : CountedCanister) : Type 0 where
  pub advances : Advances s t key less
  pub counts : counted t key (dropped c) ≡ c

bare-stored : (s : State) (key : List ℕ) (xs : List CallContext) → map bare (map (with_count s key) xs) ≡ xs
bare-stored s key [] = refl
bare-stored s key (x ∷ xs) = ap (λ ys. x ∷ ys) (bare-stored s key xs)

add-zero : (n : ℕ) → n ≡ n + 0
add-zero n = omega arith

-- the last one passes, and no other does
find_last : (test : Context → Bool) (xs : List Context) (x : Context) → test x ≡ true → total (λ y. one (test y)) xs ≡ 0 → find test (xs ++ x ∷ []) ≡ Some x
find_last test [] x is none = rw is refl
find_last test (y ∷ xs) x is none = by (test y) refl (find_last test xs x is (omega (arith, none))) where
  by : (b : Bool) → test y ≡ b → find test (xs ++ x ∷ []) ≡ Some x → find test (y ∷ (xs ++ x ∷ [])) ≡ Some x
  by true e later = let no : 0 < 0 = omega (arith, none, ap one e) in absurd (not-suc-le-zero no)
  by false e later = rw e later

-- who is admitted runs, and has code
admitted_runs : (phase : Phase) (code : Option Code) (method : List ℕ) (entry : Code × Admitted) → admitted_by phase code method ≡ Ok entry → (phase ≡ Running) × IsSome code
admitted_runs Running None method entry e = absurd (true≢false (sym (ap is_ok e)))
admitted_runs Running (Some code) method entry e = (refl, refl)
admitted_runs (Stopping waiters) code method entry e = absurd (true≢false (sym (ap is_ok e)))
admitted_runs Stopped code method entry e = absurd (true≢false (sym (ap is_ok e)))

abbrev is_stopped : Phase → Bool
is_stopped Running = false
is_stopped (Stopping waiters) = false
is_stopped Stopped = true

at-turn : (key k : List ℕ) → at key k ≡ true → at k key ≡ true
at-turn key k is = laws.symm k key ∙ is

pub sent-all : (w : Message → ℕ) (before calls answers : List Message) → total w ((before ++ calls) ++ answers) ≡ total w before + total w (calls ++ answers)
sent-all w before calls answers = omega (arith, total-append w (before ++ calls) answers, total-append w before calls, total-append w calls answers)

module _ (enters : Enters) (lawful : EntriesKeep enters) (limit price : ℕ) (s : State) (place : ℕ) (sound : Tallied s) (key : List ℕ) (a : Canister) (p : Spot key s.canisters a) where
  abbrev env : Env
  env = env_at s.time limit price

  -- a call
  module _ (o : Origin) (sender method arg : List ℕ) (cycles : ℕ) (is_m : slice_get s.messages place ≡ Some (Call o sender key method arg cycles)) where
    own_id : a.id ≡ key
    own_id = (actors s place (Call o sender key method arg cycles) is_m key a p sound).1.own_id

    handled_refused : (reply : Response) → DeliversTo s (placed (without s place) key (refused (counted s key a) o cycles reply)) key (λ id. 0) (counted s key a)
    handled_refused reply =
        let amid : Amid (refused_scene s place o sender key method arg cycles is_m a p sound) a.balance a.next_call (total (λ (x : CallContext). outstanding s key x.id) a.contexts) (map (with_count s key) a.contexts) (waiting a.phase)
        (routed_by key o reply cycles) (filled_by o reply s.requests) (s.burned + 0) =
        subst (λ n. Amid (refused_scene s place o sender key method arg cycles is_m a p sound) a.balance a.next_call (total (λ (x : CallContext). outstanding s key x.id) a.contexts) (map (with_count s key) a.contexts) (waiting a.phase)
        (routed_by key o reply cycles) (filled_by o reply s.requests) n) (add-zero s.burned) (start_refused s place o sender key method arg cycles is_m a p sound reply) in
        let sent : (w : Message → ℕ) → total w ((remove s.messages place ++ []) ++ (routed_by key o reply cycles ++ [])) ≡ total w (remove s.messages place) + total w (routed_by key o reply cycles) =
        λ w. omega (arith, total-append w (remove s.messages place ++ []) (routed_by key o reply cycles ++ []), total-append w (remove s.messages place) [], total-append w (routed_by key o reply cycles) []) in
        record {
          advances = advances s place (Call o sender key method arg cycles) is_m key a p sound (id_of o) (λ k id. false) (λ id. 0) (counted s key a) (routed_by key o reply cycles)
              ((remove s.messages place ++ []) ++ (routed_by key o reply cycles ++ [])) (filled_by o reply s.requests) (s.burned + 0) amid own_id refl sent
              (λ k id is some. absurd (true≢false (sym is)))
              (subst (IsInPhase a.phase) (sym (bare-stored s key a.contexts)) (actors s place (Call o sender key method arg cycles) is_m key a p sound).1.in_phase)
              (each-filled_by s.time o reply s.requests sound.times);
          counts = stores_counts s place (Call o sender key method arg cycles) is_m key a p sound (id_of o) (λ k id. false) (λ id. 0) (counted s key a) (routed_by key o reply cycles)
              ((remove s.messages place ++ []) ++ (routed_by key o reply cycles ++ [])) (filled_by o reply s.requests) (s.burned + 0) amid own_id refl sent;
        }

    abbrev x : Context
    x = context_of o sender cycles

    -- the context was not there before
    found_own : IsSome a.code → find (is_own (id_of o)) (map (with_count s key) a.contexts ++ x ∷ []) ≡ Some x
    found_own coded = find_last (is_own (id_of o)) (map (with_count s key) a.contexts) x (same_id-self (id_of o)) none where
      amid : Amid (call_scene s place o sender key method arg cycles is_m a p sound) a.balance a.next_call (total (λ (y : CallContext). outstanding s key y.id) a.contexts) (map (with_count s key) a.contexts ++ x ∷ []) (waiting a.phase) [] s.requests s.burned
      amid = start_call s place o sender key method arg cycles is_m a p sound coded

      none : total (λ (y : Context). one (is_own (id_of o) y)) (map (with_count s key) a.contexts) ≡ 0
      none = omega (
        arith,
        amid.holds.begun (id_of o),
        total-desk (call_scene s place o sender key method arg cycles is_m a p sound) (begins (id_of o)) [] (map (with_count s key) a.contexts ++ x ∷ []) (waiting a.phase),
        total-append (λ (y : Context). one (same_id (id_of o) y.id)) (map (with_count s key) a.contexts) (x ∷ []),
        ap one (same_id-self (id_of o)),
      )

    handled_begun : (entry : Code × Admitted) → a.phase ≡ Running → IsSome a.code
        → DeliversTo s (placed (without s place) key (begin_call enters env (counted s key a) x method arg entry)) key (λ id. 0) (begin_call enters env (counted s key a) x method arg entry).canister
    handled_begun entry runs coded =
        let c : CountedCanister = with_context x (counted s key a) in
        let z : Scene = call_scene s place o sender key method arg cycles is_m a p sound in
        let w : Work = called enters env c (id_of o) x method arg entry.0 entry.1 in
        let ran : Handled = finished price w in
        let done : Worked z c s.requests s.burned w = worked_called enters lawful z c x s.requests s.burned own_id (found_own coded) (start_call s place o sender key method arg cycles is_m a p sound coded) env method arg entry.0 entry.1 in
        let amid = amid_finished z price w s.requests s.burned done.amid in
        let sent : (v : Message → ℕ) → total v ((remove s.messages place ++ ran.calls) ++ flat_map (routed key) ran.answers) ≡ total v (remove s.messages place) + total v (ran.calls ++ flat_map (routed key) ran.answers) =
        λ v. sent-all v (remove s.messages place) ran.calls (flat_map (routed key) ran.answers) in
        let moves : w.canister.phase ≡ Stopped → ⊥ = λ e. true≢false (ap is_stopped (sym e ∙ done.phase ∙ runs)) in
        record {
          advances = advances s place (Call o sender key method arg cycles) is_m key a p sound (id_of o) (λ k id. at key k && same_id (id_of o) id) (λ id. 0) ran.canister (ran.calls ++ flat_map (routed key) ran.answers)
              ((remove s.messages place ++ ran.calls) ++ flat_map (routed key) ran.answers) (fold filled s.requests ran.answers) (s.burned + ran.burned) amid (done.id ∙ own_id) done.code sent
              (λ k id is some. shut_open s place (Call o sender key method arg cycles) is_m key a p sound (id_of o) (λ k id. at key k && same_id (id_of o) id) (λ id. 0) ran.canister (ran.calls ++ flat_map (routed key) ran.answers)
              ((remove s.messages place ++ ran.calls) ++ flat_map (routed key) ran.answers) (fold filled s.requests ran.answers) (s.burned + ran.burned) amid (done.id ∙ own_id) done.code sent
              (all_open w.canister.contexts) k id (at-turn key k (and_parts (at key k) (same_id (id_of o) id) is).0) some)
              (in_phase_after w.canister.phase (filter is_open w.canister.contexts) moves)
              (each-filled s.time ran.answers s.requests sound.times);
          counts = stores_counts s place (Call o sender key method arg cycles) is_m key a p sound (id_of o) (λ k id. at key k && same_id (id_of o) id) (λ id. 0) ran.canister (ran.calls ++ flat_map (routed key) ran.answers)
              ((remove s.messages place ++ ran.calls) ++ flat_map (routed key) ran.answers) (fold filled s.requests ran.answers) (s.burned + ran.burned) amid (done.id ∙ own_id) done.code sent;
        }

    pub handled_call : DeliversTo s (placed (without s place) key (local enters env (counted s key a) (Call o sender key method arg cycles))) key (λ id. 0) (local enters env (counted s key a) (Call o sender key method arg cycles)).canister
    unfolding local
    handled_call = by (admitted (counted s key a) method) refl where
      paid : (poor : Bool) (entry : Code × Admitted) → a.phase ≡ Running → IsSome a.code
          → DeliversTo s (placed (without s place) key (cond poor (refused (counted s key a) o cycles out_of_cycles) (begin_call enters env (counted s key a) x method arg entry))) key (λ id. 0)
          (cond poor (refused (counted s key a) o cycles out_of_cycles) (begin_call enters env (counted s key a) x method arg entry)).canister
      paid true entry runs coded = handled_refused out_of_cycles
      paid false entry runs coded = handled_begun entry runs coded

      by : (r : Result (Code × Admitted) Refusal) → admitted (counted s key a) method ≡ r
          → DeliversTo s (placed (without s place) key (local_call enters env (counted s key a) o sender method arg cycles r)) key (λ id. 0) (local_call enters env (counted s key a) o sender method arg cycles r).canister
      by (Err refusal) e = handled_refused (refuses refusal)
      by (Ok entry) e =
          let runs = admitted_runs a.phase a.code method entry e in
          paid (nat_lt a.balance (limit * price)) entry runs.0 runs.1

  -- an answer
  module _ (n : ℕ) (own : CallId) (callback : Callback) (sender : List ℕ) (response : Response) (refund : ℕ) (is_m : slice_get s.messages place ≡ Some (Answer (origin.Canister key n own callback) sender response refund)) where
    pub handled_answer : DeliversTo s (placed (without s place) key (local enters env (counted s key a) (Answer (origin.Canister key n own callback) sender response refund))) key (λ id. one (same_id id (call_id.Canister key n)))
        (local enters env (counted s key a) (Answer (origin.Canister key n own callback) sender response refund)).canister
    unfolding local
    handled_answer =
        let m : Message = Answer (origin.Canister key n own callback) sender response refund in
        let c : CountedCanister = with_answer own refund (counted s key a) in
        let z : Scene = answered_scene s place key n own callback sender response refund is_m a p sound in
        let w : Work = on_answer enters env c own callback response refund (find (is_own own) c.contexts) c.code in
        let ran : Handled = finished price w in
        let facts = (actors s place m is_m key a p sound).1 in
        let done : Worked z c s.requests s.burned w = worked_on_answer enters lawful z c s.requests s.burned facts.own_id (start_answer s place key n own callback sender response refund is_m a p sound) env callback response refund in
        let amid = amid_finished z price w s.requests s.burned done.amid in
        let sent : (v : Message → ℕ) → total v ((remove s.messages place ++ ran.calls) ++ flat_map (routed key) ran.answers) ≡ total v (remove s.messages place) + total v (ran.calls ++ flat_map (routed key) ran.answers) =
        λ v. sent-all v (remove s.messages place) ran.calls (flat_map (routed key) ran.answers) in
        let moves : w.canister.phase ≡ Stopped → ⊥ = λ e. never a.phase (sym done.phase ∙ e) facts.in_phase in
        record {
          advances = advances s place m is_m key a p sound own (λ k id. at key k && same_id own id) (λ id. one (same_id id (call_id.Canister key n))) ran.canister (ran.calls ++ flat_map (routed key) ran.answers)
              ((remove s.messages place ++ ran.calls) ++ flat_map (routed key) ran.answers) (fold filled s.requests ran.answers) (s.burned + ran.burned) amid (done.id ∙ facts.own_id) done.code sent
              (λ k id is some. shut_open s place m is_m key a p sound own (λ k id. at key k && same_id own id) (λ id. one (same_id id (call_id.Canister key n))) ran.canister (ran.calls ++ flat_map (routed key) ran.answers)
              ((remove s.messages place ++ ran.calls) ++ flat_map (routed key) ran.answers) (fold filled s.requests ran.answers) (s.burned + ran.burned) amid (done.id ∙ facts.own_id) done.code sent
              (all_open w.canister.contexts) k id (at-turn key k (and_parts (at key k) (same_id own id) is).0) some)
              (in_phase_after w.canister.phase (filter is_open w.canister.contexts) moves)
              (each-filled s.time ran.answers s.requests sound.times);
          counts = stores_counts s place m is_m key a p sound own (λ k id. at key k && same_id own id) (λ id. one (same_id id (call_id.Canister key n))) ran.canister (ran.calls ++ flat_map (routed key) ran.answers)
              ((remove s.messages place ++ ran.calls) ++ flat_map (routed key) ran.answers) (fold filled s.requests ran.answers) (s.burned + ran.burned) amid (done.id ∙ facts.own_id) done.code sent;
        } where
          no_context : (xs : List CallContext) → xs ≡ [] → 0 < total (λ (x : Context). one (is_own own x)) (map (with_count s key) xs) → ⊥
          no_context [] e some = not-suc-le-zero some
          no_context (x ∷ xs) e some = let no : 0 < 0 = omega (arith, ap length e) in not-suc-le-zero no

          never : (phase : Phase) → phase ≡ Stopped → IsInPhase phase a.contexts → ⊥
          never Stopped e in_phase = no_context a.contexts in_phase (own_stands s place key n own callback sender response refund is_m a p sound)
          never Running e in_phase = true≢false (sym (ap is_stopped e))
          never (Stopping waiters) e in_phase = true≢false (sym (ap is_stopped e))

-- a message to no canister is no answer
module _ (s : State) (place : ℕ) (sound : Tallied s) where
  pub no_ingress_answer : (k : ℕ) (sender : List ℕ) (response : Response) (refund : ℕ) → slice_get s.messages place ≡ Some (Answer (origin.Ingress k) sender response refund) → ⊥
  no_ingress_answer k sender response refund is_m =
      let no : 0 < 0 = omega (
        arith,
        sound.arrives,
        total-append lost_answer (map item_of s.messages) (flat_map items_at s.canisters),
        total-map item_of lost_answer s.messages,
        total-remove (λ n. lost_answer (item_of n)) s.messages place (Answer (origin.Ingress k) sender response refund) is_m,
      ) in
      not-suc-le-zero no

  pub no_answer : (o : Origin) (sender : List ℕ) (response : Response) (refund : ℕ) → slice_get s.messages place ≡ Some (Answer o sender response refund) → lookup (at (callee_of (Answer o sender response refund))) s.canisters ≡ None → ⊥
  no_answer (origin.Ingress k) sender response refund is_m none = no_ingress_answer k sender response refund is_m
  no_answer (origin.Canister caller n context callback) sender response refund is_m none =
      let m : Message = Answer (origin.Canister caller n context callback) sender response refund in
      let calls : 0 < total (awaited caller context) (items s) = omega (
        arith,
        total-append (awaited caller context) (map item_of s.messages) (flat_map items_at s.canisters),
        total-map item_of (awaited caller context) s.messages,
        total-remove (λ i. awaited caller context (item_of i)) s.messages place m is_m,
        ap (λ b. one (b && same_id context context)) (at-self caller),
        ap one (same_id-self context),
      ) in
      let stands = sound.names caller context calls in
      let no : 0 < 0 = omega (
        arith,
        stands,
        total-append (is_context caller context) (map item_of s.messages) (flat_map items_at s.canisters),
        total-map item_of (is_context caller context) s.messages,
        no_contexts caller context s.messages,
        no_others caller context s.canisters (none_passes_from_lookup (at caller) s.canisters none),
      ) in
      not-suc-le-zero no

-- a call to no canister is answered, with all its cycles
pub answered_advances : (reply : Response) (s : State) (place : ℕ) (o : Origin) (sender key method arg : List ℕ) (cycles : ℕ) → Tallied s → slice_get s.messages place ≡ Some (Call o sender key method arg cycles)
    → Advances s (answered_by key (record { origin = o; response = reply; refund = cycles }) (without s place)) key (λ id. 0)
answered_advances reply s place o sender key method arg cycles sound is_m = record {
  sound = sound_from t (sound_of s t key (λ k id. false) (λ id. 0) sound holds (λ k id is some. absurd (true≢false (sym is))) frame);
  given = given_end;
  placed = holds.placed;
  others = holds.others;
} where
  t : State
  t = answered_by key (record { origin = o; response = reply; refund = cycles }) (without s place)

  answers : List Item
  answers = replies s key (λ k id. false) (λ id. 0) o cycles

  routed_items : (w : Item → ℕ) (p : Origin) → total (λ n. w (item_of n)) (routed_by key p reply cycles) ≡ total w (replies s key (λ k id. false) (λ id. 0) p cycles)
  routed_items w (origin.Ingress k) = refl
  routed_items w (origin.Canister caller n context callback) = refl

  start : Holds s key (λ k id. false) (λ id. 0) (Given s) (items s) s.requests (balances s + s.burned)
  start = sound_holds s key (λ k id. false) sound

  within : Within (InCall o cycles ∷ []) (items s)
  within w = omega (arith, total-append w (map item_of s.messages) (flat_map items_at s.canisters), total-map item_of w s.messages, total-remove (λ n. w (item_of n)) s.messages place (Call o sender key method arg cycles) is_m)

  swaps : Swaps (InCall o cycles ∷ []) ([] ++ answers) (items s) (items t)
  swaps w = omega (
    arith,
    total-append w (map item_of s.messages) (flat_map items_at s.canisters),
    total-map item_of w s.messages,
    total-remove (λ n. w (item_of n)) s.messages place (Call o sender key method arg cycles) is_m,
    total-append w (map item_of (remove s.messages place ++ routed_by key o reply cycles)) (flat_map items_at s.canisters),
    total-map item_of w (remove s.messages place ++ routed_by key o reply cycles),
    total-append (λ n. w (item_of n)) (remove s.messages place) (routed_by key o reply cycles),
    routed_items w o,
  )

  replaced : Holds s key (λ k id. false) (λ id. 0) (Given s) (items t) t.requests (balances s + s.burned)
  replaced = replied s key (λ k id. false) (λ id. 0) (InCall o cycles) [] o reply cycles (call_leaves s key (λ k id. false) (λ id. 0) o cycles) within swaps (λ k g. g) start

  given_end : (id : CallId) → Given s id → Given t id
  given_end (call_id.Ingress k) g = omega (arith, g, replaced.many)
  given_end (call_id.Canister caller n) g = g

  holds : Holds s key (λ k id. false) (λ id. 0) (Given t) (items t) t.requests (balances t + t.burned)
  holds = given_anew s key (λ k id. false) (λ id. 0) given_end replaced

  calls_stay : (k : List ℕ) → total (calls_of k) (items t) ≡ total (calls_of k) (items s)
  calls_stay k = omega (arith, swaps (calls_of k), one_reply o) where
    one_reply : (p : Origin) → total (calls_of k) (replies s key (λ c id. false) (λ id. 0) p cycles) ≡ calls_of k (InCall p cycles)
    one_reply (origin.Ingress j) = refl
    one_reply (origin.Canister caller n context callback) = omega arith

  frame : Frame s t
  frame = record {
    rises = sound.rises;
    entries = sound.entries;
    few = each-map (λ (e : List ℕ × Canister). total (calls_of e.0) (items s) ≤ 500) (λ (e : List ℕ × Canister). total (calls_of e.0) (items t) ≤ 500) (λ e h. omega (arith, h, calls_stay e.0)) s.canisters sound.few;
    created = refl;
    canisters = refl;
    time = refl;
    times = each-filled_by s.time o reply s.requests sound.times;
  }

pub deliver_is : (enters : Enters) (outside : Outside) (limit price : ℕ) (s : State) (place : ℕ) (m : Message) → slice_get s.messages place ≡ Some m
    → deliver enters outside limit price s place ≡ handled_by enters outside limit price s (without s place) m (lookup (at (callee_of m)) s.canisters)
unfolding deliver
deliver_is enters outside limit price s place m is_m = ap (delivered enters outside limit price s place) is_m

pub deliver_none : (enters : Enters) (outside : Outside) (limit price : ℕ) (s : State) (place : ℕ) → slice_get s.messages place ≡ None → deliver enters outside limit price s place ≡ s
unfolding deliver
deliver_none enters outside limit price s place none = ap (delivered enters outside limit price s place) none

module _ (enters : Enters) (lawful : EntriesKeep enters) (outside : Outside) (keeps : OutsideKeeps outside) (limit price : ℕ) (s : State) (place : ℕ) (sound : Tallied s) where
  handled_advances : (m : Message) → slice_get s.messages place ≡ Some m → (found : Option Canister) → lookup (at (callee_of m)) s.canisters ≡ found
      → Advances s (handled_by enters outside limit price s (without s place) m found) (callee_of m) (ends m)
  handled_advances (Call o sender key method arg cycles) is_m (Some a) e = (handled_call enters lawful limit price s place sound key a (spot key s.canisters a e) o sender method arg cycles is_m).advances
  handled_advances (Call o sender key method arg cycles) is_m None e = by (is_management key) refl where
    by : (b : Bool) → is_management key ≡ b → Advances s (cond b (outside limit (without s place) (Call o sender key method arg cycles)) (sent_back o key cycles (without s place))) key (λ id. 0)
    by true is = keeps limit s place o sender key method arg cycles (sound_from s sound) is_m is
    by false is = answered_advances (no_canister key) s place o sender key method arg cycles sound is_m
  handled_advances (Answer (origin.Canister caller n own callback) sender response refund) is_m (Some a) e =
      (handled_answer enters lawful limit price s place sound caller a (spot caller s.canisters a e) n own callback sender response refund is_m).advances
  handled_advances (Answer (origin.Ingress k) sender response refund) is_m (Some a) e = absurd (no_ingress_answer s place sound k sender response refund is_m)
  handled_advances (Answer o sender response refund) is_m None e = absurd (no_answer s place sound o sender response refund is_m e)

  -- every delivery keeps the state sound, at any place, and ends the place of the call that it answers
  pub deliver_advances : (m : Message) → slice_get s.messages place ≡ Some m → Advances s (deliver enters outside limit price s place) (callee_of m) (ends m)
  deliver_advances m is_m = subst (λ t. Advances s t (callee_of m) (ends m)) (sym (deliver_is enters outside limit price s place m is_m)) (handled_advances m is_m (lookup (at (callee_of m)) s.canisters) refl)

  pub deliver_sound : Sound (deliver enters outside limit price s place)
  deliver_sound = by (slice_get s.messages place) refl where
    by : (o : Option Message) → slice_get s.messages place ≡ o → Sound (deliver enters outside limit price s place)
    by (Some m) e = (deliver_advances m e).sound
    by None e = subst Sound (sym (deliver_none enters outside limit price s place e)) (sound_from s sound)

pub as_absent_keeps : OutsideKeeps as_absent
as_absent_keeps limit s place from sender callee method arg cycles sound is_m is = answered_advances (no_canister callee) s place from sender callee method arg cycles (tallied s sound) is_m
