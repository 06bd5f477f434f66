-- A request that is answered stays as it is.
use Rattle.std.proofs.Common.{◌≡◌, ℕ, zero, suc, ◌+◌, ◌<◌, ◌≤◌, Bool, true, false, cond, List, [], ◌∷◌, ◌++◌, map, fold, slice_get, Option, Some, None, Result, Ok, Err, refl, sym, ap, ◌∙◌, subst, arith, true≢false, not-suc-le-zero}
use Rattle.std.specs.Prelude.{◌==◌, is_some}
use Rattle.std.specs.List.{flat_map}
use Rattle.std.specs.Map.{lookup}
use Rattle.ic_behaviour.specs.declared.call.CallId.{CallId}
use Rattle.ic_behaviour.specs.declared.call.CallId.TheVariants as call_id
use Rattle.ic_behaviour.specs.declared.call.Origin.{Origin}
use Rattle.ic_behaviour.specs.declared.call.Origin.TheVariants as origin
use Rattle.ic_behaviour.specs.declared.call.Response.{Response}
use Rattle.ic_behaviour.specs.declared.call.Response.TheVariants.{Reply}
use Rattle.ic_behaviour.specs.declared.call.Message.{Message}
use Rattle.ic_behaviour.specs.declared.call.Message.TheVariants.{Call, Answer}
use Rattle.ic_behaviour.specs.declared.call.Answered.{Answered}
use Rattle.ic_behaviour.specs.declared.phase.Waiter.{Waiter}
use Rattle.ic_behaviour.specs.declared.phase.Phase.{Phase}
use Rattle.ic_behaviour.specs.declared.phase.Phase.TheVariants.{Running, Stopping, Stopped}
use Rattle.ic_behaviour.specs.declared.request.Request.{Request}
use Rattle.ic_behaviour.specs.Totals.{total, one}
use Rattle.ic_behaviour.specs.State.{at, callee_of, waiting, CallContext, Canister, State}
use Rattle.ic_behaviour.specs.Counted.{CountedCanister, with_count, counted}
use Rattle.ic_behaviour.specs.Closing.{closing, empty_reply}
use Rattle.ic_behaviour.specs.Deliver.{env_at, fill, filled, filled_by, handled_by, is_management, sent_back, without}
use Rattle.ic_behaviour.specs.Installing.{EntersAfter, enters_after}
use Rattle.ic_behaviour.specs.Items.{InContext, InWaiter, item_of, items_at, items, counted_at, is_id, bears, is_answered}
use Rattle.ic_behaviour.specs.Local.{local}
use Rattle.ic_behaviour.specs.Sound.{Sound}
use Rattle.ic_behaviour.specs.Texts.{no_canister}
use Rattle.ic_behaviour.specs.Submitted.{empty}
use Rattle.ic_behaviour.proofs.Spots.{total-spot}
use Rattle.ic_behaviour.proofs.Weights.{nat-self, total-append, total-below, total-flat, total-map}
use Rattle.ic_api.specs.System.{system_api}
use Rattle.ic_behaviour.specs.Steps.{Rules, step, IsEligible}
use Rattle.ic_behaviour.specs.Runs.{Act, Delivers, Submits, SetsTime, after_act, after, AreAllowed, IsRun, last_state}
use Rattle.ic_behaviour.proofs.RunLaws.{after-append}
use Rattle.ic_run_laws.proofs.Delivers.{deliver_is, deliver_none}
use Rattle.ic_run_laws.proofs.Fills.{total-remove}
use Rattle.ic_run_laws.proofs.Histories.{allowed_parts}
use Rattle.ic_run_laws.proofs.Spots.{Spot, spot}
use Rattle.ic_mgmt_candid.specs.declared.demand.Demand.{Demand}
use Rattle.ic_mgmt_candid.specs.declared.demand.Demand.TheVariants as demand
use Rattle.ic_mgmt_candid.specs.declared.denial.Denial.{Denial}
use Rattle.ic_mgmt_candid.specs.declared.denial.Denial.TheVariants as D
use Rattle.ic_mgmt_candid.specs.Checks.{◌>>=◌, or_else, ordered}
use Rattle.ic_mgmt_candid.specs.Denials.{denies}
use Rattle.ic_mgmt_candid.specs.Modules.{code_of}
use Rattle.ic_mgmt_candid.specs.Replies.{canister_reply, status_reply}
use Rattle.ic_mgmt_laws.specs.Moves.{with_call, awaiting, waiter_of, deleted, emptied, to_context, to_waiter}
use Rattle.ic_behaviour.specs.declared.call.IncomingCall.{IncomingCall}
use Rattle.ic_mgmt_laws.specs.Manage.{controllers_in, ended, manage}
use Rattle.ic_mgmt_laws.specs.Rows.{controllers_or, unless_full, unless_above, next_canister, amount_or, unless_unsuited, installation_on, unless_refused, unless_stopped, at_canister, row, stops_in}
use Rattle.ic_calls.specs.Texts.{uninstalled, restarted}
use Rattle.ic_options.specs.declared.Options.{Options}
use Rattle.ic_script_runner.specs.Options.{rules_of}
use Rattle.ic_asking.proofs.Keeps.{act_sound, after_sound}
use Rattle.ic_script_runner.proofs.Keeps.{rules_keep}
use Rattle.ic_host.specs.Headline.{AnswersAreFinal}
use Rattle.ic_host.proofs.Told.{tells, owes, awaits, closing_tells, settles}
use Rattle.ic_host.proofs.Traces.{empty_sound}

-- ---- answers to other calls

filled_elsewhere : (k j : ℕ) (response : Response) (rs : List Request) → (j ≡ k → ⊥) → slice_get (fill k response rs) j ≡ slice_get rs j
filled_elsewhere k j response [] apart = refl
filled_elsewhere zero zero response (r ∷ rs) apart = absurd (apart refl)
filled_elsewhere zero (suc j) response (r ∷ rs) apart = refl
filled_elsewhere (suc k) zero response (r ∷ rs) apart = refl
filled_elsewhere (suc k) (suc j) response (r ∷ rs) apart = filled_elsewhere k j response rs (λ e. apart (ap suc e))

untold_one : (k : ℕ) (from : Origin) (response : Response) (rs : List Request) → one (is_id (call_id.Ingress k) from) ≡ 0 → slice_get (filled_by from response rs) k ≡ slice_get rs k
untold_one k (origin.Ingress j) response rs none =
    filled_elsewhere j k response rs (λ e. (let no : 0 < 0 = omega (arith, none, ap (λ i. one (k == i)) e, ap one (nat-self k)) in not-suc-le-zero no))
untold_one k (origin.Canister caller n context callback) response rs none = refl

-- a request that no answer is for stays as it is
untold : (k : ℕ) (answers : List Answered) (rs : List Request) → total (tells (call_id.Ingress k)) answers ≡ 0 → slice_get (fold filled rs answers) k ≡ slice_get rs k
untold k [] rs none = refl
untold k (a ∷ answers) rs none = untold k answers (filled rs a) (omega (arith, none)) ∙ untold_one k a.origin a.response rs (omega (arith, none))

-- ---- calls to the management canister

-- what a canister's contexts and waiting calls owe to a call
abbrev owed : CallId → Canister → ℕ
owed id c = total (λ (x : CallContext). bears id (InContext [] x)) c.contexts + total (awaits id) (waiting c.phase)

owed_counted : (id : CallId) (s : State) (key : List ℕ) (c : Canister) → total (owes id) (counted s key c).contexts + total (awaits id) (waiting c.phase) ≡ owed id c
owed_counted id s key c = omega (arith, total-map (with_count s key) (owes id) c.contexts)

waiters_tell : (id : CallId) (response : Response) (waiters : List Waiter) → total (tells id) (map (to_waiter response) waiters) ≡ total (awaits id) waiters
waiters_tell id response waiters = total-map (to_waiter response) (tells id) waiters

contexts_tell : (id : CallId) (response : Response) (xs : List CallContext) → total (tells id) (flat_map (to_context response) xs) ≤ total (λ (x : CallContext). bears id (InContext [] x)) xs
contexts_tell id response xs = omega (arith, total-flat (to_context response) (tells id) xs, total-below (λ x. total (tells id) (to_context response x)) (λ (x : CallContext). bears id (InContext [] x)) one_tells xs) where
  one_tells : (x : CallContext) → total (tells id) (to_context response x) ≤ bears id (InContext [] x)
  one_tells x = by x.must_respond where
    by : (must : Bool) → total (tells id) (cond must ((record { origin = x.origin; response = response; refund = x.available }) ∷ []) []) ≤ counted_at (is_id id) (cond must (Some x.origin) None)
    by true = omega arith
    by false = omega arith

deleted_owe : (id : CallId) (xs : List CallContext) → total (λ (x : CallContext). bears id (InContext [] x)) (map deleted xs) ≡ 0
deleted_owe id [] = refl
deleted_owe id (x ∷ xs) = omega (arith, deleted_owe id xs)

module _ (enters : EntersAfter) (limit : ℕ) (now s : State) (call : IncomingCall) (k : ℕ) (apart : one (is_id (call_id.Ingress k) call.origin) ≡ 0)
    (free : (key : List ℕ) (c : Canister) → lookup (at key) s.canisters ≡ Some c → owed (call_id.Ingress k) c ≡ 0) where
  abbrev id : CallId
  id = call_id.Ingress k

  abbrev Stays : Result State Denial → Type 0
  Stays (Ok t) = slice_get t.requests k ≡ slice_get s.requests k
  Stays (Err denial) = Unit {0}

  bound : {A : Type 0} (r : Result A Denial) (next : A → Result State Denial) → ((x : A) → Stays (next x)) → Stays (r >>= next)
  bound (Ok x) next h = h x
  bound (Err denial) next h = tt

  told : (response : Response) → slice_get (filled_by call.origin response s.requests) k ≡ slice_get s.requests k
  told response = untold_one k call.origin response s.requests apart

  module _ (c : Canister) (none : owed id c ≡ 0) where
    shut_tells : (b : Canister) → owed id b ≡ 0 → (key : List ℕ) (rs : List Request) → slice_get (fold filled rs (closing None (counted now key b))) k ≡ slice_get rs k
    shut_tells b nothing key rs = untold k (closing None (counted now key b)) rs (omega (arith, closing_tells id None (counted now key b), owed_counted id now key b, nothing))

    emptied_stays : (key : List ℕ) → slice_get (fold filled (fold filled (filled_by call.origin empty_reply s.requests) (flat_map (to_context uninstalled) c.contexts)) (closing None (counted now key (emptied c)))) k ≡ slice_get s.requests k
    emptied_stays key =
        shut_tells (emptied c) (omega (arith, none, deleted_owe id c.contexts)) key (fold filled (filled_by call.origin empty_reply s.requests) (flat_map (to_context uninstalled) c.contexts))
        ∙ untold k (flat_map (to_context uninstalled) c.contexts) (filled_by call.origin empty_reply s.requests) (omega (arith, none, contexts_tell id uninstalled c.contexts))
        ∙ told empty_reply

    starts_stays : slice_get (fold filled (filled_by call.origin empty_reply s.requests) (map (to_waiter restarted) (waiting c.phase))) k ≡ slice_get s.requests k
    starts_stays = untold k (map (to_waiter restarted) (waiting c.phase)) (filled_by call.origin empty_reply s.requests) (omega (arith, none, waiters_tell id restarted (waiting c.phase))) ∙ told empty_reply

    stops_stays : (key : List ℕ) → Stays (Ok (stops_in c.phase now s call key c))
    stops_stays key = by c.phase where
      waits : slice_get (fold filled s.requests (closing None (counted now key (awaiting call c)))) k ≡ slice_get s.requests k
      waits = shut_tells (awaiting call c) (omega (arith, none, apart, total-append (awaits id) (waiting c.phase) (waiter_of call ∷ []))) key s.requests

      by : (phase : Phase) → Stays (Ok (stops_in phase now s call key c))
      by Running = waits
      by (Stopping waiters) = waits
      by Stopped = told empty_reply

  at_found : (key : List ℕ) (next : Canister → Result State Denial) → ((c : Canister) → owed id c ≡ 0 → Stays (next c)) → Stays (at_canister s key next)
  at_found key next h = by (lookup (at key) s.canisters) refl where
    by : (found : Option Canister) → lookup (at key) s.canisters ≡ found → Stays (or_else found (D.NoCanister key) >>= next)
    by None is = tt
    by (Some c) is = h c (free key c is)

  row_stays : (asked : Demand) → Stays (row enters limit now s call asked)
  row_stays (demand.CreateCanister named) =
      bound (controllers_or (call.sender ∷ []) named) _ (λ controllers. bound (unless_full s) _ (λ u. told (Reply (canister_reply (next_canister s controllers 0).id))))
  row_stays (demand.ProvisionalCreateCanisterWithCycles amount named) =
      bound (controllers_or (call.sender ∷ []) named) _ (λ controllers. bound (unless_full s) _ (λ u. bound (unless_above s (amount_or amount)) _ (λ v. told (Reply (canister_reply (next_canister s controllers (amount_or amount)).id)))))
  row_stays (demand.ProvisionalTopUpCanister key amount) = at_found key _ (λ c none. bound (unless_above s amount) _ (λ u. told empty_reply))
  row_stays (demand.DepositCycles key) = at_found key _ (λ c none. told empty_reply)
  row_stays (demand.UpdateSettings key named) = at_found key _ (λ c none. bound (controllers_or c.controllers named) _ (λ controllers. told empty_reply))
  row_stays (demand.InstallCode asked) =
      at_found asked.canister_id _ (λ c none. bound (code_of asked.wasm_module) _ (λ code. bound (unless_unsuited asked.mode c.code) _ (λ u. bound (unless_refused (installation_on enters limit now call asked c code).refusal) _ (λ v. told empty_reply))))
  row_stays (demand.UninstallCode key) = at_found key _ (λ c none. emptied_stays c none key)
  row_stays (demand.StartCanister key) = at_found key _ (λ c none. starts_stays c none)
  row_stays (demand.StopCanister key) = at_found key _ (λ c none. stops_stays c none key)
  row_stays (demand.DeleteCanister key) = at_found key _ (λ c none. bound (unless_stopped c.phase) _ (λ u. told empty_reply))
  row_stays (demand.CanisterStatus key) = at_found key _ (λ c none. told (Reply (status_reply c)))

  ended_stays : (r : Result State Denial) → Stays r → slice_get (ended s call r).requests k ≡ slice_get s.requests k
  ended_stays (Ok t) stays = stays
  ended_stays (Err denial) stays = told (denies denial)

  handled_stays : slice_get (ended s call (ordered (controllers_in s) call.origin call.sender call.method call.arg >>= row enters limit now s call)).requests k ≡ slice_get s.requests k
  handled_stays = ended_stays _ (bound (ordered (controllers_in s) call.origin call.sender call.method call.arg) (row enters limit now s call) row_stays)

-- ---- deliveries

module _ (options : Options) (s : State) (sound : Sound s) (k : ℕ) (r : Request) (is_r : slice_get s.requests k ≡ Some r) (done : is_some r.answer ≡ true) where
  abbrev rules : Rules
  rules = rules_of options

  abbrev own : CallId
  own = call_id.Ingress k

  -- its call has no other place
  unborne : total (bears own) (items s) ≡ 0
  unborne = omega (arith, sound.calls.one_place own, ap (λ o. one (is_answered o)) is_r, ap one done)

  not_in_message : (place : ℕ) (m : Message) → slice_get s.messages place ≡ Some m → bears own (item_of m) ≡ 0
  not_in_message place m is_m = omega (
    arith,
    unborne,
    total-append (bears own) (map item_of s.messages) (flat_map items_at s.canisters),
    total-map item_of (bears own) s.messages,
    total-remove (λ n. bears own (item_of n)) s.messages place m is_m,
  )

  not_owed : (key : List ℕ) (c : Canister) → lookup (at key) s.canisters ≡ Some c → owed own c ≡ 0
  not_owed key c there =
      let p : Spot key s.canisters c = spot key s.canisters c there in
      let here : total (λ (x : CallContext). bears own (InContext key x)) c.contexts + total (λ (v : Waiter). bears own (InWaiter key v)) (waiting c.phase) ≡ 0 = omega (
        arith,
        unborne,
        total-append (bears own) (map item_of s.messages) (flat_map items_at s.canisters),
        ap (λ es. total (bears own) (flat_map items_at es)) p.whole,
        total-spot (bears own) key c p.before p.after,
      ) in
      here

  delivery_stays : (place : ℕ) (m : Message) → slice_get s.messages place ≡ Some m → (o : Option Canister) → lookup (at (callee_of m)) s.canisters ≡ o
      → slice_get (handled_by rules.enters rules.outside rules.limit rules.price s (without s place) m o).requests k ≡ slice_get s.requests k
  unfolding manage
  delivery_stays place m is_m (Some c) there =
      let d : CountedCanister = counted s (callee_of m) c in
      let free = (settles rules.enters (rules_keep options).entries (env_at s.time rules.limit rules.price) d m).silent own (not_in_message place m is_m)
      (owed_counted own s (callee_of m) c ∙ not_owed (callee_of m) c there) in
      untold k (local rules.enters (env_at s.time rules.limit rules.price) d m).answers s.requests free
  delivery_stays place (Call from sender callee method arg cycles) is_m None there = by (is_management callee) where
    apart : one (is_id own from) ≡ 0
    apart = not_in_message place (Call from sender callee method arg cycles) is_m

    by : (b : Bool)
        → slice_get (cond b (rules.outside rules.limit (without s place) (Call from sender callee method arg cycles)) (sent_back from callee cycles (without s place))).requests k ≡ slice_get s.requests k
    by true =
        let call : IncomingCall = record { origin = from; sender = sender; method = method; arg = arg; cycles = cycles } in
        handled_stays (enters_after system_api) rules.limit (with_call call (without s place)) (without s place) call k apart not_owed
    by false = untold_one k from (no_canister callee) s.requests apart
  delivery_stays place (Answer from sender response refund) is_m None there = refl

  step_stays : (place : ℕ) → slice_get (step rules s place).requests k ≡ Some r
  step_stays place = by (slice_get s.messages place) refl where
    by : (o : Option Message) → slice_get s.messages place ≡ o → slice_get (step rules s place).requests k ≡ Some r
    by None is = ap (λ (t : State). slice_get t.requests k) (deliver_none rules.enters rules.outside rules.limit rules.price s place is) ∙ is_r
    by (Some m) is =
        ap (λ (t : State). slice_get t.requests k) (deliver_is rules.enters rules.outside rules.limit rules.price s place m is)
        ∙ delivery_stays place m is (lookup (at (callee_of m)) s.canisters) refl
        ∙ is_r

-- ---- runs

within_front : (rs more : List Request) (k : ℕ) (r : Request) → slice_get rs k ≡ Some r → slice_get (rs ++ more) k ≡ Some r
within_front [] more k r is = absurd (true≢false (sym (ap is_some is)))
within_front (q ∷ rs) more zero r is = is
within_front (q ∷ rs) more (suc k) r is = within_front rs more k r is

module _ (options : Options) where
  act_stays : (s : State) (act : Act) → Sound s → (k : ℕ) (r : Request) → slice_get s.requests k ≡ Some r → is_some r.answer ≡ true → slice_get (after_act (rules_of options) s act).requests k ≡ Some r
  act_stays s (Delivers place) sound k r is_r done = step_stays options s sound k r is_r done place
  act_stays s (Submits sender callee method arg) sound k r is_r done = within_front s.requests ((record { sender = sender; callee = callee; method = method; arg = arg; time = s.time; answer = None }) ∷ []) k r is_r
  act_stays s (SetsTime time) sound k r is_r done = is_r

  acts_stay : (s : State) (acts : List Act) → Sound s → AreAllowed IsEligible (rules_of options) s acts → (k : ℕ) (r : Request) → slice_get s.requests k ≡ Some r → is_some r.answer ≡ true
      → slice_get (after (rules_of options) s acts).requests k ≡ Some r
  acts_stay s [] sound allowed k r is_r done = is_r
  acts_stay s (act ∷ acts) sound allowed k r is_r done =
      acts_stay (after_act (rules_of options) s act) acts (act_sound (rules_of options) (rules_keep options) s act sound allowed.0) allowed.1 k r (act_stays s act sound k r is_r done) done

  pub each_final : (acts : List Act) → IsRun (rules_of options) acts → AnswersAreFinal (rules_of options) acts
  each_final acts run front middle back k r is is_r done =
      let rules : Rules = rules_of options in
      let parts = allowed_parts rules IsEligible empty front (middle ++ back) (subst (IsRun rules) is run) in
      let sound = after_sound rules (rules_keep options) empty front empty_sound parts.0 in
      let more = allowed_parts rules IsEligible (last_state rules front) middle back parts.1 in
      ap (λ (t : State). slice_get t.requests k) (after-append rules empty front middle) ∙ acts_stay (last_state rules front) middle sound more.0 k r is_r done
