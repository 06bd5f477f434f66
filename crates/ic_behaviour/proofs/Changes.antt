-- The empty state is sound, and stays so when users call, time goes on and canisters are added.
use Rattle.std.proofs.Common.{◌≡◌, ℕ, zero, suc, ◌+◌, ◌<◌, ◌≤◌, ◌^◌, ◌==◌, Bool, true, false, List, [], ◌∷◌, ◌++◌, map, length, length-append, slice_get, Option, Some, None, is_some, refl, sym, ap, ◌∙◌, subst, arith, inl, inr, true≢false, not-suc-le-zero, lt_irrefl}
use Rattle.std.specs.List.{AllByRecursion, flat_map}
use Rattle.std.specs.List.Sorted.{IsStrictlySortedBy}
use Rattle.std.proofs.lemmas.Bool.{cases_Bool}
use Rattle.ic_behaviour.specs.declared.call.CallId.{CallId}
use Rattle.ic_behaviour.specs.declared.call.CallId.TheVariants as call_id
use Rattle.ic_behaviour.specs.declared.call.Origin.{Origin}
use Rattle.ic_behaviour.specs.declared.call.Origin.TheVariants as origin
use Rattle.ic_behaviour.specs.declared.call.Message.TheVariants.{Call}
use Rattle.ic_behaviour.specs.declared.request.Request.{Request}
use Rattle.ic_behaviour.specs.Totals.{total, one}
use Rattle.ic_behaviour.specs.State.{at, same_id, waiting, Canister, State}
use Rattle.ic_behaviour.specs.Items.{Item, InCall, InContext, InWaiter, item_of, items_at, items, bears, mentions, open_at, counted_at, is_id, is_from_canister, calls_of, awaited, is_context, begins, cycles_in, answered, is_answered, places, HasNext, IsOfOlder, Given}
use Rattle.ic_behaviour.specs.Sound.{IsNamed, HasCode, IsInPhase}
use Rattle.ic_behaviour.specs.Tallied.{Tallied, wrong_id, wrong_flags, lost_answer, ingress_cycles, misranked, IsEntry}
use Rattle.ic_behaviour.specs.Counted.{counted}
use Rattle.ic_behaviour.specs.Submitted.{empty, submitted, timed, added, IsNew, HasRoom}
use Rattle.ic_behaviour.proofs.Weights.{total-append, total-map, total-at, total-below, bears-mentions, begins-mentions, found, each-map, each-back, nat-self, nat-is, at-is, same_id-self, same_id-is}
use Rattle.ic_behaviour.proofs.Spots.{same_counter, total-spot}
use Rattle.ic_behaviour.proofs.Counts.{counted_same}
use Rattle.ic_behaviour.proofs.Inserts.{Gap, gap, sorted-insert}

-- The empty state
pub empty_tallied : Tallied empty
unfolding IsStrictlySortedBy
empty_tallied = record {
  one_place = λ id. none id;
  asked = λ k k_in. absurd (not-suc-le-zero k_in);
  given = λ id some. absurd (not-suc-le-zero some);
  names = λ key id some. absurd (not-suc-le-zero some);
  ids = refl;
  begun = λ id. omega arith;
  arrives = refl;
  rises = tt;
  entries = tt;
  awaits = λ key id some. absurd (not-suc-le-zero some);
  flags = refl;
  ranked = ((λ id. 0), refl);
  free = refl;
  few = tt;
  conserved = omega arith;
  created = omega arith;
  canisters = omega arith;
  requests = omega arith;
  time = omega arith;
  times = tt;
} where
  none : (id : CallId) → 0 + answered [] id ≤ 1
  none (call_id.Ingress k) = omega arith
  none (call_id.Canister caller n) = omega arith

-- A submission

each-push : (n : ℕ) (rs : List Request) (r : Request) → AllByRecursion (λ (q : Request). q.time ≤ n) rs → r.time ≤ n → AllByRecursion (λ (q : Request). q.time ≤ n) (rs ++ r ∷ [])
each-push n [] r all here = (here, tt)
each-push n (q ∷ rs) r all here = (all.0, each-push n rs r all.1 here)

answered-push : (rs : List Request) (r : Request) → r.answer ≡ None → (k : ℕ) → one (is_answered (slice_get (rs ++ r ∷ []) k)) ≡ one (is_answered (slice_get rs k))
answered-push [] r none zero = ap (λ o. one (is_some o)) none
answered-push [] r none (suc k) = refl
answered-push (q ∷ rs) r none zero = refl
answered-push (q ∷ rs) r none (suc k) = answered-push rs r none k

answered-past : (rs : List Request) (k : ℕ) → length rs ≤ k → one (is_answered (slice_get rs k)) ≡ 0
answered-past [] k h = refl
answered-past (q ∷ rs) zero h = let no : 0 < 0 = omega (arith, h) in absurd (not-suc-le-zero no)
answered-past (q ∷ rs) (suc k) h = answered-past rs k (omega (arith, h))

module _ (s : State) (sender callee method arg : List ℕ) (sound : Tallied s) (room : length s.requests < 2 ^ 20) where
  abbrev t : State
  t = submitted s sender callee method arg

  abbrev fresh : Item
  fresh = InCall (origin.Ingress (length s.requests)) 0

  more : (w : Item → ℕ) → total w (items t) ≡ total w (items s) + w fresh
  more w = omega (
    arith,
    total-append w (map item_of t.messages) (flat_map items_at s.canisters),
    total-append w (map item_of s.messages) (flat_map items_at s.canisters),
    total-map item_of w t.messages,
    total-map item_of w s.messages,
    total-append (λ m. w (item_of m)) s.messages (Call (origin.Ingress (length s.requests)) sender callee method arg 0 ∷ []),
  )

  longer : length t.requests ≡ length s.requests + 1
  longer = omega (arith, length-append s.requests ((record { sender = sender; callee = callee; method = method; arg = arg; time = s.time; answer = None }) ∷ []))

  answers : (id : CallId) → answered t.requests id ≡ answered s.requests id
  answers (call_id.Ingress k) = answered-push s.requests (record { sender = sender; callee = callee; method = method; arg = arg; time = s.time; answer = None }) refl k
  answers (call_id.Canister caller n) = refl

  unborn : (id : CallId) → same_id id (call_id.Ingress (length s.requests)) ≡ true → total (mentions id) (items s) ≡ 0
  unborn id is = by (total (mentions id) (items s)) refl where
    by : (m : ℕ) → total (mentions id) (items s) ≡ m → m ≡ 0
    by zero e = refl
    by (suc m) e =
        let g : Given s (call_id.Ingress (length s.requests)) = subst (Given s) (same_id-is id (call_id.Ingress (length s.requests)) is) (sound.given id (omega (arith, e))) in
        let no : 0 < 0 = omega (arith, g) in absurd (not-suc-le-zero no)

  unanswered : (id : CallId) → same_id id (call_id.Ingress (length s.requests)) ≡ true → answered s.requests id ≡ 0
  unanswered id is = subst (λ i. answered s.requests i ≡ 0) (sym (same_id-is id (call_id.Ingress (length s.requests)) is)) (answered-past s.requests (length s.requests) (omega arith))

  submit_given : (id : CallId) → Given s id → Given t id
  submit_given (call_id.Ingress k) g = omega (arith, g, longer)
  submit_given (call_id.Canister caller n) g = g

  pub submit_places : (id : CallId) → Given s id → places t id ≡ places s id
  submit_places (call_id.Ingress k) g = elim (cases_Bool (k == length s.requests)) [
    | inl is ↦ (let no : 0 < 0 = omega (arith, g, nat-is k (length s.requests) is) in absurd (not-suc-le-zero no))
    | inr differs ↦ omega (arith, more (bears (call_id.Ingress k)), ap one differs, answers (call_id.Ingress k))
  ]
  submit_places (call_id.Canister caller n) g = omega (arith, more (bears (call_id.Canister caller n)))

  pub submitted_tallied : Tallied t
  submitted_tallied = record {
    one_place = λ id. elim (cases_Bool (same_id id (call_id.Ingress (length s.requests)))) [
      | inl is ↦ omega (arith, more (bears id), ap one is, answers id, unborn id is, unanswered id is, total-below (bears id) (mentions id) (bears-mentions id) (items s))
      | inr differs ↦ omega (arith, more (bears id), ap one differs, answers id, sound.one_place id)
    ];
    asked = λ k k_in. elim (cases_Bool (k == length s.requests)) [
      | inl is ↦ omega (arith, more (bears (call_id.Ingress k)), ap one is, answers (call_id.Ingress k), unborn (call_id.Ingress k) is, unanswered (call_id.Ingress k) is, total-below (bears (call_id.Ingress k)) (mentions (call_id.Ingress k)) (bears-mentions (call_id.Ingress k)) (items s))
      | inr differs ↦ omega (arith, more (bears (call_id.Ingress k)), ap one differs, answers (call_id.Ingress k), sound.asked k (before k k_in differs))
    ];
    given = λ id some. elim (cases_Bool (same_id id (call_id.Ingress (length s.requests)))) [
      | inl is ↦ subst (Given t) (sym (same_id-is id (call_id.Ingress (length s.requests)) is)) (omega (arith, longer))
      | inr differs ↦ submit_given id (sound.given id (omega (arith, some, more (mentions id), ap one differs)))
    ];
    names = λ key id some. (let old = sound.names key id (omega (arith, some, more (awaited key id))) in omega (arith, old, more (is_context key id)));
    ids = omega (arith, sound.ids, more wrong_id);
    begun = λ id. elim (cases_Bool (same_id id (call_id.Ingress (length s.requests)))) [
      | inl is ↦ omega (arith, more (begins id), ap one is, unborn id is, total-below (begins id) (mentions id) (begins-mentions id) (items s))
      | inr differs ↦ omega (arith, more (begins id), ap one differs, sound.begun id)
    ];
    arrives = omega (arith, sound.arrives, more lost_answer);
    rises = sound.rises;
    entries = sound.entries;
    awaits = λ key id some. (let old = sound.awaits key id (omega (arith, some, more (is_context key id))) in omega (arith, old, more (awaited key id)));
    flags = omega (arith, sound.flags, more wrong_flags);
    ranked = (sound.ranked.0, omega (arith, sound.ranked.1, more (misranked sound.ranked.0)));
    free = omega (arith, sound.free, more ingress_cycles);
    few = each-map (λ (e : List ℕ × Canister). total (calls_of e.0) (items s) ≤ 500) (λ (e : List ℕ × Canister). total (calls_of e.0) (items t) ≤ 500) (λ e h. omega (arith, h, more (calls_of e.0))) s.canisters sound.few;
    conserved = omega (arith, sound.conserved, more cycles_in);
    created = sound.created;
    canisters = sound.canisters;
    requests = omega (arith, longer, room);
    time = sound.time;
    times = each-push s.time s.requests (record { sender = sender; callee = callee; method = method; arg = arg; time = s.time; answer = None }) sound.times (omega arith);
  } where
    before : (k : ℕ) → k < length t.requests → (k == length s.requests) ≡ false → k < length s.requests
    before k k_in differs = omega (arith, k_in, longer, apart) where
      apart : k ≡ length s.requests → ⊥
      apart e = true≢false (sym (nat-self k) ∙ ap (λ n. k == n) e ∙ differs)

  -- the call of a user is nobody's
  pub submitted_counts : (key : List ℕ) (b : Canister) → counted t key b ≡ counted s key b
  submitted_counts key b = counted_same s t key (λ id. omega (arith, more (awaited key id))) b

-- The time is set
pub timed_tallied : (s : State) (time : ℕ) → Tallied s → s.time ≤ time → time ≤ 9223372036854775807 → Tallied (timed s time)
timed_tallied s time sound later small = record {
  one_place = sound.one_place;
  asked = sound.asked;
  given = λ id some. moved id (sound.given id some);
  names = sound.names;
  ids = sound.ids;
  begun = sound.begun;
  arrives = sound.arrives;
  rises = sound.rises;
  entries = sound.entries;
  awaits = sound.awaits;
  flags = sound.flags;
  ranked = sound.ranked;
  free = sound.free;
  few = sound.few;
  conserved = sound.conserved;
  created = sound.created;
  canisters = sound.canisters;
  requests = sound.requests;
  time = small;
  times = each-map (λ (r : Request). r.time ≤ s.time) (λ (r : Request). r.time ≤ time) (λ r h. omega (arith, h, later)) s.requests sound.times;
} where
  moved : (id : CallId) → Given s id → Given (timed s time) id
  moved (call_id.Ingress k) g = g
  moved (call_id.Canister caller n) g = g

-- A canister is added

module _ (s : State) (c : Canister) (sound : Tallied s) (is_new : IsNew s.next_canister c) (room : HasRoom s c.balance) where
  abbrev key : List ℕ
  key = c.id

  -- nobody has the name yet
  not_older : (caller : List ℕ) → IsOfOlder caller s.next_canister → at caller key ≡ true → ⊥
  not_older caller old is = lt_irrefl s.next_canister (old s.next_canister (omega (arith, room.counter)) (at-is caller key is ∙ is_new.id))

  pub new_key : AllByRecursion (λ (e : List ℕ × Canister). at key e.0 ≡ false) s.canisters
  new_key = each-map (IsEntry s.next_canister) (λ (e : List ℕ × Canister). at key e.0 ≡ false) (λ e actor. differs e actor.named (at key e.0) refl) s.canisters sound.entries where
    differs : (e : List ℕ × Canister) → IsNamed s.next_canister e.0 → (b : Bool) → at key e.0 ≡ b → at key e.0 ≡ false
    differs e named false is = is
    differs e named true is =
        let same : s.next_canister ≡ named.0 = same_counter s.next_canister named.0 (omega (arith, room.counter)) named.2 (sym is_new.id ∙ at-is key e.0 is ∙ named.3) in
        let no : 0 < 0 = omega (arith, same, named.1) in
        absurd (not-suc-le-zero no)

  g : Gap key s.canisters c
  g = gap key c s.canisters new_key

  same : (w : Item → ℕ) → total w (items (added s c)) ≡ total w (items s)
  same w = omega (
    arith,
    total-append w (map item_of s.messages) (flat_map items_at (added s c).canisters),
    total-append w (map item_of s.messages) (flat_map items_at s.canisters),
    ap (λ es. total w (flat_map items_at es)) g.made,
    ap (λ es. total w (flat_map items_at es)) g.whole,
    total-spot w key c g.before g.after,
    ap (total (λ x. w (InContext key x))) is_new.contexts,
    ap (λ p. total (λ v. w (InWaiter key v)) (waiting p)) is_new.running,
  )

  wider : (id : CallId) → Given s id → Given (added s c) id
  wider (call_id.Ingress k) given = given
  wider (call_id.Canister caller n) given = (
    subst (HasNext caller n) (sym g.made) (each-back (λ (e : List ℕ × Canister). at caller e.0 ≡ true → n < e.1.next_call) g.before (key, c) g.after (subst (HasNext caller n) g.whole given.0)
        (λ is. absurd (not_older caller given.1 is))),
    λ k fits is. (let old = given.1 k fits is in omega (arith, old)),
  )

  -- it is under its own id, and has no items
  new_entry : IsEntry (s.next_canister + 1) (key, c)
  new_entry = record {
    own_id = refl;
    named = (s.next_canister, omega arith, omega (arith, room.counter), is_new.id);
    has_code = subst (HasCode c.code) (sym is_new.contexts) tt;
    in_phase = subst (λ p. IsInPhase p c.contexts) (sym is_new.running) tt;
  }

  -- nobody has called under it
  no_calls : total (calls_of key) (items s) ≡ 0
  no_calls = by (total (calls_of key) (items s)) refl where
    by : (m : ℕ) → total (calls_of key) (items s) ≡ m → m ≡ 0
    by zero e = refl
    by (suc m) e = let f = found (calls_of key) (items s) (omega (arith, e)) in absurd (at_origin (open_at f.it) f.weighs (λ id. f.within (bears id))) where
      at_origin : (o : Option Origin) → 0 < counted_at (is_from_canister key) o → ((id : CallId) → counted_at (is_id id) o ≤ total (bears id) (items s)) → ⊥
      at_origin None weighs within = not-suc-le-zero weighs
      at_origin (Some (origin.Ingress k)) weighs within = not-suc-le-zero weighs
      at_origin (Some (origin.Canister caller n context callback)) weighs within = elim (cases_Bool (at caller key)) [
        | inr differs ↦ (let no : 0 < 0 = omega (arith, weighs, ap one differs) in not-suc-le-zero no)
        | inl is ↦ not_older caller (sound.given (call_id.Canister caller n) (omega (arith, within (call_id.Canister caller n), ap one (same_id-self (call_id.Canister caller n)), total-below (bears (call_id.Canister caller n)) (mentions (call_id.Canister caller n)) (bears-mentions (call_id.Canister caller n)) (items s)))).1 is
      ]

  pub added_tallied : Tallied (added s c)
  added_tallied = record {
    one_place = λ id. omega (arith, sound.one_place id, same (bears id));
    asked = λ k k_in. omega (arith, sound.asked k k_in, same (bears (call_id.Ingress k)));
    given = λ id some. wider id (sound.given id (omega (arith, some, same (mentions id))));
    names = λ k id some. (let old = sound.names k id (omega (arith, some, same (awaited k id))) in omega (arith, old, same (is_context k id)));
    ids = omega (arith, sound.ids, same wrong_id);
    begun = λ id. omega (arith, sound.begun id, same (begins id));
    arrives = omega (arith, sound.arrives, same lost_answer);
    rises = sorted-insert key (c) s.canisters sound.rises;
    entries = subst (AllByRecursion (IsEntry (s.next_canister + 1))) (sym g.made) (each-back (IsEntry (s.next_canister + 1)) g.before (key, c) g.after
        (each-map (IsEntry s.next_canister) (IsEntry (s.next_canister + 1)) (λ e a. record { own_id = a.own_id; named = (a.named.0, omega (arith, a.named.1), a.named.2, a.named.3); has_code = a.has_code; in_phase = a.in_phase })
        (g.before ++ g.after) (subst (AllByRecursion (IsEntry s.next_canister)) g.whole sound.entries))
        new_entry);
    awaits = λ k id some. (let old = sound.awaits k id (omega (arith, some, same (is_context k id))) in omega (arith, old, same (awaited k id)));
    flags = omega (arith, sound.flags, same wrong_flags);
    ranked = (sound.ranked.0, omega (arith, sound.ranked.1, same (misranked sound.ranked.0)));
    free = omega (arith, sound.free, same ingress_cycles);
    few = subst (AllByRecursion (λ (e : List ℕ × Canister). total (calls_of e.0) (items (added s c)) ≤ 500)) (sym g.made) (each-back (λ (e : List ℕ × Canister). total (calls_of e.0) (items (added s c)) ≤ 500) g.before (key, c) g.after
        (each-map (λ (e : List ℕ × Canister). total (calls_of e.0) (items s) ≤ 500) (λ (e : List ℕ × Canister). total (calls_of e.0) (items (added s c)) ≤ 500) (λ e h. omega (arith, h, same (calls_of e.0)))
        (g.before ++ g.after) (subst (AllByRecursion (λ (e : List ℕ × Canister). total (calls_of e.0) (items s) ≤ 500)) g.whole sound.few))
        (omega (arith, no_calls, same (calls_of key))));
    conserved = omega (
      arith,
      sound.conserved,
      same cycles_in,
      ap (total (λ (e : List ℕ × Canister). e.1.balance)) g.made,
      ap (total (λ (e : List ℕ × Canister). e.1.balance)) g.whole,
      total-at (λ (e : List ℕ × Canister). e.1.balance) g.before (key, c) g.after,
    );
    created = room.created;
    canisters = omega (arith, room.canisters, ap length g.made, ap length g.whole, length-append g.before ((key, c) ∷ g.after), length-append g.before g.after);
    requests = sound.requests;
    time = sound.time;
    times = sound.times;
  }

  pub added_counts : (k : List ℕ) (b : Canister) → counted (added s c) k b ≡ counted s k b
  added_counts k b = counted_same s (added s c) k (λ id. same (awaited k id)) b
