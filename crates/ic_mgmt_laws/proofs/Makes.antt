-- A canister is made, and one goes.
use Rattle.std.proofs.Common.{◌≡◌, ℕ, ◌<◌, ◌≤◌, true, false, List, [], ◌∷◌, ◌++◌, map, length, length-append, Some, refl, sym, ap, ◌∙◌, subst, arith, lt_irrefl, is_eq}
use Rattle.std.specs.List.{AllByRecursion, flat_map}
use Rattle.std.specs.List.Sorted.{IsStrictlySortedBy}
use Rattle.std.specs.Map.{keys_of, lookup}
use Rattle.std.specs.BTreeMap.{insert_entry}
use Rattle.std.specs.declared.cmp.Ordering.{Ordering}
use Rattle.std.specs.declared.cmp.Ordering.TheVariants.{Less, Equal, Greater}
use Rattle.std.specs.Ordering.{nat_cmp, match_ordering}
use Rattle.std.specs.Cmp.Lexicographic.{slice_cmp}
use Rattle.ic_behaviour.specs.declared.call.CallId.{CallId}
use Rattle.ic_behaviour.specs.declared.call.CallId.TheVariants as call_id
use Rattle.ic_behaviour.specs.declared.phase.Waiter.{Waiter}
use Rattle.ic_behaviour.specs.declared.phase.Phase.{Phase}
use Rattle.ic_behaviour.specs.declared.phase.Phase.TheVariants.{Stopped}
use Rattle.ic_behaviour.specs.Totals.{total}
use Rattle.ic_behaviour.specs.State.{at, waiting, CallContext, Canister, State}
use Rattle.ic_behaviour.specs.Items.{Item, InContext, InWaiter, item_of, items_at, items, bears, mentions, awaited, is_context, begins, calls_of, cycles_in, HasNext, IsOfOlder, Given}
use Rattle.ic_behaviour.specs.Sound.{IsInPhase}
use Rattle.ic_behaviour.specs.Submitted.{added, IsNew, HasRoom}
use Rattle.ic_behaviour.specs.Tallied.{Tallied, IsEntry, wrong_id, wrong_flags, lost_answer, ingress_cycles, misranked}
use Rattle.ic_behaviour.proofs.Weights.{at-self, at-is, each-back, each-map, total-append, total-at}
use Rattle.ic_behaviour.proofs.Spots.{total-spot}
use Rattle.ic_behaviour.proofs.Inserts.{Gap, gap}
use Rattle.ic_behaviour.proofs.Changes.{new_key, added_tallied}
use Rattle.ic_behaviour.proofs.Ties.{sound as sound_from}
use Rattle.ic_run_laws.proofs.Fills.{each-at}
use Rattle.ic_run_laws.proofs.Spots.{Spot, spot}
use Rattle.ic_mgmt_laws.specs.KeepsCalls.{KeepsCalls}
use Rattle.ic_mgmt_laws.specs.Moves.{gone}
use Rattle.ic_mgmt_laws.proofs.Changed.{found_entry}

-- ---- a new canister

-- what was inserted is found
pub inserted : (key : List ℕ) (c : Canister) (es : List (List ℕ × Canister)) → lookup (at key) (insert_entry (slice_cmp nat_cmp) es key c) ≡ Some c
inserted key c [] = rw (at-self key) refl
inserted key c (e ∷ es) = by (slice_cmp nat_cmp key e.0) refl (inserted key c es) where
  by : (o : Ordering) → slice_cmp nat_cmp key e.0 ≡ o → lookup (at key) (insert_entry (slice_cmp nat_cmp) es key c) ≡ Some c
      → lookup (at key) (match_ordering o ((key, c) ∷ e ∷ es) ((e.0, c) ∷ es) (e ∷ insert_entry (slice_cmp nat_cmp) es key c)) ≡ Some c
  by Less is later = rw (at-self key) refl
  by Equal is later = there (ap is_eq is) where
    there : at key e.0 ≡ true → lookup (at key) ((e.0, c) ∷ es) ≡ Some c
    there passes = rw passes refl
  by Greater is later = there (ap is_eq is) where
    there : at key e.0 ≡ false → lookup (at key) (e ∷ insert_entry (slice_cmp nat_cmp) es key c) ≡ Some c
    there fails = rw fails later

module _ (s : State) (c : Canister) (sound : Tallied s) (is_new : IsNew s.next_canister c) (room : HasRoom s c.balance) where
  abbrev g : Gap c.id s.canisters c
  g = gap c.id c s.canisters (new_key s c sound is_new room)

  same : (w : Item → ℕ) → total w (items (added s c)) ≡ total w (items s)
  same w = omega (
    arith,
    total-append w (map item_of s.messages) (flat_map items_at (added s c).canisters),
    total-append w (map item_of s.messages) (flat_map items_at s.canisters),
    ap (λ es. total w (flat_map items_at es)) g.made,
    ap (λ es. total w (flat_map items_at es)) g.whole,
    total-spot w c.id c g.before g.after,
    ap (total (λ (x : CallContext). w (InContext c.id x))) is_new.contexts,
    ap (λ p. total (λ (v : Waiter). w (InWaiter c.id v)) (waiting p)) is_new.running,
  )

  nobodys : (caller : List ℕ) → IsOfOlder caller s.next_canister → at caller c.id ≡ true → ⊥
  nobodys caller old is = lt_irrefl s.next_canister (old s.next_canister (omega (arith, room.counter)) (at-is caller c.id is ∙ is_new.id))

  wider : (id : CallId) → Given s id → Given (added s c) id
  wider (call_id.Ingress k) given = given
  wider (call_id.Canister caller n) given = (
    subst (HasNext caller n) (sym g.made) (each-back (λ (e : List ℕ × Canister). at caller e.0 ≡ true → n < e.1.next_call) g.before (c.id, c) g.after (subst (HasNext caller n) g.whole given.0)
        (λ is. absurd (nobodys caller given.1 is))),
    λ k fits is. (let old = given.1 k fits is in omega (arith, old)),
  )

  pub added_keeps : KeepsCalls s (added s c)
  added_keeps = record {
    sound = sound_from (added s c) (added_tallied s c sound is_new room);
    given = wider;
    placed = λ id given. omega (arith, same (bears id));
    counts = λ key id. same (awaited key id);
  }

-- ---- a stopped canister goes

all-drop : (P : List ℕ → Type 0) (before : List (List ℕ × Canister)) (x : List ℕ × Canister) (after : List (List ℕ × Canister)) → AllByRecursion P (keys_of (before ++ x ∷ after)) → AllByRecursion P (keys_of (before ++ after))
all-drop P [] x after all = all.1
all-drop P (e ∷ before) x after all = (all.0, all-drop P before x after all.1)

sorted-drop : (before : List (List ℕ × Canister)) (x : List ℕ × Canister) (after : List (List ℕ × Canister)) → IsStrictlySortedBy (slice_cmp nat_cmp) (keys_of (before ++ x ∷ after)) → IsStrictlySortedBy (slice_cmp nat_cmp) (keys_of (before ++ after))
unfolding IsStrictlySortedBy
sorted-drop [] x after sorted = sorted.1
sorted-drop (e ∷ before) x after sorted = (all-drop (λ y. slice_cmp nat_cmp e.0 y ≡ Less) before x after sorted.0, sorted-drop before x after sorted.1)

module _ (s : State) (sound : Tallied s) (id : List ℕ) (c : Canister) (found : lookup (at id) s.canisters ≡ Some c) (stopped : c.phase ≡ Stopped) where
  abbrev p : Spot id s.canisters c
  p = spot id s.canisters c found

  abbrev t : State
  t = gone id c s

  no_contexts : c.contexts ≡ []
  no_contexts = subst (λ (phase : Phase). IsInPhase phase c.contexts) stopped (found_entry s id c found sound).in_phase

  still : (w : Item → ℕ) → total w (items t) ≡ total w (items s)
  still w = omega (
    arith,
    total-append w (map item_of s.messages) (flat_map items_at t.canisters),
    total-append w (map item_of s.messages) (flat_map items_at s.canisters),
    ap (λ es. total w (flat_map items_at es)) p.gone,
    ap (λ es. total w (flat_map items_at es)) p.whole,
    total-spot w id c p.before p.after,
    ap (total (λ (x : CallContext). w (InContext id x))) no_contexts,
    ap (λ (phase : Phase). total (λ (v : Waiter). w (InWaiter id v)) (waiting phase)) stopped,
  )

  kept : (P : List ℕ × Canister → Type 0) → AllByRecursion P s.canisters → AllByRecursion P t.canisters
  kept P all = subst (AllByRecursion P) (sym p.gone) (each-at P p.before (id, c) p.after (subst (AllByRecursion P) p.whole all)).0

  still_given : (i : CallId) → Given s i → Given t i
  still_given (call_id.Ingress k) given = given
  still_given (call_id.Canister caller n) given = (kept (λ (e : List ℕ × Canister). at caller e.0 ≡ true → n < e.1.next_call) given.0, given.1)

  gone_tallied : Tallied t
  gone_tallied = record {
    one_place = λ i. omega (arith, sound.one_place i, still (bears i));
    asked = λ k k_in. omega (arith, sound.asked k k_in, still (bears (call_id.Ingress k)));
    given = λ i some. still_given i (sound.given i (omega (arith, some, still (mentions i))));
    names = λ k i some. (let old = sound.names k i (omega (arith, some, still (awaited k i))) in omega (arith, old, still (is_context k i)));
    ids = omega (arith, sound.ids, still wrong_id);
    begun = λ i. omega (arith, sound.begun i, still (begins i));
    arrives = omega (arith, sound.arrives, still lost_answer);
    rises = subst (λ es. IsStrictlySortedBy (slice_cmp nat_cmp) (keys_of es)) (sym p.gone) (sorted-drop p.before (id, c) p.after (subst (λ es. IsStrictlySortedBy (slice_cmp nat_cmp) (keys_of es)) p.whole sound.rises));
    entries = kept (IsEntry s.next_canister) sound.entries;
    awaits = λ k i some. (let old = sound.awaits k i (omega (arith, some, still (is_context k i))) in omega (arith, old, still (awaited k i)));
    flags = omega (arith, sound.flags, still wrong_flags);
    ranked = (sound.ranked.0, omega (arith, sound.ranked.1, still (misranked sound.ranked.0)));
    free = omega (arith, sound.free, still ingress_cycles);
    few = each-map (λ (e : List ℕ × Canister). total (calls_of e.0) (items s) ≤ 500) (λ (e : List ℕ × Canister). total (calls_of e.0) (items t) ≤ 500) (λ e h. omega (arith, h, still (calls_of e.0))) t.canisters
        (kept (λ (e : List ℕ × Canister). total (calls_of e.0) (items s) ≤ 500) sound.few);
    conserved = omega (
      arith,
      sound.conserved,
      still cycles_in,
      ap (total (λ (e : List ℕ × Canister). e.1.balance)) p.gone,
      ap (total (λ (e : List ℕ × Canister). e.1.balance)) p.whole,
      total-at (λ (e : List ℕ × Canister). e.1.balance) p.before (id, c) p.after,
    );
    created = sound.created;
    canisters = omega (arith, sound.canisters, ap length p.gone, ap length p.whole, length-append p.before ((id, c) ∷ p.after), length-append p.before p.after);
    requests = sound.requests;
    time = sound.time;
    times = sound.times;
  }

  pub gone_keeps : KeepsCalls s (gone id c s)
  gone_keeps = record { sound = sound_from t gone_tallied; given = still_given; placed = λ i given. omega (arith, still (bears i)); counts = λ key i. still (awaited key i) }
