-- What a world keeps, over the changes of its parts.
use Rattle.std.proofs.Common.{◌≡◌, ℕ, ◌+◌, ◌<◌, ◌^◌, ◌==◌, Bool, true, false, not, List, [], ◌∷◌, ◌++◌, map, length, None, refl, sym, ap, ap₂, ◌∙◌, subst, arith, true≢false, not-suc-le-zero}
use Rattle.std.specs.List.{AllByRecursion, list_all}
use Rattle.std.specs.Bool.{OnTrue, OnFalse}
use Rattle.std.specs.Map.{values_of}
use Rattle.std.proofs.lemmas.Bool.{and_parts, and_from}
use Rattle.std.specs.BTreeMap.{BTreeMap, insert_entry}
use Rattle.std.specs.declared.cmp.Ordering.{Ordering}
use Rattle.std.specs.declared.cmp.Ordering.TheVariants.{Less, Equal, Greater}
use Rattle.std.specs.Ordering.{nat_cmp, match_ordering}
use Rattle.std.specs.Cmp.Lexicographic.{slice_cmp}
use Rattle.ic_behaviour.specs.declared.call.Origin.TheVariants as origin
use Rattle.ic_behaviour.specs.declared.call.Message.TheVariants.{Call}
use Rattle.ic_behaviour.specs.declared.context.Context.{Context}
use Rattle.ic_behaviour.specs.declared.phase.Waiter.{Waiter}
use Rattle.ic_behaviour.specs.declared.phase.Phase.{Phase}
use Rattle.ic_behaviour.specs.declared.phase.Phase.TheVariants.{Running, Stopping, Stopped}
use Rattle.ic_behaviour.specs.Totals.{total}
use Rattle.ic_behaviour.specs.State.{at, waiting, is_awaited, CallContext, Canister, State}
use Rattle.ic_behaviour.specs.Items.{outstanding, Drained}
use Rattle.ic_behaviour.specs.Counted.{CountedCanister, bare, with_count, counted, dropped}
use Rattle.ic_behaviour.specs.Sound.{Sound}
use Rattle.ic_behaviour.specs.Submitted.{submitted, added, IsNew, HasRoom}
use Rattle.ic_behaviour.proofs.Weights.{each-map, each-back, nat-is}
use Rattle.ic_behaviour.proofs.Ties.{tallied, sound}
use Rattle.ic_behaviour.proofs.Inserts.{gap}
use Rattle.ic_behaviour.proofs.Changes.{submitted_tallied, submitted_counts, added_tallied, added_counts, new_key}
use Rattle.ic_state.specs.declared.canister.Canister.{Canister as StoredCanister}
use Rattle.ic_state.specs.declared.world.Parts.{Parts}
use Rattle.ic_state.specs.Seen.{seen, is_calm, entry_of, state_of}
use Rattle.ic_state.specs.IsCanister.{IsCanister}
use Rattle.ic_state.specs.IsWorld.{HasCounts, IsWorld}

-- ---- the same canisters

-- nothing but the canisters is looked at for the numbers
kept : (p q : Parts) (es : List (List ℕ × StoredCanister)) → ((key : List ℕ) (b : Canister) → counted (state_of q) key b ≡ counted (state_of p) key b)
    → AllByRecursion (HasCounts (state_of p)) es → AllByRecursion (HasCounts (state_of q)) es
kept p q es same counts = each-map (HasCounts (state_of p)) (HasCounts (state_of q)) (λ e is. same e.0 (dropped (seen e.1)) ∙ is) es counts

pub submitted_world : (p q : Parts) (sender callee method arg : List ℕ) → IsWorld p → length p.requests < 2 ^ 20
    → q.canisters.entries ≡ p.canisters.entries → state_of q ≡ submitted (state_of p) sender callee method arg → IsWorld q
submitted_world p q sender callee method arg is room same now = record {
  sound = subst Sound (sym now) (sound (submitted (state_of p) sender callee method arg) (submitted_tallied (state_of p) sender callee method arg (tallied (state_of p) is.sound) room));
  counts = subst (AllByRecursion (HasCounts (state_of q))) (sym same) (kept p q p.canisters.entries counts is.counts);
  canisters = subst (AllByRecursion (λ (e : List ℕ × StoredCanister). IsCanister e.1)) (sym same) is.canisters;
} where
  counts : (key : List ℕ) (b : Canister) → counted (state_of q) key b ≡ counted (state_of p) key b
  counts key b = ap (λ s. counted s key b) now ∙ submitted_counts (state_of p) sender callee method arg (tallied (state_of p) is.sound) room key b

-- ---- a new canister

map-insert : (es : List (List ℕ × StoredCanister)) (k : List ℕ) (c : StoredCanister)
    → map entry_of (insert_entry (slice_cmp nat_cmp) es k c) ≡ insert_entry (slice_cmp nat_cmp) (map entry_of es) k (dropped (seen c))
map-insert [] k c = refl
map-insert (e ∷ es) k c = by (slice_cmp nat_cmp k e.0) (map-insert es k c) where
  by : (o : Ordering) → map entry_of (insert_entry (slice_cmp nat_cmp) es k c) ≡ insert_entry (slice_cmp nat_cmp) (map entry_of es) k (dropped (seen c))
      → map entry_of (match_ordering o ((k, c) ∷ e ∷ es) ((e.0, c) ∷ es) (e ∷ insert_entry (slice_cmp nat_cmp) es k c))
      ≡ match_ordering o ((k, dropped (seen c)) ∷ entry_of e ∷ map entry_of es) ((e.0, dropped (seen c)) ∷ map entry_of es) (entry_of e ∷ insert_entry (slice_cmp nat_cmp) (map entry_of es) k (dropped (seen c)))
  by Less more = refl
  by Equal more = refl
  by Greater more = ap (λ l. entry_of e ∷ l) more

no_contexts : (xs : List Context) → map bare xs ≡ [] → xs ≡ []
no_contexts [] e = refl
no_contexts (x ∷ xs) e = absurd (true≢false (ap has_some e)) where
  has_some : List CallContext → Bool
  has_some [] = false
  has_some (y ∷ ys) = true

-- a canister without calls has none in any state
no_calls : (s : State) (key : List ℕ) (c : CountedCanister) → c.contexts ≡ [] → c.outstanding ≡ 0 → counted s key (dropped c) ≡ c
no_calls s key c none zero =
    ap₂ (λ xs n. record c { contexts = xs; outstanding = n })
    (ap (λ xs. map (with_count s key) (map bare xs)) none ∙ sym none)
    (ap (λ xs. total (λ (x : CallContext). outstanding s key x.id) (map bare xs)) none ∙ sym zero)

unmapped : (key : List ℕ) (es : List (List ℕ × StoredCanister)) → AllByRecursion (λ (e : List ℕ × Canister). at key e.0 ≡ false) (map entry_of es)
    → AllByRecursion (λ (e : List ℕ × StoredCanister). at key e.0 ≡ false) es
unmapped key [] all = tt
unmapped key (e ∷ es) all = (all.0, unmapped key es all.1)

module _ (p q : Parts) (c : StoredCanister) (is : IsWorld p) (is_new : IsNew p.next_canister (dropped (seen c))) (keeps : IsCanister c)
    (room : HasRoom (state_of p) c.balance) (made : q.canisters.entries ≡ insert_entry (slice_cmp nat_cmp) p.canisters.entries c.id c) (now : state_of q ≡ added (state_of p) (dropped (seen c))) where
  each-added : (P : List ℕ × StoredCanister → Type 0) → P (c.id, c) → AllByRecursion P p.canisters.entries → AllByRecursion P q.canisters.entries
  each-added P here all =
      let g = gap c.id c p.canisters.entries (unmapped c.id p.canisters.entries (new_key (state_of p) (dropped (seen c)) (tallied (state_of p) is.sound) is_new room)) in
      subst (AllByRecursion P) (sym (made ∙ g.made)) (each-back P g.before (c.id, c) g.after (subst (AllByRecursion P) g.whole all) here)

  counts : (key : List ℕ) (b : Canister) → counted (state_of q) key b ≡ counted (state_of p) key b
  counts key b = ap (λ s. counted s key b) now ∙ added_counts (state_of p) (dropped (seen c)) (tallied (state_of p) is.sound) is_new room key b

  unused : c.outstanding ≡ 0
  unused = keeps.counts ∙ ap (total (λ (x : Context). x.outstanding)) (no_contexts c.contexts is_new.contexts)

  pub added_world : IsWorld q
  added_world = record {
    sound = subst Sound (sym now) (sound (added (state_of p) (dropped (seen c))) (added_tallied (state_of p) (dropped (seen c)) (tallied (state_of p) is.sound) is_new room));
    counts = each-added (HasCounts (state_of q)) (no_calls (state_of q) c.id (seen c) (no_contexts c.contexts is_new.contexts) unused) (kept p q p.canisters.entries counts is.counts);
    canisters = each-added (λ (e : List ℕ × StoredCanister). IsCanister e.1) keeps is.canisters;
  }

pub added_entries : (es fs : List (List ℕ × StoredCanister)) (k : List ℕ) (c : StoredCanister) → fs ≡ insert_entry (slice_cmp nat_cmp) es k c
    → map entry_of fs ≡ insert_entry (slice_cmp nat_cmp) (map entry_of es) k (dropped (seen c))
added_entries es fs k c is = ap (map entry_of) is ∙ map-insert es k c

pub added_state : (p : Parts) (m : BTreeMap (List ℕ) StoredCanister) (c : StoredCanister) (s : State) → state_of p ≡ s → m.entries ≡ insert_entry (slice_cmp nat_cmp) p.canisters.entries c.id c
    → state_of (record p { canisters = m; created = p.created + c.balance; next_canister = p.next_canister + 1 }) ≡ added s (dropped (seen c))
added_state p m c s is made =
    ap (λ es. record (state_of p) { canisters = es; created = p.created + c.balance; next_canister = p.next_canister + 1 }) (added_entries p.canisters.entries m.entries c.id c made)
    ∙ ap (λ t. added t (dropped (seen c))) is

-- ---- who waits

calm_none : (phase : Phase) → not (is_awaited phase) ≡ true → waiting phase ≡ []
calm_none Running h = refl
calm_none Stopped h = refl
calm_none (Stopping []) h = refl
calm_none (Stopping (w ∷ waiters)) h = absurd (true≢false (sym h))

none_calm : (phase : Phase) → waiting phase ≡ [] → not (is_awaited phase) ≡ true
none_calm Running h = refl
none_calm Stopped h = refl
none_calm (Stopping []) h = refl
none_calm (Stopping (w ∷ waiters)) h = absurd (true≢false (ap has_some h)) where
  has_some : List Waiter → Bool
  has_some [] = false
  has_some (y ∷ ys) = true

nobody : (es : List (List ℕ × StoredCanister)) → list_all is_calm (values_of es) ≡ true → AllByRecursion (λ (e : List ℕ × Canister). waiting e.1.phase ≡ []) (map entry_of es)
nobody [] h = tt
nobody (e ∷ es) h = let parts = and_parts (is_calm e.1) (list_all is_calm (values_of es)) h in (calm_none e.1.phase parts.0, nobody es parts.1)

all_calm : (es : List (List ℕ × StoredCanister)) → AllByRecursion (λ (e : List ℕ × Canister). waiting e.1.phase ≡ []) (map entry_of es) → list_all is_calm (values_of es) ≡ true
all_calm [] all = refl
all_calm (e ∷ es) all = and_from (is_calm e.1) (list_all is_calm (values_of es)) (none_calm e.1.phase all.0) (all_calm es all.1)

no_length : {A : Type 0} (xs : List A) → (length xs == 0) ≡ true → xs ≡ []
no_length [] h = refl
no_length (x ∷ xs) h =
    let e : length (x ∷ xs) ≡ 0 = nat-is (length (x ∷ xs)) 0 h in
    let no : 0 < 0 = omega (arith, e) in absurd (not-suc-le-zero no)

pub drained_yes : (p : Parts) (s : State) (a b : Bool) → state_of p ≡ s → a ≡ (length p.messages == 0) → a ≡ true → b ≡ list_all is_calm (values_of p.canisters.entries) → OnTrue b (Drained s)
drained_yes p s a true now no_messages is all =
    subst Drained now (record { messages = no_length p.messages (sym no_messages ∙ is); waiters = nobody p.canisters.entries (sym all) })
drained_yes p s a false now no_messages is all = tt

pub drained_no : (p : Parts) (s : State) (b : Bool) → state_of p ≡ s → b ≡ list_all is_calm (values_of p.canisters.entries) → OnFalse b (¬ Drained s)
drained_no p s true now all = tt
drained_no p s false now all = λ d. true≢false (sym (all_calm p.canisters.entries (subst Drained (sym now) d).waiters) ∙ sym all)

-- ---- as the code has them

pub added_now : (p q : Parts) (c : StoredCanister) (s : State) → state_of p ≡ s → IsWorld p → IsNew s.next_canister (dropped (seen c)) → IsCanister c → HasRoom s c.balance
    → q.canisters.entries ≡ insert_entry (slice_cmp nat_cmp) p.canisters.entries c.id c → state_of q ≡ added (state_of p) (dropped (seen c)) → IsWorld q
added_now p q c s view is is_new keeps room made now =
    added_world p q c is (subst (λ t. IsNew t.next_canister (dropped (seen c))) (sym view) is_new) keeps (subst (λ t. HasRoom t c.balance) (sym view) room) made now

pub submitted_now : (p q : Parts) (sender callee method arg copied_method copied_arg : List ℕ) (s : State) → state_of p ≡ s → IsWorld p → length s.requests < 2 ^ 20
    → copied_method ≡ method → copied_arg ≡ arg → q.canisters.entries ≡ p.canisters.entries
    → state_of q ≡ record (state_of p) {
      messages = p.messages ++ Call (origin.Ingress (length p.requests)) sender callee copied_method copied_arg 0 ∷ [];
      requests = p.requests ++ (record { sender = sender; callee = callee; method = method; arg = arg; time = p.time; answer = None }) ∷ [];
    } → IsWorld q
submitted_now p q sender callee method arg m a s view is room same_method same_arg same now =
    submitted_world p q sender callee method arg is (subst (λ (t : State). length t.requests < 2 ^ 20) (sym view) room) same
    (now ∙ ap₂ (λ x y. record (submitted (state_of p) sender callee method arg) { messages = p.messages ++ Call (origin.Ingress (length p.requests)) sender callee x y 0 ∷ [] }) same_method same_arg)
