-- A message that has left the list is handled, and the parts are a world again.
use Rattle.std.proofs.Common.{◌≡◌, ℕ, ◌+◌, ◌-◌, ◌≤◌, ◌^◌, false, cond, List, map, Option, Some, None, option_map, refl, sym, ap, ◌∙◌, subst, arith}
use Rattle.std.specs.Prelude.{slice_get}
use Rattle.std.specs.BTreeMap.{BTreeMap}
use Rattle.std.specs.List.{AllByRecursion, IsDistinct}
use Rattle.std.specs.Map.{keys_of, lookup, set_value}
use Rattle.std.specs.Ordering.{nat_cmp, eq_by_cmp}
use Rattle.std.specs.Cmp.Lexicographic.{slice_cmp}
use Rattle.std.proofs.lemmas.Map.{none_passes_from_lookup}
use Rattle.std.proofs.lemmas.Map.Keys.{IsDistinct-from_sorted}
use Rattle.std.proofs.lemmas.Map.Made.{keys_of-map_values, lookup-map_values}
use Rattle.ic_behaviour.specs.declared.call.Message.{Message}
use Rattle.ic_behaviour.specs.declared.call.Message.TheVariants.{Call, Answer}
use Rattle.ic_behaviour.specs.State.{at, callee_of, Canister, State}
use Rattle.ic_behaviour.specs.Counted.{CountedCanister, counted, dropped}
use Rattle.ic_behaviour.specs.Closing.{Handled}
use Rattle.ic_behaviour.specs.Entry.{enters_by}
use Rattle.ic_behaviour.specs.Local.{local}
use Rattle.ic_behaviour.specs.Sound.{Sound}
use Rattle.ic_behaviour.specs.Deliver.{Outside, as_absent, env_at, sent_back, handled_outside, handled_by, placed, without}
use Rattle.ic_behaviour.proofs.Ties.{tallied}
use Rattle.ic_api.specs.System.{system_api}
use Rattle.ic_state.specs.declared.canister.Canister.{Canister as StoredCanister}
use Rattle.ic_state.specs.declared.world.Parts.{Parts}
use Rattle.ic_state.specs.Seen.{seen, entry_of, state_of}
use Rattle.ic_state.specs.IsCanister.{IsCanister}
use Rattle.ic_state.specs.IsWorld.{HasCounts, IsWorld}
use Rattle.ic_behaviour.specs.Steps.{step}
use Rattle.ic_run_laws.specs.System.{system_rules}
use Rattle.ic_run_laws.proofs.Systems.{entries_keep}
use Rattle.ic_run_laws.proofs.Delivers.{deliver_is, deliver_sound, as_absent_keeps, no_answer}
use Rattle.ic_run_laws.proofs.Counts.{counts_others, counts_own}
use Rattle.ic_exec.specs.Executed.{done_of}
use Rattle.ic_deliver.specs.Giving.{CanTake}
use Rattle.ic_deliver.specs.Delivered.{HasHandled, refused_in}
use Rattle.ic_deliver.proofs.Ready.{can_handle, burned_fits}
use Rattle.ic_schedule.specs.Delivery.{is_to_management}
use Rattle.ic_schedule.specs.Handing.{left_by}
use Rattle.ic_schedule.proofs.Puts.{Entries, found_each, each_apart, each_set, seen_set}

-- the message of the world was delivered, whatever delivers calls to the management canister
pub record IsDelivered (limit price : ℕ) (w : Parts) (place : ℕ) (q : Parts) : Type 0 where
  pub keeps : IsWorld q
  pub state : (outside : Outside) → state_of q ≡ step (system_rules outside limit price) (state_of w) place

module _ (limit price : ℕ) (w : Parts) (is : IsWorld w) (place : ℕ) (m : Message) (is_m : slice_get w.messages place ≡ Some m) where
  abbrev s : State
  s = state_of w

  abbrev es : Entries
  es = w.canisters.entries

  abbrev key : List ℕ
  key = callee_of m

  abbrev next : State
  next = step (system_rules as_absent limit price) s place

  others : (k : List ℕ) (b : Canister) → at key k ≡ false → counted next k b ≡ counted s k b
  others = counts_others (enters_by system_api) entries_keep as_absent as_absent_keeps limit price s place m (tallied s is.sound) is_m

  other_counts : (e : List ℕ × StoredCanister) → at key e.0 ≡ false → HasCounts s e → HasCounts next e
  other_counts e apart counts = others e.0 (dropped (seen e.1)) apart ∙ counts

  next_sound : Sound next
  next_sound = deliver_sound (enters_by system_api) entries_keep as_absent as_absent_keeps limit price s place (tallied s is.sound)

  -- what comes to the state after it, with the numbers of that state, is a world
  delivered : (q : Parts) (t : State) → state_of q ≡ t → ((outside : Outside) → step (system_rules outside limit price) s place ≡ t)
      → AllByRecursion (HasCounts next) q.canisters.entries → AllByRecursion (λ (e : List ℕ × StoredCanister). IsCanister e.1) q.canisters.entries → IsDelivered limit price w place q
  delivered q t is_q is_t counts keep =
      let same : next ≡ state_of q = is_t as_absent ∙ sym is_q in
      record {
        keeps = record {
          sound = subst Sound same next_sound;
          counts = subst (λ (u : State). AllByRecursion (HasCounts u) q.canisters.entries) same counts;
          canisters = keep;
        };
        state = λ outside. is_q ∙ sym (is_t outside);
      }

  -- ---- a canister has the callee's id

  module _ (c : StoredCanister) (found : lookup (at key) es ≡ Some c) where
    abbrev a : Canister
    a = dropped (seen c)

    abbrev pub R : Handled
    R = local (enters_by system_api) (env_at s.time limit price) (seen c) m

    there : lookup (at key) s.canisters ≡ Some a
    there = lookup-map_values (λ x. dropped (seen x)) (at key) es ∙ ap (option_map (λ x. dropped (seen x))) found

    numbers : counted s key a ≡ seen c
    numbers = found_each (HasCounts s) key es c found is.counts

    ran : local (enters_by system_api) (env_at s.time limit price) (counted s key a) m ≡ R
    ran = ap (λ (x : CountedCanister). local (enters_by system_api) (env_at s.time limit price) x m) numbers

    turn_is : (outside : Outside) → step (system_rules outside limit price) s place ≡ placed (without s place) key R
    turn_is outside =
        deliver_is (enters_by system_api) outside limit price s place m is_m
        ∙ ap (handled_by (enters_by system_api) outside limit price s (without s place) m) there ∙ ap (placed (without s place) key) ran

    own : counted next key (dropped R.canister) ≡ R.canister
    own = subst (λ (h : Handled). counted next key (dropped h.canister) ≡ h.canister) ran
        (counts_own (enters_by system_api) entries_keep as_absent as_absent_keeps limit price s place m (tallied s is.sound) is_m a there)

    distinct : IsDistinct (eq_by_cmp (slice_cmp nat_cmp)) (keys_of es)
    distinct = subst (IsDistinct (eq_by_cmp (slice_cmp nat_cmp))) (keys_of-map_values (λ x. dropped (seen x)) es) (IsDistinct-from_sorted (slice_cmp nat_cmp) (keys_of s.canisters) (tallied s is.sound).rises)

    pub takes : CanTake (env_at s.time limit price) w.burned c m
    takes = record {
      handles = can_handle s (tallied s is.sound) place m is_m c there numbers (found_each (λ e. IsCanister e.1) key es c found is.canisters);
      room = (let more : next.burned ≡ w.burned + R.burned = ap (λ (t : State). t.burned) (turn_is as_absent) in omega (arith, more, burned_fits next next_sound));
    }

    pub by_canister : (q : Parts) → HasHandled (env_at s.time limit price) key c m (left_by w place) q → IsDelivered limit price w place q
    by_canister q went =
        let d = went.after in
        let canister : seen d ≡ R.canister = ap (λ (h : Handled). h.canister) went.handled in
        let stored : map entry_of q.canisters.entries ≡ set_value (at key) s.canisters (dropped (seen d)) = ap (map entry_of) went.entries ∙ seen_set key es d in
        delivered q (placed (without s place) key R)
        (ap state_of went.sent ∙ (λ i. record (placed (without s place) key (done_of d went.done)) { canisters = stored i }) ∙ ap (placed (without s place) key) went.handled)
        turn_is
        (subst (AllByRecursion (HasCounts next)) (sym went.entries)
        (each_set (HasCounts s) (HasCounts next) key other_counts es d distinct (subst (λ (x : CountedCanister). counted next key (dropped x) ≡ x) (sym canister) own) is.counts))
        (subst (AllByRecursion (λ (e : List ℕ × StoredCanister). IsCanister e.1)) (sym went.entries)
        (each_set (λ e. IsCanister e.1) (λ e. IsCanister e.1) key (λ e apart k. k) es d distinct went.keeps is.canisters))

  -- ---- no canister has it

  module _ (none : lookup (at key) es ≡ None) (other : is_to_management m ≡ false) where
    not_there : lookup (at key) s.canisters ≡ None
    not_there = lookup-map_values (λ x. dropped (seen x)) (at key) es ∙ ap (option_map (λ x. dropped (seen x))) none

    abbrev end : Parts
    end = refused_in key m (left_by w place)

    goes_back : (outside : Outside) (n : Message) → slice_get s.messages place ≡ Some n → lookup (at (callee_of n)) s.canisters ≡ None → is_to_management n ≡ false
        → handled_outside outside limit (without s place) n ≡ state_of (refused_in (callee_of n) n (left_by w place))
    goes_back outside (Call from sender callee method arg cycles) is_n absent fails =
        ap (λ b. cond b (outside limit (without s place) (Call from sender callee method arg cycles)) (sent_back from callee cycles (without s place))) fails
    goes_back outside (Answer from sender response refund) is_n absent fails = absurd (no_answer s place (tallied s is.sound) from sender response refund is_n absent)

    turn_back : (outside : Outside) → step (system_rules outside limit price) s place ≡ state_of end
    turn_back outside =
        deliver_is (enters_by system_api) outside limit price s place m is_m
        ∙ ap (handled_by (enters_by system_api) outside limit price s (without s place) m) not_there ∙ goes_back outside m is_m not_there other

    same_canisters : (n : Message) → (refused_in key n (left_by w place)).canisters ≡ w.canisters
    same_canisters (Call from sender callee method arg cycles) = refl
    same_canisters (Answer from sender response refund) = refl

    pub by_nobody : IsDelivered limit price w place end
    by_nobody =
        let Each = λ (P : List ℕ × StoredCanister → Type 0) (b : BTreeMap (List ℕ) StoredCanister). AllByRecursion P b.entries in
        let same = sym (same_canisters m) in
        delivered end (state_of end) refl turn_back
        (subst (Each (HasCounts next)) same (each_apart (HasCounts s) (HasCounts next) key other_counts es (none_passes_from_lookup (at key) es none) is.counts))
        (subst (Each (λ e. IsCanister e.1)) same is.canisters)

-- ---- as the code has it

module _ (limit price : ℕ) (w p : Parts) (is : IsWorld w) (place : ℕ) (m : Message) (is_m : slice_get w.messages place ≡ Some m) (is_p : p ≡ left_by w place) (key : List ℕ) (is_key : key ≡ callee_of m) where
  -- what is so of the callee and the parts of the world is so of these
  moved : (P : List ℕ → Parts → Type 0) → P (callee_of m) (left_by w place) → P key p
  moved P here = subst (P key) (sym is_p) (subst (λ k. P k (left_by w place)) (sym is_key) here)

  pub takes_at : (c : StoredCanister) → lookup (at key) p.canisters.entries ≡ Some c → CanTake (env_at p.time limit price) p.burned c m
  takes_at = moved (λ k r. (c : StoredCanister) → lookup (at k) r.canisters.entries ≡ Some c → CanTake (env_at r.time limit price) r.burned c m)
      (λ c found. takes limit price w is place m is_m c found)

  pub handed_over : (q : Parts) → is_to_management m ≡ false → ((c : StoredCanister) → lookup (at key) p.canisters.entries ≡ Some c → HasHandled (env_at p.time limit price) key c m p q)
      → (lookup (at key) p.canisters.entries ≡ None → q ≡ refused_in key m p) → IsDelivered limit price w place q
  handed_over q other = moved (λ k r. ((c : StoredCanister) → lookup (at k) r.canisters.entries ≡ Some c → HasHandled (env_at r.time limit price) k c m r q)
      → (lookup (at k) r.canisters.entries ≡ None → q ≡ refused_in k m r) → IsDelivered limit price w place q) by_callee where
        by_callee : ((c : StoredCanister) → lookup (at (callee_of m)) w.canisters.entries ≡ Some c → HasHandled (env_at w.time limit price) (callee_of m) c m (left_by w place) q)
            → (lookup (at (callee_of m)) w.canisters.entries ≡ None → q ≡ refused_in (callee_of m) m (left_by w place)) → IsDelivered limit price w place q
        by_callee went back = by (lookup (at (callee_of m)) w.canisters.entries) refl where
          by : (o : Option StoredCanister) → lookup (at (callee_of m)) w.canisters.entries ≡ o → IsDelivered limit price w place q
          by (Some c) found = by_canister limit price w is place m is_m c found q (went c found)
          by None none = subst (IsDelivered limit price w place) (sym (back none)) (by_nobody limit price w is place m is_m none other)
