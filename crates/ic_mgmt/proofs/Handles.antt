-- A message to no canister is handled, and the parts are a world again.
use Rattle.std.proofs.Common.{◌≡◌, ℕ, true, false, cond, List, [], ◌∷◌, ◌++◌, length, map, Option, Some, None, Result, Ok, Err, refl, sym, ap, ◌∙◌, subst, append_assoc}
use Rattle.std.specs.Prelude.{is_some, IfOk}
use Rattle.std.specs.List.{flat_map}
use Rattle.std.specs.Map.{lookup}
use Rattle.ic_behaviour.specs.declared.call.CallId.{CallId}
use Rattle.ic_behaviour.specs.declared.call.Origin.{Origin}
use Rattle.ic_behaviour.specs.declared.call.Origin.TheVariants as origin
use Rattle.ic_behaviour.specs.declared.call.Response.{Response}
use Rattle.ic_behaviour.specs.declared.call.Message.{Message}
use Rattle.ic_behaviour.specs.declared.call.Message.TheVariants.{Call, Answer}
use Rattle.ic_behaviour.specs.Totals.{total}
use Rattle.ic_behaviour.specs.State.{at, callee_of, Canister, State}
use Rattle.ic_behaviour.specs.Items.{awaited, item_of, items_at, outstanding}
use Rattle.ic_behaviour.specs.Sound.{Sound}
use Rattle.ic_behaviour.specs.Counted.{dropped}
use Rattle.ic_behaviour.specs.Texts.{no_canister}
use Rattle.ic_behaviour.specs.Tallied.{Tallied}
use Rattle.ic_behaviour.specs.Entry.{enters_by}
use Rattle.ic_behaviour.specs.Installing.{enters_after}
use Rattle.ic_behaviour.specs.Deliver.{Outside, is_management, sent_back, handled_outside, handled_by, routed_by, without}
use Rattle.ic_behaviour.proofs.Counts.{counted_same}
use Rattle.ic_behaviour.proofs.Ties.{tallied}
use Rattle.ic_behaviour.proofs.Weights.{each-map}
use Rattle.ic_state.specs.declared.world.Parts.{Parts}
use Rattle.ic_state.specs.Seen.{seen, state_of}
use Rattle.ic_state.specs.IsWorld.{HasCounts, IsWorld}
use Rattle.ic_api.specs.System.{system_api}
use Rattle.ic_deliver.specs.Delivered.{sent_back_in}
use Rattle.ic_run_laws.proofs.Delivers.{deliver_is, no_answer, answered_advances}
use Rattle.ic_behaviour.specs.Steps.{step}
use Rattle.ic_behaviour.proofs.Lists.{remove_at}
use Rattle.ic_mgmt_laws.specs.KeepsCalls.{KeepsCalls}
use Rattle.ic_mgmt_laws.specs.Moves.{message_of, with_call, replied}
use Rattle.ic_behaviour.specs.declared.call.IncomingCall.{IncomingCall}
use Rattle.ic_mgmt_laws.specs.Manage.{handled, manage}
use Rattle.ic_mgmt_laws.specs.Managed.{managed_rules}
use Rattle.ic_mgmt_laws.proofs.Apart.{same_counts, sends_last}
use Rattle.ic_mgmt_laws.proofs.Manages.{manage_keeps}
use Rattle.ic_mgmt_laws.proofs.Steps.{call_counts, replied_keeps}
use Rattle.ic_mgmt.specs.Taken.{Taken, AreCanisters, HaveCounts}
use Rattle.ic_mgmt.specs.Sweeping.{among, Meets, Delivers}
use Rattle.ic_mgmt.proofs.Sweeps.{is_at_place, seen_there}

abbrev pub managing : Outside
managing = manage (enters_after system_api)

none_there : (o : Option Canister) → is_some o ≡ false → o ≡ None
none_there None is = refl
none_there (Some a) is = cc

-- canisters store the counts of a state with the same ones
same_stored : (s t : State) → ((key : List ℕ) (id : CallId) → outstanding t key id ≡ outstanding s key id) → (p : Parts) → HaveCounts s p → HaveCounts t p
same_stored s t same p = each-map (HasCounts s) (HasCounts t) (λ e counts. counted_same s t e.0 (same e.0) (dropped (seen e.1)) ∙ counts) p.canisters.entries

map_front : (front back : List Message) → map item_of (front ++ back) ≡ map item_of front ++ map item_of back
map_front [] back = refl
map_front (x ∷ front) back = ap (λ l. item_of x ∷ l) (map_front front back)

module _ (limit : ℕ) (kept : List Message) (m : Message) (todo : List Message) (p : Parts) (is : IsWorld (among kept (m ∷ todo) p)) (absent : is_some (lookup (at (callee_of m)) p.canisters.entries) ≡ false) where
  abbrev s : State
  s = state_of (among kept (m ∷ todo) p)

  abbrev place : ℕ
  place = length kept

  abbrev left : State
  left = without s place

  abbrev after : State
  after = handled_outside managing limit left m

  sound : Tallied s
  sound = tallied s is.sound

  none : lookup (at (callee_of m)) s.canisters ≡ None
  none = none_there (lookup (at (callee_of m)) s.canisters) (seen_there (callee_of m) p.canisters.entries ∙ absent)

  step_is : (price : ℕ) → step (managed_rules limit price) s place ≡ after
  step_is price = deliver_is (enters_by system_api) managing limit price s place m (is_at_place kept m todo p) ∙ ap (handled_by (enters_by system_api) managing limit price s left m) none

  left_is : left ≡ record (state_of p) { messages = (kept ++ todo) ++ p.messages }
  left_is = ap (λ (l : List Message). record (state_of p) { messages = l }) (remove_at kept m (todo ++ p.messages) ∙ sym (append_assoc kept todo p.messages))

  end_is : (q : Parts) → record (state_of q) { messages = (kept ++ todo) ++ q.messages } ≡ state_of (among kept todo q)
  end_is q = ap (λ (l : List Message). record (state_of q) { messages = l }) (append_assoc kept todo q.messages)

  -- with the same counts
  delivers : (q : Parts) → after ≡ state_of (among kept todo q) → Sound after → ((key : List ℕ) (id : CallId) → outstanding after key id ≡ outstanding s key id)
      → HaveCounts s q → AreCanisters q → Delivers limit kept m todo p q
  delivers q there sound_after counts stored canisters = record {
    keeps = record {
      sound = subst Sound there sound_after;
      counts = same_stored s (state_of (among kept todo q)) (λ key id. ap (λ t. outstanding t key id) (sym there) ∙ counts key id) q stored;
      canisters = canisters;
    };
    state = λ price. sym (step_is price ∙ there);
  }

module _ (limit : ℕ) (kept : List Message) (o : Origin) (from callee method arg : List ℕ) (n : ℕ) (todo : List Message) (p : Parts) where
  abbrev m : Message
  m = Call o from callee method arg n

  abbrev call : IncomingCall
  call = record { origin = o; sender = from; method = method; arg = arg; cycles = n }

  abbrev now : State
  now = state_of (among kept (m ∷ todo) p)

  module _ (is : IsWorld (among kept (m ∷ todo) p)) (absent : is_some (lookup (at callee) p.canisters.entries) ≡ false) where
    abbrev away : State
    away = without now (length kept)

    -- by the management canister
    managed_is : manage (enters_after system_api) limit away m ≡ handled (enters_after system_api) limit (with_call call away) away call
    unfolding manage
    managed_is = refl

    pub managed_delivers : (q : Parts) → is_management callee ≡ true → state_of q ≡ handled (enters_after system_api) limit now (state_of p) call → HaveCounts now q → AreCanisters q → Delivers limit kept m todo p q
    managed_delivers q to_it is_q stored canisters =
        let is_m = is_at_place kept m todo p in
        let keeps : KeepsCalls now (managing limit away m) = manage_keeps (enters_after system_api) limit now (length kept) o from callee method arg n is_m is.sound in
        let here : handled_outside managing limit away m ≡ managing limit away m = ap (λ b. cond b (managing limit away m) (sent_back o callee n away)) to_it in
        let there : managing limit away m ≡ state_of (among kept todo q) =
        managed_is
        ∙ same_counts (enters_after system_api) limit now (with_call call away) away call refl (call_counts now (length kept) o from callee method arg n is_m (tallied now is.sound))
        ∙ ap (λ t. handled (enters_after system_api) limit now t call) (left_is limit kept m todo p is absent)
        ∙ sends_last (enters_after system_api) limit now (state_of p) call (kept ++ todo)
        ∙ ap (λ (t : State). record t { messages = (kept ++ todo) ++ t.messages }) (sym is_q)
        ∙ end_is limit kept m todo p is absent q in
        delivers limit kept m todo p is absent q (here ∙ there) (subst Sound (sym here) keeps.sound) (λ key id. ap (λ t. outstanding t key id) here ∙ keeps.counts key id) stored canisters

    -- back to the caller
    same_items : (p : Origin) → map item_of (routed_by callee p (no_canister callee) n) ≡ map item_of (routed_by [] p (no_canister callee) n)
    same_items (origin.Ingress k) = refl
    same_items (origin.Canister caller number context callback) = refl

    sent_counts : (key : List ℕ) (id : CallId) → outstanding (sent_back o callee n away) key id ≡ outstanding (replied call (no_canister callee) away) key id
    sent_counts key id =
        ap (λ l. total (awaited key id) (l ++ flat_map items_at away.canisters))
        (map_front away.messages (routed_by callee o (no_canister callee) n)
        ∙ ap (λ l. map item_of away.messages ++ l) (same_items o)
        ∙ sym (map_front away.messages (routed_by [] o (no_canister callee) n)))

    sent_end : sent_back o callee n away ≡ state_of (among kept todo (sent_back_in callee o n p))
    sent_end =
        ap (sent_back o callee n) (left_is limit kept m todo p is absent)
        ∙ ap (λ (l : List Message). record (state_of (sent_back_in callee o n p)) { messages = l }) (append_assoc (kept ++ todo) p.messages (routed_by callee o (no_canister callee) n))
        ∙ end_is limit kept m todo p is absent (sent_back_in callee o n p)

    pub sent_delivers : (q : Parts) → is_management callee ≡ false → q ≡ sent_back_in callee o n p → Delivers limit kept m todo p q
    sent_delivers q to_none is_q =
        let is_m = is_at_place kept m todo p in
        let sound_now = tallied now is.sound in
        let here : handled_outside managing limit away m ≡ sent_back o callee n away = ap (λ b. cond b (managing limit away m) (sent_back o callee n away)) to_none in
        let counts : (key : List ℕ) (id : CallId) → outstanding (sent_back o callee n away) key id ≡ outstanding now key id =
        λ key id. sent_counts key id ∙ (replied_keeps now (length kept) o from callee method arg n is_m sound_now (no_canister callee)).counts key id in
        subst (Delivers limit kept m todo p) (sym is_q)
        (delivers limit kept m todo p is absent (sent_back_in callee o n p) (here ∙ sent_end)
        (subst Sound (sym here) (answered_advances (no_canister callee) now (length kept) o from callee method arg n sound_now is_m).sound)
        (λ key id. ap (λ t. outstanding t key id) here ∙ counts key id) is.counts is.canisters)

-- no answer comes to one that is no canister
pub answer_delivers : (limit : ℕ) (kept : List Message) (o : Origin) (from : List ℕ) (response : Response) (n : ℕ) (todo : List Message) (p q : Parts)
    → IsWorld (among kept (Answer o from response n ∷ todo) p) → is_some (lookup (at (callee_of (Answer o from response n))) p.canisters.entries) ≡ false
    → Delivers limit kept (Answer o from response n) todo p q
answer_delivers limit kept o from response n todo p q is absent =
    let m : Message = Answer o from response n in
    absurd (no_answer (state_of (among kept (m ∷ todo) p)) (length kept) (tallied _ is.sound) o from response n (is_at_place kept m todo p) (none limit kept m todo p is absent))

-- ---- as the code has it

abbrev pub Handled : (limit : ℕ) → Message → (p q : Parts) → Type 0
Handled limit m p q = (kept todo : List Message) → IsWorld (among kept (m ∷ todo) p) → Delivers limit kept m todo p q

pub taken_out : (kept : List Message) (m : Message) (p : Parts) (asked : IncomingCall) (callee : List ℕ) → m ≡ message_of asked callee → Meets kept m p → Taken p asked
taken_out kept m p asked callee is_call next = record {
  whole = state_of (among kept (m ∷ next.0) p);
  place = length kept;
  callee = callee;
  sound = next.1.sound;
  found = is_at_place kept m next.0 p ∙ ap Some is_call;
  rest = refl;
  canisters = next.1.canisters;
}

module _ (limit : ℕ) (o : Origin) (from callee method arg : List ℕ) (n : ℕ) (p : Parts) (absent : is_some (lookup (at callee) p.canisters.entries) ≡ false) where
  pub managed_ok : {E : Type 0} (r : Result Parts E) → is_management callee ≡ true
      → IfOk r (λ q. (now : State) → HaveCounts now p → now.time ≡ p.time
      → state_of q ≡ handled (enters_after system_api) limit now (state_of p) (record { origin = o; sender = from; method = method; arg = arg; cycles = n }))
      → IfOk r (λ q. (now : State) → HaveCounts now p → HaveCounts now q) → IfOk r AreCanisters → IfOk r (Handled limit (Call o from callee method arg n) p)
  managed_ok (Ok q) to_it state counts canisters = λ kept todo is.
      let now = state_of (among kept (Call o from callee method arg n ∷ todo) p) in
      managed_delivers limit kept o from callee method arg n todo p is absent q to_it (state now is.counts refl) (counts now is.counts) canisters
  managed_ok (Err e) to_it state counts canisters = tt
