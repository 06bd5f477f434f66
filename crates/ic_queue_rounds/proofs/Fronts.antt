-- A first phase from the queues is the first phase over the list.
use Rattle.std.proofs.Common.{◌≡◌, ◌≤◌, length, ℕ, List, [], ◌∷◌, ◌++◌, map, slice_get, Option, Some, None, refl, sym, ap, ap₂, ◌∙◌, subst, inl, inr, append_assoc, append-nil}
use Rattle.std.specs.List.{fold, flat_map}
use Rattle.std.specs.Map.{lookup, keys_of}
use Rattle.std.proofs.lemmas.Bool.{cases_Bool}
use Rattle.std.proofs.lemmas.Map.{keys-set_value}
use Rattle.std.proofs.lemmas.Map.Made.{keys_of-map_values}
use Rattle.ic_behaviour.specs.declared.call.Message.{Message}
use Rattle.ic_behaviour.specs.declared.call.Message.TheVariants.{Call, Answer}
use Rattle.ic_behaviour.specs.declared.env.Env.{Env}
use Rattle.ic_behaviour.specs.State.{at, callee_of, Canister, State}
use Rattle.ic_behaviour.specs.Counted.{dropped}
use Rattle.ic_behaviour.specs.Deliver.{Outside, as_absent, env_at, is_management, handled_outside, handled_by, routed, without, delivered, deliver}
use Rattle.ic_behaviour.proofs.Ties.{tallied}
use Rattle.ic_state.specs.declared.world.Parts.{Parts}
use Rattle.ic_state.specs.Seen.{seen, state_of}
use Rattle.ic_state.specs.IsWorld.{IsWorld}
use Rattle.ic_run_laws.specs.System.{system_rules}
use Rattle.ic_behaviour.specs.Steps.{step, along}
use Rattle.ic_behaviour.specs.Round.{first_phase}
use Rattle.ic_rounds.specs.Dealing.{slots_of, AreFirsts}
use Rattle.ic_rounds.specs.Slots.{Stored, Slot, stored_of, slot_of, ran, put_in, after_slot_in_place, AreReady, AreCanisters, entering}
use Rattle.ic_rounds.proofs.PutBacks.{Rises}
use Rattle.ic_rounds.proofs.FirstPhases.{T, Passed, passed_few, passed_firsts, passed_ready, code_ends}
use Rattle.ic_queues.specs.Queued.{Queued}
use Rattle.ic_queue_rounds.specs.InQueues.{with_messages, IsInQueues}
use Rattle.ic_queue_rounds.specs.Drawing.{Drawing, none_drawn, draw}
use Rattle.ic_queue_rounds.proofs.Draws.{same_firsts, same_left, same_canisters}

-- ---- messages that come before all others stay there

settle_behind : (env : Env) (front : List Message) (w : Stored) (slots : List Slot)
    → fold (after_slot_in_place env) (record w { messages = front ++ w.messages }) slots ≡ record (fold (after_slot_in_place env) w slots) { messages = front ++ (fold (after_slot_in_place env) w slots).messages }
settle_behind env front w [] = refl
settle_behind env front w (slot ∷ slots) =
    let h = ran env slot in
    let answers = flat_map (routed slot.key) h.answers in
    let sent : (front ++ w.messages) ++ h.calls ++ answers ≡ front ++ (w.messages ++ h.calls ++ answers) =
    ap (λ l. l ++ answers) (append_assoc front w.messages h.calls) ∙ append_assoc front (w.messages ++ h.calls) answers in
    ap (λ l. fold (after_slot_in_place env) (record (put_in w slot.key h) { messages = l }) slots) sent ∙ settle_behind env front (put_in w slot.key h) slots

-- ---- no canister comes or goes in a first phase

absent_ids : (limit : ℕ) (s : State) (m : Message) → keys_of (handled_outside as_absent limit s m).canisters ≡ keys_of s.canisters
absent_ids limit s (Call from sender callee method arg cycles) = elim (cases_Bool (is_management callee)) [ inl here ↦ rw here refl | inr there ↦ rw there refl ]
absent_ids limit s (Answer from sender response refund) = refl

handled_ids : (limit price : ℕ) (s : State) (place : ℕ) (m : Message) (o : Option Canister) → keys_of (handled_by entering as_absent limit price s (without s place) m o).canisters ≡ keys_of s.canisters
handled_ids limit price s place m None = absent_ids limit (without s place) m
handled_ids limit price s place m (Some c) = keys-set_value (at (callee_of m)) s.canisters _

delivered_ids : (limit price : ℕ) (s : State) (place : ℕ) (o : Option Message) → keys_of (delivered entering as_absent limit price s place o).canisters ≡ keys_of s.canisters
delivered_ids limit price s place None = refl
delivered_ids limit price s place (Some m) = handled_ids limit price s place m (lookup (at (callee_of m)) s.canisters)

step_ids : (limit price : ℕ) (s : State) (place : ℕ) → keys_of (step (system_rules as_absent limit price) s place).canisters ≡ keys_of s.canisters
unfolding deliver
step_ids limit price s place = delivered_ids limit price s place (slice_get s.messages place)

along_ids : (limit price : ℕ) (s : State) (places : List ℕ) → keys_of (along (system_rules as_absent limit price) s places).canisters ≡ keys_of s.canisters
along_ids limit price s [] = refl
along_ids limit price s (place ∷ places) = along_ids limit price (step (system_rules as_absent limit price) s place) places ∙ step_ids limit price s place

pub ids_seen : (p : Parts) → keys_of (state_of p).canisters ≡ keys_of p.canisters.entries
ids_seen p = keys_of-map_values (λ c. dropped (seen c)) p.canisters.entries

pub ids_rise : (p : Parts) → IsWorld p → Rises (keys_of p.canisters.entries)
ids_rise p is = subst Rises (ids_seen p) (tallied (state_of p) is.sound).rises

-- ---- the values that the code has

module _ (rest : Parts) (w : Queued) (is : IsInQueues rest w) where
  abbrev whole : Parts
  whole = with_messages rest w.messages

  pub record Began (firsts : List (List ℕ × Message)) (left : Queued) : Type 0 where
    pub passed : Passed whole is.keeps (T whole is.keeps).left firsts
    pub messages : left.messages ≡ (T whole is.keeps).left
    pub canisters : left.canisters ≡ keys_of rest.canisters.entries

  pub begins : (keys : List (List ℕ)) (drawn : Drawing) (firsts : List (List ℕ × Message)) (left : Queued)
      → keys ≡ keys_of rest.canisters.entries → drawn ≡ fold draw (none_drawn w) keys → firsts ≡ drawn.firsts → left ≡ drawn.queues → Began firsts left
  begins keys drawn firsts left is_keys is_drawn is_firsts is_left =
      let es = rest.canisters.entries in
      let all : drawn ≡ fold draw (none_drawn w) (keys_of es) = is_drawn ∙ ap (fold draw (none_drawn w)) is_keys in
      let rises = ids_rise whole is.keeps in
      record {
        passed = record { left_are = refl; firsts_are = is_firsts ∙ ap (λ (d : Drawing). d.firsts) all ∙ same_firsts es rises w is.canisters };
        messages = ap (λ (q : Queued). q.messages) (is_left ∙ ap (λ (d : Drawing). d.queues) all) ∙ same_left es rises w is.canisters;
        canisters = ap (λ (q : Queued). q.canisters) (is_left ∙ ap (λ (d : Drawing). d.queues) all) ∙ same_canisters es rises w is.canisters;
      }

  module _ (limit price : ℕ) (firsts : List (List ℕ × Message)) (left : Queued) (began : Began firsts left) where
    abbrev front : List Message
    front = (T whole is.keeps).left

    pub firsts_ready : AreReady (env_at rest.time limit price) (stored_of rest) (slots_of rest.canisters.entries firsts)
    firsts_ready = passed_ready whole is.keeps front firsts began.passed limit price (stored_of rest) refl

    pub are_firsts : AreFirsts rest.canisters.entries firsts
    are_firsts = passed_firsts whole is.keeps front firsts began.passed

    pub few_firsts : length firsts ≤ 64
    few_firsts = passed_few whole is.keeps front firsts began.passed

    pub rest_keep : AreCanisters rest
    rest_keep = is.keeps.canisters

    pub record Sealed (rest' : Parts) (w' : Queued) : Type 0 where
      pub keeps : IsInQueues rest' w'
      pub state : (outside : Outside) → state_of (with_messages rest' w'.messages) ≡ along (system_rules outside limit price) (state_of whole) (first_phase (system_rules outside limit price) (state_of whole))

    pub sealed : (after rest' : Parts) (w' : Queued) (sent : List Message) → AreCanisters after
        → stored_of after ≡ fold (after_slot_in_place (env_at rest.time limit price)) (stored_of rest) (map slot_of (slots_of rest.canisters.entries firsts))
        → rest' ≡ record after { messages = [] } → sent ≡ after.messages → w'.messages ≡ left.messages ++ sent → w'.canisters ≡ left.canisters → Sealed rest' w'
    sealed after rest' w' sent keep stored is_rest is_sent is_messages is_canisters =
        let env = env_at rest.time limit price in
        let slots = map slot_of (slots_of rest.canisters.entries firsts) in
        let a : Parts = with_messages after (front ++ after.messages) in
        let none : front ++ rest.messages ≡ front = ap (λ l. front ++ l) is.none ∙ append-nil front in
        let there : stored_of a ≡ fold (after_slot_in_place env) (record (stored_of whole) { messages = front }) slots =
        ap (λ (v : Stored). record v { messages = front ++ v.messages }) stored
        ∙ sym (settle_behind env front (stored_of rest) slots)
        ∙ ap (λ l. fold (after_slot_in_place env) (record (stored_of whole) { messages = l }) slots) none in
        let world = code_ends whole is.keeps front firsts began.passed limit price a keep there in
        let same : with_messages rest' w'.messages ≡ a =
        ap₂ (λ (p : Parts) l. with_messages p l) is_rest (is_messages ∙ ap₂ (λ x y. x ++ y) began.messages is_sent) in
        let ids : keys_of after.canisters.entries ≡ keys_of rest.canisters.entries =
        sym (ids_seen a) ∙ ap (λ (t : State). keys_of t.canisters) (world.1 as_absent) ∙ along_ids limit price (state_of whole) (first_phase (system_rules as_absent limit price) (state_of whole)) ∙ ids_seen whole in
        record {
          keeps = record {
            keeps = subst IsWorld (sym same) world.0;
            canisters = is_canisters ∙ began.canisters ∙ sym ids ∙ ap (λ (p : Parts). keys_of p.canisters.entries) (sym is_rest);
            none = ap (λ (p : Parts). p.messages) is_rest;
          };
          state = λ outside. ap state_of same ∙ world.1 outside;
        }
