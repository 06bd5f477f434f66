-- The code's first phase is the definition's.
use Rattle.std.proofs.Common.{◌≡◌, ◌≤◌, ℕ, suc, Bool, true, false, cond, List, [], ◌∷◌, length, map, Option, Some, None, inl, inr, refl, sym, ap, ◌∙◌, subst, arith}
use Rattle.std.specs.Prelude.{is_some}
use Rattle.std.specs.Option.{option_map}
use Rattle.std.specs.List.{find, filter, fold, AllByRecursion}
use Rattle.std.specs.Map.{lookup, keys_of}
use Rattle.std.specs.Ordering.{nat_cmp}
use Rattle.std.specs.Cmp.Lexicographic.{slice_cmp}
use Rattle.std.proofs.lemmas.Bool.{cases_Bool}
use Rattle.std.proofs.lemmas.List.{length-map}
use Rattle.std.proofs.lemmas.Map.Keys.{IsDistinct-from_sorted}
use Rattle.std.proofs.lemmas.Map.Made.{keys_of-map_values, lookup-map_values}
use Rattle.ic_behaviour.specs.declared.call.Message.{Message}
use Rattle.ic_behaviour.specs.State.{at, callee_of, State}
use Rattle.ic_behaviour.specs.Counted.{dropped}
use Rattle.ic_behaviour.specs.Deliver.{Outside, as_absent, env_at}
use Rattle.ic_behaviour.specs.Sound.{Sound}
use Rattle.ic_behaviour.proofs.Ties.{tallied}
use Rattle.ic_behaviour.proofs.Weights.{at-is}
use Rattle.ic_run_laws.proofs.Delivers.{deliver_sound, as_absent_keeps}
use Rattle.ic_behaviour.specs.Steps.{Rules, step, along}
use Rattle.ic_behaviour.specs.Round.{turns, busy, first_for, first_phase, has_message}
use Rattle.ic_state.specs.declared.canister.Canister.{Canister as StoredCanister}
use Rattle.ic_state.specs.declared.world.Parts.{Parts}
use Rattle.ic_state.specs.Seen.{seen, state_of}
use Rattle.ic_state.specs.IsCanister.{IsCanister}
use Rattle.ic_state.specs.IsWorld.{HasCounts, IsWorld}
use Rattle.ic_run_laws.specs.System.{system_rules}
use Rattle.ic_rounds.specs.Slots.{entering}
use Rattle.ic_rounds.specs.declared.slot.Slot.{Slot as StoredSlot}
use Rattle.ic_rounds.specs.Taking.{Taking, is_key, sort_out, none_taken}
use Rattle.ic_rounds.specs.Dealing.{AreFirsts, slots_of}
use Rattle.ic_rounds.specs.Slots.{Stored, Slot, stored_of, slot_of, after_slot_in_place, IsReady, AreReady, AreCanisters}
use Rattle.ic_run_laws.proofs.Systems.{entries_keep}
use Rattle.ic_rounds.proofs.Slots.{left, IsSlot}
use Rattle.ic_rounds.proofs.Batches.{AreDistinct, counted_state, batch}
use Rattle.ic_rounds.proofs.PutBacks.{Rises}
use Rattle.ic_rounds.proofs.Deals.{pairs_of, IsTheirs}
use Rattle.ic_rounds.proofs.Dealings.{pairs, theirs, keys_are, distinct}
use Rattle.ic_rounds.proofs.Takes.{left_by}
use Rattle.ic_rounds.proofs.Firsts.{find_self, left_is, sorted, found, firsts_busy, left_taken, slot_message}
use Rattle.ic_rounds.proofs.Ready.{ready, ready_all}
use Rattle.ic_rounds.proofs.Worlds.{bare_state, bare_back, stored_is, world_from}

length-turns : (rules : Rules) (s : State) (keys : List (List ℕ)) → length (turns rules s keys) ≡ length keys
length-turns rules s [] = refl
length-turns rules s (key ∷ keys) = ap (λ n. suc n) (length-turns rules (step rules s (first_for key s.messages)) keys)

along_sound : (limit price : ℕ) (s : State) (places : List ℕ) → Sound s → Sound (along (system_rules as_absent limit price) s places)
along_sound limit price s [] sound = sound
along_sound limit price s (place ∷ places) sound =
    along_sound limit price (step (system_rules as_absent limit price) s place) places (deliver_sound entering entries_keep as_absent as_absent_keeps limit price s place (tallied s sound))

-- ---- what is looked up

each-lookup : (P : List ℕ × StoredCanister → Type 0) (es : List (List ℕ × StoredCanister)) (key : List ℕ) (c : StoredCanister) → AllByRecursion P es → lookup (at key) es ≡ Some c → P (key, c)
each-lookup P [] key c all is = cc
each-lookup P (e ∷ es) key c all is =
    elim (cases_Bool (at key e.0)) [
      | inl here ↦
          let now : Some e.1 ≡ Some c = rw here at is in
          let value : e.1 ≡ c = cc in
          let same = sym (at-is key e.0 here) in
          subst P (λ i. (same i, value i)) all.0
      | inr there ↦ let later : lookup (at key) es ≡ Some c = rw there at is in each-lookup P es key c all.1 later
    ]

module _ (p : Parts) (is : IsWorld p) where
  abbrev pub s : State
  s = state_of p

  abbrev es : List (List ℕ × StoredCanister)
  es = p.canisters.entries

  abbrev pub T : Taking
  T = fold (sort_out (is_key es)) none_taken p.messages

  abbrev pub dealt_slots : List StoredSlot
  dealt_slots = slots_of es T.firsts

  abbrev slots : List Slot
  slots = map slot_of dealt_slots

  same_key : (key : List ℕ) → is_key s.canisters key ≡ is_key es key
  same_key key = ap is_some (lookup-map_values (λ c. dropped (seen c)) (at key) es) ∙ mapped (lookup (at key) es) where
    mapped : (o : Option StoredCanister) → is_some (option_map (λ c. dropped (seen c)) o) ≡ is_some o
    mapped None = refl
    mapped (Some c) = refl

  same_test : is_key s.canisters ≡ is_key es
  same_test = λ i key. same_key key i

  abbrev taken : Taking
  taken = fold (sort_out (is_key s.canisters)) none_taken s.messages

  taken_is : taken ≡ T
  taken_is = ap (λ test. fold (sort_out test) none_taken s.messages) same_test

  rises : Rises (keys_of s.canisters)
  rises = (tallied s is.sound).rises

  rises_stored : Rises (keys_of es)
  rises_stored = subst Rises (keys_of-map_values (λ c. dropped (seen c)) es) rises

  busy_is : keys_of T.firsts ≡ busy s
  busy_is = ap (λ (t : Taking). keys_of t.firsts) (sym taken_is) ∙ firsts_busy s rises

  firsts_distinct : AreDistinct (keys_of T.firsts)
  firsts_distinct = IsDistinct-from_sorted (slice_cmp nat_cmp) (keys_of T.firsts) (subst (λ (t : Taking). Rises (keys_of t.firsts)) taken_is (sorted s rises).ordered)

  firsts_are : AllByRecursion (λ (e : List ℕ × Message). lookup (at e.0) T.firsts ≡ Some e.1) T.firsts
  firsts_are = find_self T.firsts firsts_distinct

  found_first : (q : List ℕ) → lookup (at q) T.firsts ≡ cond (is_key s.canisters q) (find (λ (m : Message). at q (callee_of m)) s.messages) None
  found_first q = ap (λ (t : Taking). lookup (at q) t.firsts) (sym taken_is) ∙ found s rises q

  there : (fs : List (List ℕ × Message)) → AllByRecursion (λ (e : List ℕ × Message). lookup (at e.0) T.firsts ≡ Some e.1) fs → AllByRecursion (λ (e : List ℕ × Message). is_some (lookup (at e.0) es) ≡ true) fs
  there [] all = tt
  there (f ∷ fs) all = (sym (same_key f.0) ∙ known (is_key s.canisters f.0) (sym (found_first f.0) ∙ all.0), there fs all.1) where
    known : (b : Bool) → cond b (find (λ (m : Message). at f.0 (callee_of m)) s.messages) None ≡ Some f.1 → b ≡ true
    known true e = refl
    known false e = cc

  pub are_firsts : AreFirsts es T.firsts
  are_firsts = record { rising = rises_stored; distinct = firsts_distinct; there = there T.firsts firsts_are }

  -- ---- each is a slot of the state, and ready

  is_slot : (slot : StoredSlot) → IsTheirs es slot → lookup (at slot.key) T.firsts ≡ Some slot.message → IsSlot s (slot_of slot)
  is_slot slot their first = record {
    there = lookup-map_values (λ c. dropped (seen c)) (at slot.key) es ∙ ap (option_map (λ c. dropped (seen c))) their;
    counts = each-lookup (HasCounts s) es slot.key slot.canister is.counts their;
    message = slot_message s rises slot.key slot.message (ap (λ (t : Taking). lookup (at slot.key) t.firsts) taken_is ∙ first);
  }

  are_slots : (more : List StoredSlot) → AllByRecursion (IsTheirs es) more → AllByRecursion (λ (e : List ℕ × Message). lookup (at e.0) T.firsts ≡ Some e.1) (pairs_of more)
      → AllByRecursion (IsSlot s) (map slot_of more)
  are_slots [] their first = tt
  are_slots (slot ∷ more) their first = (is_slot slot their.0 first.0, are_slots more their.1 first.1)

  all_slots : AllByRecursion (IsSlot s) slots
  all_slots = are_slots dealt_slots (theirs es T.firsts are_firsts)
      (subst (AllByRecursion (λ (e : List ℕ × Message). lookup (at e.0) T.firsts ≡ Some e.1)) (sym (pairs es T.firsts are_firsts)) firsts_are)

  are_ready : (limit price : ℕ) (more : List StoredSlot) → AllByRecursion (IsTheirs es) more → AllByRecursion (IsSlot s) (map slot_of more) → AllByRecursion IsReady more
  are_ready limit price [] their all = tt
  are_ready limit price (slot ∷ more) their all =
      (ready limit price s is.sound slot all.0 (each-lookup (λ e. IsCanister e.1) es slot.key slot.canister is.canisters their.0), are_ready limit price more their.1 all.1)

  pub all_ready : (limit price : ℕ) (w : Stored) → w.burned ≡ p.burned → AreReady (env_at p.time limit price) w dealt_slots
  all_ready limit price w same = ready_all limit price s w dealt_slots is.sound (distinct es T.firsts are_firsts) all_slots (are_ready limit price dealt_slots (theirs es T.firsts are_firsts) all_slots) same

  -- ---- the whole

  left_is_left : T.left ≡ left slots s.messages
  left_is_left =
      ap (λ (t : Taking). t.left) (sym taken_is) ∙ left_taken s rises ∙ ap (λ (t : Taking). left_by (keys_of t.firsts) s.messages) taken_is
      ∙ ap (λ ks. left_by ks s.messages) (sym (keys_are es T.firsts are_firsts)) ∙ left_is slots s.messages

  begins_at : record (stored_of p) { messages = T.left } ≡ record (counted_state s) { messages = left slots s.messages }
  begins_at = let stored = stored_is p is in let messages = left_is_left in λ i. record (stored i) { messages = messages i }

  phase_is : (outside : Outside) (limit price : ℕ)
      → fold (after_slot_in_place (env_at p.time limit price)) (record (stored_of p) { messages = T.left }) slots
      ≡ counted_state (along (system_rules outside limit price) s (first_phase (system_rules outside limit price) s))
  unfolding first_phase
  phase_is outside limit price =
      ap (λ w. fold (after_slot_in_place (env_at p.time limit price)) w slots) begins_at
      ∙ sym (batch outside limit price s slots is.sound (distinct es T.firsts are_firsts) all_slots)
      ∙ ap (λ ks. counted_state (along (system_rules outside limit price) s (turns (system_rules outside limit price) s ks))) (keys_are es T.firsts are_firsts ∙ busy_is)

  many_firsts : length T.firsts ≡ length (busy s)
  many_firsts = sym (length-map T.firsts (λ e. e.0)) ∙ ap length busy_is

  pub many : (outside : Outside) (limit price : ℕ) → length T.firsts ≡ length (first_phase (system_rules outside limit price) s)
  unfolding first_phase
  many outside limit price = many_firsts ∙ sym (length-turns (system_rules outside limit price) s (busy s))

  fewer : (test : List ℕ → Bool) (keys : List (List ℕ)) → length (filter test keys) ≤ length keys
  fewer test [] = omega arith
  fewer test (key ∷ keys) = elim (cases_Bool (test key)) [ inl here ↦ rw here (omega (arith, fewer test keys)) | inr there ↦ rw there (omega (arith, fewer test keys)) ]

  pub few : length T.firsts ≤ 64
  few =
      let keys : length (keys_of s.canisters) ≡ length s.canisters = length-map s.canisters (λ e. e.0) in
      omega (arith, many_firsts, fewer (has_message s.messages) (keys_of s.canisters), keys, is.sound.sizes.canisters)

  -- what the slots come to is a world, and the state after the first phase
  pub phase_ends : (limit price : ℕ) (after : Parts) → AreCanisters after
      → stored_of after ≡ fold (after_slot_in_place (env_at p.time limit price)) (record (stored_of p) { messages = T.left }) slots
      → IsWorld after × ((outside : Outside) → state_of after ≡ along (system_rules outside limit price) s (first_phase (system_rules outside limit price) s))
  phase_ends limit price after keep stored =
      let end = λ (outside : Outside). along (system_rules outside limit price) s (first_phase (system_rules outside limit price) s) in
      let sound = along_sound limit price s (first_phase (system_rules as_absent limit price) s) is.sound in
      let world = world_from (end as_absent) after sound keep (stored ∙ phase_is as_absent limit price) in
      (world.0, λ outside. world.1 ∙ same_end outside) where
        same_end : (outside : Outside) → along (system_rules as_absent limit price) s (first_phase (system_rules as_absent limit price) s) ≡ along (system_rules outside limit price) s (first_phase (system_rules outside limit price) s)
        same_end outside = sym (bare_back _) ∙ ap bare_state (sym (phase_is as_absent limit price) ∙ phase_is outside limit price) ∙ bare_back _

  -- the values that the code has
  pub record Passed (left : List Message) (firsts : List (List ℕ × Message)) : Type 0 where
    pub left_are : left ≡ T.left
    pub firsts_are : firsts ≡ T.firsts

  pub passed : (taking : Taking) (firsts : List (List ℕ × Message)) (left : List Message) → taking ≡ T → firsts ≡ taking.firsts → left ≡ taking.left → Passed left firsts
  passed taking firsts left is_taking is_firsts is_left = record {
    left_are = is_left ∙ ap (λ (t : Taking). t.left) is_taking;
    firsts_are = is_firsts ∙ ap (λ (t : Taking). t.firsts) is_taking;
  }

  module _ (left : List Message) (firsts : List (List ℕ × Message)) (values : Passed left firsts) where
    pub passed_few : length firsts ≤ 64
    passed_few = omega (arith, ap length values.firsts_are, few)

    pub passed_firsts : AreFirsts es firsts
    passed_firsts = subst (AreFirsts es) (sym values.firsts_are) are_firsts

    pub passed_ready : (limit price : ℕ) (w : Stored) → w.burned ≡ p.burned → AreReady (env_at p.time limit price) w (slots_of es firsts)
    passed_ready limit price w same = subst (λ fs. AreReady (env_at p.time limit price) w (slots_of es fs)) (sym values.firsts_are) (all_ready limit price w same)

    pub code_ends : (limit price : ℕ) (after : Parts) → AreCanisters after
        → stored_of after ≡ fold (after_slot_in_place (env_at p.time limit price)) (record (stored_of p) { messages = left }) (map slot_of (slots_of es firsts))
        → IsWorld after × ((outside : Outside) → state_of after ≡ along (system_rules outside limit price) s (first_phase (system_rules outside limit price) s))
    code_ends limit price after keep stored =
        let left_are = values.left_are in
        let firsts_are = values.firsts_are in
        phase_ends limit price after keep (stored ∙ (λ i. fold (after_slot_in_place (env_at p.time limit price)) (record (stored_of p) { messages = left_are i }) (map slot_of (slots_of es (firsts_are i)))))
