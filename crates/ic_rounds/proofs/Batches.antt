-- Messages to different canisters, handled one after another and together.
use Rattle.std.proofs.Common.{◌≡◌, ℕ, Bool, true, false, cond, List, [], ◌∷◌, ◌++◌, map, length, Some, refl, sym, ap, ◌∙◌, subst, inl, inr, append_assoc}
use Rattle.std.specs.Prelude.{slice_get}
use Rattle.std.specs.List.{AllByRecursion, list_any, find, remove, flat_map, fold, IsDistinct}
use Rattle.std.specs.Ordering.{nat_cmp, eq_by_cmp}
use Rattle.std.specs.Cmp.Lexicographic.{slice_cmp}
use Rattle.std.specs.Map.{lookup, set_value, keys_of}
use Rattle.std.proofs.lemmas.Bool.{cases_Bool, or_left, or_right, cond-false}
use Rattle.std.proofs.lemmas.Map.{lookup-set_value}
use Rattle.std.proofs.lemmas.Map.Keys.{IsDistinct-tail, IsDistinct-head, IsDistinct-from_sorted}
use Rattle.ic_behaviour.specs.declared.call.Message.{Message}
use Rattle.ic_behaviour.specs.State.{at, callee_of, Canister, State}
use Rattle.ic_behaviour.specs.Counted.{CountedCanister, counted, dropped}
use Rattle.ic_behaviour.specs.Closing.{Handled}
use Rattle.ic_behaviour.specs.Local.{local}
use Rattle.ic_behaviour.specs.Sound.{Sound}
use Rattle.ic_behaviour.specs.Deliver.{Outside, as_absent, env_at, handled_by, placed, routed}
use Rattle.ic_behaviour.proofs.Weights.{laws, at-is}
use Rattle.ic_behaviour.proofs.Ties.{tallied}
use Rattle.ic_behaviour.specs.Steps.{step, along}
use Rattle.ic_behaviour.specs.Round.{turns, first_for}
use Rattle.ic_behaviour.proofs.Lists.{First, first, first_place, first_found, first_dropped, drop_first, slice_get_at, remove_at}
use Rattle.ic_run_laws.proofs.Delivers.{deliver_is, deliver_sound, as_absent_keeps}
use Rattle.ic_run_laws.proofs.Counts.{counts_others, counts_own}
use Rattle.ic_run_laws.specs.System.{system_rules}
use Rattle.ic_rounds.specs.Slots.{entering}
use Rattle.ic_rounds.specs.Slots.{Stored, Slot, ran, put_in, after_slot_in_place}
use Rattle.ic_rounds.proofs.Slots.{without_first, left, IsSlot}
use Rattle.ic_run_laws.proofs.Systems.{entries_keep}

-- ---- the first that passes

any_found : {X : Type 0} (p : X → Bool) (xs : List X) (x : X) → find p xs ≡ Some x → list_any p xs ≡ true
any_found p [] x is = cc
any_found p (y ∷ ys) x is =
    elim (cases_Bool (p y)) [
      | inl here ↦ or_left _ _ here
      | inr there ↦ let later : find p ys ≡ Some x = rw there at is in or_right _ _ (any_found p ys x later)
    ]

first_is : {X : Type 0} (p : X → Bool) (xs : List X) (x : X) → find p xs ≡ Some x → (found : First p xs) → found.it ≡ x
first_is p xs x is found =
    let whole : find p xs ≡ Some found.it = ap (find p) found.whole ∙ first_found p found.front found.it found.back found.none_before found.passes in
    cc

find_longer : {X : Type 0} (p : X → Bool) (xs more : List X) (y : X) → find p xs ≡ Some y → find p (xs ++ more) ≡ Some y
find_longer p [] more y is = cc
find_longer p (x ∷ xs) more y is =
    elim (cases_Bool (p x)) [
      | inl here ↦ rw here (let now : Some x ≡ Some y = rw here at is in now)
      | inr there ↦ rw there (let later : find p xs ≡ Some y = rw there at is in find_longer p xs more y later)
    ]

-- who is one is not another
pub apart : (key other x : List ℕ) → at key other ≡ false → at key x ≡ true → at other x ≡ false
apart key other x differ is = laws.symm other x ∙ sym (laws.congr key x other is) ∙ differ

-- ---- the list without the first messages

without_is : (key : List ℕ) (xs : List Message) → without_first key xs ≡ drop_first (λ (m : Message). at key (callee_of m)) xs
without_is key [] = refl
without_is key (x ∷ xs) = ap (λ l. cond (at key (callee_of x)) xs (x ∷ l)) (without_is key xs)

-- one that is found goes from the front alone
without_append : (key : List ℕ) (xs more : List Message) (m : Message) → find (λ (m : Message). at key (callee_of m)) xs ≡ Some m → without_first key (xs ++ more) ≡ without_first key xs ++ more
without_append key [] more m is = cc
without_append key (x ∷ xs) more m is =
    elim (cases_Bool (at key (callee_of x))) [
      | inl here ↦ rw here refl
      | inr there ↦ rw there (let later : find (λ (m : Message). at key (callee_of m)) xs ≡ Some m = rw there at is in ap (λ l. x ∷ l) (without_append key xs more m later))
    ]

-- another canister's first message stays the first
find_without : (key other : List ℕ) (xs : List Message) (m : Message) → at key other ≡ false → find (λ (m : Message). at other (callee_of m)) xs ≡ Some m
    → find (λ (m : Message). at other (callee_of m)) (without_first key xs) ≡ Some m
find_without key other [] m differs is = cc
find_without key other (x ∷ xs) m differs is =
    elim (cases_Bool (at key (callee_of x))) [
      | inl goes ↦
          let fails : at other (callee_of x) ≡ false = apart key other (callee_of x) differs goes in
          let later : find (λ (m : Message). at other (callee_of m)) xs ≡ Some m = rw fails at is in
          rw goes later
      | inr stays ↦
          rw stays (
          elim (cases_Bool (at other (callee_of x))) [
            | inl here ↦ rw here (let now : Some x ≡ Some m = rw here at is in now)
            | inr there ↦ rw there (let later : find (λ (m : Message). at other (callee_of m)) xs ≡ Some m = rw there at is in find_without key other xs m differs later)
          ])
    ]

abbrev pub HasFirst : List Message → Slot → Type 0
HasFirst xs slot = find (λ m. at slot.key (callee_of m)) xs ≡ Some slot.message

abbrev pub keys_of_slots : List Slot → List (List ℕ)
keys_of_slots slots = map (λ (slot : Slot). slot.key) slots

abbrev AreApart : List ℕ → List Slot → Type 0
AreApart key slots = AllByRecursion (λ k. at key k ≡ false) (keys_of_slots slots)

abbrev pub AreDistinct : List (List ℕ) → Type 0
AreDistinct keys = IsDistinct (eq_by_cmp (slice_cmp nat_cmp)) keys

all_without : (key : List ℕ) (xs : List Message) (slots : List Slot) → AreApart key slots → AllByRecursion (HasFirst xs) slots → AllByRecursion (HasFirst (without_first key xs)) slots
all_without key xs [] differ all = tt
all_without key xs (slot ∷ slots) differ all = (find_without key slot.key xs slot.message differ.0 all.0, all_without key xs slots differ.1 all.1)

left-append : (slots : List Slot) (xs more : List Message) → AreDistinct (keys_of_slots slots) → AllByRecursion (HasFirst xs) slots → left slots (xs ++ more) ≡ left slots xs ++ more
left-append [] xs more distinct all = refl
left-append (slot ∷ slots) xs more distinct all =
    ap (left slots) (without_append slot.key xs more slot.message all.0)
    ∙ left-append slots (without_first slot.key xs) more (IsDistinct-tail _ slot.key (keys_of_slots slots) distinct)
    (all_without slot.key xs slots (IsDistinct-head _ slot.key (keys_of_slots slots) distinct) all.1)

have_first : (s : State) (slots : List Slot) → AllByRecursion (IsSlot s) slots → AllByRecursion (HasFirst s.messages) slots
have_first s [] all = tt
have_first s (slot ∷ slots) all = (all.0.message, have_first s slots all.1)

-- ---- a state with its numbers

abbrev pub counted_entry : State → List ℕ × Canister → List ℕ × CountedCanister
counted_entry s e = (e.0, counted s e.0 e.1)

abbrev pub counted_state : State → Stored
counted_state s = record {
  canisters = map (counted_entry s) s.canisters;
  messages = s.messages;
  requests = s.requests;
  time = s.time;
  created = s.created;
  burned = s.burned;
  next_canister = s.next_canister;
}

-- where the others keep their numbers
module _ (s t : State) (key : List ℕ) (c : CountedCanister) (own : counted t key (dropped c) ≡ c) (others : (k : List ℕ) (b : Canister) → at key k ≡ false → counted t k b ≡ counted s k b) where
  counted_others : (es : List (List ℕ × Canister)) → AllByRecursion (λ k. at key k ≡ false) (keys_of es) → map (counted_entry t) es ≡ map (counted_entry s) es
  counted_others [] all = refl
  counted_others (e ∷ es) all = let first = others e.0 e.1 all.0 in let rest = counted_others es all.1 in λ i. (e.0, first i) ∷ rest i

  counted_set : (es : List (List ℕ × Canister)) → AreDistinct (keys_of es) → map (counted_entry t) (set_value (at key) es (dropped c)) ≡ set_value (at key) (map (counted_entry s) es) c
  counted_set [] distinct = refl
  counted_set (e ∷ es) distinct =
      elim (cases_Bool (at key e.0)) [
        | inl here ↦
            let same : key ≡ e.0 = at-is key e.0 here in
            let first : counted t e.0 (dropped c) ≡ c = subst (λ (k : List ℕ). counted t k (dropped c) ≡ c) same own in
            let rest = counted_others es (subst (λ (k : List ℕ). AllByRecursion (λ y. at k y ≡ false) (keys_of es)) (sym same) (IsDistinct-head _ e.0 (keys_of es) distinct)) in
            rw here (λ i. (e.0, first i) ∷ rest i)
        | inr there ↦
            let first = others e.0 e.1 there in
            let rest = counted_set es (IsDistinct-tail _ e.0 (keys_of es) distinct) in
            rw there (λ i. (e.0, first i) ∷ rest i)
      ]

-- ---- one turn

module _ (limit price : ℕ) (s : State) (sound : Sound s) (slot : Slot) (is : IsSlot s slot) where
  abbrev to : Message → Bool
  to m = at slot.key (callee_of m)

  abbrev pub place : ℕ
  place = first_for slot.key s.messages

  abbrev pub W : List Message
  W = without_first slot.key s.messages

  abbrev pub R : Handled
  R = ran (env_at s.time limit price) slot

  found : First to s.messages
  found = first to s.messages (any_found to s.messages slot.message is.message)

  it_is : found.it ≡ slot.message
  it_is = first_is to s.messages slot.message is.message found

  pub callee_is : slot.key ≡ callee_of slot.message
  callee_is = at-is slot.key (callee_of slot.message) (let P = λ (m : Message). at slot.key (callee_of m) ≡ true in subst P it_is found.passes)

  place_is : place ≡ length found.front
  place_is = ap (first_for slot.key) found.whole ∙ first_place to found.front found.it found.back found.none_before found.passes

  pub place_at : slice_get s.messages place ≡ Some slot.message
  place_at =
      ap (λ l. slice_get l place) found.whole ∙ ap (slice_get (found.front ++ found.it ∷ found.back)) place_is ∙ slice_get_at found.front found.it found.back
      ∙ ap (λ m. Some m) it_is

  removed : remove s.messages place ≡ found.front ++ found.back
  removed =
      ap (λ l. remove l place) found.whole ∙ ap (remove (found.front ++ found.it ∷ found.back)) place_is ∙ remove_at found.front found.it found.back

  taken : remove s.messages place ≡ W
  taken =
      removed
      ∙ sym (ap (without_first slot.key) found.whole ∙ without_is slot.key (found.front ++ found.it ∷ found.back) ∙ first_dropped to found.front found.it found.back found.none_before found.passes)

  -- a turn puts the slot's outcome into its place
  pub turn_is : (outside : Outside) → step (system_rules outside limit price) s place ≡ placed (record s { messages = W }) slot.key R
  turn_is outside =
      deliver_is entering outside limit price s place slot.message place_at
      ∙ ap (λ l. handled_by entering outside limit price s (record s { messages = l }) slot.message (lookup (at (callee_of slot.message)) s.canisters)) taken
      ∙ ap (handled_by entering outside limit price s (record s { messages = W }) slot.message) (ap (λ k. lookup (at k) s.canisters) (sym callee_is) ∙ is.there)
      ∙ ap (λ k. placed (record s { messages = W }) k (local entering (env_at s.time limit price) (counted s k (dropped slot.canister)) slot.message)) (sym callee_is)
      ∙ ap (λ c. placed (record s { messages = W }) slot.key (local entering (env_at s.time limit price) c slot.message)) is.counts

  abbrev pub next : State
  next = step (system_rules as_absent limit price) s place

  pub same_turn : (outside : Outside) → step (system_rules outside limit price) s place ≡ next
  same_turn outside = turn_is outside ∙ sym (turn_is as_absent)

  pub next_sound : Sound next
  next_sound = deliver_sound entering entries_keep as_absent as_absent_keeps limit price s place (tallied s sound)

  others_count : (key : List ℕ) (b : Canister) → at slot.key key ≡ false → counted next key b ≡ counted s key b
  others_count key b differs =
      counts_others entering entries_keep as_absent as_absent_keeps limit price s place slot.message (tallied s sound) place_at key b (subst (λ (k : List ℕ). at k key ≡ false) callee_is differs)

  own_count : counted next slot.key (dropped R.canister) ≡ R.canister
  own_count =
      let there : lookup (at (callee_of slot.message)) s.canisters ≡ Some (dropped slot.canister) = ap (λ k. lookup (at k) s.canisters) (sym callee_is) ∙ is.there in
      let same : local entering (env_at s.time limit price) (counted s (callee_of slot.message) (dropped slot.canister)) slot.message ≡ R =
      ap (λ c. local entering (env_at s.time limit price) c slot.message) (ap (λ k. counted s k (dropped slot.canister)) (sym callee_is) ∙ is.counts) in
      let own = counts_own entering entries_keep as_absent as_absent_keeps limit price s place slot.message (tallied s sound) place_at (dropped slot.canister) there in
      ap (λ k. counted next k (dropped R.canister)) callee_is
      ∙ subst (λ (h : Handled). counted next (callee_of slot.message) (dropped h.canister) ≡ h.canister) same own

  pub next_is : counted_state next ≡ put_in (record (counted_state s) { messages = W }) slot.key R
  next_is =
      let t = placed (record s { messages = W }) slot.key R in
      let turn : next ≡ t = turn_is as_absent in
      let canisters : map (counted_entry t) t.canisters ≡ set_value (at slot.key) (map (counted_entry s) s.canisters) R.canister =
      counted_set s t slot.key R.canister (ap (λ u. counted u slot.key (dropped R.canister)) (sym turn) ∙ own_count) (λ k b differs. ap (λ u. counted u k b) (sym turn) ∙ others_count k b differs) s.canisters
      (IsDistinct-from_sorted (slice_cmp nat_cmp) (keys_of s.canisters) (tallied s sound).rises) in
      ap counted_state turn ∙ ap (λ es. record (counted_state t) { canisters = es }) canisters

  -- other slots stay slots
  slot_stays : (other : Slot) → at slot.key other.key ≡ false → IsSlot s other → IsSlot next other
  slot_stays other differs was =
      record {
        there = ap (λ (t : State). lookup (at other.key) t.canisters) (turn_is as_absent)
            ∙ lookup-set_value laws (at slot.key) (λ x y e. laws.congr slot.key x y e) other.key (dropped R.canister) s.canisters (rw is.there refl)
            ∙ cond-false _ _ _ differs ∙ was.there;
        counts = others_count other.key (dropped other.canister) differs ∙ was.counts;
        message = ap (λ (t : State). find (λ (m : Message). at other.key (callee_of m)) t.messages) (turn_is as_absent)
            ∙ ap (find (λ (m : Message). at other.key (callee_of m))) (append_assoc W R.calls (flat_map (routed slot.key) R.answers))
            ∙ find_longer (λ (m : Message). at other.key (callee_of m)) W (R.calls ++ flat_map (routed slot.key) R.answers) other.message
            (find_without slot.key other.key s.messages other.message differs was.message);
      }

  pub slots_stay : (slots : List Slot) → AreApart slot.key slots → AllByRecursion (IsSlot s) slots → AllByRecursion (IsSlot next) slots
  slots_stay [] differ all = tt
  slots_stay (other ∷ slots) differ all = (slot_stays other differ.0 all.0, slots_stay slots differ.1 all.1)

-- ---- one after another, and all together

pub batch : (outside : Outside) (limit price : ℕ) (s : State) (slots : List Slot) → Sound s → AreDistinct (keys_of_slots slots) → AllByRecursion (IsSlot s) slots
    → counted_state (along (system_rules outside limit price) s (turns (system_rules outside limit price) s (keys_of_slots slots)))
    ≡ fold (after_slot_in_place (env_at s.time limit price)) (record (counted_state s) { messages = left slots s.messages }) slots
batch outside limit price s [] sound distinct all = refl
batch outside limit price s (slot ∷ slots) sound distinct all =
    let rules = system_rules outside limit price in
    let t = next limit price s sound slot all.0 in
    let W = without_first slot.key s.messages in
    let R = ran (env_at s.time limit price) slot in
    let sent = R.calls ++ flat_map (routed slot.key) R.answers in
    let w = put_in (record (counted_state s) { messages = W }) slot.key R in
    let apart_from = IsDistinct-head _ slot.key (keys_of_slots slots) distinct in
    let rest = IsDistinct-tail _ slot.key (keys_of_slots slots) distinct in
    let firsts = all_without slot.key s.messages slots apart_from (have_first s slots all.1) in
    ap (λ u. counted_state (along rules u (turns rules u (keys_of_slots slots)))) (same_turn limit price s sound slot all.0 outside)
    ∙ batch outside limit price t slots (next_sound limit price s sound slot all.0) rest (slots_stay limit price s sound slot all.0 slots apart_from all.1)
    ∙ ap (λ (v : Stored). fold (after_slot_in_place (env_at v.time limit price)) (record v { messages = left slots v.messages }) slots) (next_is limit price s sound slot all.0)
    ∙ ap (λ l. fold (after_slot_in_place (env_at s.time limit price)) (record w { messages = l }) slots)
    (ap (left slots) (append_assoc W R.calls (flat_map (routed slot.key) R.answers)) ∙ left-append slots W sent rest firsts ∙ sym (append_assoc (left slots W) R.calls (flat_map (routed slot.key) R.answers)))
