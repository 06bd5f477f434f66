-- A round is a chain of steps.
use Rattle.std.proofs.Common.{◌≡◌, ℕ, ◌+◌, suc, zero, Bool, true, false, List, [], ◌∷◌, ◌++◌, length, take, Option, Some, None, refl, sym, ap, ◌∙◌, subst, inl, inr}
use Rattle.std.specs.Prelude.{slice_get, MatchOption}
use Rattle.std.specs.List.{list_any, remove, filter, AllByRecursion, IsDistinct}
use Rattle.std.specs.List.Sorted.{IsStrictlySortedBy}
use Rattle.std.specs.Ordering.{nat_cmp, eq_by_cmp}
use Rattle.std.specs.Cmp.Lexicographic.{slice_cmp}
use Rattle.std.specs.Map.{keys_of}
use Rattle.std.proofs.lemmas.Bool.{cases_Bool, and_parts, not-true, or_parts, or_from, or_left, or_right, and_right}
use Rattle.std.proofs.lemmas.Map.Keys.{IsDistinct-tail, IsDistinct-head, IsDistinct-from_sorted}
use Rattle.std.proofs.lemmas.Map.Made.{is_some-lookup}
use Rattle.std.proofs.lemmas.List.Kept.{IsStrictlySortedBy-filter}
use Rattle.ic_behaviour.specs.declared.call.Message.{Message}
use Rattle.ic_behaviour.specs.State.{at, callee_of, State}
use Rattle.ic_behaviour.proofs.Weights.{laws, at-self, at-is, at-back}
use Rattle.ic_behaviour.specs.Steps.{Rules, step, sender_of, same_way, IsEligible, along, AreEligible}
use Rattle.ic_behaviour.specs.Round.{goes, sweep, first_phase, second_phase, round, turns, busy, has_message, first_for}
use Rattle.ic_behaviour.proofs.Lists.{First, first, first_place, slice_get_at, take_front, remove_at, any_stays}
use Rattle.ic_behaviour.proofs.Delivers.{is_there, there_by_keys, Left, deliver_left}

-- ---- the second phase

goes_eligible : (s : State) (place : ℕ) → goes s place (slice_get s.messages place) ≡ true → IsEligible s place
goes_eligible s place go = found (slice_get s.messages place) go where
  found : (o : Option Message) → goes s place o ≡ true → MatchOption o ⊥ (λ m. list_any (same_way m) (take place s.messages) ≡ false)
  found None go = cc
  found (Some m) go = not-true _ (and_parts _ _ go).1

pub sweep_eligible : (rules : Rules) (count place : ℕ) (s : State) → AreEligible rules s (sweep rules count place s)
unfolding sweep
sweep_eligible rules zero place s = tt
sweep_eligible rules (suc count) place s =
    elim (cases_Bool (goes s place (slice_get s.messages place))) [
      | inl go ↦ rw go (goes_eligible s place go, sweep_eligible rules count place (step rules s place))
      | inr stay ↦ rw stay (sweep_eligible rules count (place + 1) s)
    ]

-- ---- the first phase

-- the test of messages to a canister
abbrev is_to : List ℕ → Message → Bool
is_to key m = at key (callee_of m)

-- each of these is a canister, and has a message
abbrev pub Ready : State → List (List ℕ) → Type 0
Ready s keys = AllByRecursion (λ key. is_there s key × (has_message s.messages key ≡ true)) keys

apart : (key other callee : List ℕ) → at key other ≡ false → at key callee ≡ true → at other callee ≡ false
apart key other callee differ is = laws.symm other callee ∙ sym (laws.congr key callee other is) ∙ differ

module _ (rules : Rules) (s : State) (key : List ℕ) (there : is_there s key) (found : First (is_to key) s.messages) where
  found_place : first_for key s.messages ≡ length found.front
  found_place = ap (first_for key) found.whole ∙ first_place (is_to key) found.front found.it found.back found.none_before found.passes

  found_at : slice_get s.messages (first_for key s.messages) ≡ Some found.it
  found_at = rw (found_place, found.whole) (slice_get_at found.front found.it found.back)

  found_removed : remove s.messages (first_for key s.messages) ≡ found.front ++ found.back
  found_removed = rw (found_place, found.whole) (remove_at found.front found.it found.back)

  found_left : Left rules s (first_for key s.messages)
  found_left = deliver_left rules s (first_for key s.messages) found.it found_at (subst (is_there s) (at-is key (callee_of found.it) found.passes) there)

  found_none : (front : List Message) (m : Message) → list_any (is_to key) front ≡ false → is_to key m ≡ true → list_any (same_way m) front ≡ false
  found_none [] m none is = refl
  found_none (x ∷ front) m none is =
      let parts = or_parts (is_to key x) (list_any (is_to key) front) none in
      let differs : at (callee_of m) (callee_of x) ≡ false = at-back (callee_of x) (callee_of m) (laws.symm (callee_of x) (callee_of m) ∙ sym (laws.congr key (callee_of m) (callee_of x) is) ∙ parts.0) in
      or_from _ _ (and_right (at (sender_of m) (sender_of x)) (at (callee_of m) (callee_of x)) differs) (found_none front m parts.1 is)

  found_eligible : IsEligible s (first_for key s.messages)
  found_eligible =
      let none : list_any (same_way found.it) (take (first_for key s.messages) s.messages) ≡ false =
      rw (found_place, found.whole, take_front) (found_none found.front found.it found.none_before found.passes) in
      rw found_at none

  -- the other canisters keep a message
  others_ready : (keys : List (List ℕ)) → AllByRecursion (λ other. at key other ≡ false) keys → Ready s keys → Ready (step rules s (first_for key s.messages)) keys
  others_ready [] apart_from ready = tt
  others_ready (other ∷ keys) apart_from ready =
      let had : list_any (is_to other) (found.front ++ found.it ∷ found.back) ≡ true = rw found.whole at ready.0.1 in
      let has : has_message (step rules s (first_for key s.messages)).messages other ≡ true =
      rw (found_left.messages, found_removed) (any_stays (is_to other) found.front found.it found.back found_left.outs (apart key other (callee_of found.it) apart_from.0 found.passes) had) in
      ((there_by_keys s (step rules s (first_for key s.messages)) other found_left.keys ready.0.0, has), others_ready keys apart_from.1 ready.1)

pub turns_eligible : (rules : Rules) (s : State) (keys : List (List ℕ)) → IsDistinct (eq_by_cmp (slice_cmp nat_cmp)) keys → Ready s keys → AreEligible rules s (turns rules s keys)
turns_eligible rules s [] distinct ready = tt
turns_eligible rules s (key ∷ keys) distinct ready =
    let found : First (is_to key) s.messages = first (is_to key) s.messages ready.0.1 in (
      found_eligible rules s key ready.0.0 found,
      turns_eligible rules (step rules s (first_for key s.messages)) keys (IsDistinct-tail _ key keys distinct)
          (others_ready rules s key ready.0.0 found keys (IsDistinct-head _ key keys distinct) ready.1),
    )

-- each canister is there once, in rising id
abbrev pub Rises : State → Type 0
Rises s = IsStrictlySortedBy (slice_cmp nat_cmp) (keys_of s.canisters)

ready_filter : (s : State) (keys : List (List ℕ)) → AllByRecursion (is_there s) keys → Ready s (filter (has_message s.messages) keys)
ready_filter s [] there = tt
ready_filter s (key ∷ keys) there =
    elim (cases_Bool (has_message s.messages key)) [
      | inl has ↦ rw has ((there.0, has), ready_filter s keys there.1)
      | inr none ↦ rw none (ready_filter s keys there.1)
    ]

-- every key of a map is there
all_there : (s : State) (keys : List (List ℕ)) → ((key : List ℕ) → list_any (at key) keys ≡ true → is_there s key) → AllByRecursion (is_there s) keys
all_there s [] there = tt
all_there s (key ∷ keys) there = (there key (or_left _ _ (at-self key)), all_there s keys (λ other is. there other (or_right (at other key) _ is)))

busy_ready : (s : State) → Ready s (busy s)
busy_ready s = ready_filter s (keys_of s.canisters) (all_there s (keys_of s.canisters) (λ key is. is_some-lookup (at key) s.canisters ∙ is))

pub busy_distinct : (s : State) → Rises s → IsDistinct (eq_by_cmp (slice_cmp nat_cmp)) (busy s)
busy_distinct s rises =
    IsDistinct-from_sorted (slice_cmp nat_cmp) (busy s) (IsStrictlySortedBy-filter (slice_cmp nat_cmp) (has_message s.messages) (keys_of s.canisters) rises)

-- ---- a round

pub first_phase_eligible : (rules : Rules) (s : State) → Rises s → AreEligible rules s (first_phase rules s)
unfolding first_phase
first_phase_eligible rules s rises = turns_eligible rules s (busy s) (busy_distinct s rises) (busy_ready s)

pub second_phase_eligible : (rules : Rules) (s : State) → AreEligible rules s (second_phase rules s)
unfolding second_phase
second_phase_eligible rules s = sweep_eligible rules (length s.messages) 0 s

pub eligible_append : (rules : Rules) (s : State) (xs ys : List ℕ) → AreEligible rules s xs → AreEligible rules (along rules s xs) ys → AreEligible rules s (xs ++ ys)
eligible_append rules s [] ys first second = second
eligible_append rules s (x ∷ xs) ys first second = (first.0, eligible_append rules (step rules s x) xs ys first.1 second)

pub round_eligible : (rules : Rules) (s : State) → Rises s → AreEligible rules s (round rules s)
unfolding round
round_eligible rules s rises =
    eligible_append rules s (first_phase rules s) _ (first_phase_eligible rules s rises) (second_phase_eligible rules (along rules s (first_phase rules s)))
