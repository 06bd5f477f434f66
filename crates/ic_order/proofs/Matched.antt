-- From states that differ only in the order of messages that go different ways, deliveries lead to such states.
use Rattle.std.proofs.Common.{◌≡◌, ℕ, ◌+◌, false, List, ◌∷◌, ◌++◌, length, take, drop, suc, Option, Some, None, refl, sym, ap, ap₂, ◌∙◌, subst, inl, inr}
use Rattle.std.specs.Prelude.{slice_get, MatchOption}
use Rattle.std.specs.List.{list_any, remove, flat_map, fold}
use Rattle.std.specs.Map.{lookup, set_value}
use Rattle.std.proofs.lemmas.Bool.{cases_Bool}
use Rattle.ic_behaviour.specs.declared.call.Message.{Message}
use Rattle.ic_behaviour.specs.declared.call.Message.TheVariants.{Call, Answer}
use Rattle.ic_behaviour.specs.declared.call.Answered.{Answered}
use Rattle.ic_behaviour.specs.State.{at, callee_of, Canister, State}
use Rattle.ic_behaviour.specs.Counted.{CountedCanister, counted, dropped}
use Rattle.ic_behaviour.specs.Outcomes.{Enters}
use Rattle.ic_behaviour.specs.Closing.{Handled}
use Rattle.ic_behaviour.specs.Local.{local}
use Rattle.ic_behaviour.specs.Deliver.{filled, routed, answered_by, placed, env_at, Outside, is_management, handled_outside, handled_by, without, delivered, deliver}
use Rattle.ic_behaviour.specs.Steps.{Rules, step}
use Rattle.ic_behaviour.proofs.Lists.{slice_get_at, take_front, remove_at}
use Rattle.ic_order.specs.Ways.{way_of, is_on, MayComeNext}
use Rattle.ic_order.specs.Order.{SameWays, SameState, IsMatched, RespectsOrder}
use Rattle.ic_order.proofs.Firsts.{around}
use Rattle.ic_order.proofs.Ways.{ways_append, other_place, ways_left}
use Rattle.ic_order.proofs.Same.{counts_same}

-- ---- one message is handled

module _ (s t : State) (same : SameState s t) where
  answered_same : (sender : List ℕ) (a : Answered) → SameState (answered_by sender a s) (answered_by sender a t)
  answered_same sender a = record {
    rest = ap (λ (u : State). let w : State = record u { requests = filled u.requests a } in w) same.rest;
    messages = ways_append s.messages t.messages (routed sender a) same.messages;
  }

  placed_same : (key : List ℕ) (h : Handled) → SameState (placed s key h) (placed t key h)
  placed_same key h = record {
    rest =
        ap (λ (u : State). let w : State = record u { canisters = set_value (at key) u.canisters (dropped h.canister); requests = fold filled u.requests h.answers; burned = u.burned + h.burned } in w)
        same.rest;
    messages =
        ways_append (s.messages ++ h.calls) (t.messages ++ h.calls) (flat_map (routed key) h.answers)
        (ways_append s.messages t.messages h.calls same.messages);
  }

  module _ (outside : Outside) (respects : RespectsOrder outside) (limit : ℕ) where
    outside_same : (m : Message) → SameState (handled_outside outside limit s m) (handled_outside outside limit t m)
    outside_same (Call from sender callee method arg cycles) =
        elim (cases_Bool (is_management callee)) [
          | inl is ↦ rw is (respects limit s t (Call from sender callee method arg cycles) same)
          | inr other ↦ rw other (answered_same callee _)
        ]
    outside_same (Answer from sender response refund) = same

    -- b and d are the states that still have the message, whose counts are taken
    pub handled_same : (enters : Enters) (price : ℕ) (b d : State) → SameState b d → (m : Message) (o : Option Canister)
        → SameState (handled_by enters outside limit price b s m o) (handled_by enters outside limit price d t m o)
    handled_same enters price b d before m None = outside_same m
    handled_same enters price b d before m (Some c) =
        let does : ℕ → CountedCanister → Handled = λ time x. local enters (env_at time limit price) x m in
        let alike : does s.time (counted b (callee_of m) c) ≡ does t.time (counted d (callee_of m) c) =
        ap₂ does (ap (λ (u : State). u.time) same.rest) (counts_same b d before (callee_of m) c) in
        subst (λ h. SameState (placed s (callee_of m) (does s.time (counted b (callee_of m) c))) (placed t (callee_of m) h)) alike
        (placed_same (callee_of m) (does s.time (counted b (callee_of m) c)))

-- ---- a delivery

module _ (rules : Rules) (respects : RespectsOrder rules.outside) where
  step_is : (s : State) (place : ℕ) (m : Message) → slice_get s.messages place ≡ Some m
      → step rules s place ≡ handled_by rules.enters rules.outside rules.limit rules.price s (without s place) m (lookup (at (callee_of m)) s.canisters)
  unfolding deliver
  step_is s place m is = ap (delivered rules.enters rules.outside rules.limit rules.price s place) is

  -- the message at these places leaves both
  at_places : (s t : State) (m : Message) (place other : ℕ) → SameState s t → slice_get s.messages place ≡ Some m → slice_get t.messages other ≡ Some m
      → SameWays (remove s.messages place) (remove t.messages other) → SameState (step rules s place) (step rules t other)
  at_places s t m place other same is is' left =
      let gone : SameState (without s place) (without t other) = record { rest = same.rest; messages = left } in
      let after = handled_same (without s place) (without t other) gone rules.outside respects rules.limit rules.enters rules.price s t same m (lookup (at (callee_of m)) s.canisters) in
      let found = ap (λ (u : State). lookup (at (callee_of m)) u.canisters) same.rest in
      subst (λ u. SameState u (step rules t other)) (sym (step_is s place m is))
      (subst (λ u. SameState (handled_by rules.enters rules.outside rules.limit rules.price s (without s place) m (lookup (at (callee_of m)) s.canisters)) u) (sym (step_is t other m is'))
      (subst (λ p. SameState (handled_by rules.enters rules.outside rules.limit rules.price s (without s place) m (lookup (at (callee_of m)) s.canisters)) (handled_by rules.enters rules.outside rules.limit rules.price t (without t other) m p)) found after))

  matched_at : (s t : State) (place : ℕ) (o : Option Message) → SameState s t → slice_get s.messages place ≡ o
      → MatchOption o ⊥ (λ m. list_any (is_on (way_of m)) (take place s.messages) ≡ false) → IsMatched rules s t place
  matched_at s t place None same is none = absurd none
  matched_at s t place (Some m) same is none =
      let front = take place s.messages in
      let back = drop (suc place) s.messages in
      let ways = subst (λ l. SameWays l t.messages) (around s.messages place m is) same.messages in
      let at = other_place m front back none t.messages ways in
      let left = ways_left m front back none at.front at.back at.none_before (subst (SameWays (front ++ m ∷ back)) at.whole ways) in
      let found = ap (λ l. slice_get l (length at.front)) at.whole ∙ slice_get_at at.front m at.back in
      let removed = ap (λ l. remove l (length at.front)) at.whole ∙ remove_at at.front m at.back in
      let before = ap (take (length at.front)) at.whole ∙ take_front at.front (m ∷ at.back) in
      record {
        other = length at.front;
        message = found ∙ sym is;
        may = subst (λ o. MatchOption o ⊥ (λ n. list_any (is_on (way_of n)) (take (length at.front) t.messages) ≡ false)) (sym found) (ap (list_any (is_on (way_of m))) before ∙ at.none_before);
        after = at_places s t m place (length at.front) same is found (subst (SameWays (remove s.messages place)) (sym removed) left);
      }

  pub matched : (s t : State) (place : ℕ) → SameState s t → MayComeNext s place → IsMatched rules s t place
  matched s t place same may = matched_at s t place (slice_get s.messages place) same refl may
