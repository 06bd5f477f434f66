-- Whether a place is eligible.
use Rattle.std.proofs.Common.{◌≡◌, ℕ, Bool, true, false, not, List, Option, Some, None, refl, sym, ap, ◌∙◌, take, true≢false}
use Rattle.std.specs.Prelude.{slice_get, MatchOption}
use Rattle.std.specs.List.{list_any}
use Rattle.ic_behaviour.specs.declared.call.Message.{Message}
use Rattle.ic_behaviour.specs.State.{State}
use Rattle.ic_behaviour.specs.Steps.{same_way, IsEligible}
use Rattle.ic_schedule.specs.Picks.{goes_first, is_eligible}

fails : (b : Bool) → not b ≡ true → b ≡ false
fails false is = refl
fails true is = absurd (true≢false (sym is))

goes : (earlier : List Message) (o : Option Message) → goes_first earlier o ≡ true → MatchOption o ⊥ (λ m. list_any (same_way m) earlier ≡ false)
goes earlier None is = absurd (true≢false (sym is))
goes earlier (Some m) is = fails (list_any (same_way m) earlier) is

stays : (earlier : List Message) (o : Option Message) → goes_first earlier o ≡ false → ¬ MatchOption o ⊥ (λ m. list_any (same_way m) earlier ≡ false)
stays earlier None is = λ no. no
stays earlier (Some m) is = λ none. true≢false (sym (ap not none) ∙ is)

pub is-eligible : (s : State) (place : ℕ) → is_eligible s place ≡ true → IsEligible s place
is-eligible s place = goes (take place s.messages) (slice_get s.messages place)

pub not-eligible : (s : State) (place : ℕ) → is_eligible s place ≡ false → ¬ IsEligible s place
not-eligible s place = stays (take place s.messages) (slice_get s.messages place)

pub eligible-is : (s : State) (place : ℕ) → IsEligible s place → is_eligible s place ≡ true
eligible-is s place goes_now = by (is_eligible s place) refl where
  by : (b : Bool) → is_eligible s place ≡ b → is_eligible s place ≡ true
  by true is = is
  by false is = absurd (not-eligible s place is goes_now)

pub eligible-not : (s : State) (place : ℕ) → ¬ IsEligible s place → is_eligible s place ≡ false
eligible-not s place stays_now = by (is_eligible s place) refl where
  by : (b : Bool) → is_eligible s place ≡ b → is_eligible s place ≡ false
  by false is = is
  by true is = absurd (stays_now (is-eligible s place is))
