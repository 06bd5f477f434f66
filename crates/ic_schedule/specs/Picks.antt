-- A list of places is delivered in its order, as far as each is eligible (IC Interface Specification, "Ordering guarantees").
use Rattle.std.specs.Prelude.{◌≡◌, ℕ, ◌≤◌, Bool, false, cond, not, List, [], ◌∷◌, length, Option, Some, None, MatchOption, slice_get, take}
use Rattle.std.specs.List.{list_any}
use Rattle.ic_behaviour.specs.declared.call.Message.{Message}
use Rattle.ic_behaviour.specs.State.{State}
use Rattle.ic_behaviour.specs.Steps.{Rules, step, same_way, IsEligible}
use Rattle.ic_schedule.specs.Delivery.{Manages, Delivers}

-- ---- whether a place is eligible

abbrev pub goes_first : List Message → Option Message → Bool
goes_first earlier None = false
goes_first earlier (Some m) = not (list_any (same_way m) earlier)

-- there is a message at the place, and no earlier one has its sender and its callee
abbrev pub is_eligible : State → (place : ℕ) → Bool
is_eligible s place = goes_first (take place s.messages) (slice_get s.messages place)

-- ---- a replay

-- the messages at these places are delivered in turn, each eligible in its state
abbrev pub Chain : Manages → (limit price : ℕ) → State → (places : List ℕ) → State → Type 0
Chain manages limit price s [] t = t ≡ s
Chain manages limit price s (place ∷ places) t =
    IsEligible s place × ((u : State) × Delivers manages limit price s place u × Chain manages limit price u places t)

-- this many of the picks were delivered: all of them, or the next one is not eligible
pub record Picks (manages : Manages) (limit price : ℕ) (s : State) (picks : List ℕ) (t : State) (count : ℕ) : Type 0 where
  pub few : count ≤ length picks
  pub delivered : Chain manages limit price s (take count picks) t
  pub ends : MatchOption (slice_get picks count) (Unit {0}) (λ place. ¬ IsEligible t place)

-- ---- one pick

-- the state after one pick, as rules have it
abbrev pub picked : Rules → State → (place : ℕ) → State
picked rules s place = cond (is_eligible s place) (step rules s place) s
