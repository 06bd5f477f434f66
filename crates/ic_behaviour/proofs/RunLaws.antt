-- Runs, and deliveries as acts of a run.
use Rattle.std.proofs.Common.{◌≡◌, ◌<◌, ℕ, suc, zero, List, [], ◌∷◌, ◌++◌, length, map, refl, arith}
use Rattle.std.specs.Prelude.{slice_get, MatchOption}
use Rattle.ic_behaviour.specs.State.{State}
use Rattle.ic_behaviour.specs.Submitted.{empty}
use Rattle.ic_behaviour.specs.Steps.{Rules, step, IsEligible, along, AreEligible}
use Rattle.ic_behaviour.specs.Runs.{Act, Delivers, Submits, SetsTime, after_act, after, IsAllowed, AreAllowed, AllStates, AllDeliveries, OfDelivery, HasMessage, IsRun, IsAnyRun}

pub along-append : (rules : Rules) (s : State) (xs ys : List ℕ) → along rules s (xs ++ ys) ≡ along rules (along rules s xs) ys
along-append rules s [] ys = refl
along-append rules s (x ∷ xs) ys = along-append rules (step rules s x) xs ys

-- deliveries as acts of a run
pub after_delivers : (rules : Rules) (s : State) (places : List ℕ) → after rules s (map Delivers places) ≡ along rules s places
after_delivers rules s [] = refl
after_delivers rules s (place ∷ places) = after_delivers rules (step rules s place) places

pub delivers_allowed : (rules : Rules) (s : State) (places : List ℕ) → AreEligible rules s places → AreAllowed IsEligible rules s (map Delivers places)
delivers_allowed rules s [] eligible = tt
delivers_allowed rules s (place ∷ places) eligible = (eligible.0, delivers_allowed rules (step rules s place) places eligible.1)

pub after-append : (rules : Rules) (s : State) (xs ys : List Act) → after rules s (xs ++ ys) ≡ after rules (after rules s xs) ys
after-append rules s [] ys = refl
after-append rules s (x ∷ xs) ys = after-append rules (after_act rules s x) xs ys

pub allowed-append : (may : State → ℕ → Type 0) (rules : Rules) (s : State) (xs ys : List Act) → AreAllowed may rules s xs → AreAllowed may rules (after rules s xs) ys
    → AreAllowed may rules s (xs ++ ys)
allowed-append may rules s [] ys first second = second
allowed-append may rules s (x ∷ xs) ys first second = (first.0, allowed-append may rules (after_act rules s x) xs ys first.1 second)

-- what is eligible is there
within : {X : Type 0} (xs : List X) (place : ℕ) (P : X → Type 0) → MatchOption (slice_get xs place) ⊥ P → place < length xs
within [] place P h = absurd h
within (x ∷ xs) zero P h = omega arith
within (x ∷ xs) (suc place) P h = omega (arith, within xs place P h)

any_act : (s : State) (act : Act) → IsAllowed IsEligible s act → IsAllowed HasMessage s act
any_act s (Delivers place) allowed = within s.messages place _ allowed
any_act s (Submits sender callee method arg) allowed = allowed
any_act s (SetsTime time) allowed = allowed

pub any_allowed : (rules : Rules) (s : State) (acts : List Act) → AreAllowed IsEligible rules s acts → AreAllowed HasMessage rules s acts
any_allowed rules s [] allowed = tt
any_allowed rules s (act ∷ acts) allowed = (any_act s act allowed.0, any_allowed rules (after_act rules s act) acts allowed.1)

-- what the first state has and every allowed act keeps, each state has
pub all_states : (P : State → Type 0) (may : State → ℕ → Type 0) (rules : Rules)
    → ((s : State) (act : Act) → P s → IsAllowed may s act → P (after_act rules s act))
    → (s : State) (acts : List Act) → P s → AreAllowed may rules s acts → AllStates P rules s acts
all_states P may rules keeps s [] here allowed = here
all_states P may rules keeps s (act ∷ acts) here allowed =
    (here, all_states P may rules keeps (after_act rules s act) acts (keeps s act here allowed.0) allowed.1)

-- what holds of every delivery holds of each one of a run
of_delivery : (P : State → ℕ → Type 0) (s : State) (act : Act) → ((place : ℕ) → P s place) → OfDelivery (P s) act
of_delivery P s (Delivers place) law = law place
of_delivery P s (Submits sender callee method arg) law = tt
of_delivery P s (SetsTime time) law = tt

pub all_deliveries : (P : State → ℕ → Type 0) (rules : Rules) → ((s : State) (place : ℕ) → P s place) → (s : State) (acts : List Act) → AllDeliveries P rules s acts
all_deliveries P rules law s [] = tt
all_deliveries P rules law s (act ∷ acts) = (of_delivery P s act (law s), all_deliveries P rules law (after_act rules s act) acts)

pub any_run : (rules : Rules) (acts : List Act) → IsRun rules acts → IsAnyRun rules acts
any_run rules acts is = any_allowed rules empty acts is
