-- Rounds: each canister handles one message, and then messages to no canister are handled. The order is a profile of this project, within the "Ordering guarantees" of the IC Interface Specification.
use Rattle.std.specs.Prelude.{ℕ, ◌+◌, zero, suc, ◌==◌, Bool, false, cond, not, ◌&&◌, List, [], ◌∷◌, ◌++◌, length, Option, Some, None, slice_get, take, is_some}
use Rattle.std.specs.List.{list_any, filter, position_or_len}
use Rattle.std.specs.Map.{keys_of, lookup}
use Rattle.ic_behaviour.specs.declared.call.Message.{Message}
use Rattle.ic_behaviour.specs.State.{at, callee_of, State}
use Rattle.ic_behaviour.specs.Steps.{Rules, step, same_way, along}

-- ---- the first phase

abbrev pub has_message : List Message → (key : List ℕ) → Bool
has_message messages key = list_any (λ m. at key (callee_of m)) messages

-- the place of the first message to a canister
abbrev pub first_for : (key : List ℕ) → List Message → ℕ
first_for key messages = position_or_len (λ m. at key (callee_of m)) messages

-- the canisters that have a message, in rising id
abbrev pub busy : State → List (List ℕ)
busy s = filter (has_message s.messages) (keys_of s.canisters)

-- the first message to each of these canisters is delivered; the places
abbrev pub turns : Rules → State → List (List ℕ) → List ℕ
turns rules s [] = []
turns rules s (key ∷ keys) = first_for key s.messages ∷ turns rules (step rules s (first_for key s.messages)) keys

unfoldable pub first_phase : Rules → State → List ℕ
first_phase rules s = turns rules s (busy s)

-- ---- the second phase

-- its callee is no canister, and no message of its sender to its callee is left before it
abbrev pub goes : State → (place : ℕ) → Option Message → Bool
goes s place None = false
goes s place (Some m) = not (is_some (lookup (at (callee_of m)) s.canisters)) && not (list_any (same_way m) (take place s.messages))

-- this many messages are gone through, from this place on, and those that go are delivered; the places
unfoldable pub sweep : Rules → (count place : ℕ) → State → List ℕ
sweep rules zero place s = []
sweep rules (suc count) place s =
    cond (goes s place (slice_get s.messages place))
    (place ∷ sweep rules count place (step rules s place))
    (sweep rules count (place + 1) s)

-- messages that are made in it wait for a later round
unfoldable pub second_phase : Rules → State → List ℕ
second_phase rules s = sweep rules (length s.messages) 0 s

-- ---- rounds

-- the places of the messages that are delivered
unfoldable pub round : Rules → State → List ℕ
round rules s = first_phase rules s ++ second_phase rules (along rules s (first_phase rules s))

-- up to this many rounds, the places of each: they end where no message is under way
unfoldable pub rounds : Rules → (count : ℕ) → State → List (List ℕ)
rounds rules zero s = []
rounds rules (suc count) s =
    cond (length s.messages == 0) [] (round rules s ∷ rounds rules count (along rules s (round rules s)))
