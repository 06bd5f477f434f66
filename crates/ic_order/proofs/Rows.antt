-- Which messages may come next, at known lists of messages.
use Rattle.std.proofs.Common.{◌≡◌, ℕ, List, [], ◌∷◌, None, refl}
use Rattle.std.proofs.lemmas.Bool.{true≢false}
use Rattle.ic_behaviour.specs.declared.call.CallId.TheVariants as call_id
use Rattle.ic_behaviour.specs.declared.call.Origin.{Origin}
use Rattle.ic_behaviour.specs.declared.call.Origin.TheVariants as origin
use Rattle.ic_behaviour.specs.declared.call.Message.{Message}
use Rattle.ic_behaviour.specs.declared.call.Message.TheVariants.{Call, Answer}
use Rattle.ic_behaviour.specs.declared.call.Response.TheVariants.{Reply}
use Rattle.ic_behaviour.specs.State.{State}
use Rattle.ic_behaviour.specs.Submitted.{empty}
use Rattle.ic_behaviour.specs.Steps.{IsEligible}
use Rattle.ic_order.specs.Ways.{MayComeNext, next_places}

-- the calls of canister 1, by their numbers
abbrev from : ℕ → Origin
from n = origin.Canister (1 ∷ []) n (call_id.Ingress 0) (record { reply_fun = 0; reply_env = 0; reject_fun = 0; reject_env = 0; cleanup = None })

abbrev call : ℕ → (callee : List ℕ) → Message
call n callee = Call (from n) (1 ∷ []) callee [] [] 0

-- what canister 2 answers to them
abbrev answer : ℕ → Message
answer n = Answer (from n) (2 ∷ []) (Reply []) 0

-- the calls of user 9 to canister 2
abbrev asked : ℕ → Message
asked k = Call (origin.Ingress k) (9 ∷ []) (2 ∷ []) [] [] 0

-- ---- calls of one canister to one callee wait for each other,

one_queue : next_places (call 0 (2 ∷ []) ∷ call 1 (2 ∷ []) ∷ []) ≡ 0 ∷ []
one_queue = refl

-- also where other messages are between them, or the canister calls itself,
others_between : next_places (call 0 (2 ∷ []) ∷ answer 2 ∷ asked 0 ∷ call 1 (2 ∷ []) ∷ []) ≡ 0 ∷ 1 ∷ 2 ∷ []
others_between = refl

to_itself : next_places (call 0 (1 ∷ []) ∷ call 1 (1 ∷ []) ∷ []) ≡ 0 ∷ []
to_itself = refl

-- and not for calls to another callee
another_callee : next_places (call 0 (2 ∷ []) ∷ call 1 (3 ∷ []) ∷ call 2 (2 ∷ []) ∷ []) ≡ 0 ∷ 1 ∷ []
another_callee = refl

-- ---- calls of users and answers wait for nothing

two_of_a_user : next_places (asked 0 ∷ asked 1 ∷ []) ≡ 0 ∷ 1 ∷ []
two_of_a_user = refl

two_answers : next_places (answer 0 ∷ answer 1 ∷ []) ≡ 0 ∷ 1 ∷ []
two_answers = refl

-- an answer of the canister to itself, after a call that it made to itself
after_a_call : next_places (call 1 (1 ∷ []) ∷ Answer (from 0) (1 ∷ []) (Reply []) 0 ∷ []) ≡ 0 ∷ 1 ∷ []
after_a_call = refl

-- ---- of eligible messages it is needed that each call has one place: here two canisters answer one call

abbrev twice : State
twice = record empty { messages = answer 0 ∷ Answer (from 0) (3 ∷ []) (Reply []) 0 ∷ [] }

twice_eligible : IsEligible twice 1
twice_eligible = refl

twice_waits : MayComeNext twice 1 → ⊥
twice_waits may = true≢false may
