-- Messages in queues: one for each canister, and one for those to no canister. No standard has this.
use Rattle.std.specs.Prelude.{◌≡◌, ℕ, Bool, true, false, cond, not, ◌&&◌, ◌||◌, List, [], ◌∷◌, ◌++◌, codes, Option, Some, None}
use Rattle.std.specs.List.{list_any, find, remove}
use Rattle.std.specs.Set.{remove_key}
use Rattle.std.specs.Str.{bytes_eq}
use Rattle.ic_behaviour.specs.declared.call.Message.{Message}
use Rattle.ic_behaviour.specs.declared.call.Message.TheVariants.{Call, Answer}
use Rattle.ic_behaviour.specs.State.{at, callee_of}
use Rattle.ic_behaviour.specs.Steps.{same_way}
use Rattle.ic_behaviour.specs.Deliver.{is_management}

-- ---- messages that make or delete canisters

abbrev pub may_change_canisters : (method : List ℕ) → Bool
may_change_canisters method =
    bytes_eq method (codes "create_canister")
    || (bytes_eq method (codes "provisional_create_canister_with_cycles") || bytes_eq method (codes "delete_canister"))

-- a message that makes and deletes no canister
abbrev pub is_steady : Message → Bool
is_steady (Call from sender callee method arg cycles) = not (is_management callee && may_change_canisters method)
is_steady (Answer from sender response refund) = true

-- ---- the list

-- the list of messages, and the canisters that have a queue
pub record Queued : Type 0 where
  pub canisters : List (List ℕ)
  pub messages : List Message

abbrev pub has_queue : (canisters : List (List ℕ)) → List ℕ → Bool
has_queue canisters key = list_any (at key) canisters

-- whether a message is to one of the canisters
abbrev pub is_inside : (canisters : List (List ℕ)) → Message → Bool
is_inside canisters m = has_queue canisters (callee_of m)

-- the first message to a canister, and the list without it
abbrev pub first_to : List ℕ → Queued → Option Message
first_to key w = cond (has_queue w.canisters key) (find (λ m. at key (callee_of m)) w.messages) None

abbrev pub without_first : List ℕ → List Message → List Message
without_first key messages = remove_key (λ m. at key (callee_of m)) messages

abbrev pub without_first_to : List ℕ → Queued → Queued
without_first_to key w = cond (has_queue w.canisters key) (record w { messages = without_first key w.messages }) w

-- a message comes last
abbrev pub push : Queued → Message → Queued
push w m = record w { messages = w.messages ++ m ∷ [] }

-- the message at a place leaves
abbrev pub without_at : (place : ℕ) → Queued → Queued
without_at place w = record w { messages = remove w.messages place }

-- there is a message, and no earlier one has its sender and its callee
abbrev pub first_of_way : (earlier : List Message) → Option Message → Bool
first_of_way earlier None = false
first_of_way earlier (Some m) = not (list_any (same_way m) earlier)

abbrev pub no_messages : (canisters : List (List ℕ)) → Queued
no_messages canisters = record { canisters = canisters; messages = [] }

-- ---- a walk down the list

-- the messages that were gone past, and those to come
pub record Walked : Type 0 where
  pub canisters : List (List ℕ)
  pub kept : List Message
  pub todo : List Message

-- each of these, met after those that were kept, stays: its callee is a canister, or one of its sender to its callee has stayed
abbrev pub AllStay : (canisters : List (List ℕ)) (kept : List Message) → List Message → Type 0
AllStay canisters kept [] = Unit {0}
AllStay canisters kept (m ∷ messages) = ((is_inside canisters m || list_any (same_way m) kept) ≡ true) × AllStay canisters (kept ++ m ∷ []) messages

-- some of the messages to come were gone past, and they stay
pub record GoesPast (w v : Walked) : Type 0 where
  pub front : List Message
  pub stay : AllStay w.canisters w.kept front
  pub kept : v.kept ≡ w.kept ++ front
  pub todo : w.todo ≡ front ++ v.todo
  pub canisters : v.canisters ≡ w.canisters

-- then one goes, which leaves
pub record Takes (w : Walked) (m : Message) (v : Walked) : Type 0 where
  pub past : GoesPast w (record v { todo = m ∷ v.todo })
  pub goes : (is_inside w.canisters m || list_any (same_way m) v.kept) ≡ false

-- what comes of a step of a walk
abbrev pub Steps : Walked → Walked → Option Message → Type 0
Steps w v None = GoesPast w v
Steps w v (Some m) = Takes w m v
