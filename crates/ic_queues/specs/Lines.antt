-- How queues are in memory: messages under numbers that rise, and queues of numbers. No standard has this.
use Rattle.std.specs.Prelude.{◌≡◌, ℕ, ◌<◌, Bool, cond, not, List, [], ◌∷◌, ◌++◌, drop, slice_get, Option, Some, None}
use Rattle.std.specs.List.{fold, AllByRecursion}
use Rattle.std.specs.List.Sorted.{IsStrictlySortedBy}
use Rattle.std.specs.Map.{lookup, remove_entry, set_value, keys_of}
use Rattle.std.specs.Set.{remove_key}
use Rattle.std.specs.BTreeMap.{is_at, insert_entry}
use Rattle.std.specs.Ordering.{nat_cmp}
use Rattle.std.specs.Cmp.Lexicographic.{slice_cmp}
use Rattle.ic_behaviour.specs.declared.call.Message.{Message}
use Rattle.ic_behaviour.specs.State.{at, callee_of}
use Rattle.ic_queues.specs.Queued.{has_queue}

-- whether a number is this one, as a map looks it up
abbrev pub is_number : ℕ → ℕ → Bool
is_number n = is_at (nat_cmp n)

-- the numbers of the messages whose callee passes, in the order of the list
abbrev pub numbers_to : (List ℕ → Bool) → List (ℕ × Message) → List ℕ
numbers_to is [] = []
numbers_to is (e ∷ es) = cond (is (callee_of e.1)) (e.0 ∷ numbers_to is es) (numbers_to is es)

abbrev pub is_out : (canisters : List (List ℕ)) → List ℕ → Bool
is_out canisters key = not (has_queue canisters key)

-- the messages by number, the numbers that wait for each canister and for none, and the number of the next message
pub record IsQueued (entries : List (ℕ × Message)) (waiting : List (List ℕ × List ℕ)) (outside : List ℕ) (next : ℕ) : Type 0 where
  pub ordered : IsStrictlySortedBy nat_cmp (keys_of entries)
  pub below : AllByRecursion (λ n. n < next) (keys_of entries)
  pub queues : IsStrictlySortedBy (slice_cmp nat_cmp) (keys_of waiting)
  pub theirs : (key : List ℕ) → lookup (at key) waiting ≡ cond (has_queue (keys_of waiting) key) (Some (numbers_to (at key) entries)) None
  pub others : outside ≡ numbers_to (is_out (keys_of waiting)) entries

-- ---- one message

-- the message of a number leaves
abbrev pub remove_number : Option ℕ → List (ℕ × Message) → List (ℕ × Message)
remove_number None entries = entries
remove_number (Some n) entries = remove_entry (is_number n) entries

abbrev pub numbered : Option ℕ → List (ℕ × Message) → Option Message
numbered None entries = None
numbered (Some n) entries = lookup (is_number n) entries

-- the first number of a queue leaves
abbrev pub line_at : Option (List ℕ) → Option ℕ
line_at None = None
line_at (Some line) = slice_get line 0

abbrev pub popped_line : List (List ℕ × List ℕ) → (key : List ℕ) → Option (List ℕ) → List (List ℕ × List ℕ)
popped_line waiting key None = waiting
popped_line waiting key (Some line) = set_value (at key) waiting (drop 1 line)

-- a number comes last in its queue
abbrev pub waiting_with : List (List ℕ × List ℕ) → (key : List ℕ) → ℕ → Option (List ℕ) → List (List ℕ × List ℕ)
waiting_with waiting key n None = waiting
waiting_with waiting key n (Some line) = set_value (at key) waiting (line ++ n ∷ [])

abbrev pub outside_with : List ℕ → ℕ → Option (List ℕ) → List ℕ
outside_with outside n None = outside ++ n ∷ []
outside_with outside n (Some line) = outside

-- a number leaves its queue
abbrev pub without_number : ℕ → List ℕ → List ℕ
without_number n line = remove_key (is_number n) line

abbrev pub waiting_without : List (List ℕ × List ℕ) → (key : List ℕ) → ℕ → Option (List ℕ) → List (List ℕ × List ℕ)
waiting_without waiting key n None = waiting
waiting_without waiting key n (Some line) = set_value (at key) waiting (without_number n line)

abbrev pub outside_without : List ℕ → ℕ → Option (List ℕ) → List ℕ
outside_without outside n None = without_number n outside
outside_without outside n (Some line) = outside

-- an empty queue for each of these
abbrev pub empty_lines : List (List ℕ) → List (List ℕ × List ℕ)
empty_lines keys = fold (λ waiting key. insert_entry (slice_cmp nat_cmp) waiting key []) [] keys
