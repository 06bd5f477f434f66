-- A walk down the list, by numbers. No standard has this.
use Rattle.std.specs.Prelude.{◌≡◌, ℕ, ◌<◌, Bool, false, cond, List, Option, Some, None}
use Rattle.std.specs.List.{AllByRecursion}
use Rattle.std.specs.List.Sorted.{IsStrictlySortedBy}
use Rattle.std.specs.Map.{lookup, keys_of}
use Rattle.std.specs.BTreeMap.Range.{entries_below, entries_from}
use Rattle.std.specs.Ordering.{nat_cmp}
use Rattle.std.specs.Cmp.Lexicographic.{slice_cmp}
use Rattle.ic_behaviour.specs.declared.call.Message.{Message}
use Rattle.ic_behaviour.specs.State.{at, callee_of}
use Rattle.ic_behaviour.specs.Steps.{sender_of}
use Rattle.ic_queues.specs.Queued.{has_queue}
use Rattle.ic_queues.specs.Lines.{is_number, numbers_to, is_out}
use Rattle.ic_queues.specs.Shelved.{has_way}

-- the messages that were gone past, and those to come
abbrev pub gone : (place : ℕ) → List (ℕ × Message) → List (ℕ × Message)
gone place entries = entries_below (nat_cmp place) entries

abbrev pub coming : (place : ℕ) → List (ℕ × Message) → List (ℕ × Message)
coming place entries = entries_from (nat_cmp place) entries

-- as `IsQueued`, but the numbers to no canister are in two lists: those to come, and those that were gone past
pub record IsWalked (entries : List (ℕ × Message)) (waiting : List (List ℕ × List ℕ)) (outside stay : List ℕ) (next place : ℕ) : Type 0 where
  pub ordered : IsStrictlySortedBy nat_cmp (keys_of entries)
  pub below : AllByRecursion (λ n. n < next) (keys_of entries)
  pub queues : IsStrictlySortedBy (slice_cmp nat_cmp) (keys_of waiting)
  pub theirs : (key : List ℕ) → lookup (at key) waiting ≡ cond (has_queue (keys_of waiting) key) (Some (numbers_to (at key) entries)) None
  pub ahead : outside ≡ numbers_to (is_out (keys_of waiting)) (coming place entries)
  pub stayed : stay ≡ numbers_to (is_out (keys_of waiting)) (gone place entries)

-- ---- two messages, by their numbers

abbrev pub way_of : Message → List ℕ × List ℕ
way_of m = (sender_of m, callee_of m)

abbrev pub of_way : Option Message → Option Message → Bool
of_way None other = false
of_way (Some m) other = has_way other m

abbrev pub is_of_way : List (ℕ × Message) → (number other : ℕ) → Bool
is_of_way entries number other = of_way (lookup (is_number number) entries) (lookup (is_number other) entries)
