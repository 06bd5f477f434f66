-- Messages under numbers that rise, with empty places between them. No standard has this.
use Rattle.std.specs.Prelude.{◌≡◌, ℕ, zero, suc, ◌+◌, Bool, true, false, List, [], ◌∷◌, length, option_map, Option, Some, None}
use Rattle.ic_behaviour.specs.declared.call.Message.{Message}
use Rattle.ic_behaviour.specs.Steps.{same_way}

-- the messages with their numbers, and the number of the next one
pub record Shelved : Type 0 where
  pub entries : List (ℕ × Message)
  pub next : ℕ

-- the messages of these places, of which the first has the number n
abbrev pub entries_from : ℕ → List (Option Message) → List (ℕ × Message)
entries_from n [] = []
entries_from n (None ∷ places) = entries_from (suc n) places
entries_from n (Some m ∷ places) = (n, m) ∷ entries_from (suc n) places

abbrev pub starts_empty : List (Option Message) → Bool
starts_empty [] = false
starts_empty (None ∷ places) = true
starts_empty (Some m ∷ places) = false

-- none of this many places at the front is empty
abbrev pub starts_full : ℕ → List (Option Message) → Bool
starts_full zero places = true
starts_full (suc n) [] = false
starts_full (suc n) (None ∷ places) = false
starts_full (suc n) (Some m ∷ places) = starts_full n places

-- each number below the next has a place, no empty place is before all messages, there are `count` messages, and `full` places
-- at the front have one
pub record IsShelf (first : ℕ) (places : List (Option Message)) (next count full : ℕ) : Type 0 where
  pub numbers : first + length places ≡ next
  pub trimmed : starts_empty places ≡ false
  pub counted : length (entries_from first places) ≡ count
  pub filled : starts_full full places ≡ true

abbrev pub messages_of : List (Option Message) → List Message
messages_of [] = []
messages_of (None ∷ places) = messages_of places
messages_of (Some m ∷ places) = m ∷ messages_of places

-- ---- one place

abbrev pub message_at : ℕ → List (Option Message) → Option Message
message_at k [] = None
message_at zero (place ∷ places) = place
message_at (suc k) (place ∷ places) = message_at k places

abbrev pub emptied : ℕ → List (Option Message) → List (Option Message)
emptied k [] = []
emptied zero (place ∷ places) = None ∷ places
emptied (suc k) (place ∷ places) = place ∷ emptied k places

-- without the empty places at the front
abbrev pub trim : List (Option Message) → List (Option Message)
trim [] = []
trim (None ∷ places) = trim places
trim (Some m ∷ places) = Some m ∷ places

-- the index of the message at a place of the list
abbrev pub index_at : (place : ℕ) → List (Option Message) → Option ℕ
index_at place [] = None
index_at place (None ∷ places) = option_map suc (index_at place places)
index_at zero (Some m ∷ places) = Some 0
index_at (suc place) (Some m ∷ places) = option_map suc (index_at place places)

abbrev pub has_way : Option Message → Message → Bool
has_way None m = false
has_way (Some other) m = same_way m other
