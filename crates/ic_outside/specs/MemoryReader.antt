-- A source over memory.
use Rattle.std.specs.Prelude.{ℕ, ◌==◌, Bool, ◌||◌, ◌&&◌, nat_lt, if◌then◌else◌, min, List, length, drop}
use Rattle.std.specs.List.{list_any}
use Rattle.ic_outside.specs.Faults.{next_count}

-- the bytes left, the most that one read gives, the numbers of the calls that fail, how many calls
-- were made, how many failed, and whether the end was given
pub record MemoryReader : Type 0 where
  pub left : List ℕ
  pub piece : ℕ
  pub failing : List ℕ
  pub reads : ℕ
  pub faults : ℕ
  pub ended : Bool

-- whether the next read fails: its number, counted from 1, is in the list
abbrev pub read_fails : MemoryReader → Bool
read_fails s = list_any (λ n. n == next_count s.reads) s.failing

-- how many bytes a read gives
abbrev pub read_size : MemoryReader → ℕ → ℕ
read_size s room = min (min s.piece room) (length s.left)

-- the source after a read into a buffer of that many bytes
abbrev pub after_read : MemoryReader → ℕ → MemoryReader
after_read s room =
    if read_fails s then record s { reads = next_count s.reads; faults = next_count s.faults }
    else record s {
      left = drop (read_size s room) s.left;
      reads = next_count s.reads;
      ended = s.ended || ((read_size s room == 0) && nat_lt 0 room);
    }
