-- A sink over memory.
use Rattle.std.specs.Prelude.{ℕ, ◌-◌, ◌==◌, Bool, ◌||◌, ◌&&◌, nat_lt, if◌then◌else◌, min, List, ◌++◌, length, take, Option, Some, None}
use Rattle.std.specs.List.{list_any}
use Rattle.ic_outside.specs.Faults.{next_count}

-- the bytes taken, the room left, the most that one write takes, the numbers of the calls that fail,
-- how many calls were made, and how many failed
pub record MemoryWriter : Type 0 where
  pub taken : List ℕ
  pub room : ℕ
  pub piece : ℕ
  pub failing : List ℕ
  pub writes : ℕ
  pub faults : ℕ

-- whether the next write fails: its number, counted from 1, is in the list, or there are bytes
-- to write and no room is left
abbrev pub write_fails : MemoryWriter → List ℕ → Bool
write_fails s bytes =
    list_any (λ n. n == next_count s.writes) s.failing || (nat_lt 0 (length bytes) && (s.room == 0))

-- how many bytes a write takes
abbrev pub write_size : MemoryWriter → List ℕ → ℕ
write_size s bytes = min (min s.piece (length bytes)) s.room

-- the sink after a write
abbrev pub after_write : MemoryWriter → List ℕ → MemoryWriter
after_write s bytes =
    if write_fails s bytes then record s { writes = next_count s.writes; faults = next_count s.faults }
    else record s {
      taken = s.taken ++ take (write_size s bytes) bytes;
      room = s.room - write_size s bytes;
      writes = next_count s.writes;
    }

-- the room, where no call number is to fail
abbrev pub room_without_faults : MemoryWriter → Option ℕ
room_without_faults s = if length s.failing == 0 then Some s.room else None
