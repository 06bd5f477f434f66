-- What a write does to the room of a sink, where the sink tells it.
use Rattle.std.specs.Prelude.{ℕ, ◌+◌, Option, Some, None, Result, Ok, Err}

-- how many bytes a call moved
abbrev pub count_moved : {E : Type 0} → Result ℕ E → ℕ
count_moved (Ok n) = n
count_moved (Err fault) = 0

-- the room before that many bytes were taken, by the room after; telling it never changes
abbrev pub room_before : ℕ → Option ℕ → Option ℕ
room_before n None = None
room_before n (Some room) = Some (room + n)
