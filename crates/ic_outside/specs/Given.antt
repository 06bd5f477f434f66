-- The bytes that a read gave or a write took.
use Rattle.std.specs.Prelude.{◌≡◌, ℕ, Bool, false, ◌&&◌, ◌==◌, nat_lt, List, [], ◌++◌, length, take, Option, Result, Ok, Err}
use Rattle.std.specs.Io.KnownBytes.{append_known}
use Rattle.ic_outside.specs.Writing.{room_before}

-- the bytes that a call moved: the first n of the buffer at `Ok(n)`, none at `Err`
abbrev pub bytes_moved : {E : Type 0} → Result ℕ E → List ℕ → List ℕ
bytes_moved (Ok n) bytes = take n bytes
bytes_moved (Err fault) bytes = []

-- a read that gives nothing into a buffer that is not empty gives the end
abbrev pub gives_end : {E : Type 0} → Result ℕ E → List ℕ → Bool
gives_end (Ok n) buffer = (n == 0) && nat_lt 0 (length buffer)
gives_end (Err fault) buffer = false

-- the bytes begin with the front
abbrev pub IsFront : List ℕ → List ℕ → Type 0
IsFront front bytes = (rest : List ℕ) × (bytes ≡ front ++ rest)

-- some front of the bytes was appended, and the room, where it is told, fell by its length
pub record TookFront (old new : Option (List ℕ)) (room room_left : Option ℕ) (bytes : List ℕ) : Type 0 where
  pub front : List ℕ
  pub is_front : IsFront front bytes
  pub appended : new ≡ append_known old front
  pub fell : room ≡ room_before (length front) room_left
