-- What a standard reader or writer inside an end of ours shows.
use Rattle.std.specs.Prelude.{ℕ, List, take, Option, Result, Ok, Err}
use Rattle.std.specs.Io.KnownBytes.{Appends}

-- the inner writer took the n bytes of an `Ok(n)`, and some front of the piece where the write or
-- the flush failed
abbrev pub PassedOn : {E : Type 0} → Option (List ℕ) → Option (List ℕ) → Result ℕ E → List ℕ → Type 0
PassedOn old new (Ok n) bytes = Appends old new (take n bytes)
PassedOn old new (Err fault) bytes = (k : ℕ) × Appends old new (take k bytes)
