-- A reader that reads what is spelled and nothing else.
use Rattle.std.specs.Prelude.{◌≡◌, ℕ, List, ◌++◌, Some}
use Rattle.ic_base.specs.Reader.{Reader}
use Rattle.ic_base.specs.Spelling.{Spelling}

-- the reader takes a front of the bytes exactly where that front spells the value it gives
pub record Exact {A : Type 0} (P : Spelling A) (read : Reader A) : Type 0 where
  -- what is spelled is read, whatever follows
  pub again : (x : A) (front rest : List ℕ) → P x front → read (front ++ rest) ≡ Some (x, rest)
  -- what is read is a front that spells it
  pub takes : (bytes : List ℕ) (x : A) (rest : List ℕ) → read bytes ≡ Some (x, rest) → (front : List ℕ) × (bytes ≡ front ++ rest) × P x front
