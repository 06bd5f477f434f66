-- Bytes written into a list.
use Rattle.std.specs.Prelude.{ℕ, ◌+◌, List, ◌++◌, length, take, drop}

-- the list with the bytes in place of those from `at` on
unfoldable pub over : ℕ → List ℕ → List ℕ → List ℕ
over at bytes xs = take at xs ++ (bytes ++ drop (at + length bytes) xs)
