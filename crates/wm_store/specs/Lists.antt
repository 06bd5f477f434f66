-- What a store has (WebAssembly Core 1.0, 4.2.3): memory, globals and table, and stable memory.
use Rattle.std.specs.Prelude.{ℕ, ◌+◌, ◌*◌, ◌/◌, ◌<◌, ◌^◌, List, ◌++◌, length, take, drop, replicate, All, Option, Some, None, IfSome, min, nat_le, if◌then◌else◌}
use Rattle.ic_base.specs.Reader.{◌>>=◌}
use Rattle.wm_pages.specs.Over.{over}

-- memory and stable memory are bytes; a table's entry is a function, or none
pub record Lists : Type 0 where
  pub memory : List ℕ
  -- the declared maximum of the memory, in pages of 65,536 bytes
  pub maximum : Option ℕ
  pub globals : List ℕ
  pub table : List (Option ℕ)
  pub stable : List ℕ

-- n elements from `at` on, unless they pass the end
abbrev pub part : ℕ → ℕ → List ℕ → Option (List ℕ)
part at n xs = if nat_le (at + n) (length xs) then Some (take n (drop at xs)) else None

-- the list with the bytes in place of those from `at` on, unless they pass the end
abbrev pub written : ℕ → List ℕ → List ℕ → Option (List ℕ)
written at bytes xs = if nat_le (at + length bytes) (length xs) then Some (over at bytes xs) else None

-- n bytes from one place on written to another, as if they were read first, unless either passes the
-- end (Core 2.0, 4.4.7)
abbrev pub moved : ℕ → ℕ → ℕ → List ℕ → Option (List ℕ)
moved to from n xs = part from n xs >>= λ bytes. written to bytes xs

-- one byte written n times, unless that passes the end (Core 2.0, 4.4.7)
abbrev pub filled : ℕ → ℕ → ℕ → List ℕ → Option (List ℕ)
filled at byte n xs = written at (replicate n byte) xs

-- a page has 65,536 bytes
abbrev pub pages_of : List ℕ → ℕ
pages_of xs = length xs / 65536

-- the bytes with that many more pages of zeros, unless they pass the limit of pages
abbrev pub grown : ℕ → ℕ → List ℕ → Option (List ℕ)
grown limit more xs = if nat_le (pages_of xs + more) limit then Some (xs ++ replicate (65536 * more) 0) else None

-- the most pages that a memory with this declared maximum may have
abbrev pub page_limit : Option ℕ → ℕ
page_limit None = 256
page_limit (Some most) = min most 256

-- the list that was made, or the one that was there
abbrev pub or_stays : Option (List ℕ) → List ℕ → List ℕ
or_stays (Some ys) xs = ys
or_stays None xs = xs

-- memories hold bytes, globals numbers of 64 bits, tables indices of 32 bits
pub record HoldsBytes (s : Lists) : Type 0 where
  pub memory : All (λ b. b < 256) s.memory
  pub stable : All (λ b. b < 256) s.stable
  pub globals : All (λ v. v < 2 ^ 64) s.globals
  pub table : All (λ e. IfSome e (λ f. f < 2 ^ 32)) s.table
