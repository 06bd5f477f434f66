-- Readers of binary formats, and the ways to make one of others.
use Rattle.std.specs.Prelude.{ℕ, zero, suc, Bool, List, [], ◌∷◌, length, take, drop, Option, Some, None, nat_lt, cond}

-- what reads the front of the bytes: the value and the bytes after it, or None where no front is one
abbrev pub Reader : Type 0 → Type 0
Reader A = List ℕ → Option (A × List ℕ)

infixl 10 ◌>>=◌
-- go on with a value, where there is one
abbrev pub ◌>>=◌ : {A B : Type 0} → Option A → (A → Option B) → Option B
(Some x) >>= f = f x
None >>= f = None

-- a value that takes no byte
abbrev pub empty_at : {A : Type 0} → A → Reader A
empty_at x bytes = Some (x, bytes)

-- one byte
abbrev pub byte_at : Reader ℕ
byte_at [] = None
byte_at (b ∷ bytes) = Some (b, bytes)

-- n bytes
abbrev pub bytes_at : ℕ → Reader (List ℕ)
bytes_at n bytes = cond (nat_lt (length bytes) n) None (Some (take n bytes, drop n bytes))

-- one part and then another, which may depend on the first
abbrev pub both_at : {A B : Type 0} → Reader A → (A → Reader B) → Reader (A × B)
both_at read next bytes = do
  x ← read bytes
  y ← next x.0 x.1
  Some ((x.0, y.0), y.1)

-- what f makes of the value
abbrev pub map_at : {A B : Type 0} → (A → B) → Reader A → Reader B
map_at f read bytes = do
  x ← read bytes
  Some (f x.0, x.1)

-- what f makes of the value, where it makes anything of it
abbrev pub filter_map_at : {A B : Type 0} → (A → Option B) → Reader A → Reader B
filter_map_at f read bytes = do
  x ← read bytes
  y ← f x.0
  Some (y, x.1)

-- the value where it passes the test
abbrev pub filter_at : {A : Type 0} → (A → Bool) → Reader A → Reader A
filter_at test read bytes = do
  x ← read bytes
  cond (test x.0) (Some x) None

-- that many values, one after the other
unfoldable pub many_at : {A : Type 0} → Reader A → ℕ → Reader (List A)
many_at read zero bytes = Some ([], bytes)
many_at read (suc n) bytes = do
  x ← read bytes
  xs ← many_at read n x.1
  Some (x.0 ∷ xs.0, xs.1)

-- a count, and that many values
abbrev pub vec_at : {A : Type 0} → Reader ℕ → Reader A → Reader (List A)
vec_at count read bytes = do
  n ← count bytes
  many_at read n.0 n.1

-- the value where no byte is left
abbrev pub ended : {A : Type 0} → A × List ℕ → Option A
ended x = cond (nat_lt 0 (length x.1)) None (Some x.0)

-- the value that takes all of the bytes
abbrev pub whole : {A : Type 0} → Reader A → List ℕ → Option A
whole read bytes = read bytes >>= ended

-- a size in bytes, and a value that takes that many
abbrev pub sized_at : {A : Type 0} → Reader ℕ → Reader A → Reader A
sized_at size read bytes = do
  n ← size bytes
  content ← bytes_at n.0 n.1
  x ← whole read content.0
  Some (x, content.1)
