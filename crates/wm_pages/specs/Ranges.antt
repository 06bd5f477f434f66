-- How saved ranges give back the bytes of a beginning.
use Rattle.std.specs.Prelude.{◌≡◌, ℕ, ◌+◌, ◌-◌, ◌*◌, ◌/◌, ◌%◌, ◌<◌, ◌≤◌, ◌==◌, Bool, true, false, List, [], ◌∷◌, length, take, count_by, slice_index_or, if◌then◌else◌}
use Rattle.wm_pages.specs.declared.ranges.Kept.{Kept}
use Rattle.wm_pages.specs.declared.ranges.Ranges.{Ranges}
use Rattle.wm_pages.specs.Over.{over}

-- each range is put back where it stood, the one that was saved last first
abbrev pub back : List Kept → List ℕ → List ℕ
back [] xs = xs
back (k ∷ ks) xs = over (4096 * k.range) k.bytes.items (back ks xs)

-- whether one of them is the range of that number
abbrev pub covers : List Kept → ℕ → Bool
covers [] r = false
covers (k ∷ ks) r = if k.range == r then true else covers ks r

-- each is 4,096 bytes within the pages of the beginning
abbrev pub AreRanges : ℕ → List Kept → Type 0
AreRanges start [] = Unit {0}
AreRanges start (k ∷ ks) = (length k.bytes.items ≡ 4096) × (k.range < 16 * start) × AreRanges start ks

-- the bytes at the beginning
unfoldable pub bytes_before : Ranges → List ℕ → List ℕ
bytes_before s xs = take (65536 * s.start) (back s.kept.items xs)

-- how many ranges a write of that size touches
unfoldable pub touched : ℕ → ℕ → ℕ
touched at size = if size == 0 then 0 else (at + size - 1) / 4096 + 1 - at / 4096

-- the saved ranges and their marks agree
pub record AreSaved (s : Ranges) : Type 0 where
  pub ranges : AreRanges s.start s.kept.items
  -- a mark for each range of the beginning
  pub room : 16 * s.start ≤ length s.marks.items
  pub narrow : length s.marks.items ≤ 4096
  -- what is marked is saved, and no more is saved than is marked
  pub known : (r : ℕ) → slice_index_or s.marks.items r false ≡ true → covers s.kept.items r ≡ true
  pub counted : length s.kept.items ≤ count_by (λ mark. mark) s.marks.items

-- from these bytes the saved ranges lead back to the beginning
pub record IsUndoable (xs : List ℕ) (s : Ranges) : Type 0 where
  pub saved : AreSaved s
  -- whole pages, at most 256, among them those of the beginning, and a mark for each range
  pub whole : length xs % 65536 ≡ 0
  pub few : length xs ≤ 65536 * 256
  pub older : 65536 * s.start ≤ length xs
  pub marks : length xs ≤ 4096 * length s.marks.items
