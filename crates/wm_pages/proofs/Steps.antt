-- How each step keeps what was saved undoable.
use Rattle.std.proofs.Common.{◌≡◌, ℕ, ◌+◌, ◌*◌, ◌/◌, ◌<◌, ◌≤◌, ◌⊎◌, inl, inr, Bool, true, false, cond, List, [], ◌∷◌, ◌++◌, length, get_or, set, take, drop, refl, ap, sym, ◌∙◌, arith, count_by, get_or-set_other, length-set}
use Rattle.std.proofs.lemmas.Bool.{cases_lt, cases_eq, false≢true}
use Rattle.std.proofs.lemmas.List.{same_lists, length_push, take-append-le, get_or-take, length-take-le}
use Rattle.std.proofs.lemmas.Grind.{get_or-set_at}
use Rattle.std.proofs.lemmas.List.Sums.{sum_by-set}
use Rattle.wm_pages.specs.declared.ranges.Kept.{Kept}
use Rattle.wm_pages.specs.declared.ranges.Ranges.{Ranges}
use Rattle.wm_pages.specs.Over.{over}
use Rattle.wm_pages.specs.Ranges.{back, covers, bytes_before, AreSaved, IsUndoable}
use Rattle.wm_pages.proofs.Over.{length-over, over_itself, over_below, over_above}
use Rattle.wm_pages.proofs.Back.{length-back, back_push, back-append, back_at, covers_push, covers_more, covers_less, AreRanges-push, AreRanges-pop}

-- the bytes of the beginning are those of the saved ranges and of the number of pages
pub before_same : (s t : Ranges) (xs : List ℕ) → t.start ≡ s.start → t.kept.items ≡ s.kept.items → bytes_before t xs ≡ bytes_before s xs
unfolding bytes_before
before_same s t xs start kept = rw (start, kept) refl

-- no page was there at the beginning, or no message has begun
pub before_none : (s : Ranges) (xs : List ℕ) → s.start ≡ 0 → bytes_before s xs ≡ []
unfolding bytes_before
before_none s xs start = rw start refl

pub none_begun : (s : Ranges) (xs : List ℕ) → IsUndoable xs s → bytes_before s xs ≡ [] → s.start ≡ 0
unfolding bytes_before
none_begun s xs sound none =
    let size = length-back s.start s.kept.items xs sound.saved.ranges sound.older in
    let front : length (take (65536 * s.start) (back s.kept.items xs)) ≡ 65536 * s.start = length-take-le (65536 * s.start) (back s.kept.items xs) (omega (arith, sound.older)) in
    omega (arith, ap length none)

-- nothing is saved: the front of the bytes is as it was
pub before_front : (s : Ranges) (xs : List ℕ) → s.kept.items ≡ [] → bytes_before s xs ≡ take (65536 * s.start) xs
unfolding bytes_before
before_front s xs kept = rw kept refl

-- ---- one more range is saved

pub before_saved : (s t : Ranges) (k : Kept) (xs : List ℕ) → t.start ≡ s.start → t.kept.items ≡ s.kept.items ++ k ∷ [] → 4096 * k.range + 4096 ≤ length xs
    → k.bytes.items ≡ take 4096 (drop (4096 * k.range) xs) → bytes_before t xs ≡ bytes_before s xs
unfolding bytes_before
before_saved s t k xs start kept inside copy = rw (start, kept, back_push s.kept.items k xs, copy, over_itself (4096 * k.range) 4096 xs inside) refl

-- a mark that is set counts
marked_more : (marks : List Bool) (r : ℕ) → r < length marks → get_or marks r false ≡ false → count_by (λ mark. mark) (set marks r true) ≡ count_by (λ mark. mark) marks + 1
marked_more marks r inside unmarked =
    let e = sum_by-set (λ mark. cond mark 1 0) marks r true false inside in
    let none : ◌≡◌ {A = ℕ} (cond (get_or marks r false) 1 0) 0 = rw unmarked refl in
    omega (arith, e, none)

-- and one that is unset was one at most
marked_less : (marks : List Bool) (r : ℕ) → r < length marks → count_by (λ mark. mark) marks ≤ count_by (λ mark. mark) (set marks r false) + 1
marked_less marks r inside =
    let e = sum_by-set (λ mark. cond mark 1 0) marks r false false inside in
    let one : (cond {A = ℕ} (get_or marks r false) 1 0) ≤ 1 = elim (get_or marks r false) as (λ m. cond m 1 0 ≤ 1) [ true ↦ omega arith | false ↦ omega arith ] in
    omega (arith, e, one)

known_more : (ks : List Kept) (k : Kept) (marks : List Bool) → ((r : ℕ) → get_or marks r false ≡ true → covers ks r ≡ true)
    → (r : ℕ) → get_or (set marks k.range true) r false ≡ true → covers (ks ++ k ∷ []) r ≡ true
known_more ks k marks known r h = elim (cases_eq k.range r) [
  | inl e ↦ rw (← e) (covers_push ks k)
  | inr other ↦ covers_more ks k r (known r (sym (get_or-set_other marks k.range r true false (λ e. other (sym e))) ∙ h))
]

pub saves : (s t : Ranges) (k : Kept) (xs : List ℕ) → IsUndoable xs s → t.start ≡ s.start → t.kept.items ≡ s.kept.items ++ k ∷ [] → t.marks.items ≡ set s.marks.items k.range true
    → k.range < 16 * s.start → get_or s.marks.items k.range false ≡ false → length k.bytes.items ≡ 4096 → IsUndoable xs t
saves s t k xs sound start kept marks inside unmarked size =
    let old = sound.saved in
    let marked = length-set s.marks.items k.range true in
    let more = length_push s.kept.items k in
    let count = marked_more s.marks.items k.range (omega (arith, old.room)) unmarked in
    record {
      saved = record {
        ranges = rw (kept, start) (AreRanges-push s.start s.kept.items k old.ranges size inside);
        room = rw (marks, marked, start) old.room;
        narrow = rw (marks, marked) old.narrow;
        known = rw (kept, marks) (known_more s.kept.items k s.marks.items old.known);
        counted = rw (kept, marks, count, more) (omega (arith, old.counted));
      };
      whole = sound.whole;
      few = sound.few;
      older = omega arith;
      marks = rw (marks, marked) sound.marks;
    }

-- ---- bytes are written whose ranges are saved

pub writes : (s : Ranges) (at : ℕ) (source xs : List ℕ) → IsUndoable xs s → at + length source ≤ length xs → IsUndoable (over at source xs) s
writes s at source xs sound fits =
    let same = length-over at source xs fits in
    record { saved = sound.saved; whole = rw same sound.whole; few = rw same sound.few; older = rw same sound.older; marks = rw same sound.marks }

-- fronts of the same length that agree at each place
same_fronts : (n : ℕ) (xs ys : List ℕ) → n ≤ length xs → length xs ≡ length ys → ((i d : ℕ) → i < n → get_or xs i d ≡ get_or ys i d) → take n xs ≡ take n ys
same_fronts n xs ys inside size same =
    let first : length (take n xs) ≡ n = length-take-le n xs inside in
    let second : length (take n ys) ≡ n = length-take-le n ys (omega arith) in
    same_lists _ _ (omega arith) (λ i d h. get_or-take n xs i d (omega arith) ∙ same i d (omega arith) ∙ sym (get_or-take n ys i d (omega arith)))

-- a place is one that was written, or it has what it had
kept_or_same : (at : ℕ) (source xs : List ℕ) (i d n : ℕ) (ks : List Kept) → at + length source ≤ length xs → i < n
    → ((i : ℕ) → at ≤ i → i < at + length source → i < n → covers ks (i / 4096) ≡ true) → (covers ks (i / 4096) ≡ true) ⊎ (get_or (over at source xs) i d ≡ get_or xs i d)
kept_or_same at source xs i d n ks fits inside covered = elim (cases_lt i at) [
  | inl below ↦ inr (over_below at source xs i d (omega arith) below)
  | inr from ↦ elim (cases_lt i (at + length source)) [
    | inl within ↦ inl (covered i from within inside)
    | inr above ↦ inr (over_above at source xs i d fits above)
  ]
]

pub before_written : (s : Ranges) (at : ℕ) (source xs : List ℕ) → IsUndoable xs s → at + length source ≤ length xs
    → ((i : ℕ) → at ≤ i → i < at + length source → i < 65536 * s.start → covers s.kept.items (i / 4096) ≡ true) → bytes_before s (over at source xs) ≡ bytes_before s xs
unfolding bytes_before
before_written s at source xs sound fits covered =
    let ks : List Kept = s.kept.items in
    let ys : List ℕ = over at source xs in
    let same : length ys ≡ length xs = length-over at source xs fits in
    let room : 65536 * s.start ≤ length ys = omega (arith, sound.older) in
    let first : length (back ks ys) ≡ length ys = length-back s.start ks ys sound.saved.ranges room in
    let second : length (back ks xs) ≡ length xs = length-back s.start ks xs sound.saved.ranges sound.older in
    same_fronts (65536 * s.start) (back ks ys) (back ks xs) (omega arith) (omega arith)
    (λ i d h. back_at s.start ks ys xs i d sound.saved.ranges room same (kept_or_same at source xs i d (65536 * s.start) ks fits h covered))

-- ---- growth

pub before_grown : (s : Ranges) (xs more : List ℕ) → IsUndoable xs s → bytes_before s (xs ++ more) ≡ bytes_before s xs
unfolding bytes_before
before_grown s xs more sound =
    let size = length-back s.start s.kept.items xs sound.saved.ranges sound.older in
    let room : 65536 * s.start ≤ length (back s.kept.items xs) = omega (arith, sound.older) in
    rw (back-append s.start s.kept.items xs more sound.saved.ranges sound.older) (take-append-le (65536 * s.start) (back s.kept.items xs) more room)

-- ---- a saved range is taken off

-- what the last of the saved ranges is
pub last_saved : (s : Ranges) (ks : List Kept) (k : Kept) → AreSaved s → s.kept.items ≡ ks ++ k ∷ [] → (length k.bytes.items ≡ 4096) × (k.range < 16 * s.start) × (k.range < length s.marks.items)
last_saved s ks k saved kept =
    let split = AreRanges-pop s.start ks k (rw kept at saved.ranges) in
    (split.1, split.2, omega (arith, split.2, saved.room))

known_less : (ks : List Kept) (k : Kept) (marks : List Bool) → k.range < length marks → ((r : ℕ) → get_or marks r false ≡ true → covers (ks ++ k ∷ []) r ≡ true)
    → (r : ℕ) → get_or (set marks k.range false) r false ≡ true → covers ks r ≡ true
known_less ks k marks inside known r h = elim (cases_eq k.range r) [
  | inl e ↦ absurd (false≢true (sym (get_or-set_at marks k.range r false false (sym e) inside) ∙ h))
  | inr other ↦ covers_less ks k r other (known r (sym (get_or-set_other marks k.range r false false (λ e. other (sym e))) ∙ h))
]

pub pops : (s t : Ranges) (k : Kept) → AreSaved s → t.start ≡ s.start → s.kept.items ≡ t.kept.items ++ k ∷ [] → t.marks.items ≡ set s.marks.items k.range false → AreSaved t
pops s t k saved start kept marks =
    let marked = length-set s.marks.items k.range false in
    let more = length_push t.kept.items k in
    let split = AreRanges-pop s.start t.kept.items k (rw kept at saved.ranges) in
    let inside = (last_saved s t.kept.items k saved kept).2 in
    let known : (r : ℕ) → get_or s.marks.items r false ≡ true → covers (t.kept.items ++ k ∷ []) r ≡ true = rw (← kept) saved.known in
    record {
      ranges = rw start split.0;
      room = rw (marks, marked, start) saved.room;
      narrow = rw (marks, marked) saved.narrow;
      known = rw marks (known_less t.kept.items k s.marks.items inside known);
      counted = rw marks (omega (arith, marked_less s.marks.items k.range inside, saved.counted, ap length kept, more));
    }

pub before_popped : (s t : Ranges) (k : Kept) (xs : List ℕ) → t.start ≡ s.start → s.kept.items ≡ t.kept.items ++ k ∷ [] → bytes_before t (over (4096 * k.range) k.bytes.items xs) ≡ bytes_before s xs
unfolding bytes_before
before_popped s t k xs start kept = rw (start, kept, back_push t.kept.items k xs) refl

-- ---- a saved range is put back

pub restores : (s t : Ranges) (k : Kept) (xs : List ℕ) → IsUndoable xs s → t.start ≡ s.start → s.kept.items ≡ t.kept.items ++ k ∷ [] → t.marks.items ≡ set s.marks.items k.range false
    → IsUndoable (over (4096 * k.range) k.bytes.items xs) t
restores s t k xs sound start kept marks =
    let last = last_saved s t.kept.items k sound.saved kept in
    let same = length-over (4096 * k.range) k.bytes.items xs (omega (arith, last.0, last.1, sound.older)) in
    record {
      saved = pops s t k sound.saved start kept marks;
      whole = rw same sound.whole;
      few = rw same sound.few;
      older = rw (same, start) sound.older;
      marks = rw (same, marks, length-set s.marks.items k.range false) sound.marks;
    }
