-- A store is turned into another: ranges are written over those that are there.
use Rattle.std.proofs.Common.{◌≡◌, ℕ, zero, suc, ◌+◌, ◌*◌, ◌<◌, true, List, [], ◌∷◌, ◌++◌, map, length, take, drop, Some, None, refl, sym, ap, ap₂, subst, ◌∙◌, if◌then◌else◌, arith}
use Rattle.std.specs.Prelude.{slice_index_or, slice_set, nat_le}
use Rattle.std.specs.List.{AllByRecursion}
use Rattle.std.proofs.Math.Seq.{take-suc, drop-cons, take-append_seam, drop-append-add, drop-append_seam, set-append_seam}
use Rattle.std.proofs.lemmas.Bool.{le-leb}
use Rattle.std.proofs.lemmas.List.{length-append, length-take-le}
use Rattle.std.proofs.Common.{append_assoc}
use Rattle.ic_behaviour.specs.State.{Canister, State}
use Rattle.ic_behaviour.specs.Counted.{CountedCanister, counted}
use Rattle.ic_state.specs.declared.canister.Canister.{Canister as StoredCanister}
use Rattle.ic_state.specs.declared.world.Parts.{Parts}
use Rattle.ic_state.specs.Seen.{seen, entry_of, state_of}
use Rattle.ic_state.specs.IsCanister.{IsCanister}
use Rattle.ic_state.specs.IsWorld.{HasCounts, IsWorld}
use Rattle.ic_keep.specs.declared.parts.KeptCanister.{KeptCanister}
use Rattle.ic_keep.specs.Kept.{Tables, KeptState, canister_at, counted_at, entry_at, seen_entry, state_at}
use Rattle.ic_keep.specs.IsKept.{HasCountsAt, IsKept}
use Rattle.ic_keep.proofs.Makes.{Entries, IsIdle}
use Rattle.wm_pages.specs.Over.{over}
use Rattle.wm_store.specs.Lists.{Lists, written, or_stays}
use Rattle.ic_exact.specs.Ranges.{AreDistinct, AreNumbers, bytes_of}
use Rattle.ic_exact.proofs.Once.{each-at, bytes_append}

over_middle : (at : ℕ) (before old new after : List ℕ) → length before ≡ at → length old ≡ length new → over at new (before ++ (old ++ after)) ≡ before ++ (new ++ after)
unfolding over
over_middle at before old new after place long =
    let front : take at (before ++ (old ++ after)) ≡ before = ap (λ k. take k (before ++ (old ++ after))) (sym place) ∙ take-append_seam before (old ++ after) in
    let back : drop (at + length new) (before ++ (old ++ after)) ≡ after =
    ap (λ k. drop (k + length new) (before ++ (old ++ after))) (sym place) ∙ drop-append-add before (old ++ after) (length new)
    ∙ ap (λ k. drop k (old ++ after)) (sym long) ∙ drop-append_seam old after in
    ap₂ (λ (a b : List ℕ). a ++ (new ++ b)) front back

pub length_bytes : (xs : List (List ℕ)) (ns : List ℕ) → AreDistinct xs → AreNumbers xs ns → length (bytes_of xs ns) ≡ 4096 * length ns
length_bytes xs [] once are = refl
length_bytes xs (n ∷ ns) once are =
    omega (arith, length-append (slice_index_or xs n []) (bytes_of xs ns), each-at (λ (r : List ℕ). length r ≡ 4096) xs n [] are.0 once.sizes, length_bytes xs ns once are.1)

numbers_take : (xs : List (List ℕ)) (ns : List ℕ) (i : ℕ) → AreNumbers xs ns → AreNumbers xs (take i ns)
numbers_take xs ns zero are = tt
numbers_take xs [] (suc i) are = tt
numbers_take xs (n ∷ ns) (suc i) are = (are.0, numbers_take xs ns i are.1)

-- the ranges before a place are the new ones
abbrev pub half : List (List ℕ) → List ℕ → List ℕ → ℕ → List ℕ
half xs from to i = bytes_of xs (take i to) ++ bytes_of xs (drop i from)

module _ (xs : List (List ℕ)) (once : AreDistinct xs) (from to : List ℕ) (long : length from ≡ length to) (is : AreNumbers xs from) (are : AreNumbers xs to) where
  module _ (i d : ℕ) (below : i < length to) where
    abbrev before : List ℕ
    before = bytes_of xs (take i to)

    abbrev after : List ℕ
    after = bytes_of xs (drop (i + 1) from)

    abbrev old : List ℕ
    old = slice_index_or xs (slice_index_or from i d) []

    abbrev new : List ℕ
    new = slice_index_or xs (slice_index_or to i d) []

    next : suc i ≡ i + 1
    next = omega arith

    here : half xs from to i ≡ before ++ (old ++ after)
    here = ap (λ l. before ++ bytes_of xs l) (drop-cons from i d (omega (arith, below, long)) ∙ ap (λ k. slice_index_or from i d ∷ drop k from) next)

    there : half xs from to (i + 1) ≡ before ++ (new ++ after)
    there =
        ap (λ l. bytes_of xs l ++ after) (ap (λ k. take k to) (sym next) ∙ take-suc to i d below)
        ∙ ap (λ l. l ++ after) (bytes_append xs (take i to) (slice_index_or to i d)) ∙ append_assoc before new after

    -- the next range stays
    pub stays : slice_index_or from i d ≡ slice_index_or to i d → half xs from to i ≡ half xs from to (i + 1)
    stays same = here ∙ ap (λ n. before ++ (slice_index_or xs n [] ++ after)) same ∙ sym there

    sized : (n : ℕ) → n < length xs → length (slice_index_or xs n []) ≡ 4096
    sized n in_range = each-at (λ (r : List ℕ). length r ≡ 4096) xs n [] in_range once.sizes

    -- the next range is written
    pub writes : or_stays (written (4096 * i) new (half xs from to i)) (half xs from to i) ≡ half xs from to (i + 1)
    writes =
        let a : length old ≡ 4096 = sized (slice_index_or from i d) (each-at (λ n. n < length xs) from i d (omega (arith, below, long)) is) in
        let b : length new ≡ 4096 = sized (slice_index_or to i d) (each-at (λ n. n < length xs) to i d below are) in
        let place : length before ≡ 4096 * i = length_bytes xs (take i to) once (numbers_take xs to i are) ∙ ap (λ k. 4096 * k) (length-take-le i to (omega (arith, below))) in
        let fits : nat_le (4096 * i + length new) (length (half xs from to i)) ≡ true =
        le-leb (4096 * i + length new) (length (half xs from to i)) (omega (arith, ap length here, length-append before (old ++ after), length-append old after)) in
        ap (λ b. or_stays (if b then Some (over (4096 * i) new (half xs from to i)) else None) (half xs from to i)) fits ∙ ap (over (4096 * i) new) here ∙ over_middle (4096 * i) before old new after place (a ∙ sym b) ∙ sym there

    -- in a memory
    pub memory_writes : (fn store now : Lists) (bytes : List ℕ) → store ≡ record fn { memory = half xs from to i } → bytes ≡ new
        → now ≡ record store { memory = or_stays (written (4096 * i) bytes store.memory) store.memory } → now ≡ record fn { memory = half xs from to (i + 1) }
    memory_writes fn store now bytes so_far is made =
        made ∙ ap₂ (λ (s : Lists) (b : List ℕ). record s { memory = or_stays (written (4096 * i) b s.memory) s.memory }) so_far is ∙ ap (λ m. record fn { memory = m }) writes

    pub stable_writes : (fn store now : Lists) (bytes : List ℕ) → store ≡ record fn { stable = half xs from to i } → bytes ≡ new
        → now ≡ record store { stable = or_stays (written (4096 * i) bytes store.stable) store.stable } → now ≡ record fn { stable = half xs from to (i + 1) }
    stable_writes fn store now bytes so_far is made =
        made ∙ ap₂ (λ (s : Lists) (b : List ℕ). record s { stable = or_stays (written (4096 * i) b s.stable) s.stable }) so_far is ∙ ap (λ m. record fn { stable = m }) writes

-- ---- canisters

module _ (t : Tables) (k : KeptState) (p : Parts) (is : IsKept t k) (world : IsWorld p) (same : state_of p ≡ state_at t k) where
  -- a world of a kept state has its canisters, with their numbers
  pub world_entries : (es : Entries) (ks : List KeptCanister) → map entry_of es ≡ map (entry_at t) ks → AllByRecursion (HasCounts (state_of p)) es → AllByRecursion (HasCountsAt t (state_at t k)) ks
      → map seen_entry es ≡ map (counted_at t) ks
  world_entries [] [] alike counts numbers = refl
  world_entries [] (c ∷ ks) alike counts numbers = cc
  world_entries (e ∷ es) [] alike counts numbers = cc
  world_entries (e ∷ es) (c ∷ ks) alike counts numbers =
      let head : entry_of e ≡ entry_at t c = cc in
      let tail : map entry_of es ≡ map (entry_at t) ks = cc in
      let sees : seen e.1 ≡ canister_at t c = sym counts.0 ∙ ap₂ (λ (s : State) (x : List ℕ × Canister). counted s x.0 x.1) same head ∙ numbers.0 in
      ap₂ (λ (x : List ℕ × CountedCanister) l. x ∷ l) (ap₂ (λ (x : List ℕ) (y : CountedCanister). (x, y)) (ap (λ (x : List ℕ × Canister). x.0) head) sees) (world_entries es ks tail counts.1 numbers.1)

  pub all_entries : map seen_entry p.canisters.entries ≡ map (counted_at t) k.canisters
  all_entries = world_entries p.canisters.entries k.canisters (ap (λ (s : State). s.canisters) same) world.counts is.counts

pub all_idle : (es : Entries) → AllByRecursion (λ (e : List ℕ × StoredCanister). IsCanister e.1) es → AllByRecursion IsIdle es
all_idle [] all = tt
all_idle (e ∷ es) all = (all.0.idle, all_idle es all.1)

no_end : {A : Type 0} (b : List A) (y : A) → [] ≡ b ++ y ∷ [] → ⊥
no_end [] y e = cc
no_end (x ∷ b) y e = cc

last_apart : {A : Type 0} (a b : List A) (x y : A) → a ++ x ∷ [] ≡ b ++ y ∷ [] → (a ≡ b) × (x ≡ y)
last_apart [] [] x y e = (refl, cc)
last_apart [] (c ∷ b) x y e = absurd (no_end b y (cc))
last_apart (c ∷ a) [] x y e = let rest : [] ≡ a ++ x ∷ [] = cc in absurd (no_end a x rest)
last_apart (c ∷ a) (d ∷ b) x y e =
    let head : c ≡ d = cc in
    let tail : a ++ x ∷ [] ≡ b ++ y ∷ [] = cc in
    let rest = last_apart a b x y tail in
    (ap₂ (λ z l. z ∷ l) head rest.0, rest.1)

idle_apart : (es : Entries) (e : List ℕ × StoredCanister) → AllByRecursion IsIdle (es ++ e ∷ []) → AllByRecursion IsIdle es × IsIdle e
idle_apart [] e all = (tt, all.0)
idle_apart (d ∷ es) e all = let rest = idle_apart es e all.1 in ((all.0, rest.0), rest.1)

map_last : (es : Entries) (e : List ℕ × StoredCanister) → map seen_entry (es ++ e ∷ []) ≡ map seen_entry es ++ seen_entry e ∷ []
map_last [] e = refl
map_last (d ∷ es) e = ap (λ l. seen_entry d ∷ l) (map_last es e)

kept_last : (t : Tables) (ks : List KeptCanister) (c : KeptCanister) → map (counted_at t) (ks ++ c ∷ []) ≡ map (counted_at t) ks ++ counted_at t c ∷ []
kept_last t [] c = refl
kept_last t (d ∷ ks) c = ap (λ l. counted_at t d ∷ l) (kept_last t ks c)

-- the last canister leaves the map
pub one_popped : (t : Tables) (from : List KeptCanister) (left : ℕ) (d : KeptCanister) (old now : Entries) (e : List ℕ × StoredCanister) → left < length from → old ≡ now ++ e ∷ []
    → map seen_entry old ≡ map (counted_at t) (take (left + 1) from) → AllByRecursion IsIdle old
    → (map seen_entry now ≡ map (counted_at t) (take left from)) × AllByRecursion IsIdle now × (seen e.1 ≡ canister_at t (slice_index_or from left d)) × IsIdle e
one_popped t from left d old now e below split so_far idle =
    let next : suc left ≡ left + 1 = omega arith in
    let cut : take (left + 1) from ≡ take left from ++ slice_index_or from left d ∷ [] = ap (λ n. take n from) (sym next) ∙ take-suc from left d below in
    let both : map seen_entry now ++ seen_entry e ∷ [] ≡ map (counted_at t) (take left from) ++ counted_at t (slice_index_or from left d) ∷ [] =
    sym (map_last now e) ∙ ap (map seen_entry) (sym split) ∙ so_far ∙ ap (map (counted_at t)) cut ∙ kept_last t (take left from) (slice_index_or from left d) in
    let parts = last_apart (map seen_entry now) (map (counted_at t) (take left from)) (seen_entry e) (counted_at t (slice_index_or from left d)) both in
    let idles = idle_apart now e (subst (AllByRecursion IsIdle) split idle) in
    (parts.0, idles.0, ap (λ (x : List ℕ × CountedCanister). x.1) parts.1, idles.1)

-- ---- globals

globals_next : (g old : List ℕ) (i d : ℕ) → i < length g → length g ≡ length old → slice_set (take i g ++ drop i old) i (slice_index_or g i d) ≡ take (i + 1) g ++ drop (i + 1) old
globals_next g old i d below long =
    let next : suc i ≡ i + 1 = omega arith in
    let place : length (take i g) ≡ i = length-take-le i g (omega (arith, below)) in
    let split : drop i old ≡ slice_index_or old i 0 ∷ drop (suc i) old = drop-cons old i 0 (omega (arith, below, long)) in
    let front : take (i + 1) g ≡ take i g ++ slice_index_or g i d ∷ [] = ap (λ k. take k g) (sym next) ∙ take-suc g i d below in
    ap (λ l. slice_set (take i g ++ l) i (slice_index_or g i d)) split
    ∙ ap (λ n. slice_set (take i g ++ slice_index_or old i 0 ∷ drop (suc i) old) n (slice_index_or g i d)) (sym place)
    ∙ set-append_seam (take i g) (slice_index_or old i 0) (drop (suc i) old) (slice_index_or g i d)
    ∙ ap (λ k. take i g ++ slice_index_or g i d ∷ drop k old) next
    ∙ sym (append_assoc (take i g) (slice_index_or g i d ∷ []) (drop (i + 1) old))
    ∙ ap (λ l. l ++ drop (i + 1) old) (sym front)

pub globals_write : (fn store now : Lists) (g : List ℕ) (i d : ℕ) → i < length g → length g ≡ length fn.globals
    → store ≡ record fn { globals = take i g ++ drop i fn.globals } → now ≡ record store { globals = slice_set store.globals i (slice_index_or g i d) }
    → now ≡ record fn { globals = take (i + 1) g ++ drop (i + 1) fn.globals }
globals_write fn store now g i d below long so_far made =
    made ∙ ap (λ (s : Lists). record s { globals = slice_set s.globals i (slice_index_or g i d) }) so_far ∙ ap (λ l. record fn { globals = l }) (globals_next g fn.globals i d below long)
