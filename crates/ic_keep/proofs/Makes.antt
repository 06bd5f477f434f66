-- A world is made of what is kept.
use Rattle.std.proofs.Common.{◌≡◌, ℕ, zero, suc, ◌+◌, ◌*◌, ◌/◌, ◌<◌, true, List, [], ◌∷◌, ◌++◌, map, length, drop, replicate, Option, Some, None, refl, sym, ap, ap₂, subst, ◌∙◌, if◌then◌else◌, arith}
use Rattle.std.specs.Prelude.{slice_index_or, nat_le}
use Rattle.std.specs.List.{AllByRecursion}
use Rattle.std.specs.List.Sorted.{IsStrictlySortedBy}
use Rattle.std.specs.Map.{keys_of}
use Rattle.std.specs.BTreeMap.{insert_entry}
use Rattle.std.specs.Ordering.{nat_cmp, match_ordering}
use Rattle.std.specs.declared.cmp.Ordering.TheVariants.{Less}
use Rattle.std.specs.Cmp.Lexicographic.{slice_cmp}
use Rattle.std.proofs.Math.Seq.{drop-cons}
use Rattle.std.proofs.lemmas.Bool.{le-leb}
use Rattle.std.proofs.lemmas.List.{append-nil, drop_all, length-replicate}
use Rattle.wm_pages.specs.Over.{over}
use Rattle.wm_store.specs.Lists.{Lists, written, grown, or_stays}
use Rattle.ic_behaviour.specs.State.{Canister, State}
use Rattle.ic_behaviour.specs.Counted.{CountedCanister, counted, dropped}
use Rattle.ic_behaviour.specs.Sound.{Sound}
use Rattle.ic_state.specs.declared.canister.Canister.{Canister as StoredCanister}
use Rattle.ic_state.specs.declared.world.Parts.{Parts}
use Rattle.ic_state.specs.Seen.{seen, entry_of, state_of}
use Rattle.ic_state.specs.IsCanister.{IsCanister}
use Rattle.ic_state.specs.IsWorld.{HasCounts, IsWorld}
use Rattle.ic_keep.specs.declared.parts.KeptCanister.{KeptCanister}
use Rattle.ic_keep.specs.Kept.{Tables, KeptState, canister_at, counted_at, entry_at, seen_entry, state_at}
use Rattle.ic_keep.specs.IsKept.{ArePages, IsCanisterAt, HasCountsAt, IsKept}

-- ---- bytes

-- bytes that are written over as many
pub all_written : (bytes xs : List ℕ) → length bytes ≡ length xs → or_stays (written 0 bytes xs) xs ≡ bytes
unfolding over
all_written bytes xs long =
    let fits : nat_le (0 + length bytes) (length xs) ≡ true = le-leb (0 + length bytes) (length xs) (omega arith) in
    let rest : drop (0 + length bytes) xs ≡ [] = drop_all (0 + length bytes) xs (omega arith) in
    ap (λ b. or_stays (if b then Some (over 0 bytes xs) else None) xs) fits ∙ ap (λ l. bytes ++ l) rest ∙ append-nil bytes

pub pages_written : (most : ℕ) (bytes : List ℕ) → ArePages most bytes → or_stays (written 0 bytes (replicate (65536 * (length bytes / 65536)) 0)) (replicate (65536 * (length bytes / 65536)) 0) ≡ bytes
pages_written most bytes are = all_written bytes (replicate (65536 * (length bytes / 65536)) 0) (omega (arith, are.whole, length-replicate {A = ℕ} (65536 * (length bytes / 65536)) 0))

pub pages_grown : (bytes : List ℕ) → ArePages 256 bytes → or_stays (grown 256 (length bytes / 65536) []) [] ≡ replicate (65536 * (length bytes / 65536)) 0
pages_grown bytes are =
    let fits : nat_le (0 + length bytes / 65536) 256 ≡ true = le-leb (0 + length bytes / 65536) 256 (omega (arith, are.few)) in
    ap (λ b. or_stays (if b then Some (replicate (65536 * (length bytes / 65536)) 0) else None) []) fits

-- ---- a map in order

abbrev pub Entries : Type 0
Entries = List (List ℕ × StoredCanister)

pub ids_rise : (t : Tables) (ks : List KeptCanister) → keys_of (map (entry_at t) ks) ≡ map (λ (c : KeptCanister). c.id) ks
ids_rise t [] = refl
ids_rise t (c ∷ ks) = ap (λ l. c.id ∷ l) (ids_rise t ks)

unfoldable pub Rise : List KeptCanister → Type 0
Rise ks = IsStrictlySortedBy (slice_cmp nat_cmp) (map (λ (c : KeptCanister). c.id) ks)

rest_rise : (ks : List KeptCanister) (n : ℕ) → Rise ks → Rise (drop n ks)
unfolding IsStrictlySortedBy Rise
rest_rise ks zero rise = rise
rest_rise [] (suc n) rise = rise
rest_rise (c ∷ ks) (suc n) rise = rest_rise ks n rise.1

-- one that is below all goes to the front
to_front : (t : Tables) (k : List ℕ) (v : StoredCanister) (es : Entries) (c : KeptCanister) (ks : List KeptCanister) → k ≡ c.id → Rise (c ∷ ks)
    → map seen_entry es ≡ map (counted_at t) ks → insert_entry (slice_cmp nat_cmp) es k v ≡ (k, v) ∷ es
unfolding IsStrictlySortedBy Rise
to_front t k v [] c ks id rise same = refl
to_front t k v (e ∷ es) c [] id rise same = cc
to_front t k v (e ∷ es) c (d ∷ ks) id rise same =
    let head : seen_entry e ≡ counted_at t d = cc in
    let key : e.0 ≡ d.id = ap (λ (x : List ℕ × CountedCanister). x.0) head in
    let less : slice_cmp nat_cmp k e.0 ≡ Less = ap₂ (slice_cmp nat_cmp) id key ∙ rise.0.0 in
    ap (λ o. match_ordering o ((k, v) ∷ e ∷ es) ((e.0, v) ∷ es) (e ∷ insert_entry (slice_cmp nat_cmp) es k v)) less

abbrev pub IsIdle : List ℕ × StoredCanister → Type 0
IsIdle e = e.1.store.begun ≡ None

cut : (ks : List KeptCanister) (n : ℕ) (c : KeptCanister) → n < length ks → c ≡ slice_index_or ks n c → drop n ks ≡ c ∷ drop (n + 1) ks
cut ks n c below is =
    let next : suc n ≡ n + 1 = omega arith in
    drop-cons ks n c below ∙ ap₂ (λ (x : KeptCanister) (k : ℕ). x ∷ drop k ks) (sym is) next

pub one_more_made : (t : Tables) (ks : List KeptCanister) (left : ℕ) (c : KeptCanister) (v : StoredCanister) (es now : Entries) → Rise ks → left < length ks
    → c ≡ slice_index_or ks left c → now ≡ insert_entry (slice_cmp nat_cmp) es c.id v → seen v ≡ canister_at t c → v.store.begun ≡ None
    → map seen_entry es ≡ map (counted_at t) (drop (left + 1) ks) → AllByRecursion IsIdle es
    → (map seen_entry now ≡ map (counted_at t) (drop left ks)) × AllByRecursion IsIdle now
one_more_made t ks left c v es now rise below is made sees idle so_far idles =
    let split : drop left ks ≡ c ∷ drop (left + 1) ks = cut ks left c below is in
    let front : insert_entry (slice_cmp nat_cmp) es c.id v ≡ (c.id, v) ∷ es = to_front t c.id v es c (drop (left + 1) ks) refl (subst Rise split (rest_rise ks left rise)) so_far in
    let all : now ≡ (c.id, v) ∷ es = made ∙ front in (
      ap (map seen_entry) all ∙ ap₂ (λ (x : List ℕ × CountedCanister) l. x ∷ l) (ap (λ (x : CountedCanister). (c.id, x)) sees) so_far ∙ ap (map (counted_at t)) (sym split),
      subst (AllByRecursion IsIdle) (sym all) (idle, idles),
    )

-- ---- a world

module _ (t : Tables) where
  entries_made : (ks : List KeptCanister) (es : Entries) → map seen_entry es ≡ map (counted_at t) ks → map entry_of es ≡ map (entry_at t) ks
  entries_made [] [] same = refl
  entries_made [] (e ∷ es) same = cc
  entries_made (c ∷ ks) [] same = cc
  entries_made (c ∷ ks) (e ∷ es) same =
      let head : seen_entry e ≡ counted_at t c = cc in
      let tail : map seen_entry es ≡ map (counted_at t) ks = cc in
      ap₂ (λ (x : List ℕ × CountedCanister) (l : List (List ℕ × Canister)). (x.0, dropped x.1) ∷ l) head (entries_made ks es tail)

  counts_made : (s r : State) (ks : List KeptCanister) (es : Entries) → r ≡ s → map seen_entry es ≡ map (counted_at t) ks
      → AllByRecursion (HasCountsAt t s) ks → AllByRecursion (HasCounts r) es
  counts_made s r ks [] now same counts = tt
  counts_made s r [] (e ∷ es) now same counts = cc
  counts_made s r (c ∷ ks) (e ∷ es) now same counts =
      let head : seen_entry e ≡ counted_at t c = cc in
      let tail : map seen_entry es ≡ map (counted_at t) ks = cc in
      let sees : seen e.1 ≡ canister_at t c = ap (λ (x : List ℕ × CountedCanister). x.1) head in (
        ap (λ (x : State). counted x e.0 (dropped (seen e.1))) now ∙ ap (λ (x : List ℕ × CountedCanister). counted s x.0 (dropped x.1)) head ∙ counts.0 ∙ sym sees,
        counts_made s r ks es now tail counts.1,
      )

  are_made : (ks : List KeptCanister) (es : Entries) → map seen_entry es ≡ map (counted_at t) ks → AllByRecursion IsIdle es
      → AllByRecursion (IsCanisterAt t) ks → AllByRecursion (λ (e : List ℕ × StoredCanister). IsCanister e.1) es
  are_made ks [] same idle are = tt
  are_made [] (e ∷ es) same idle are = cc
  are_made (c ∷ ks) (e ∷ es) same idle are =
      let head : seen_entry e ≡ counted_at t c = cc in
      let tail : map seen_entry es ≡ map (counted_at t) ks = cc in
      (are.0 e.1 (ap (λ (x : List ℕ × CountedCanister). x.1) head) idle.0, are_made ks es tail idle.1 are.1)

  pub world_made : (k : KeptState) (p : Parts) → IsKept t k → map seen_entry p.canisters.entries ≡ map (counted_at t) k.canisters → AllByRecursion IsIdle p.canisters.entries
      → p.messages ≡ k.messages → p.requests ≡ k.requests → p.time ≡ k.time → p.created ≡ k.created → p.burned ≡ k.burned → p.next_canister ≡ k.next_canister
      → IsWorld p × (state_of p ≡ state_at t k)
  world_made k p is same idle messages requests time created burned next =
      let entries = entries_made k.canisters p.canisters.entries same in
      let now : state_of p ≡ state_at t k = λ i. record {
        canisters = entries i;
        messages = messages i;
        requests = requests i;
        time = time i;
        created = created i;
        burned = burned i;
        next_canister = next i;
      } in (
        record {
          sound = subst Sound (sym now) is.sound;
          counts = counts_made (state_at t k) (state_of p) k.canisters p.canisters.entries now same is.counts;
          canisters = are_made k.canisters p.canisters.entries same idle is.canisters;
        },
        now,
      )

-- ---- a store

-- a store that is made, written, grown and written
pub store_made : (most : ℕ) (m g s : List ℕ) (tb : List (Option ℕ)) (mx : Option ℕ) (made copied more whole : Lists) → ArePages most m → ArePages 256 s
    → made ≡ record { memory = replicate (65536 * (length m / 65536)) 0; maximum = mx; globals = g; table = tb; stable = [] }
    → copied ≡ record made { memory = or_stays (written 0 m made.memory) made.memory }
    → more ≡ record copied { stable = or_stays (grown 256 (length s / 65536) copied.stable) copied.stable }
    → whole ≡ record more { stable = or_stays (written 0 s more.stable) more.stable }
    → whole ≡ record { memory = m; maximum = mx; globals = g; table = tb; stable = s }
store_made most m g s tb mx made copied more whole memory stable a b c d =
    let with_parts : List ℕ → List ℕ → Lists = λ (x y : List ℕ). record { memory = x; maximum = mx; globals = g; table = tb; stable = y } in
    let second : copied ≡ with_parts m [] = b ∙ ap (λ (l : Lists). record l { memory = or_stays (written 0 m l.memory) l.memory }) a ∙ ap (λ x. with_parts x []) (pages_written most m memory) in
    let third : more ≡ with_parts m (replicate (65536 * (length s / 65536)) 0) =
    c ∙ ap (λ (l : Lists). record l { stable = or_stays (grown 256 (length s / 65536) l.stable) l.stable }) second ∙ ap (with_parts m) (pages_grown s stable) in
    d ∙ ap (λ (l : Lists). record l { stable = or_stays (written 0 s l.stable) l.stable }) third ∙ ap (with_parts m) (pages_written 256 s stable)
