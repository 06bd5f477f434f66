-- A world's parts, and what is kept of them.
use Rattle.std.proofs.Common.{◌≡◌, ℕ, ◌+◌, ◌-◌, ◌^◌, ◌≤◌, false, List, [], ◌∷◌, map, length, Option, Some, None, option_map, refl, sym, ap, ap₂, subst, ◌∙◌}
use Rattle.std.specs.List.{AllByRecursion}
use Rattle.std.specs.List.Sorted.{IsStrictlySortedBy}
use Rattle.std.specs.Option.{IsSome}
use Rattle.std.specs.Ordering.{nat_cmp}
use Rattle.std.specs.Cmp.Lexicographic.{slice_cmp}
use Rattle.wm_store.specs.Lists.{Lists}
use Rattle.wm_store.specs.Fits.{Fits}
use Rattle.ic_behaviour.specs.declared.call.CallId.{CallId}
use Rattle.ic_behaviour.specs.declared.context.Context.{Context}
use Rattle.ic_behaviour.specs.Totals.{total, one}
use Rattle.ic_behaviour.specs.declared.phase.Waiter.{Waiter}
use Rattle.ic_behaviour.specs.State.{same_id, waiting, Code, Canister, State}
use Rattle.ic_behaviour.specs.Counted.{CountedCanister, counted, dropped}
use Rattle.ic_behaviour.specs.Sound.{Sound}
use Rattle.ic_state.specs.declared.canister.Code.{Code as StoredCode}
use Rattle.ic_state.specs.declared.canister.Canister.{Canister as StoredCanister}
use Rattle.ic_state.specs.declared.world.Parts.{Parts}
use Rattle.ic_state.specs.Seen.{code_of, seen, entry_of, state_of}
use Rattle.ic_state.specs.IsCanister.{IsContext, IsCanister, FitsCode, no_lists}
use Rattle.ic_state.specs.IsWorld.{HasCounts, IsWorld}
use Rattle.ic_keep.specs.declared.parts.KeptCanister.{KeptCanister}
use Rattle.ic_keep.specs.Kept.{Tables, KeptState, canister_at, entry_at, state_at}
use Rattle.ic_keep.specs.IsKept.{IsStored, IsCanisterAt, HasCountsAt, IsKept}

-- ---- a canister keeps what canisters keep by what is seen of it

abbrev FitsSeen : Option Code → Lists → Type 0
FitsSeen None s = s ≡ no_lists
FitsSeen (Some code) s = Fits code.«module» s

fits_seen : (code : Option StoredCode) (s : Lists) → FitsCode code s → FitsSeen (option_map code_of code) s
fits_seen None s is = is
fits_seen (Some code) s is = is

fits_code : (code : Option StoredCode) (s : Lists) → FitsSeen (option_map code_of code) s → FitsCode code s
fits_code None s is = is
fits_code (Some code) s is = is

some_seen : (code : Option StoredCode) → IsSome code → IsSome (option_map code_of code)
some_seen None is = is
some_seen (Some code) is = refl

some_code : (code : Option StoredCode) → IsSome (option_map code_of code) → IsSome code
some_code None is = is
some_code (Some code) is = refl

abbrev HasSeen : Option Code → List Context → Type 0
HasSeen code xs = AllByRecursion (λ (x : Context). x.deleted ≡ false → IsSome code) xs

seen_codes : (code : Option StoredCode) (xs : List Context) → AllByRecursion (λ (x : Context). x.deleted ≡ false → IsSome code) xs → HasSeen (option_map code_of code) xs
seen_codes code [] all = tt
seen_codes code (x ∷ xs) all = ((λ opens. some_seen code (all.0 opens)), seen_codes code xs all.1)

codes_seen : (code : Option StoredCode) (xs : List Context) → HasSeen (option_map code_of code) xs → AllByRecursion (λ (x : Context). x.deleted ≡ false → IsSome code) xs
codes_seen code [] all = tt
codes_seen code (x ∷ xs) all = ((λ opens. some_code code (all.0 opens)), codes_seen code xs all.1)

pub alike : (a b : StoredCanister) → seen b ≡ seen a → b.store.begun ≡ None → IsCanister a → IsCanister b
alike a b same idle is = record {
  contexts = subst (λ (x : CountedCanister). AllByRecursion IsContext x.contexts) (sym same) is.contexts;
  once = subst (λ (x : CountedCanister). (id : CallId) → total (λ (y : Context). one (same_id id y.id)) x.contexts ≤ 1) (sym same) is.once;
  has_code = codes_seen b.code b.contexts (subst (λ (x : CountedCanister). HasSeen x.code x.contexts) (sym same) (seen_codes a.code a.contexts is.has_code));
  counts = subst (λ (x : CountedCanister). x.outstanding ≡ total (λ (y : Context). y.outstanding) x.contexts) (sym same) is.counts;
  few = subst (λ (x : CountedCanister). x.outstanding ≤ 500) (sym same) is.few;
  cycles = subst (λ (x : CountedCanister). x.balance + total (λ (y : Context). y.available) x.contexts + total (λ (w : Waiter). w.cycles) (waiting x.phase) ≤ 2 ^ 127 - 1) (sym same) is.cycles;
  controllers = subst (λ (x : CountedCanister). length x.controllers ≤ 10) (sym same) is.controllers;
  rising = subst (λ (x : CountedCanister). IsStrictlySortedBy (slice_cmp nat_cmp) x.controllers) (sym same) is.rising;
  fits = fits_code b.code b.store.lists (subst (λ (x : CountedCanister). FitsSeen x.code x.store) (sym same) (fits_seen a.code a.store.lists is.fits));
  idle = idle;
}

-- ---- what is kept of a world

abbrev pub Entries : Type 0
Entries = List (List ℕ × StoredCanister)

module _ (t : Tables) where
  keys_of_entries : (es : Entries) → AllByRecursion (λ (e : List ℕ × Canister). e.1.id ≡ e.0) (map entry_of es) → AllByRecursion (λ (e : List ℕ × StoredCanister). e.1.id ≡ e.0) es
  keys_of_entries [] all = tt
  keys_of_entries (e ∷ es) all = (all.0, keys_of_entries es all.1)

  abbrev Kept-as : KeptCanister → List ℕ × StoredCanister → Type 0
  Kept-as c e = (canister_at t c ≡ seen e.1) × (e.1.id ≡ e.0)

  entry_kept : (c : KeptCanister) (e : List ℕ × StoredCanister) → Kept-as c e → entry_at t c ≡ entry_of e
  entry_kept c e is = ap₂ (λ (k : List ℕ) (x : CountedCanister). (k, dropped x)) (ap (λ (x : CountedCanister). x.id) is.0 ∙ is.1) is.0

  entries_kept : (ks : List KeptCanister) (es : Entries) → AllByRecursion (λ (e : List ℕ × StoredCanister). e.1.id ≡ e.0) es → map (canister_at t) ks ≡ map (λ (e : List ℕ × StoredCanister). seen e.1) es
      → map (entry_at t) ks ≡ map entry_of es
  entries_kept [] [] keys same = refl
  entries_kept [] (e ∷ es) keys same = cc
  entries_kept (c ∷ ks) [] keys same = cc
  entries_kept (c ∷ ks) (e ∷ es) keys same =
      let head : canister_at t c ≡ seen e.1 = cc in
      let tail : map (canister_at t) ks ≡ map (λ (e : List ℕ × StoredCanister). seen e.1) es = cc in
      ap₂ (λ (x : List ℕ × Canister) l. x ∷ l) (entry_kept c e (head, keys.0)) (entries_kept ks es keys.1 tail)

  counts_kept : (s r : State) (ks : List KeptCanister) (es : Entries) → r ≡ s → AllByRecursion (λ (e : List ℕ × StoredCanister). e.1.id ≡ e.0) es
      → map (canister_at t) ks ≡ map (λ (e : List ℕ × StoredCanister). seen e.1) es → AllByRecursion (HasCounts s) es → AllByRecursion (HasCountsAt t r) ks
  counts_kept s r [] es now keys same counts = tt
  counts_kept s r (c ∷ ks) [] now keys same counts = cc
  counts_kept s r (c ∷ ks) (e ∷ es) now keys same counts =
      let head : canister_at t c ≡ seen e.1 = cc in
      let tail : map (canister_at t) ks ≡ map (λ (e : List ℕ × StoredCanister). seen e.1) es = cc in
      let id : c.id ≡ e.0 = ap (λ (x : CountedCanister). x.id) head ∙ keys.0 in
      let step : counted r c.id (dropped (canister_at t c)) ≡ counted s e.0 (dropped (seen e.1)) =
      ap₂ (λ (k : List ℕ) (x : CountedCanister). counted r k (dropped x)) id head ∙ ap (λ (x : State). counted x e.0 (dropped (seen e.1))) now in
      (step ∙ counts.0 ∙ sym head, counts_kept s r ks es now keys.1 tail counts.1)

  are_kept : (ks : List KeptCanister) (es : Entries) → map (canister_at t) ks ≡ map (λ (e : List ℕ × StoredCanister). seen e.1) es
      → AllByRecursion (λ (e : List ℕ × StoredCanister). IsCanister e.1) es → AllByRecursion (IsCanisterAt t) ks
  are_kept [] es same are = tt
  are_kept (c ∷ ks) [] same are = cc
  are_kept (c ∷ ks) (e ∷ es) same are =
      let head : canister_at t c ≡ seen e.1 = cc in
      let tail : map (canister_at t) ks ≡ map (λ (e : List ℕ × StoredCanister). seen e.1) es = cc in
      ((λ w sees idle. alike e.1 w (sees ∙ head) idle are.0), are_kept ks es tail are.1)

  pub world_kept : (k : KeptState) (p : Parts) (s : State) → state_of p ≡ s → IsWorld p → AllByRecursion (IsStored t) k.canisters
      → map (canister_at t) k.canisters ≡ map (λ (e : List ℕ × StoredCanister). seen e.1) p.canisters.entries
      → k.messages ≡ p.messages → k.requests ≡ p.requests → k.time ≡ p.time → k.created ≡ p.created → k.burned ≡ p.burned → k.next_canister ≡ p.next_canister
      → IsKept t k × (state_at t k ≡ s)
  world_kept k p s view is stored same messages requests time created burned next =
      let keys = keys_of_entries p.canisters.entries is.sound.names.keys in
      let entries = entries_kept k.canisters p.canisters.entries keys same in
      let now : state_at t k ≡ state_of p = λ i. record {
        canisters = entries i;
        messages = messages i;
        requests = requests i;
        time = time i;
        created = created i;
        burned = burned i;
        next_canister = next i;
      } in (
        record {
          stored = stored;
          sound = subst Sound (sym now) is.sound;
          counts = counts_kept (state_of p) (state_at t k) k.canisters p.canisters.entries now keys same is.counts;
          canisters = are_kept k.canisters p.canisters.entries same is.canisters;
        },
        now ∙ view,
      )
