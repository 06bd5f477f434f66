-- Tables grow, and what was kept stays.
use Rattle.std.proofs.Common.{◌≡◌, ℕ, zero, suc, ◌<◌, List, [], ◌∷◌, ◌++◌, map, length, slice_get, Option, Some, None, IfSome, option_map, refl, sym, ap, ap₂, subst, ◌∙◌, not-suc-le-zero, arith}
use Rattle.std.specs.List.{All, AllByRecursion}
use Rattle.std.proofs.lemmas.List.{append-nil, length-append}
use Rattle.wm_store.specs.Lists.{page_limit}
use Rattle.ic_behaviour.specs.State.{Code, Canister, State}
use Rattle.ic_behaviour.specs.Counted.{CountedCanister, counted, dropped}
use Rattle.ic_behaviour.specs.Sound.{Sound}
use Rattle.ic_state.specs.declared.canister.Code.{Code as StoredCode}
use Rattle.ic_state.specs.Seen.{code_of}
use Rattle.ic_exact.specs.Ranges.{AreNumbers, bytes_of, Extends}
use Rattle.ic_exact.proofs.Once.{numbers_stay, bytes_stay, extends_again}
use Rattle.ic_keep.specs.declared.parts.KeptCanister.{KeptCanister}
use Rattle.ic_keep.specs.Kept.{Tables, KeptState, code_at, declared_maximum, canister_at, entry_at, state_at}
use Rattle.ic_keep.specs.IsKept.{AreCodes, ArePages, Grows, IsStored, IsCanisterAt, HasCountsAt, IsKept}

get_stays : {A : Type 0} (xs ys : List A) (k : ℕ) → k < length xs → slice_get (xs ++ ys) k ≡ slice_get xs k
get_stays [] ys k below = absurd (not-suc-le-zero below)
get_stays (x ∷ xs) ys zero below = refl
get_stays (x ∷ xs) ys (suc k) below = get_stays xs ys k (omega (arith, below))

code_stays : (codes more : List StoredCode) (n : Option ℕ) → IfSome n (λ k. k < length codes) → code_at (codes ++ more) n ≡ code_at codes n
code_stays codes more None below = refl
code_stays codes more (Some k) below = ap (option_map code_of) (get_stays codes more k below)

pub grows_not : (t : Tables) → Grows t t
grows_not t = record { ranges = ([], sym (append-nil t.ranges)); codes = ([], sym (append-nil t.codes)) }

pub grows_again : (t u v : Tables) → Grows t u → Grows u v → Grows t v
grows_again t u v a b = record { ranges = extends_again t.ranges u.ranges v.ranges a.ranges b.ranges; codes = extends_again t.codes u.codes v.codes a.codes b.codes }

module _ (t u : Tables) (grows : Grows t u) where
  pub code_kept : (c : KeptCanister) → IsStored t c → code_at u.codes c.code ≡ code_at t.codes c.code
  code_kept c is = ap (λ l. code_at l c.code) grows.codes.1 ∙ code_stays t.codes grows.codes.0 c.code is.code

  bytes_kept : (ns : List ℕ) → AllByRecursion (λ n. n < length t.ranges) ns → bytes_of u.ranges ns ≡ bytes_of t.ranges ns
  bytes_kept ns are = ap (λ l. bytes_of l ns) grows.ranges.1 ∙ bytes_stay t.ranges grows.ranges.0 ns are

  pub stored_stays : (c : KeptCanister) → IsStored t c → IsStored u c
  stored_stays c is = record {
    memory = subst (λ l. AllByRecursion (λ n. n < length l) c.store.memory) (sym grows.ranges.1) (numbers_stay t.ranges grows.ranges.0 c.store.memory is.memory);
    stable = subst (λ l. AllByRecursion (λ n. n < length l) c.store.stable) (sym grows.ranges.1) (numbers_stay t.ranges grows.ranges.0 c.store.stable is.stable);
    code = below c.code is.code;
    pages = subst (λ (x : Option Code). ArePages (page_limit (declared_maximum x)) (bytes_of u.ranges c.store.memory)) (sym (code_kept c is))
        (subst (ArePages (page_limit (declared_maximum (code_at t.codes c.code)))) (sym (bytes_kept c.store.memory is.memory)) is.pages);
    stable_pages = subst (ArePages 256) (sym (bytes_kept c.store.stable is.stable)) is.stable_pages;
  } where
    below : (n : Option ℕ) → IfSome n (λ k. k < length t.codes) → IfSome n (λ k. k < length u.codes)
    below None h = tt
    below (Some k) h = omega (arith, h, ap length grows.codes.1, length-append t.codes grows.codes.0)

  pub canister_stays : (c : KeptCanister) → IsStored t c → canister_at u c ≡ canister_at t c
  canister_stays c is = λ i. record {
    id = c.id;
    controllers = c.controllers;
    balance = c.balance;
    code = code_kept c is i;
    store = record {
      memory = bytes_kept c.store.memory is.memory i;
      maximum = declared_maximum (code_kept c is i);
      globals = c.store.globals;
      table = c.store.table;
      stable = bytes_kept c.store.stable is.stable i;
    };
    certified = c.certified;
    contexts = c.contexts;
    phase = c.phase;
    next_call = c.next_call;
    outstanding = c.outstanding;
  }

  pub all_stored : (cs : List KeptCanister) → AllByRecursion (IsStored t) cs → AllByRecursion (IsStored u) cs
  all_stored [] all = tt
  all_stored (c ∷ cs) all = (stored_stays c all.0, all_stored cs all.1)

  pub canisters_stay : (cs : List KeptCanister) → AllByRecursion (IsStored t) cs → map (canister_at u) cs ≡ map (canister_at t) cs
  canisters_stay [] all = refl
  canisters_stay (c ∷ cs) all = ap₂ (λ (x : CountedCanister) l. x ∷ l) (canister_stays c all.0) (canisters_stay cs all.1)

  pub codes_stay : (cs : List KeptCanister) → AllByRecursion (IsStored t) cs → map (λ (c : KeptCanister). code_at u.codes c.code) cs ≡ map (λ (c : KeptCanister). code_at t.codes c.code) cs
  codes_stay [] all = refl
  codes_stay (c ∷ cs) all = ap₂ (λ (x : Option Code) l. x ∷ l) (code_kept c all.0) (codes_stay cs all.1)

  entries_stay : (cs : List KeptCanister) → AllByRecursion (IsStored t) cs → map (entry_at u) cs ≡ map (entry_at t) cs
  entries_stay [] all = refl
  entries_stay (c ∷ cs) all = ap₂ (λ (x : CountedCanister) (l : List (List ℕ × Canister)). (c.id, dropped x) ∷ l) (canister_stays c all.0) (entries_stay cs all.1)

  pub state_stays : (k : KeptState) → AllByRecursion (IsStored t) k.canisters → state_at u k ≡ state_at t k
  state_stays k all = ap (λ es. record (state_at t k) { canisters = es }) (entries_stay k.canisters all)

  counts_stay : (s r : State) (cs : List KeptCanister) → r ≡ s → AllByRecursion (IsStored t) cs → AllByRecursion (HasCountsAt t s) cs → AllByRecursion (HasCountsAt u r) cs
  counts_stay s r [] same all counts = tt
  counts_stay s r (c ∷ cs) same all counts =
      (ap₂ (λ (x : State) (y : CountedCanister). counted x c.id (dropped y)) same (canister_stays c all.0) ∙ counts.0 ∙ sym (canister_stays c all.0), counts_stay s r cs same all.1 counts.1)

  are_stay : (cs : List KeptCanister) → AllByRecursion (IsStored t) cs → AllByRecursion (IsCanisterAt t) cs → AllByRecursion (IsCanisterAt u) cs
  are_stay [] all are = tt
  are_stay (c ∷ cs) all are = ((λ w e begun. are.0 w (e ∙ canister_stays c all.0) begun), are_stay cs all.1 are.1)

  pub kept_stays : (k : KeptState) → IsKept t k → IsKept u k × (state_at u k ≡ state_at t k)
  kept_stays k is =
      let same = state_stays k is.stored in (
        record {
          stored = all_stored k.canisters is.stored;
          sound = subst Sound (sym same) is.sound;
          counts = counts_stay (state_at t k) (state_at u k) k.canisters same is.stored is.counts;
          canisters = are_stay k.canisters is.stored is.canisters;
        },
        same,
      )

-- ---- one table grows

pub more_ranges : (t : Tables) (ranges : List (List ℕ)) (codes : List StoredCode) (mid now : List (List ℕ)) → record { ranges = ranges; codes = codes } ≡ t → Extends ranges mid → Extends mid now
    → Grows t (record { ranges = now; codes = codes })
more_ranges t ranges codes mid now view a b =
    subst (λ (x : Tables). Grows x (record { ranges = now; codes = codes })) view (record { ranges = extends_again ranges mid now a b; codes = ([], sym (append-nil codes)) })

pub memory_stays : (r s : List (List ℕ)) (ns ms bytes : List ℕ) → Extends r s → AreNumbers r ns → bytes_of r ns ≡ bytes → ms ≡ ns → AreNumbers s ms × (bytes_of s ms ≡ bytes)
memory_stays r s ns ms bytes (more, is) are same named =
    subst (λ (l : List ℕ). AreNumbers s l × (bytes_of s l ≡ bytes)) (sym named)
    (subst (λ (l : List (List ℕ)). AreNumbers l ns) (sym is) (numbers_stay r more ns are), ap (λ l. bytes_of l ns) is ∙ bytes_stay r more ns are ∙ same)

-- one more code
pub codes_end : (cs : List StoredCode) (c : StoredCode) → AreCodes cs → All (λ (d : StoredCode). ¬ (code_of d ≡ code_of c)) cs → AreCodes (cs ++ c ∷ [])
codes_end [] c once none = (tt, tt)
codes_end (d ∷ cs) c once none = (ends cs once.0, codes_end cs c once.1 (λ k x below. none (suc k) x (omega (arith, below)))) where
  ends : (xs : List StoredCode) → AllByRecursion (λ (x : StoredCode). ¬ (code_of d ≡ code_of x)) xs → AllByRecursion (λ (x : StoredCode). ¬ (code_of d ≡ code_of x)) (xs ++ c ∷ [])
  ends [] all = (none zero d (omega arith), tt)
  ends (x ∷ xs) all = (all.0, ends xs all.1)

pub code_at_end : (cs : List StoredCode) (c : StoredCode) → slice_get (cs ++ c ∷ []) (length cs) ≡ Some c
code_at_end [] c = refl
code_at_end (d ∷ cs) c = code_at_end cs c
