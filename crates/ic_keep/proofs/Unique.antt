-- A state is kept in one way.
use Rattle.std.proofs.Common.{◌≡◌, ℕ, zero, suc, ◌<◌, List, [], ◌∷◌, map, length, slice_get, Option, Some, None, IfSome, option_map, refl, sym, ap, subst, ◌∙◌, not-suc-le-zero, arith}
use Rattle.std.specs.List.{AllByRecursion}
use Rattle.ic_behaviour.specs.State.{Canister, State}
use Rattle.ic_behaviour.specs.Counted.{CountedCanister, counted, dropped}
use Rattle.ic_state.specs.declared.canister.Code.{Code as StoredCode}
use Rattle.ic_state.specs.Seen.{code_of}
use Rattle.ic_exact.proofs.Once.{one_list}
use Rattle.ic_order.specs.Order.{without_messages, SameState}
use Rattle.ic_keep.specs.declared.parts.KeptCanister.{KeptCanister}
use Rattle.ic_keep.specs.Kept.{Tables, KeptState, kept_without_messages, code_at, canister_at, entry_at, state_at}
use Rattle.ic_keep.specs.IsKept.{AreCodes, AreTables, IsStored, HasCountsAt, IsKept}

-- ---- codes

differs : (c : StoredCode) (cs : List StoredCode) (n : ℕ) → n < length cs → AllByRecursion (λ (d : StoredCode). ¬ (code_of c ≡ code_of d)) cs
    → Some (code_of c) ≡ option_map code_of (slice_get cs n) → ⊥
differs c [] n below all same = not-suc-le-zero below
differs c (d ∷ cs) zero below all same = all.0 (cc)
differs c (d ∷ cs) (suc n) below all same = differs c cs n (omega (arith, below)) all.1 same

one_number : (cs : List StoredCode) (n m : ℕ) → AreCodes cs → n < length cs → m < length cs → option_map code_of (slice_get cs n) ≡ option_map code_of (slice_get cs m) → n ≡ m
one_number [] n m once below under same = absurd (not-suc-le-zero below)
one_number (c ∷ cs) zero zero once below under same = refl
one_number (c ∷ cs) zero (suc m) once below under same = absurd (differs c cs m (omega (arith, under)) once.0 same)
one_number (c ∷ cs) (suc n) zero once below under same = absurd (differs c cs n (omega (arith, below)) once.0 (sym same))
one_number (c ∷ cs) (suc n) (suc m) once below under same = ap suc (one_number cs n m once.1 (omega (arith, below)) (omega (arith, under)) same)

there : (cs : List StoredCode) (n : ℕ) → n < length cs → None ≡ option_map code_of (slice_get cs n) → ⊥
there [] n below none = not-suc-le-zero below
there (c ∷ cs) zero below none = cc
there (c ∷ cs) (suc n) below none = there cs n (omega (arith, below)) none

one_code : (cs : List StoredCode) (n m : Option ℕ) → AreCodes cs → IfSome n (λ k. k < length cs) → IfSome m (λ k. k < length cs) → code_at cs n ≡ code_at cs m → n ≡ m
one_code cs None None once below under same = refl
one_code cs None (Some m) once below under same = absurd (there cs m under same)
one_code cs (Some n) None once below under same = absurd (there cs n below (sym same))
one_code cs (Some n) (Some m) once below under same = ap Some (one_number cs n m once below under same)

-- ---- canisters and states

module _ (t : Tables) (once : AreTables t) where
  one_kept : (c d : KeptCanister) → IsStored t c → IsStored t d → canister_at t c ≡ canister_at t d → c ≡ d
  one_kept c d is are same =
      let code : c.code ≡ d.code = one_code t.codes c.code d.code once.codes is.code are.code (ap (λ (x : CountedCanister). x.code) same) in
      let memory : c.store.memory ≡ d.store.memory = one_list t.ranges c.store.memory d.store.memory once.ranges is.memory are.memory (ap (λ (x : CountedCanister). x.store.memory) same) in
      let stable : c.store.stable ≡ d.store.stable = one_list t.ranges c.store.stable d.store.stable once.ranges is.stable are.stable (ap (λ (x : CountedCanister). x.store.stable) same) in
      λ i. record {
        id = (same i).id;
        controllers = (same i).controllers;
        balance = (same i).balance;
        code = code i;
        store = record { memory = memory i; globals = (same i).store.globals; table = (same i).store.table; stable = stable i };
        certified = (same i).certified;
        contexts = (same i).contexts;
        phase = (same i).phase;
        next_call = (same i).next_call;
        outstanding = (same i).outstanding;
      }

  one_canister : (s : State) (c d : KeptCanister) → IsStored t c → IsStored t d → HasCountsAt t s c → HasCountsAt t s d → entry_at t c ≡ entry_at t d → c ≡ d
  one_canister s c d is are m n same =
      one_kept c d is are (sym m ∙ ap (λ (e : List ℕ × Canister). counted s e.0 e.1) same ∙ n)

  one_each : (s : State) (cs ds : List KeptCanister) → AllByRecursion (IsStored t) cs → AllByRecursion (IsStored t) ds → AllByRecursion (HasCountsAt t s) cs → AllByRecursion (HasCountsAt t s) ds
      → map (entry_at t) cs ≡ map (entry_at t) ds → cs ≡ ds
  one_each s [] [] is are m n same = refl
  one_each s [] (d ∷ ds) is are m n same = cc
  one_each s (c ∷ cs) [] is are m n same = cc
  one_each s (c ∷ cs) (d ∷ ds) is are m n same =
      let head : entry_at t c ≡ entry_at t d = cc in
      let tail : map (entry_at t) cs ≡ map (entry_at t) ds = cc in
      λ i. one_canister s c d is.0 are.0 m.0 n.0 head i ∷ one_each s cs ds is.1 are.1 m.1 n.1 tail i

  recounted : (s r : State) → ((key : List ℕ) (c : Canister) → counted s key c ≡ counted r key c) → (cs : List KeptCanister) → AllByRecursion (HasCountsAt t r) cs → AllByRecursion (HasCountsAt t s) cs
  recounted s r alike [] all = tt
  recounted s r alike (c ∷ cs) all = (alike c.id (dropped (canister_at t c)) ∙ all.0, recounted s r alike cs all.1)

  -- states that differ only in the order of messages have the same counts
  pub one_rest : ((s r : State) → SameState s r → (key : List ℕ) (c : Canister) → counted s key c ≡ counted r key c) → (k l : KeptState) → IsKept t k → IsKept t l
      → SameState (state_at t k) (state_at t l) → kept_without_messages k ≡ kept_without_messages l
  one_rest alike k l is are same =
      let counts : AllByRecursion (HasCountsAt t (state_at t k)) l.canisters = recounted (state_at t k) (state_at t l) (alike (state_at t k) (state_at t l) same) l.canisters are.counts in
      let each : k.canisters ≡ l.canisters = one_each (state_at t k) k.canisters l.canisters is.stored are.stored is.counts counts (ap (λ (s : State). s.canisters) same.rest) in
      λ i. record {
        canisters = each i;
        messages = [];
        requests = (same.rest i).requests;
        time = (same.rest i).time;
        created = (same.rest i).created;
        burned = (same.rest i).burned;
        next_canister = (same.rest i).next_canister;
      }

  pub one_state : (k l : KeptState) → IsKept t k → IsKept t l → state_at t k ≡ state_at t l → k ≡ l
  one_state k l is are same =
      let counts : AllByRecursion (HasCountsAt t (state_at t k)) l.canisters = subst (λ (s : State). AllByRecursion (HasCountsAt t s) l.canisters) (sym same) are.counts in
      let each : k.canisters ≡ l.canisters = one_each (state_at t k) k.canisters l.canisters is.stored are.stored is.counts counts (ap (λ (s : State). s.canisters) same) in
      λ i. record {
        canisters = each i;
        messages = (same i).messages;
        requests = (same i).requests;
        time = (same i).time;
        created = (same i).created;
        burned = (same i).burned;
        next_canister = (same i).next_canister;
      }
