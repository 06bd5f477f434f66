-- A canister is changed, and the others stay.
use Rattle.std.proofs.Common.{◌≡◌, ℕ, ◌+◌, ◌<◌, ◌≤◌, Bool, true, false, cond, List, [], ◌∷◌, ◌++◌, map, length, Some, None, Option, refl, sym, ap, ◌∙◌, subst, arith}
use Rattle.std.specs.List.{AllByRecursion, flat_map}
use Rattle.std.specs.List.Sorted.{IsStrictlySortedBy}
use Rattle.std.specs.Map.{keys_of, lookup, set_value}
use Rattle.std.specs.Ordering.{nat_cmp}
use Rattle.std.specs.Cmp.Lexicographic.{slice_cmp}
use Rattle.std.proofs.lemmas.Map.{keys-set_value, length-set_value}
use Rattle.ic_behaviour.specs.Totals.{total}
use Rattle.ic_behaviour.specs.State.{at, waiting, Canister, State}
use Rattle.ic_behaviour.specs.Items.{Item, InContext, InWaiter, items_at, HasNext}
use Rattle.ic_behaviour.specs.Sound.{HasCode, IsInPhase}
use Rattle.ic_behaviour.specs.Tallied.{Tallied, IsEntry}
use Rattle.ic_behaviour.proofs.Weights.{each-back, total-append, total-at, total-map}
use Rattle.ic_behaviour.proofs.Spots.{total-spot}
use Rattle.ic_run_laws.proofs.Fills.{each-at}
use Rattle.ic_run_laws.proofs.Spots.{Spot, spot}

-- what the canisters es are, beside their items and balances, in place of those of s
pub record Restands (s : State) (es : List (List ℕ × Canister)) : Type 1 where
  pub rises : IsStrictlySortedBy (slice_cmp nat_cmp) (keys_of es)
  pub entries : AllByRecursion (IsEntry s.next_canister) es
  pub next : (caller : List ℕ) (n : ℕ) → HasNext caller n s.canisters → HasNext caller n es
  pub keys : (P : List ℕ → Type 0) → AllByRecursion (λ (e : List ℕ × Canister). P e.0) s.canisters → AllByRecursion (λ (e : List ℕ × Canister). P e.0) es
  pub many : length es ≡ length s.canisters

pub as_before : (s : State) → Tallied s → Restands s s.canisters
as_before s sound = record { rises = sound.rises; entries = sound.entries; next = λ caller n h. h; keys = λ P all. all; many = refl }

each-key : (P : List ℕ → Type 0) (test : List ℕ → Bool) (b : Canister) (es : List (List ℕ × Canister)) → AllByRecursion (λ (e : List ℕ × Canister). P e.0) es → AllByRecursion (λ (e : List ℕ × Canister). P e.0) (set_value test es b)
each-key P test b [] all = tt
each-key P test b (e ∷ es) all = by (test e.0) (each-key P test b es all.1) where
  by : (c : Bool) → AllByRecursion (λ (f : List ℕ × Canister). P f.0) (set_value test es b) → AllByRecursion (λ (f : List ℕ × Canister). P f.0) (cond c ((e.0, b) ∷ es) (e ∷ set_value test es b))
  by true later = (all.0, all.1)
  by false later = (all.0, later)

pub set_twice : (test : List ℕ → Bool) (es : List (List ℕ × Canister)) (b c : Canister) → set_value test (set_value test es b) c ≡ set_value test es c
set_twice test [] b c = refl
set_twice test (e ∷ es) b c = by (test e.0) refl (set_twice test es b c) where
  by : (d : Bool) → test e.0 ≡ d → set_value test (set_value test es b) c ≡ set_value test es c → set_value test (set_value test (e ∷ es) b) c ≡ set_value test (e ∷ es) c
  by true is later = rw is (rw is refl)
  by false is later = rw is (rw is (ap (λ l. e ∷ l) later))

pub set_found : (test : List ℕ → Bool) (es : List (List ℕ × Canister)) (a b : Canister) → lookup test es ≡ Some a → lookup test (set_value test es b) ≡ Some b
set_found test [] a b found = absurd (none found) where
  none : ◌≡◌ {A = Option Canister} None (Some a) → ⊥
  none e = cc
set_found test (e ∷ es) a b found = by (test e.0) refl found (λ h. set_found test es a b h) where
  by : (c : Bool) → test e.0 ≡ c → cond c (Some e.1) (lookup test es) ≡ Some a → (lookup test es ≡ Some a → lookup test (set_value test es b) ≡ Some b) → lookup test (set_value test (e ∷ es) b) ≡ Some b
  by true is found later = rw is (rw is refl)
  by false is found later = rw is (rw is (later found))

-- the canister c, which is under id, becomes b
module _ (s : State) (id : List ℕ) (c : Canister) (found : lookup (at id) s.canisters ≡ Some c) where
  abbrev p : Spot id s.canisters c
  p = spot id s.canisters c found

  pub found_items : (w : Item → ℕ) → total w (items_at (id, c)) ≤ total w (flat_map items_at s.canisters)
  found_items w = omega (
    arith,
    ap (λ l. total w (flat_map items_at l)) p.whole,
    total-spot w id c p.before p.after,
    total-append w (map (InContext id) c.contexts) (map (InWaiter id) (waiting c.phase)),
    total-map (InContext id) w c.contexts,
    total-map (InWaiter id) w (waiting c.phase),
  )

  pub found_entry : Tallied s → IsEntry s.next_canister (id, c)
  found_entry sound = (each-at (IsEntry s.next_canister) p.before (id, c) p.after (subst (AllByRecursion (IsEntry s.next_canister)) p.whole sound.entries)).1

  module _ (b : Canister) where
    abbrev pub es : List (List ℕ × Canister)
    es = set_value (at id) s.canisters b

    pub set_items : (w : Item → ℕ) → total w (flat_map items_at es) + total w (items_at (id, c)) ≡ total w (flat_map items_at s.canisters) + total w (items_at (id, b))
    set_items w = omega (
      arith,
      ap (λ l. total w (flat_map items_at l)) (p.set b),
      ap (λ l. total w (flat_map items_at l)) p.whole,
      total-spot w id c p.before p.after,
      total-spot w id b p.before p.after,
      own c,
      own b,
    ) where
      own : (d : Canister) → total w (items_at (id, d)) ≡ total (λ x. w (InContext id x)) d.contexts + total (λ v. w (InWaiter id v)) (waiting d.phase)
      own d = omega (arith, total-append w (map (InContext id) d.contexts) (map (InWaiter id) (waiting d.phase)), total-map (InContext id) w d.contexts, total-map (InWaiter id) w (waiting d.phase))

    pub set_balances : total (λ (e : List ℕ × Canister). e.1.balance) es + c.balance ≡ total (λ (e : List ℕ × Canister). e.1.balance) s.canisters + b.balance
    set_balances = omega (
      arith,
      ap (total (λ (e : List ℕ × Canister). e.1.balance)) (p.set b),
      ap (total (λ (e : List ℕ × Canister). e.1.balance)) p.whole,
      total-at (λ (e : List ℕ × Canister). e.1.balance) p.before (id, c) p.after,
      total-at (λ (e : List ℕ × Canister). e.1.balance) p.before (id, b) p.after,
    )

    module _ (sound : Tallied s) where
      pub set_restands : b.id ≡ c.id → b.next_call ≡ c.next_call → HasCode b.code b.contexts → IsInPhase b.phase b.contexts → Restands s es
      set_restands same_id same_next has_code in_phase = record {
        rises = subst (IsStrictlySortedBy (slice_cmp nat_cmp)) (sym (keys-set_value (at id) s.canisters b)) sound.rises;
        entries = subst (AllByRecursion (IsEntry s.next_canister)) (sym (p.set b)) (each-back (IsEntry s.next_canister) p.before (id, b) p.after
            (each-at (IsEntry s.next_canister) p.before (id, c) p.after (subst (AllByRecursion (IsEntry s.next_canister)) p.whole sound.entries)).0
            (record { own_id = same_id ∙ (found_entry sound).own_id; named = (found_entry sound).named; has_code = has_code; in_phase = in_phase }));
        next = λ caller n h. at_next caller n (each-at (λ (e : List ℕ × Canister). at caller e.0 ≡ true → n < e.1.next_call) p.before (id, c) p.after (subst (HasNext caller n) p.whole h));
        keys = λ P all. each-key P (at id) b s.canisters all;
        many = length-set_value (at id) s.canisters b;
      } where
        at_next : (caller : List ℕ) (n : ℕ) → HasNext caller n (p.before ++ p.after) × (at caller id ≡ true → n < c.next_call) → HasNext caller n es
        at_next caller n parts = subst (HasNext caller n) (sym (p.set b)) (each-back (λ (e : List ℕ × Canister). at caller e.0 ≡ true → n < e.1.next_call) p.before (id, b) p.after parts.0
            (λ is. (let small = parts.1 is in omega (arith, small, same_next))))
