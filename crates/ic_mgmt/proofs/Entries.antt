-- Canisters in a map, one of which is changed, made or goes.
use Rattle.std.proofs.Common.{◌≡◌, ℕ, Bool, true, false, cond, List, [], ◌∷◌, map, Some, refl, sym, ap, subst, is_eq}
use Rattle.std.specs.Prelude.{option_map}
use Rattle.std.specs.List.{AllByRecursion}
use Rattle.std.specs.Map.{lookup, set_value, remove_entry}
use Rattle.std.specs.BTreeMap.{insert_entry}
use Rattle.std.specs.declared.cmp.Ordering.{Ordering}
use Rattle.std.specs.declared.cmp.Ordering.TheVariants.{Less, Equal, Greater}
use Rattle.std.specs.Ordering.{nat_cmp, match_ordering}
use Rattle.std.specs.Cmp.Lexicographic.{slice_cmp}
use Rattle.std.proofs.lemmas.Map.Made.{lookup-map_values}
use Rattle.ic_behaviour.specs.State.{at, Canister}
use Rattle.ic_behaviour.specs.Counted.{dropped}
use Rattle.ic_behaviour.proofs.Weights.{at-is, at-self}
use Rattle.ic_state.specs.declared.canister.Canister.{Canister as StoredCanister}
use Rattle.ic_state.specs.Seen.{seen, entry_of}

abbrev pub Entries : Type 0
Entries = List (List ℕ × StoredCanister)

-- ---- what holds of each

module _ (P : List ℕ × StoredCanister → Type 0) (key : List ℕ) where
  pub found_each : (es : Entries) (c : StoredCanister) → lookup (at key) es ≡ Some c → AllByRecursion P es → P (key, c)
  found_each [] c is all = cc
  found_each (e ∷ es) c is all = by (λ there. found_each es c there all.1) (at key e.0) refl is where
    by : (lookup (at key) es ≡ Some c → P (key, c)) → (b : Bool) → at key e.0 ≡ b → cond b (Some e.1) (lookup (at key) es) ≡ Some c → P (key, c)
    by later true here is =
        subst (λ (d : StoredCanister). P (key, d)) (let same : e.1 ≡ c = cc in same) (subst (λ (k : List ℕ). P (k, e.1)) (sym (at-is key e.0 here)) all.0)
    by later false here is = later is

  pub each_set : (es : Entries) (d : StoredCanister) → P (key, d) → AllByRecursion P es → AllByRecursion P (set_value (at key) es d)
  each_set [] d here all = tt
  each_set (e ∷ es) d here all = by (each_set es d here all.1) (at key e.0) refl where
    by : AllByRecursion P (set_value (at key) es d) → (b : Bool) → at key e.0 ≡ b → AllByRecursion P (cond b ((e.0, d) ∷ es) (e ∷ set_value (at key) es d))
    by later true is = (subst (λ (k : List ℕ). P (k, d)) (at-is key e.0 is) here, all.1)
    by later false is = (all.0, later)

  pub each_remove : (es : Entries) → AllByRecursion P es → AllByRecursion P (remove_entry (at key) es)
  each_remove [] all = tt
  each_remove (e ∷ es) all = by (each_remove es all.1) (at key e.0) where
    by : AllByRecursion P (remove_entry (at key) es) → (b : Bool) → AllByRecursion P (cond b es (e ∷ remove_entry (at key) es))
    by later true = all.1
    by later false = (all.0, later)

  pub each_insert : (es : Entries) (d : StoredCanister) → P (key, d) → AllByRecursion P es → AllByRecursion P (insert_entry (slice_cmp nat_cmp) es key d)
  each_insert [] d here all = (here, tt)
  each_insert (e ∷ es) d here all = by (each_insert es d here all.1) (slice_cmp nat_cmp key e.0) refl where
    by : AllByRecursion P (insert_entry (slice_cmp nat_cmp) es key d) → (o : Ordering) → slice_cmp nat_cmp key e.0 ≡ o
        → AllByRecursion P (match_ordering o ((key, d) ∷ e ∷ es) ((e.0, d) ∷ es) (e ∷ insert_entry (slice_cmp nat_cmp) es key d))
    by later Less is = (here, all)
    by later Equal is = (subst (λ (k : List ℕ). P (k, d)) (at-is key e.0 (ap is_eq is)) here, all.1)
    by later Greater is = (all.0, later)

-- ---- as a state has them

pub seen_lookup : (key : List ℕ) (es : Entries) → lookup (at key) (map entry_of es) ≡ option_map (λ c. dropped (seen c)) (lookup (at key) es)
seen_lookup key es = lookup-map_values (λ c. dropped (seen c)) (at key) es

pub seen_set : (key : List ℕ) (es : Entries) (d : StoredCanister) → map entry_of (set_value (at key) es d) ≡ set_value (at key) (map entry_of es) (dropped (seen d))
seen_set key [] d = refl
seen_set key (e ∷ es) d = by (at key e.0) (seen_set key es d) where
  by : (b : Bool) → map entry_of (set_value (at key) es d) ≡ set_value (at key) (map entry_of es) (dropped (seen d))
      → map entry_of (cond b ((e.0, d) ∷ es) (e ∷ set_value (at key) es d)) ≡ cond b ((e.0, dropped (seen d)) ∷ map entry_of es) (entry_of e ∷ set_value (at key) (map entry_of es) (dropped (seen d)))
  by true more = refl
  by false more = ap (λ l. entry_of e ∷ l) more

pub seen_remove : (key : List ℕ) (es : Entries) → map entry_of (remove_entry (at key) es) ≡ remove_entry (at key) (map entry_of es)
seen_remove key [] = refl
seen_remove key (e ∷ es) = by (at key e.0) (seen_remove key es) where
  by : (b : Bool) → map entry_of (remove_entry (at key) es) ≡ remove_entry (at key) (map entry_of es)
      → map entry_of (cond b es (e ∷ remove_entry (at key) es)) ≡ cond b (map entry_of es) (entry_of e ∷ remove_entry (at key) (map entry_of es))
  by true more = refl
  by false more = ap (λ l. entry_of e ∷ l) more

-- what was inserted is put in another's place
pub set_insert : (key : List ℕ) (es : List (List ℕ × Canister)) (a b : Canister)
    → set_value (at key) (insert_entry (slice_cmp nat_cmp) es key a) b ≡ insert_entry (slice_cmp nat_cmp) es key b
set_insert key [] a b = rw (at-self key) refl
set_insert key (e ∷ es) a b = by (set_insert key es a b) (slice_cmp nat_cmp key e.0) refl where
  matched : Ordering → Canister → List (List ℕ × Canister)
  matched o x = match_ordering o ((key, x) ∷ e ∷ es) ((e.0, x) ∷ es) (e ∷ insert_entry (slice_cmp nat_cmp) es key x)

  by : set_value (at key) (insert_entry (slice_cmp nat_cmp) es key a) b ≡ insert_entry (slice_cmp nat_cmp) es key b → (o : Ordering) → slice_cmp nat_cmp key e.0 ≡ o → set_value (at key) (matched o a) b ≡ matched o b
  by later Less is = rw (at-self key) refl
  by later Equal is = rw (let here : at key e.0 ≡ true = ap is_eq is in here) refl
  by later Greater is = rw (let there : at key e.0 ≡ false = ap is_eq is in there) (ap (λ l. e ∷ l) later)
