-- A canister in the map, and the others around it.
use Rattle.std.proofs.Common.{◌≡◌, ℕ, Bool, true, false, ◌&&◌, List, [], ◌∷◌, ◌++◌, map, Option, Some, refl, sym, ap, ◌∙◌, arith, true≢false, is_eq}
use Rattle.std.specs.List.{AllByRecursion, flat_map}
use Rattle.std.specs.List.Sorted.{IsStrictlySortedBy}
use Rattle.std.specs.Option.{is_some}
use Rattle.std.specs.Map.{keys_of, lookup, set_value, remove_entry}
use Rattle.std.specs.Ordering.{nat_cmp}
use Rattle.std.specs.Cmp.Lexicographic.{slice_cmp}
use Rattle.std.specs.declared.cmp.Ordering.TheVariants.{Less}
use Rattle.ic_behaviour.proofs.Spots.{same_counter, no_waiters}
use Rattle.ic_behaviour.proofs.Weights.{at-back, at-is, total-append, total-map}
use Rattle.ic_behaviour.specs.Items.{InContext, InWaiter, IsOfOlder, is_context, items_at}
use Rattle.ic_behaviour.specs.Sound.{IsNamed}
use Rattle.ic_behaviour.specs.State.{CallContext, Canister, at, same_id, waiting}
use Rattle.ic_behaviour.specs.Totals.{one, total}
use Rattle.ic_behaviour.specs.declared.call.CallId.{CallId}

pub record Spot (key : List ℕ) (es : List (List ℕ × Canister)) (a : Canister) : Type 0 where
  pub before : List (List ℕ × Canister)
  pub after : List (List ℕ × Canister)
  pub whole : es ≡ before ++ (key, a) ∷ after
  pub set : (b : Canister) → set_value (at key) es b ≡ before ++ (key, b) ∷ after
  pub gone : remove_entry (at key) es ≡ before ++ after

same_value : (x y : Canister) → ◌≡◌ {A = Option Canister} (Some x) (Some y) → x ≡ y
same_value x y e = cc

pub spot : (key : List ℕ) (es : List (List ℕ × Canister)) (a : Canister) → lookup (at key) es ≡ Some a → Spot key es a
spot key [] a e = absurd (true≢false (ap is_some (sym e)))
spot key (x ∷ es) a e = by (at key x.0) refl (λ later. spot key es a later) where
  by : (b : Bool) → at key x.0 ≡ b → (lookup (at key) es ≡ Some a → Spot key es a) → Spot key (x ∷ es) a
  by true is later =
      let key_is : key ≡ x.0 = at-is key x.0 is in
      let value_is : x.1 ≡ a = same_value x.1 a (rw is at e) in
      let both : ◌≡◌ {A = List ℕ × Canister} x (key, a) = (let back = sym key_is in λ i. (back i, value_is i)) in
      record { before = []; after = es; whole = ap (λ y. y ∷ es) both; set = λ b. rw is (ap (λ (k : List ℕ). (k, b) ∷ es) (sym key_is)); gone = rw is refl }
  by false is later =
      let more = later (rw is at e) in
      record { before = x ∷ more.before; after = more.after; whole = ap (λ l. x ∷ l) more.whole; set = λ b. rw is (ap (λ l. x ∷ l) (more.set b)); gone = rw is (ap (λ l. x ∷ l) more.gone) }

-- in rising order no other has the key
apart-after : (key : List ℕ) (es : List (List ℕ × Canister)) → AllByRecursion (λ k. slice_cmp nat_cmp key k ≡ Less) (keys_of es) → AllByRecursion (λ (e : List ℕ × Canister). at key e.0 ≡ false) es
apart-after key [] all = tt
apart-after key (e ∷ es) all = (ap is_eq all.0, apart-after key es all.1)

last-of : (P : List ℕ → Type 0) (before : List (List ℕ × Canister)) (key : List ℕ) (a : Canister) (after : List (List ℕ × Canister)) → AllByRecursion P (keys_of (before ++ (key, a) ∷ after)) → P key
last-of P [] key a after all = all.0
last-of P (e ∷ before) key a after all = last-of P before key a after all.1

pub apart : (key : List ℕ) (a : Canister) (before after : List (List ℕ × Canister)) → IsStrictlySortedBy (slice_cmp nat_cmp) (keys_of (before ++ (key, a) ∷ after)) → AllByRecursion (λ (e : List ℕ × Canister). at key e.0 ≡ false) (before ++ after)
unfolding IsStrictlySortedBy
apart key a [] after sorted = apart-after key after sorted.0
apart key a (e ∷ before) after sorted =
    (at-back e.0 key (ap is_eq (last-of (λ k. slice_cmp nat_cmp e.0 k ≡ Less) before key a after sorted.0)), apart key a before after sorted.1)

pub older : (next : ℕ) (key : List ℕ) → IsNamed next key → IsOfOlder key next
older next key named k small is = let same : k ≡ named.0 = same_counter k named.0 small named.2 (sym is ∙ named.3) in omega (arith, same, named.1)

elsewhere : (key other : List ℕ) (id : CallId) → at key other ≡ false → (xs : List CallContext) → total (λ x. is_context key id (InContext other x)) xs ≡ 0
elsewhere key other id differs [] = refl
elsewhere key other id differs (x ∷ xs) = omega (arith, elsewhere key other id differs xs, ap (λ b. one (b && same_id id x.id)) differs)

pub no_others : (key : List ℕ) (id : CallId) (es : List (List ℕ × Canister)) → AllByRecursion (λ (e : List ℕ × Canister). at key e.0 ≡ false) es → total (is_context key id) (flat_map items_at es) ≡ 0
no_others key id [] all = refl
no_others key id (e ∷ es) all = omega (
  arith,
  total-append (is_context key id) (items_at e) (flat_map items_at es),
  total-append (is_context key id) (map (InContext e.0) e.1.contexts) (map (InWaiter e.0) (waiting e.1.phase)),
  total-map (InContext e.0) (is_context key id) e.1.contexts,
  total-map (InWaiter e.0) (is_context key id) (waiting e.1.phase),
  elsewhere key e.0 id all.0 e.1.contexts,
  no_waiters key e.0 id (waiting e.1.phase),
  no_others key id es all.1,
)
