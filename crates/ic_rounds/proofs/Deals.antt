-- Canisters dealt into slots.
use Rattle.std.proofs.Common.{◌≡◌, ℕ, true, false, List, [], ◌∷◌, ◌++◌, map, length, arith, Option, Some, None, refl, sym, ap, ◌∙◌, subst, inl, inr, append_assoc, append-nil}
use Rattle.std.specs.Prelude.{is_some, nat_eq}
use Rattle.std.specs.List.{AllByRecursion, fold, list_all, zip}
use Rattle.std.specs.Ordering.{nat_cmp}
use Rattle.std.specs.Cmp.Lexicographic.{slice_cmp, pointwise, texts_ties}
use Rattle.std.specs.Map.{lookup, keys_of, remove_entry}
use Rattle.std.proofs.lemmas.Bool.{cases_Bool, cond-true, cond-false, and_parts}
use Rattle.std.proofs.lemmas.Map.{lookup-remove_entry}
use Rattle.std.proofs.lemmas.Map.Keys.{IsDistinct-from_sorted, IsDistinct-head, IsDistinct-tail}
use Rattle.ic_behaviour.specs.declared.call.Message.{Message}
use Rattle.ic_behaviour.specs.State.{at}
use Rattle.ic_behaviour.proofs.Weights.{laws, at-is, at-self}
use Rattle.ic_state.specs.declared.canister.Canister.{Canister}
use Rattle.ic_rounds.specs.declared.slot.Slot.{Slot}
use Rattle.ic_rounds.specs.Dealing.{Dealing, deal, deal_to}
use Rattle.ic_rounds.proofs.Batches.{AreDistinct}
use Rattle.ic_rounds.proofs.PutBacks.{Rises, minus, sorted-remove}

-- the messages of slots, under their canisters
abbrev pub pairs_of : List Slot → List (List ℕ × Message)
pairs_of slots = map (λ (slot : Slot). (slot.key, slot.message)) slots

abbrev pub IsTheirs : List (List ℕ × Canister) → Slot → Type 0
IsTheirs es slot = lookup (at slot.key) es ≡ Some slot.canister

abbrev IsThere : List (List ℕ × Canister) → List ℕ × Message → Type 0
IsThere es e = is_some (lookup (at e.0) es) ≡ true

-- ---- all at once

abbrev pub slot_from : (List ℕ × Canister) × (List ℕ × Message) → Slot
slot_from p = record { key = p.1.0; canister = p.0.1; message = p.1.1 }

-- where the keys are the same, each is the first that is left
pub deals_all : (es : List (List ℕ × Canister)) (fs : List (List ℕ × Message)) (slots : List Slot) → keys_of fs ≡ keys_of es
    → fold deal (record { canisters = es; slots = slots }) fs ≡ record { canisters = []; slots = slots ++ map slot_from (zip es fs) }
deals_all [] [] slots same = ap (λ l. record { canisters = []; slots = l }) (sym (append-nil slots))
deals_all [] (f ∷ fs) slots same = cc
deals_all (e ∷ es) [] slots same = cc
deals_all (e ∷ es) (f ∷ fs) slots same =
    let head : f.0 ≡ e.0 = cc in
    let rest : keys_of fs ≡ keys_of es = cc in
    let here : at f.0 e.0 ≡ true = subst (λ (k : List ℕ). at f.0 k ≡ true) head (at-self f.0) in
    let w : Dealing = record { canisters = e ∷ es; slots = slots } in
    let more = slots ++ slot_from (e, f) ∷ [] in
    let found : lookup (at f.0) (e ∷ es) ≡ Some e.1 = cond-true _ _ _ here in
    let gone : remove_entry (at f.0) (e ∷ es) ≡ es = cond-true _ _ _ here in
    let one : deal w f ≡ record { canisters = es; slots = more } = ap (deal_to w f) found ∙ (λ i. record { canisters = gone i; slots = more }) in
    ap (λ (v : Dealing). fold deal v fs) one ∙ deals_all es fs more rest ∙ ap (λ l. record { canisters = []; slots = l }) (append_assoc slots (slot_from (e, f) ∷ []) (map slot_from (zip es fs)))

-- keys that are the same one by one
pub same_keys : {X Y : Type 0} (es : List (List ℕ × X)) (fs : List (List ℕ × Y)) → length es ≡ length fs
    → list_all (λ (p : List ℕ × (List ℕ × Y)). pointwise nat_eq p.0 p.1.0) (zip (keys_of es) fs) ≡ true → keys_of fs ≡ keys_of es
same_keys [] [] many all = refl
same_keys [] (f ∷ fs) many all = absurd (omega (arith, many))
same_keys (e ∷ es) [] many all = absurd (omega (arith, many))
same_keys (e ∷ es) (f ∷ fs) many all =
    let parts = and_parts (pointwise nat_eq e.0 f.0) _ all in
    let head : f.0 ≡ e.0 = sym (at-is e.0 f.0 (sym (texts_ties e.0 f.0) ∙ parts.0)) in
    λ i. head i ∷ same_keys es fs (omega (arith, many)) parts.1 i

-- ---- one at a time

-- the slots come in the entries' order, each with its canister, and the others stay
pub record Deals (w : Dealing) (es : List (List ℕ × Message)) (end : Dealing) : Type 0 where
  pub more : List Slot
  pub slots : end.slots ≡ w.slots ++ more
  pub pairs : pairs_of more ≡ es
  pub theirs : AllByRecursion (IsTheirs w.canisters) more
  pub others : end.canisters ≡ minus (keys_of es) w.canisters

removed : (q key : List ℕ) (es : List (List ℕ × Canister)) → Rises (keys_of es) → at q key ≡ false → lookup (at key) (remove_entry (at q) es) ≡ lookup (at key) es
removed q key es sorted differs =
    lookup-remove_entry laws (at q) (λ x y e. laws.congr q x y e) key es (IsDistinct-from_sorted (slice_cmp nat_cmp) (keys_of es) sorted) ∙ cond-false _ _ _ differs

keep : (es : List (List ℕ × Canister)) (q : List ℕ) → Rises (keys_of es) → (fs : List (List ℕ × Message)) → AllByRecursion (λ y. at q y ≡ false) (keys_of fs)
    → AllByRecursion (IsThere es) fs → AllByRecursion (IsThere (remove_entry (at q) es)) fs
keep es q sorted [] apart all = tt
keep es q sorted (f ∷ fs) apart all = (ap is_some (removed q f.0 es sorted apart.0) ∙ all.0, keep es q sorted fs apart.1 all.1)

same : (es : List (List ℕ × Canister)) (q : List ℕ) → Rises (keys_of es) → (slots : List Slot) → AllByRecursion (λ y. at q y ≡ false) (keys_of (pairs_of slots))
    → AllByRecursion (IsTheirs (remove_entry (at q) es)) slots → AllByRecursion (IsTheirs es) slots
same es q sorted [] apart all = tt
same es q sorted (slot ∷ slots) apart all = (sym (removed q slot.key es sorted apart.0) ∙ all.0, same es q sorted slots apart.1 all.1)

pub deals : (w : Dealing) (es : List (List ℕ × Message)) → Rises (keys_of w.canisters) → AreDistinct (keys_of es) → AllByRecursion (IsThere w.canisters) es → Deals w es (fold deal w es)
deals w [] sorted distinct there = record { more = []; slots = sym (append-nil w.slots); pairs = refl; theirs = tt; others = refl }
deals w (e ∷ es) sorted distinct there = step (λ v. deals v es) (lookup (at e.0) w.canisters) refl there.0 where
  step : ((v : Dealing) → Rises (keys_of v.canisters) → AreDistinct (keys_of es) → AllByRecursion (IsThere v.canisters) es → Deals v es (fold deal v es))
      → (o : Option Canister) → lookup (at e.0) w.canisters ≡ o → is_some o ≡ true → Deals w (e ∷ es) (fold deal (deal_to w e o) es)
  step further None is some = cc
  step further (Some c) is some =
      let apart = IsDistinct-head _ e.0 (keys_of es) distinct in
      let rest = further (deal_to w e (Some c)) (sorted-remove e.0 w.canisters sorted) (IsDistinct-tail _ e.0 (keys_of es) distinct) (keep w.canisters e.0 sorted es apart there.1) in
      record {
        more = (record { key = e.0; canister = c; message = e.1 }) ∷ rest.more;
        slots = rest.slots ∙ append_assoc w.slots _ rest.more;
        pairs = ap (λ l. e ∷ l) rest.pairs;
        theirs = (is, same w.canisters e.0 sorted rest.more (subst (λ (ks : List (List ℕ)). AllByRecursion (λ y. at e.0 y ≡ false) ks) (sym (ap keys_of rest.pairs)) apart) rest.theirs);
        others = rest.others;
      }

-- what holds of all entries holds of those that stay, and of one that is looked up
pub each-remove : (P : List ℕ × Canister → Type 0) (key : List ℕ) (es : List (List ℕ × Canister)) → AllByRecursion P es → AllByRecursion P (remove_entry (at key) es)
each-remove P key [] all = tt
each-remove P key (e ∷ es) all = elim (cases_Bool (at key e.0)) [ inl here ↦ rw here all.1 | inr there ↦ rw there (all.0, each-remove P key es all.1) ]

pub each-minus : (P : List ℕ × Canister → Type 0) (keys : List (List ℕ)) (es : List (List ℕ × Canister)) → AllByRecursion P es → AllByRecursion P (minus keys es)
each-minus P [] es all = all
each-minus P (key ∷ keys) es all = each-minus P keys (remove_entry (at key) es) (each-remove P key es all)
