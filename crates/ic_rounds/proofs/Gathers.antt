-- One pass ends where each canister has its first message.
use Rattle.std.proofs.Common.{◌≡◌, ◌<◌, ◌≤◌, ℕ, Bool, true, false, ◌&&◌, ◌||◌, List, [], ◌∷◌, ◌++◌, length, refl, sym, ap, ◌∙◌, subst, inl, inr, arith, append_assoc, append-nil, length-append, not-suc-le-zero, true≢false}
use Rattle.std.specs.Prelude.{not, is_some}
use Rattle.std.specs.List.{fold, list_any}
use Rattle.std.specs.List.Sorted.{IsStrictlySortedBy}
use Rattle.std.specs.Ordering.{nat_cmp}
use Rattle.std.specs.Cmp.Lexicographic.{slice_cmp}
use Rattle.std.specs.BTreeMap.{insert_entry}
use Rattle.std.specs.Map.{lookup, keys_of}
use Rattle.std.proofs.lemmas.Bool.{cases_Bool, or_cases, cond-true, cond-false, and_parts}
use Rattle.std.proofs.lemmas.List.Folds.{list_any-append}
use Rattle.std.proofs.lemmas.Map.Entries.{length-keys_of}
use Rattle.std.proofs.lemmas.Map.Keys.{IsDistinct-from_sorted, IsDistinct-push}
use Rattle.std.proofs.lemmas.Map.Made.{is_some-lookup, length-le_from_is_member}
use Rattle.ic_behaviour.specs.declared.call.Message.{Message}
use Rattle.ic_behaviour.specs.State.{at, callee_of}
use Rattle.ic_behaviour.proofs.Weights.{laws, at-is}
use Rattle.ic_rounds.specs.Taking.{Taking, is_key, is_first, take_out, leave, sort_out, none_taken, with_left, AreTheirs, HasAll}
use Rattle.ic_rounds.proofs.Takes.{lookup-inserted}

alone : (b : Bool) → (b || false) ≡ true → b ≡ true
alone true e = refl
alone false e = e

-- there are as many first messages as canisters
pub all_have : {X : Type 0} (es : List (List ℕ × X)) (w : Taking) → IsStrictlySortedBy (slice_cmp nat_cmp) (keys_of w.firsts) → AreTheirs (is_key es) w
    → length es ≤ length w.firsts → HasAll (is_key es) w
all_have {X} es w rise theirs many key there =
    elim (cases_Bool (is_key w.firsts key)) [
      | inl has ↦ has
      | inr lacks ↦
          let none : list_any (at key) (keys_of w.firsts) ≡ false = sym (is_some-lookup (at key) w.firsts) ∙ lacks in
          let fits = length-le_from_is_member laws (keys_of w.firsts ++ key ∷ []) (keys_of es)
          (IsDistinct-push laws (keys_of w.firsts) key (IsDistinct-from_sorted (slice_cmp nat_cmp) (keys_of w.firsts) rise) none) member in
          let no : 0 < 0 = omega (arith, fits, many, length-append (keys_of w.firsts) (key ∷ []), length-keys_of w.firsts, length-keys_of es) in
          absurd (not-suc-le-zero no)
    ]
  where
    member : (q : List ℕ) → list_any (at q) (keys_of w.firsts ++ key ∷ []) ≡ true → list_any (at q) (keys_of es) ≡ true
    member q some =
        elim (or_cases (list_any (at q) (keys_of w.firsts)) (list_any (at q) (key ∷ [])) (sym (list_any-append (at q) (keys_of w.firsts) (key ∷ [])) ∙ some)) [
          | inl old ↦ sym (is_some-lookup (at q) es) ∙ theirs q (is_some-lookup (at q) w.firsts ∙ old)
          | inr new ↦
              let same : key ≡ q = sym (at-is q key (alone (at q key) new)) in
              subst (λ (k : List ℕ). list_any (at k) (keys_of es) ≡ true) same (sym (is_some-lookup (at key) es) ∙ there)
        ]

-- ---- a message is met

pub none_theirs : (is : List ℕ → Bool) → AreTheirs is none_taken
none_theirs is key there = absurd (true≢false (sym there))

pub theirs_more : (is : List ℕ → Bool) (w : Taking) (m : Message) → AreTheirs is w → AreTheirs is (sort_out is w m)
theirs_more is w m theirs =
    elim (cases_Bool (is_first is w (callee_of m))) [
      | inl first ↦ subst (AreTheirs is) (sym (cond-true (is_first is w (callee_of m)) (take_out w (callee_of m) m) (leave w m) first)) (one_more first)
      | inr later ↦ subst (AreTheirs is) (sym (cond-false (is_first is w (callee_of m)) (take_out w (callee_of m) m) (leave w m) later)) theirs
    ]
  where
    one_more : is_first is w (callee_of m) ≡ true → AreTheirs is (take_out w (callee_of m) m)
    one_more first key there =
        elim (cases_Bool (at key (callee_of m))) [
          | inl here ↦ ap is (at-is key (callee_of m) here) ∙ (and_parts (is (callee_of m)) (not (is_some (lookup (at (callee_of m)) w.firsts))) first).0
          | inr apart ↦
              let old : lookup (at key) (insert_entry (slice_cmp nat_cmp) w.firsts (callee_of m) m) ≡ lookup (at key) w.firsts =
              lookup-inserted key (callee_of m) m w.firsts ∙ cond-false _ _ _ apart in
              theirs key (sym (ap is_some old) ∙ there)
        ]

-- ---- the others

-- none is the first to a canister
stays : (b o : Bool) → (b ≡ true → o ≡ true) → (b && not o) ≡ false
stays true o has = ap not (has refl)
stays false o has = refl

pub none_left : (w : Taking) → w ≡ with_left w []
none_left w = sym (ap (λ (l : List Message). record w { left = l }) (append-nil w.left))

pub all_left : (is : List ℕ → Bool) (w : Taking) (ms : List Message) → HasAll is w → fold (sort_out is) w ms ≡ with_left w ms
all_left is w [] has = none_left w
all_left is w (m ∷ ms) has =
    let met : sort_out is w m ≡ leave w m = cond-false (is_first is w (callee_of m)) (take_out w (callee_of m) m) (leave w m) (stays (is (callee_of m)) (is_key w.firsts (callee_of m)) (has (callee_of m))) in
    ap (λ (v : Taking). fold (sort_out is) v ms) met ∙ all_left is (leave w m) ms has
    ∙ ap (λ (l : List Message). record w { left = l }) (append_assoc w.left (m ∷ []) ms)
