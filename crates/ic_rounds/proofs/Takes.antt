-- The first messages, taken out in one pass.
use Rattle.std.proofs.Common.{◌≡◌, ℕ, Bool, true, false, cond, ◌&&◌, ◌||◌, List, [], ◌∷◌, ◌++◌, Option, Some, None, refl, sym, ap, ◌∙◌, subst, inl, inr, append_assoc, append-nil}
use Rattle.std.specs.Prelude.{not, is_some}
use Rattle.std.specs.Option.{option_or}
use Rattle.std.specs.List.{list_any, find, fold, AllByRecursion, IsDistinct}
use Rattle.std.specs.List.Sorted.{IsStrictlySortedBy}
use Rattle.std.specs.declared.cmp.Ordering.{Ordering}
use Rattle.std.specs.declared.cmp.Ordering.TheVariants.{Less, Equal, Greater}
use Rattle.std.specs.Ordering.{nat_cmp, match_ordering, is_eq, eq_by_cmp}
use Rattle.std.specs.Cmp.Lexicographic.{slice_cmp}
use Rattle.std.specs.BTreeMap.{insert_entry}
use Rattle.std.specs.Map.{lookup, keys_of}
use Rattle.std.proofs.lemmas.Bool.{cases_Bool, cond-true, cond-false, and_parts}
use Rattle.std.proofs.lemmas.Map.Keys.{IsDistinct-tail, IsDistinct-head}
use Rattle.ic_behaviour.specs.declared.call.Message.{Message}
use Rattle.ic_behaviour.specs.State.{at, callee_of}
use Rattle.ic_behaviour.proofs.Weights.{laws, at-is, at-back}
use Rattle.ic_behaviour.proofs.Inserts.{sorted-insert}
use Rattle.ic_rounds.specs.Taking.{Taking, is_first, sort_out}
use Rattle.ic_rounds.proofs.Slots.{without_first}

-- a look-up after an insertion
pub lookup-inserted : {X : Type 0} (q k : List ℕ) (v : X) (es : List (List ℕ × X)) → lookup (at q) (insert_entry (slice_cmp nat_cmp) es k v) ≡ cond (at q k) (Some v) (lookup (at q) es)
lookup-inserted q k v [] = refl
lookup-inserted {X} q k v (e ∷ es) = by (slice_cmp nat_cmp k e.0) refl (lookup-inserted q k v es) where
  by : (o : Ordering) → slice_cmp nat_cmp k e.0 ≡ o → lookup (at q) (insert_entry (slice_cmp nat_cmp) es k v) ≡ cond (at q k) (Some v) (lookup (at q) es)
      → lookup (at q) (match_ordering o ((k, v) ∷ e ∷ es) ((e.0, v) ∷ es) (e ∷ insert_entry (slice_cmp nat_cmp) es k v)) ≡ cond (at q k) (Some v) (cond (at q e.0) (Some e.1) (lookup (at q) es))
  by Less is more = refl
  by Equal is more =
      let same : k ≡ e.0 = at-is k e.0 (ap is_eq is) in
      let P = λ (n : List ℕ). cond (at q n) (Some v) (lookup (at q) es) ≡ cond (at q k) (Some v) (cond (at q n) (Some e.1) (lookup (at q) es)) in
      subst P same (elim (cases_Bool (at q k)) [ inl here ↦ rw here refl | inr there ↦ rw there refl ])
  by Greater is more =
      let differs : at k e.0 ≡ false = ap is_eq is in
      elim (cases_Bool (at q e.0)) [
        | inl here ↦
            let fails : at q k ≡ false = (let same : q ≡ e.0 = at-is q e.0 here in subst (λ (n : List ℕ). at n k ≡ false) (sym same) (at-back k e.0 differs)) in
            rw (here, fails) refl
        | inr there ↦ rw there more
      ]

-- the messages that are not the first to one of these
abbrev pub rest_of : (List ℕ → Bool) → List Message → List Message
rest_of p [] = []
rest_of p (m ∷ ms) = cond (p (callee_of m)) (rest_of (λ k. p k && not (at (callee_of m) k)) ms) (m ∷ rest_of p ms)

abbrev pub Agree : (List ℕ → Bool) → (List ℕ → Bool) → List Message → Type 0
Agree p r ms = AllByRecursion (λ m. p (callee_of m) ≡ r (callee_of m)) ms

agree_and : (p r t : List ℕ → Bool) (ms : List Message) → Agree p r ms → Agree (λ k. p k && t k) (λ k. r k && t k) ms
agree_and p r t [] all = tt
agree_and p r t (m ∷ ms) all = (ap (λ b. b && t (callee_of m)) all.0, agree_and p r t ms all.1)

pub rest_same : (p r : List ℕ → Bool) (ms : List Message) → Agree p r ms → rest_of p ms ≡ rest_of r ms
rest_same p r [] all = refl
rest_same p r (m ∷ ms) all =
    ap (λ b. cond b (rest_of (λ k. p k && not (at (callee_of m) k)) ms) (m ∷ rest_of p ms)) all.0
    ∙ ap (λ l. cond (r (callee_of m)) l (m ∷ rest_of p ms)) (rest_same (λ k. p k && not (at (callee_of m) k)) (λ k. r k && not (at (callee_of m) k)) ms (agree_and p r (λ k. not (at (callee_of m) k)) ms all.1))
    ∙ ap (λ l. cond (r (callee_of m)) (rest_of (λ k. r k && not (at (callee_of m) k)) ms) (m ∷ l)) (rest_same p r ms all.1)

pub agree_all : (p r : List ℕ → Bool) (ms : List Message) → ((k : List ℕ) → p k ≡ r k) → Agree p r ms
agree_all p r [] same = tt
agree_all p r (m ∷ ms) same = (same (callee_of m), agree_all p r ms same)

pub rest_none : (ms : List Message) → rest_of (λ _. false) ms ≡ ms
rest_none [] = refl
rest_none (m ∷ ms) = ap (λ l. m ∷ l) (rest_none ms)

-- one more to be taken out
pub rest_more : (key : List ℕ) (p : List ℕ → Bool) (ms : List Message) → p key ≡ false → rest_of (λ k. at key k || p k) ms ≡ rest_of p (without_first key ms)
rest_more key p [] apart_from = refl
rest_more key p (m ∷ ms) apart_from =
    elim (cases_Bool (at key (callee_of m))) [
      | inl here ↦
          let same : key ≡ (callee_of m) = at-is key (callee_of m) here in
          rw here (rest_same (λ k. (at key k || p k) && not (at (callee_of m) k)) p ms (agree_all _ _ ms (λ k. taken key (callee_of m) p same apart_from k)))
      | inr there ↦
          rw there (
          elim (cases_Bool (p (callee_of m))) [
            | inl goes ↦
                rw goes (
                rest_same (λ k. (at key k || p k) && not (at (callee_of m) k)) (λ k. at key k || (p k && not (at (callee_of m) k))) ms (agree_all _ _ ms (λ k. other key (callee_of m) p there k))
                ∙ rest_more key (λ k. p k && not (at (callee_of m) k)) ms (rw apart_from refl))
            | inr stays ↦ rw stays (ap (λ l. m ∷ l) (rest_more key p ms apart_from))
          ])
    ]
  where
    taken : (key callee : List ℕ) (p : List ℕ → Bool) → key ≡ callee → p key ≡ false → (k : List ℕ) → ((at key k || p k) && not (at callee k)) ≡ p k
    taken key callee p same fails k =
        let P = λ (n : List ℕ). ((at key k || p k) && not (at n k)) ≡ p k in
        subst P same (elim (cases_Bool (at key k)) [
          | inl it ↦ let is : p k ≡ false = ap p (sym (at-is key k it)) ∙ fails in rw (it, is) refl
          | inr not_it ↦ rw not_it (plain (p k))
        ])
      where
        plain : (b : Bool) → (b && true) ≡ b
        plain true = refl
        plain false = refl

    other : (key callee : List ℕ) (p : List ℕ → Bool) → at key callee ≡ false → (k : List ℕ) → ((at key k || p k) && not (at callee k)) ≡ (at key k || (p k && not (at callee k)))
    other key callee p differs k =
        elim (cases_Bool (at key k)) [
          | inl it ↦ let fails : at callee k ≡ false = (let same : key ≡ k = at-is key k it in subst (λ (n : List ℕ). at callee n ≡ false) same (at-back key callee differs)) in rw (it, fails) refl
          | inr not_it ↦ rw not_it refl
        ]

abbrev pub left_by : List (List ℕ) → List Message → List Message
left_by keys ms = fold (λ l key. without_first key l) ms keys

-- those to distinct canisters, taken out one after another
pub rest_keys : (keys : List (List ℕ)) (ms : List Message) → IsDistinct (eq_by_cmp (slice_cmp nat_cmp)) keys → rest_of (λ k. list_any (at k) keys) ms ≡ left_by keys ms
rest_keys [] ms distinct = rest_none ms
rest_keys (key ∷ keys) ms distinct =
    rest_same (λ k. list_any (at k) (key ∷ keys)) (λ k. at key k || list_any (at k) keys) ms (agree_all _ _ ms (λ k. ap (λ b. b || list_any (at k) keys) (laws.symm k key)))
    ∙ rest_more key (λ k. list_any (at k) keys) ms (none keys (IsDistinct-head _ key keys distinct))
    ∙ rest_keys keys (without_first key ms) (IsDistinct-tail _ key keys distinct)
  where
    none : (ks : List (List ℕ)) → AllByRecursion (λ y. at key y ≡ false) ks → list_any (at key) ks ≡ false
    none [] all = refl
    none (k ∷ ks) all = rw all.0 (none ks all.1)

none_of : (o : Option Message) → not (is_some o) ≡ true → o ≡ None
none_of None is = refl
none_of (Some m) is = cc

now_first : (is : List ℕ → Bool) (w : Taking) (m : Message) (todo : List Message) → is_first is w (callee_of m) ≡ true → (q : List ℕ)
    → option_or (cond (at q (callee_of m)) (Some m) (lookup (at q) w.firsts)) (cond (is q) (find (λ (x : Message). at q (callee_of x)) todo) None)
    ≡ option_or (lookup (at q) w.firsts) (cond (is q) (find (λ (x : Message). at q (callee_of x)) (m ∷ todo)) None)
now_first is w m todo first q =
    elim (cases_Bool (at q (callee_of m))) [
      | inl here ↦
          let same : (callee_of m) ≡ q = sym (at-is q (callee_of m) here) in
          let parts = and_parts (is (callee_of m)) (not (is_some (lookup (at (callee_of m)) w.firsts))) first in
          let known : is q ≡ true = ap is (sym same) ∙ parts.0 in
          let none : lookup (at q) w.firsts ≡ None = ap (λ k. lookup (at k) w.firsts) (sym same) ∙ none_of (lookup (at (callee_of m)) w.firsts) parts.1 in
          rw (here, known, none) refl
      | inr there ↦ rw there refl
    ]

now_taken : (is : List ℕ → Bool) (w : Taking) (m : Message) (k : List ℕ)
    → (is k && not (is_some (lookup (at k) (insert_entry (slice_cmp nat_cmp) w.firsts (callee_of m) m)))) ≡ ((is k && not (is_some (lookup (at k) w.firsts))) && not (at (callee_of m) k))
now_taken is w m k =
    ap (λ o. is k && not (is_some o)) (lookup-inserted k (callee_of m) m w.firsts)
    ∙ elim (cases_Bool (at (callee_of m) k)) [
      | inl here ↦ let back : at k (callee_of m) ≡ true = laws.symm k (callee_of m) ∙ here in rw (here, back) (both (is k) (is_some (lookup (at k) w.firsts)))
      | inr there ↦ let back : at k (callee_of m) ≡ false = laws.symm k (callee_of m) ∙ there in rw (there, back) (plain (is k) (is_some (lookup (at k) w.firsts)))
    ]
  where
    both : (a b : Bool) → (a && false) ≡ ((a && not b) && false)
    both true true = refl
    both true false = refl
    both false b = refl

    plain : (a b : Bool) → (a && not b) ≡ ((a && not b) && true)
    plain true true = refl
    plain true false = refl
    plain false b = refl

later : (is : List ℕ → Bool) (w : Taking) (m : Message) (todo : List Message) → is_first is w (callee_of m) ≡ false → (q : List ℕ)
    → option_or (lookup (at q) w.firsts) (cond (is q) (find (λ (x : Message). at q (callee_of x)) todo) None)
    ≡ option_or (lookup (at q) w.firsts) (cond (is q) (find (λ (x : Message). at q (callee_of x)) (m ∷ todo)) None)
later is w m todo not_first q =
    elim (cases_Bool (at q (callee_of m))) [
      | inl here ↦
          let same : (callee_of m) ≡ q = sym (at-is q (callee_of m) here) in
          let fails : (is q && not (is_some (lookup (at q) w.firsts))) ≡ false = subst (λ (k : List ℕ). (is k && not (is_some (lookup (at k) w.firsts))) ≡ false) same not_first in
          rw here (either (is q) (lookup (at q) w.firsts) (find (λ (x : Message). at q (callee_of x)) todo) m fails)
      | inr there ↦ rw there refl
    ]
  where
    either : (b : Bool) (o f : Option Message) (m : Message) → (b && not (is_some o)) ≡ false → option_or o (cond b f None) ≡ option_or o (cond b (Some m) None)
    either true None f m fails = cc
    either true (Some x) f m fails = refl
    either false o f m fails = refl

-- one pass: the first messages, and the rest
pub record Sorted (is : List ℕ → Bool) (w : Taking) (todo : List Message) (end : Taking) : Type 0 where
  pub ordered : IsStrictlySortedBy (slice_cmp nat_cmp) (keys_of end.firsts)
  pub firsts : (q : List ℕ) → lookup (at q) end.firsts ≡ option_or (lookup (at q) w.firsts) (cond (is q) (find (λ m. at q (callee_of m)) todo) None)
  pub rest : end.left ≡ w.left ++ rest_of (λ k. is k && not (is_some (lookup (at k) w.firsts))) todo

pub sorted_out : (is : List ℕ → Bool) (w : Taking) (todo : List Message) → IsStrictlySortedBy (slice_cmp nat_cmp) (keys_of w.firsts) → Sorted is w todo (fold (sort_out is) w todo)
sorted_out is w [] ordered = record {
  ordered = ordered;
  firsts = λ q. none (lookup (at q) w.firsts) (is q);
  rest = sym (append-nil w.left);
} where
  none : (o : Option Message) (b : Bool) → o ≡ option_or o (cond b None None)
  none None true = refl
  none None false = refl
  none (Some m) b = refl
sorted_out is w (m ∷ todo) ordered =
    elim (cases_Bool (is_first is w (callee_of m))) [
      | inl first ↦
          let taken : Taking = record w { firsts = insert_entry (slice_cmp nat_cmp) w.firsts (callee_of m) m } in
          let parts = and_parts (is (callee_of m)) (not (is_some (lookup (at (callee_of m)) w.firsts))) first in
          let more = sorted_out is taken todo (sorted-insert (callee_of m) m w.firsts ordered) in
          let met : sort_out is w m ≡ taken = cond-true (is_first is w (callee_of m)) taken (record w { left = w.left ++ m ∷ [] }) first in
          let S = λ (v : Taking). Sorted is w (m ∷ todo) (fold (sort_out is) v todo) in
          subst S (sym met) (record {
            ordered = more.ordered;
            firsts = λ q. more.firsts q ∙ ap (λ o. option_or o (cond (is q) (find (λ (x : Message). at q (callee_of x)) todo) None)) (lookup-inserted q (callee_of m) m w.firsts)
                ∙ now_first is w m todo first q;
            rest = more.rest ∙ ap (λ l. w.left ++ l) (
                rest_same _ (λ k. (is k && not (is_some (lookup (at k) w.firsts))) && not (at (callee_of m) k)) todo (agree_all _ _ todo (λ k. now_taken is w m k))
                ∙ sym (cond-true (is_first is w (callee_of m)) _ _ first));
          })
      | inr not_first ↦
          let stayed : Taking = record w { left = w.left ++ m ∷ [] } in
          let more = sorted_out is stayed todo ordered in
          let met : sort_out is w m ≡ stayed = cond-false (is_first is w (callee_of m)) (record w { firsts = insert_entry (slice_cmp nat_cmp) w.firsts (callee_of m) m }) stayed not_first in
          let S = λ (v : Taking). Sorted is w (m ∷ todo) (fold (sort_out is) v todo) in
          subst S (sym met) (record {
            ordered = more.ordered;
            firsts = λ q. more.firsts q ∙ later is w m todo not_first q;
            rest = more.rest ∙ append_assoc w.left (m ∷ []) _ ∙ ap (λ l. w.left ++ l) (sym (cond-false (is_first is w (callee_of m)) _ _ not_first));
          })
    ]
