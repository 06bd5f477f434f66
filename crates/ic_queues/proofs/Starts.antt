-- An empty queue for each canister.
use Rattle.std.proofs.Common.{◌≡◌, ℕ, false, cond, List, [], ◌∷◌, ◌++◌, map, Some, None, refl, sym, ap, ◌∙◌, subst, inl, inr, append_assoc, append-nil}
use Rattle.std.specs.List.{list_any, fold, AllByRecursion}
use Rattle.std.specs.List.Sorted.{IsStrictlySortedBy}
use Rattle.std.specs.declared.cmp.Ordering.TheVariants.{Less, Greater}
use Rattle.std.specs.Ordering.{nat_cmp, ordering_reverse, is_eq}
use Rattle.std.specs.Cmp.Lexicographic.{slice_cmp, nat_list_cmp_total}
use Rattle.std.specs.Map.{lookup, keys_of}
use Rattle.std.specs.BTreeMap.{insert_entry}
use Rattle.std.proofs.lemmas.Bool.{cases_Bool}
use Rattle.std.proofs.lemmas.Map.Keys.{sorted_head, sorted_tail}
use Rattle.ic_behaviour.specs.declared.call.Message.{Message}
use Rattle.ic_behaviour.specs.State.{at}
use Rattle.ic_queues.specs.Queued.{no_messages}
use Rattle.ic_queues.specs.Lines.{IsQueued, empty_lines}
use Rattle.ic_queues.proofs.Entries.{insert_last}
use Rattle.ic_queues.proofs.Queueing.{view}

abbrev empty_line : List ℕ → List ℕ × List ℕ
empty_line key = (key, [])

abbrev pub Rises : List (List ℕ) → Type 0
Rises keys = IsStrictlySortedBy (slice_cmp nat_cmp) keys

pub principal-less : (j k : List ℕ) → slice_cmp nat_cmp j k ≡ Less → at k j ≡ false
principal-less j k less = ap is_eq (nat_list_cmp_total.antisymm k j ∙ ap ordering_reverse less)

pub above : (key : List ℕ) (keys : List (List ℕ)) → AllByRecursion (λ j. slice_cmp nat_cmp j key ≡ Less) keys → AllByRecursion (λ j. slice_cmp nat_cmp key j ≡ Greater) keys
above key [] all = tt
above key (j ∷ keys) all = (nat_list_cmp_total.antisymm key j ∙ ap ordering_reverse all.0, above key keys all.1)

lines_front : (done : List (List ℕ × List ℕ)) (keys : List (List ℕ)) → Rises keys → AllByRecursion (λ key. AllByRecursion (λ j. slice_cmp nat_cmp j key ≡ Less) (keys_of done)) keys
    → fold (λ waiting key. insert_entry (slice_cmp nat_cmp) waiting key []) done keys ≡ done ++ map empty_line keys
lines_front done [] rises all = sym (append-nil done)
lines_front done (key ∷ keys) rises all =
    ap (λ ws. fold (λ waiting key. insert_entry (slice_cmp nat_cmp) waiting key []) ws keys) (insert_last (slice_cmp nat_cmp) key [] done (above key (keys_of done) all.0))
    ∙ lines_front (done ++ empty_line key ∷ []) keys (sorted_tail (slice_cmp nat_cmp) key keys rises) (each keys (sorted_head (slice_cmp nat_cmp) key keys rises) all.1)
    ∙ append_assoc done (empty_line key ∷ []) (map empty_line keys)
  where
    behind : (k : List ℕ) (es : List (List ℕ × List ℕ)) → slice_cmp nat_cmp key k ≡ Less → AllByRecursion (λ j. slice_cmp nat_cmp j k ≡ Less) (keys_of es)
        → AllByRecursion (λ j. slice_cmp nat_cmp j k ≡ Less) (keys_of (es ++ empty_line key ∷ []))
    behind k [] less all = (less, tt)
    behind k (e ∷ es) less all = (all.0, behind k es less all.1)

    each : (ks : List (List ℕ)) → AllByRecursion (λ k. slice_cmp nat_cmp key k ≡ Less) ks → AllByRecursion (λ k. AllByRecursion (λ j. slice_cmp nat_cmp j k ≡ Less) (keys_of done)) ks
        → AllByRecursion (λ k. AllByRecursion (λ j. slice_cmp nat_cmp j k ≡ Less) (keys_of (done ++ empty_line key ∷ []))) ks
    each [] less all = tt
    each (k ∷ ks) less all = (behind k done less.0 all.0, each ks less.1 all.1)

each_none : (keys : List (List ℕ)) → AllByRecursion (λ key. AllByRecursion (λ j. slice_cmp nat_cmp j key ≡ Less) []) keys
each_none [] = tt
each_none (key ∷ keys) = (tt, each_none keys)

lines_are : (keys : List (List ℕ)) → Rises keys → empty_lines keys ≡ map empty_line keys
lines_are keys rises = lines_front [] keys rises (each_none keys)

line_keys : (keys : List (List ℕ)) → keys_of (map empty_line keys) ≡ keys
line_keys [] = refl
line_keys (key ∷ keys) = ap (λ l. key ∷ l) (line_keys keys)

line_lookup : (q : List ℕ) (keys : List (List ℕ)) → lookup (at q) (map empty_line keys) ≡ cond (list_any (at q) keys) (Some []) None
line_lookup q [] = refl
line_lookup q (key ∷ keys) = elim (cases_Bool (at q key)) [ inl here ↦ rw here refl | inr there ↦ rw there (line_lookup q keys) ]

none_sorted : IsStrictlySortedBy nat_cmp []
unfolding IsStrictlySortedBy
none_sorted = tt

pub record NewEnd (keys : List (List ℕ)) (ws : List (List ℕ × List ℕ)) (es : List (ℕ × Message)) (outside : List ℕ) : Type 0 where
  pub queued : IsQueued es ws outside 0
  pub queues : view es ws ≡ no_messages keys

pub new_end : (keys : List (List ℕ)) (ws : List (List ℕ × List ℕ)) (es : List (ℕ × Message)) (outside : List ℕ) → Rises keys → ws ≡ empty_lines keys → es ≡ [] → outside ≡ [] → NewEnd keys ws es outside
new_end keys ws es outside rises e1 e2 e3 =
    let same = line_keys keys in
    let made : NewEnd keys (map empty_line keys) [] [] = record {
      queued = record {
        ordered = none_sorted;
        below = tt;
        queues = subst Rises (sym same) rises;
        theirs = λ q. line_lookup q keys ∙ ap (λ ks. cond (list_any (at q) ks) (Some []) None) (sym same);
        others = refl;
      };
      queues = ap (λ l. record { canisters = l; messages = [] }) same;
    } in
    subst (λ (l : List (List ℕ × List ℕ)). NewEnd keys l es outside) (sym (e1 ∙ lines_are keys rises))
    (subst (λ (l : List (ℕ × Message)). NewEnd keys (map empty_line keys) l outside) (sym e2)
    (subst (λ (l : List ℕ). NewEnd keys (map empty_line keys) [] l) (sym e3) made))
