-- First messages that are taken from the queues, as one pass through the list takes them.
use Rattle.std.proofs.Common.{◌≡◌, ℕ, Bool, true, false, cond, ◌&&◌, List, [], ◌∷◌, ◌++◌, Option, Some, None, refl, sym, ap, ap₂, ◌∙◌, subst, inl, inr}
use Rattle.std.specs.Option.{option_or}
use Rattle.std.specs.List.{list_any, find, fold, AllByRecursion}
use Rattle.std.specs.List.Sorted.{IsStrictlySortedBy}
use Rattle.std.specs.BTreeMap.{insert_entry}
use Rattle.std.specs.declared.cmp.Ordering.TheVariants.{Less, Greater}
use Rattle.std.specs.Ordering.{nat_cmp, match_ordering, ordering_reverse}
use Rattle.std.specs.Cmp.Lexicographic.{slice_cmp, nat_list_cmp_total}
use Rattle.std.specs.Map.{lookup, keys_of}
use Rattle.std.proofs.lemmas.Bool.{cases_Bool, cond-true, cond-false, or_left, or_right}
use Rattle.std.proofs.lemmas.Map.Keys.{IsDistinct-from_sorted, IsDistinct-head, IsDistinct-tail}
use Rattle.std.proofs.lemmas.Map.Made.{is_some-lookup}
use Rattle.ic_behaviour.specs.declared.call.Message.{Message}
use Rattle.ic_behaviour.specs.State.{at, callee_of}
use Rattle.ic_behaviour.proofs.Weights.{at-is, at-self, at-back, each-map}
use Rattle.ic_behaviour.proofs.Inserts.{sorted-insert}
use Rattle.ic_state.specs.declared.canister.Canister.{Canister}
use Rattle.ic_rounds.specs.Taking.{Taking, is_key, sort_out, none_taken}
use Rattle.ic_rounds.proofs.Slots.{without_first as passed_first}
use Rattle.ic_rounds.proofs.Batches.{AreDistinct, apart}
use Rattle.ic_rounds.proofs.PutBacks.{Rises}
use Rattle.ic_rounds.proofs.Takes.{lookup-inserted, rest_same, agree_all, left_by, rest_keys, sorted_out}
use Rattle.ic_rounds.proofs.CanisterMaps.{same_entries}
use Rattle.ic_queues.specs.Queued.{Queued, has_queue, first_to, without_first, without_first_to}
use Rattle.ic_queue_rounds.specs.Drawing.{Drawing, none_drawn, with_first, draw}

-- ---- keys that come in rising order come last

insert-last : (key : List ℕ) (m : Message) (es : List (List ℕ × Message)) → AllByRecursion (λ e. slice_cmp nat_cmp e.0 key ≡ Less) es → insert_entry (slice_cmp nat_cmp) es key m ≡ es ++ (key, m) ∷ []
insert-last key m [] below = refl
insert-last key m (e ∷ es) below =
    let behind : slice_cmp nat_cmp key e.0 ≡ Greater = nat_list_cmp_total.antisymm key e.0 ∙ ap ordering_reverse below.0 in
    ap (λ o. match_ordering o ((key, m) ∷ e ∷ es) ((e.0, m) ∷ es) (e ∷ insert_entry (slice_cmp nat_cmp) es key m)) behind ∙ ap (λ l. e ∷ l) (insert-last key m es below.1)

-- as a map takes them
abbrev put_first : List (List ℕ × Message) → (key : List ℕ) → Option Message → List (List ℕ × Message)
put_first firsts key None = firsts
put_first firsts key (Some m) = insert_entry (slice_cmp nat_cmp) firsts key m

abbrev draw_in : Drawing → (key : List ℕ) → Drawing
draw_in w key = record { firsts = put_first w.firsts key (first_to key w.queues); queues = without_first_to key w.queues }

same_first : (firsts : List (List ℕ × Message)) (key : List ℕ) (o : Option Message) → AllByRecursion (λ e. slice_cmp nat_cmp e.0 key ≡ Less) firsts → with_first firsts key o ≡ put_first firsts key o
same_first firsts key None below = refl
same_first firsts key (Some m) below = sym (insert-last key m firsts below)

abbrev IsBelow : List (List ℕ) → List ℕ × Message → Type 0
IsBelow keys e = AllByRecursion (λ key. slice_cmp nat_cmp e.0 key ≡ Less) keys

below_after : (firsts : List (List ℕ × Message)) (key : List ℕ) (keys : List (List ℕ)) (o : Option Message) → AllByRecursion (IsBelow (key ∷ keys)) firsts → AllByRecursion (λ k. slice_cmp nat_cmp key k ≡ Less) keys
    → AllByRecursion (IsBelow keys) (with_first firsts key o)
below_after [] key keys None below rising = tt
below_after [] key keys (Some m) below rising = (rising, tt)
below_after (e ∷ firsts) key keys None below rising = (below.0.1, below_after firsts key keys None below.1 rising)
below_after (e ∷ firsts) key keys (Some m) below rising = (below.0.1, below_after firsts key keys (Some m) below.1 rising)

same_draws : (keys : List (List ℕ)) (w : Drawing) → Rises keys → AllByRecursion (IsBelow keys) w.firsts → fold draw w keys ≡ fold draw_in w keys
unfolding IsStrictlySortedBy
same_draws [] w rising below = refl
same_draws (key ∷ keys) w rising below =
    let o = first_to key w.queues in
    let first : draw w key ≡ draw_in w key =
    ap (λ firsts. record { firsts = firsts; queues = without_first_to key w.queues })
    (same_first w.firsts key o (each-map (IsBelow (key ∷ keys)) (λ (e : List ℕ × Message). slice_cmp nat_cmp e.0 key ≡ Less) (λ e all. all.0) w.firsts below)) in
    same_draws keys (draw w key) rising.1 (below_after w.firsts key keys o below rising.0) ∙ ap (λ (v : Drawing). fold draw_in v keys) first

-- ---- the first messages to canisters leave one after another

first_without : (key other : List ℕ) (ms : List Message) → at key other ≡ false → find (λ (m : Message). at other (callee_of m)) (without_first key ms) ≡ find (λ (m : Message). at other (callee_of m)) ms
first_without key other [] differs = refl
first_without key other (m ∷ ms) differs =
    elim (cases_Bool (at key (callee_of m))) [
      | inl goes ↦ let fails : at other (callee_of m) ≡ false = apart key other (callee_of m) differs goes in rw (goes, fails) refl
      | inr stays ↦ rw stays (ap (λ o. cond (at other (callee_of m)) (Some m) o) (first_without key other ms differs))
    ]

none_among : (key : List ℕ) (ks : List (List ℕ)) → AllByRecursion (λ y. at key y ≡ false) ks → list_any (at key) ks ≡ false
none_among key [] all = refl
none_among key (k ∷ ks) all = rw all.0 (none_among key ks all.1)

with_sorted : (firsts : List (List ℕ × Message)) (key : List ℕ) (o : Option Message) → Rises (keys_of firsts) → Rises (keys_of (put_first firsts key o))
with_sorted firsts key None sorted = sorted
with_sorted firsts key (Some m) sorted = sorted-insert key m firsts sorted

with_lookup : (firsts : List (List ℕ × Message)) (q key : List ℕ) (o : Option Message)
    → lookup (at q) (put_first firsts key o) ≡ cond (at q key) (option_or o (lookup (at q) firsts)) (lookup (at q) firsts)
with_lookup firsts q key None = either (at q key) where
  either : (b : Bool) → lookup (at q) firsts ≡ cond b (lookup (at q) firsts) (lookup (at q) firsts)
  either true = refl
  either false = refl
with_lookup firsts q key (Some m) = lookup-inserted q key m firsts

abbrev drawn_by : List (List ℕ) → List Message → List Message
drawn_by keys ms = fold (λ l key. without_first key l) ms keys

record Draws (keys : List (List ℕ)) (w end : Drawing) : Type 0 where
  pub ordered : Rises (keys_of end.firsts)
  pub firsts : (q : List ℕ) → lookup (at q) end.firsts
      ≡ cond (list_any (at q) keys) (option_or (find (λ m. at q (callee_of m)) w.queues.messages) (lookup (at q) w.firsts)) (lookup (at q) w.firsts)
  pub queues : end.queues ≡ record w.queues { messages = drawn_by keys w.queues.messages }

draws : (keys : List (List ℕ)) (w : Drawing) → AreDistinct keys → AllByRecursion (λ key. has_queue w.queues.canisters key ≡ true) keys → Rises (keys_of w.firsts) → Draws keys w (fold draw_in w keys)
draws [] w distinct have sorted = record { ordered = sorted; firsts = λ q. refl; queues = refl }
draws (key ∷ keys) w distinct have sorted =
    let ms = w.queues.messages in
    let v : Drawing = draw_in w key in
    let queues : v.queues ≡ record w.queues { messages = without_first key ms } = cond-true _ _ _ have.0 in
    let first : first_to key w.queues ≡ find (λ m. at key (callee_of m)) ms = cond-true _ _ _ have.0 in
    let rest = draws keys v (IsDistinct-tail _ key keys distinct)
    (subst (λ (x : Queued). AllByRecursion (λ k. has_queue x.canisters k ≡ true) keys) (sym queues) have.1) (with_sorted w.firsts key (first_to key w.queues) sorted) in
    let others = none_among key keys (IsDistinct-head _ key keys distinct) in
    record {
      ordered = rest.ordered;
      firsts = λ q. rest.firsts q ∙ elim (cases_Bool (at q key)) [
        | inl here ↦
            let same : q ≡ key = at-is q key here in
            let gone : list_any (at q) keys ≡ false = subst (λ (k : List ℕ). list_any (at k) keys ≡ false) (sym same) others in
            cond-false _ _ _ gone ∙ with_lookup w.firsts q key (first_to key w.queues) ∙ cond-true _ _ _ here
            ∙ ap (λ o. option_or o (lookup (at q) w.firsts)) (first ∙ ap (λ (k : List ℕ). find (λ (m : Message). at k (callee_of m)) ms) (sym same))
            ∙ sym (cond-true _ _ _ (or_left _ _ here))
        | inr there ↦
            let found : lookup (at q) v.firsts ≡ lookup (at q) w.firsts = with_lookup w.firsts q key (first_to key w.queues) ∙ cond-false _ _ _ there in
            let same : find (λ m. at q (callee_of m)) v.queues.messages ≡ find (λ m. at q (callee_of m)) ms =
            ap (λ (x : Queued). find (λ (m : Message). at q (callee_of m)) x.messages) queues ∙ first_without key q ms (at-back q key there) in
            rw there (ap₂ (λ o p. cond (list_any (at q) keys) (option_or o p) p) same found)
      ];
      queues = rest.queues ∙ ap (λ (x : Queued). record x { messages = drawn_by keys x.messages }) queues;
    }

-- ---- as one pass through the list

none_sorted : Rises []
unfolding IsStrictlySortedBy
none_sorted = tt

same_without : (key : List ℕ) (ms : List Message) → without_first key ms ≡ passed_first key ms
same_without key [] = refl
same_without key (m ∷ ms) = ap (λ l. cond (at key (callee_of m)) ms (m ∷ l)) (same_without key ms)

same_drawn : (keys : List (List ℕ)) (ms : List Message) → drawn_by keys ms ≡ left_by keys ms
same_drawn [] ms = refl
same_drawn (key ∷ keys) ms = same_drawn keys (without_first key ms) ∙ ap (left_by keys) (same_without key ms)

all_have : (keys : List (List ℕ)) → AllByRecursion (λ key. list_any (at key) keys ≡ true) keys
all_have [] = tt
all_have (k ∷ keys) = (or_left _ _ (at-self k), each-map (λ key. list_any (at key) keys ≡ true) (λ key. list_any (at key) (k ∷ keys) ≡ true) (λ key has. or_right _ _ has) keys (all_have keys))

module _ (es : List (List ℕ × Canister)) (rises : Rises (keys_of es)) (w : Queued) (same : w.canisters ≡ keys_of es) where
  abbrev keys : List (List ℕ)
  keys = keys_of es

  abbrev passed : Taking
  passed = fold (sort_out (is_key es)) none_taken w.messages

  abbrev end : Drawing
  end = fold draw (none_drawn w) keys

  distinct : AreDistinct keys
  distinct = IsDistinct-from_sorted (slice_cmp nat_cmp) keys rises

  drew : Draws keys (none_drawn w) end
  drew =
      subst (Draws keys (none_drawn w)) (sym (same_draws keys (none_drawn w) rises tt))
      (draws keys (none_drawn w) distinct (subst (λ (l : List (List ℕ)). AllByRecursion (λ key. has_queue l key ≡ true) keys) (sym same) (all_have keys)) none_sorted)

  plain : (b : Bool) → (b && true) ≡ b
  plain true = refl
  plain false = refl

  found : (o : Option Message) → option_or o None ≡ o
  found None = refl
  found (Some m) = refl

  pub same_firsts : end.firsts ≡ passed.firsts
  same_firsts =
      let got = sorted_out (is_key es) none_taken w.messages none_sorted in
      same_entries end.firsts passed.firsts drew.ordered got.ordered
      (λ q. drew.firsts q
      ∙ ap (λ o. cond (list_any (at q) keys) o None) (found (find (λ (m : Message). at q (callee_of m)) w.messages))
      ∙ ap (λ b. cond b (find (λ (m : Message). at q (callee_of m)) w.messages) None) (sym (is_some-lookup (at q) es))
      ∙ sym (got.firsts q))

  pub same_left : end.queues.messages ≡ passed.left
  same_left =
      let got = sorted_out (is_key es) none_taken w.messages none_sorted in
      ap (λ (x : Queued). x.messages) drew.queues ∙ same_drawn keys w.messages ∙ sym (rest_keys keys w.messages distinct)
      ∙ sym (rest_same (λ k. is_key es k && true) (λ k. list_any (at k) keys) w.messages (agree_all _ _ w.messages (λ k. plain (is_key es k) ∙ is_some-lookup (at k) es)))
      ∙ sym got.rest

  pub same_canisters : end.queues.canisters ≡ keys
  same_canisters = ap (λ (x : Queued). x.canisters) drew.queues ∙ same
