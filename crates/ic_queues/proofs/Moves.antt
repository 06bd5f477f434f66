-- Queues once canisters have come and gone.
use Rattle.std.proofs.Common.{◌≡◌, ℕ, Bool, true, false, cond, ◌&&◌, ◌||◌, not, List, [], ◌∷◌, ◌++◌, map, Option, Some, None, refl, sym, ap, ap₂, ◌∙◌, subst, inl, inr, append-nil, append_assoc}
use Rattle.std.specs.Option.{is_some}
use Rattle.std.specs.List.{list_any, filter, fold, AllByRecursion}
use Rattle.std.specs.List.Sorted.{IsStrictlySortedBy}
use Rattle.std.specs.Ordering.{nat_cmp, is_gt}
use Rattle.std.specs.declared.cmp.Ordering.TheVariants.{Less, Greater}
use Rattle.std.specs.Cmp.Lexicographic.{slice_cmp}
use Rattle.std.specs.Map.{lookup, remove_entry, keys_of, values_of}
use Rattle.std.specs.BTreeMap.{insert_entry}
use Rattle.std.proofs.lemmas.Bool.{cases_Bool, false≢true}
use Rattle.std.proofs.lemmas.List.Folds.{list_any-append}
use Rattle.std.proofs.lemmas.Map.Keys.{sorted_head, sorted_tail}
use Rattle.std.proofs.lemmas.Map.Made.{is_some-lookup}
use Rattle.ic_behaviour.specs.declared.call.Message.{Message}
use Rattle.ic_behaviour.specs.State.{at, callee_of}
use Rattle.ic_behaviour.proofs.Weights.{laws, at-is, at-self, at-back, each-map}
use Rattle.ic_queues.specs.Queued.{has_queue}
use Rattle.ic_queues.specs.Lines.{is_number, numbers_to, is_out, IsQueued}
use Rattle.ic_queues.specs.Moving.{goes_to, is_to, line_of, outside_of, below, from, put_in, both, merge}
use Rattle.ic_queues.proofs.Entries.{found-own, insert_last, sorted_removed}
use Rattle.ic_queues.proofs.Numbers.{all_numbers, number-self, number-less, number-above}
use Rattle.ic_queues.proofs.Queueing.{has}
use Rattle.ic_queues.proofs.Starts.{principal-less, Rises, above}

-- ---- numbers by their callee

numbers-same : (p q : List ℕ → Bool) (es : List (ℕ × Message)) → ((k : List ℕ) → p k ≡ q k) → numbers_to p es ≡ numbers_to q es
numbers-same p q es same = λ i. numbers_to (λ k. same k i) es

filtered : (t : ℕ → Bool) (u p : List ℕ → Bool) (cs : List (ℕ × Message)) → AllByRecursion (λ e. t e.0 ≡ u (callee_of e.1)) cs → filter t (numbers_to p cs) ≡ numbers_to (λ k. p k && u k) cs
filtered t u p [] all = refl
filtered t u p (e ∷ cs) all =
    elim (cases_Bool (p (callee_of e.1))) [
      | inl to ↦ elim (cases_Bool (u (callee_of e.1))) [
        | inl here ↦ let yes : t e.0 ≡ true = all.0 ∙ here in rw (to, here) (rw yes (ap (λ l. e.0 ∷ l) (filtered t u p cs all.1)))
        | inr there ↦ let no : t e.0 ≡ false = all.0 ∙ there in rw (to, there) (rw no (filtered t u p cs all.1))
      ]
      | inr past ↦ rw past (filtered t u p cs all.1)
    ]

-- ---- two lists of numbers, as one

-- the same, from its end
abbrev merged : (line more : List ℕ) → List ℕ
merged line [] = line
merged line (n ∷ more) = below n line ++ n ∷ merged (from n line) more

merge-from : (done line more : List ℕ) → both (fold put_in (done, line) more) ≡ done ++ merged line more
merge-from done line [] = refl
merge-from done line (n ∷ more) =
    merge-from ((done ++ below n line) ++ n ∷ []) (from n line) more
    ∙ append_assoc (done ++ below n line) (n ∷ []) (merged (from n line) more)
    ∙ append_assoc done (below n line) (n ∷ merged (from n line) more)

all_above : (n : ℕ) (ks : List ℕ) → AllByRecursion (λ k. nat_cmp n k ≡ Less) ks → (below n ks ≡ []) × (from n ks ≡ ks)
all_above n [] all = (refl, refl)
all_above n (k ∷ ks) all = let first : is_gt (nat_cmp n k) ≡ false = ap is_gt all.0 in (rw first refl, rw first refl)

first-stays : (n : ℕ) (line more : List ℕ) → AllByRecursion (λ k. nat_cmp n k ≡ Less) more → merged (n ∷ line) more ≡ n ∷ merged line more
first-stays n line [] all = refl
first-stays n line (k ∷ more) all = let first : is_gt (nat_cmp k n) ≡ true = ap is_gt (number-above n k all.0) in rw first refl

merged-numbers : (p q : List ℕ → Bool) (es : List (ℕ × Message)) → IsStrictlySortedBy nat_cmp (keys_of es) → ((k : List ℕ) → p k ≡ true → q k ≡ false)
    → merged (numbers_to p es) (numbers_to q es) ≡ numbers_to (λ k. p k || q k) es
merged-numbers p q [] sorted apart = refl
merged-numbers p q (e ∷ es) sorted apart =
    let rest = merged-numbers p q es (sorted_tail nat_cmp e.0 (keys_of es) sorted) apart in
    let later = sorted_head nat_cmp e.0 (keys_of es) sorted in
    elim (cases_Bool (p (callee_of e.1))) [
      | inl first ↦
          let not_second = apart (callee_of e.1) first in
          rw (first, not_second) (first-stays e.0 (numbers_to p es) (numbers_to q es) (all_numbers (λ k. nat_cmp e.0 k ≡ Less) q es later) ∙ ap (λ l. e.0 ∷ l) rest)
      | inr not_first ↦ elim (cases_Bool (q (callee_of e.1))) [
        | inl second ↦
            let none = all_above e.0 (numbers_to p es) (all_numbers (λ k. nat_cmp e.0 k ≡ Less) p es later) in
            rw (not_first, second) (ap₂ (λ x y. x ++ e.0 ∷ merged y (numbers_to q es)) none.0 none.1 ∙ ap (λ l. e.0 ∷ l) rest)
        | inr neither ↦ rw (not_first, neither) rest
      ]
    ]

-- ---- the keys of queues

-- whoever has a queue has another, or has one still once that has left
any-removed : (q key : List ℕ) (line : List ℕ) (ws : List (List ℕ × List ℕ)) → lookup (at key) ws ≡ Some line
    → list_any (at q) (keys_of ws) ≡ (at q key || list_any (at q) (keys_of (remove_entry (at key) ws)))
any-removed q key line [] found = cc
any-removed q key line (w ∷ ws) found =
    elim (cases_Bool (at key w.0)) [
      | inl here ↦ rw here (ap (λ (k : List ℕ). at q k || list_any (at q) (keys_of ws)) (sym (at-is key w.0 here)))
      | inr there ↦ rw there (ap (λ b. at q w.0 || b) (any-removed q key line ws (rw there at found)) ∙ swapped (at q w.0) (at q key) (list_any (at q) (keys_of (remove_entry (at key) ws))))
    ]
  where
    swapped : (a b c : Bool) → (a || (b || c)) ≡ (b || (a || c))
    swapped true true c = refl
    swapped true false c = refl
    swapped false b c = refl

none-removed : (key : List ℕ) (ws : List (List ℕ × List ℕ)) → lookup (at key) ws ≡ None → remove_entry (at key) ws ≡ ws
none-removed key [] none = refl
none-removed key (w ∷ ws) none = elim (cases_Bool (at key w.0)) [
  | inl here ↦ let some : Some w.1 ≡ None = rw here at none in absurd (cc)
  | inr there ↦ rw there (ap (λ l. w ∷ l) (none-removed key ws (rw there at none)))
]

-- no other entry has the key
others-left : (key : List ℕ) (ws : List (List ℕ × List ℕ)) → Rises (keys_of ws) → AllByRecursion (λ k. at k key ≡ false) (keys_of (remove_entry (at key) ws))
others-left key [] rises = tt
others-left key (w ∷ ws) rises = elim (cases_Bool (at key w.0)) [
  | inl here ↦
      rw here (each-map (λ k. slice_cmp nat_cmp w.0 k ≡ Less) (λ k. at k key ≡ false)
      (λ k less. subst (λ (j : List ℕ). at k j ≡ false) (sym (at-is key w.0 here)) (principal-less w.0 k less))
      (keys_of ws) (sorted_head (slice_cmp nat_cmp) w.0 (keys_of ws) rises))
  | inr there ↦ rw there (at-back key w.0 there, others-left key ws (sorted_tail (slice_cmp nat_cmp) w.0 (keys_of ws) rises))
]

all-left : (P : List ℕ × List ℕ → Type 0) (key : List ℕ) (ws : List (List ℕ × List ℕ)) → AllByRecursion P ws → AllByRecursion P (remove_entry (at key) ws)
all-left P key [] all = tt
all-left P key (w ∷ ws) all = elim (cases_Bool (at key w.0)) [ inl here ↦ rw here all.1 | inr there ↦ rw there (all.0, all-left P key ws all.1) ]

keys-left : (P : List ℕ → Type 0) (key : List ℕ) (ws : List (List ℕ × List ℕ)) → AllByRecursion P (keys_of ws) → AllByRecursion P (keys_of (remove_entry (at key) ws))
keys-left P key [] all = tt
keys-left P key (w ∷ ws) all = elim (cases_Bool (at key w.0)) [ inl here ↦ rw here all.1 | inr there ↦ rw there (all.0, keys-left P key ws all.1) ]

-- keys that rise, but the last
rises_front : (ks : List (List ℕ)) (last : List ℕ) → Rises (ks ++ last ∷ []) → Rises ks × AllByRecursion (λ j. slice_cmp nat_cmp j last ≡ Less) ks
unfolding IsStrictlySortedBy
rises_front [] last up = (tt, tt)
rises_front (k ∷ ks) last up = let rest = rises_front ks last up.1 in let firsts = halves ks up.0 in ((firsts.0, rest.0), (firsts.1, rest.1)) where
  halves : (js : List (List ℕ)) → AllByRecursion (λ y. slice_cmp nat_cmp k y ≡ Less) (js ++ last ∷ []) → AllByRecursion (λ y. slice_cmp nat_cmp k y ≡ Less) js × (slice_cmp nat_cmp k last ≡ Less)
  halves [] all = (tt, all.0)
  halves (j ∷ js) all = let more = halves js all.1 in ((all.0, more.0), more.1)

not_done : (key : List ℕ) (ks : List (List ℕ)) → AllByRecursion (λ j. slice_cmp nat_cmp j key ≡ Less) ks → has_queue ks key ≡ false
not_done key [] all = refl
not_done key (k ∷ ks) all = let differs = principal-less k key all.0 in rw differs (not_done key ks all.1)

-- ---- canisters one after another

module _ (es : List (ℕ × Message)) where
  abbrev own : List ℕ → List ℕ × List ℕ
  own key = (key, numbers_to (at key) es)

  own-keys : (ks : List (List ℕ)) → keys_of (map own ks) ≡ ks
  own-keys [] = refl
  own-keys (k ∷ ks) = ap (λ l. k ∷ l) (own-keys ks)

  -- the queues of those that are not done yet, and the numbers to nobody
  pub record Moving (before : List (List ℕ × List ℕ)) (outside : List ℕ) (done : List (List ℕ)) : Type 0 where
    pub rises : Rises (keys_of before)
    pub theirs : AllByRecursion (λ w. w.1 ≡ numbers_to (at w.0) es) before
    pub apart : AllByRecursion (λ k. has_queue done k ≡ false) (keys_of before)
    pub others : outside ≡ numbers_to (is_out (keys_of before ++ done)) es

  -- and the queues of those that are
  pub record Moved (before : List (List ℕ × List ℕ)) (outside : List ℕ) (lines : List (List ℕ × List ℕ)) (done : List (List ℕ)) : Type 0 where
    pub moving : Moving before outside done
    pub made : lines ≡ map own done

  nobody : (ks : List (List ℕ)) → AllByRecursion (λ k. has_queue [] k ≡ false) ks
  nobody [] = tt
  nobody (k ∷ ks) = (refl, nobody ks)

  pub moved-start : (ws : List (List ℕ × List ℕ)) (outside : List ℕ) (next : ℕ) → IsQueued es ws outside next → Moved ws outside [] []
  moved-start ws outside next is = record {
    moving = record {
      rises = is.queues;
      theirs = each-map (λ w. lookup (at w.0) ws ≡ Some w.1) (λ w. w.1 ≡ numbers_to (at w.0) es) (λ w found. (has es ws outside next is w.0 w.1 found).1) ws
          (found-own (slice_cmp nat_cmp) at-self principal-less ws is.queues);
      apart = nobody (keys_of ws);
      others = is.others ∙ ap (λ ks. numbers_to (is_out ks) es) (sym (append-nil (keys_of ws)));
    };
    made = refl;
  }

  own-line : (P : List ℕ → List ℕ → Type 0) (key line : List ℕ) (ws : List (List ℕ × List ℕ)) → AllByRecursion (λ w. P w.0 w.1) ws → lookup (at key) ws ≡ Some line → P key line
  own-line P key line [] all found = cc
  own-line P key line (w ∷ ws) all found = elim (cases_Bool (at key w.0)) [
    | inl here ↦
        let same : Some w.1 ≡ Some line = rw here at found in
        subst (λ (k : List ℕ). P k line) (sym (at-is key w.0 here)) (subst (λ (l : List ℕ). P w.0 l) (let value : w.1 ≡ line = cc in value) all.0)
    | inr there ↦ own-line P key line ws all.1 (rw there at found)
  ]

  -- one more is done
  record Turn (before : List (List ℕ × List ℕ)) (outside : List ℕ) (done : List (List ℕ)) (key line : List ℕ) : Type 0 where
    pub is_own : line ≡ numbers_to (at key) es
    pub moving : Moving before outside (done ++ key ∷ [])

  module _ (before : List (List ℕ × List ℕ)) (outside : List ℕ) (done : List (List ℕ)) (is : Moving before outside done) where
    turn_apart : (key : List ℕ) → AllByRecursion (λ k. has_queue (done ++ key ∷ []) k ≡ false) (keys_of (remove_entry (at key) before))
    turn_apart key =
        both_of (keys_of (remove_entry (at key) before)) (keys-left (λ k. has_queue done k ≡ false) key before is.apart) (others-left key before is.rises)
      where
        both_of : (ks : List (List ℕ)) → AllByRecursion (λ k. has_queue done k ≡ false) ks → AllByRecursion (λ k. at k key ≡ false) ks → AllByRecursion (λ k. has_queue (done ++ key ∷ []) k ≡ false) ks
        both_of [] one two = tt
        both_of (k ∷ ks) one two = let no = one.0 in let differs = two.0 in (list_any-append (at k) done (key ∷ []) ∙ rw (no, differs) refl, both_of ks one.1 two.1)

    turn : (key line : List ℕ) (outside' : List ℕ) → line ≡ numbers_to (at key) es → outside' ≡ numbers_to (is_out (keys_of (remove_entry (at key) before) ++ (done ++ key ∷ []))) es
        → Turn (remove_entry (at key) before) outside' done key line
    turn key line outside' is_line is_outside = record {
      is_own = is_line;
      moving = record {
        rises = sorted_removed (slice_cmp nat_cmp) (at key) before is.rises;
        theirs = all-left (λ w. w.1 ≡ numbers_to (at w.0) es) key before is.theirs;
        apart = turn_apart key;
        others = is_outside;
      };
    }

    -- whether somebody has a queue or is done, once one more is
    knows : (q key : List ℕ) → has_queue (keys_of (remove_entry (at key) before) ++ (done ++ key ∷ [])) q ≡ (list_any (at q) (keys_of (remove_entry (at key) before)) || (list_any (at q) done || (at q key || false)))
    knows q key =
        list_any-append (at q) (keys_of (remove_entry (at key) before)) (done ++ key ∷ [])
        ∙ ap (λ b. list_any (at q) (keys_of (remove_entry (at key) before)) || b) (list_any-append (at q) done (key ∷ []))

    known : (key line : List ℕ) → lookup (at key) before ≡ Some line → Turn (remove_entry (at key) before) outside done key line
    known key line found =
        turn key line outside (own-line (λ k l. l ≡ numbers_to (at k) es) key line before is.theirs found) (is.others ∙ numbers-same (is_out (keys_of before ++ done)) _ es (λ q. ap not (same q)))
      where
        moved_on : (a b d : Bool) → ((a || b) || d) ≡ (b || (d || (a || false)))
        moved_on true true d = refl
        moved_on true false true = refl
        moved_on true false false = refl
        moved_on false true d = refl
        moved_on false false true = refl
        moved_on false false false = refl

        same : (q : List ℕ) → has_queue (keys_of before ++ done) q ≡ has_queue (keys_of (remove_entry (at key) before) ++ (done ++ key ∷ [])) q
        same q =
            list_any-append (at q) (keys_of before) done ∙ ap (λ b. b || list_any (at q) done) (any-removed q key line before found)
            ∙ moved_on (at q key) (list_any (at q) (keys_of (remove_entry (at key) before))) (list_any (at q) done) ∙ sym (knows q key)

    fresh : (key : List ℕ) → IsStrictlySortedBy nat_cmp (keys_of es) → lookup (at key) before ≡ None → has_queue done key ≡ false
        → Turn (remove_entry (at key) before) (filter (λ n. not (is_to es key n)) outside) done key (filter (is_to es key) outside)
    fresh key sorted none new =
        turn key _ _
        (ap (filter (is_to es key)) is.others ∙ filtered (is_to es key) (at key) out es callees ∙ numbers-same (λ k. out k && at key k) (at key) es theirs_alone)
        (ap (filter (λ n. not (is_to es key n))) is.others ∙ filtered (λ n. not (is_to es key n)) (λ k. not (at key k)) out es (each-map _ _ (λ e same. ap not same) es callees)
        ∙ numbers-same (λ k. out k && not (at key k)) _ es others_alone)
      where
        out : List ℕ → Bool
        out = is_out (keys_of before ++ done)

        callees : AllByRecursion (λ e. is_to es key e.0 ≡ at key (callee_of e.1)) es
        callees = each-map (λ e. lookup (is_number e.0) es ≡ Some e.1) (λ e. is_to es key e.0 ≡ at key (callee_of e.1)) (λ e found. ap (goes_to key) found) es (found-own nat_cmp number-self number-less es sorted)

        unknown : has_queue (keys_of before ++ done) key ≡ false
        unknown = let no_queue : list_any (at key) (keys_of before) ≡ false = sym (is_some-lookup (at key) before) ∙ ap is_some none in list_any-append (at key) (keys_of before) done ∙ rw (no_queue, new) refl

        theirs_alone : (k : List ℕ) → (out k && at key k) ≡ at key k
        theirs_alone k = elim (cases_Bool (at key k)) [
          | inl here ↦ let outside_it : out k ≡ true = ap out (sym (at-is key k here)) ∙ ap not unknown in rw (here, outside_it) refl
          | inr there ↦ rw there (no_and (out k))
        ] where
          no_and : (b : Bool) → (b && false) ≡ false
          no_and true = refl
          no_and false = refl

        neither : (a d x y : Bool) → x ≡ y → (not (a || d) && not x) ≡ not (a || (d || (y || false)))
        neither true d x y same = refl
        neither false true x y same = refl
        neither false false true y same = ap (λ b. not (b || false)) same
        neither false false false y same = ap (λ b. not (b || false)) same

        others_alone : (k : List ℕ) → (out k && not (at key k)) ≡ is_out (keys_of (remove_entry (at key) before) ++ (done ++ key ∷ [])) k
        others_alone k =
            ap (λ b. not b && not (at key k)) (list_any-append (at k) (keys_of before) done) ∙ neither (list_any (at k) (keys_of before)) (list_any (at k) done) (at key k) (at k key) (laws.symm key k)
            ∙ ap (λ ws. not (list_any (at k) (keys_of ws) || (list_any (at k) done || (at k key || false)))) (sym (none-removed key before none)) ∙ ap not (sym (knows k key))

  -- as the code has it
  pub moved-turn : (before : List (List ℕ × List ℕ)) (outside : List ℕ) (lines : List (List ℕ × List ℕ)) (done : List (List ℕ)) (key line : List ℕ) (before' : List (List ℕ × List ℕ)) (outside' : List ℕ) (lines' : List (List ℕ × List ℕ))
      → IsStrictlySortedBy nat_cmp (keys_of es) → Rises (done ++ key ∷ []) → (Rises done → Moved before outside lines done)
      → line ≡ line_of es outside key (lookup (at key) before) → before' ≡ remove_entry (at key) before → outside' ≡ outside_of es outside key (lookup (at key) before)
      → lines' ≡ insert_entry (slice_cmp nat_cmp) lines key line → Moved before' outside' lines' (done ++ key ∷ [])
  moved-turn before outside lines done key line before' outside' lines' sorted rises so_far is_line is_before is_outside is_lines =
      let front = rises_front done key rises in
      let is = so_far front.0 in
      let ends = by is (lookup (at key) before) refl is_line is_outside front.1 in
      record {
        moving = subst (λ (ws : List (List ℕ × List ℕ)). Moving ws outside' (done ++ key ∷ [])) (sym is_before) ends.moving;
        made = is_lines ∙ ap₂ (λ ws l. insert_entry (slice_cmp nat_cmp) ws key l) is.made ends.is_own
            ∙ insert_last (slice_cmp nat_cmp) key (numbers_to (at key) es) (map own done) (subst (λ ks. AllByRecursion (λ j. slice_cmp nat_cmp key j ≡ Greater) ks) (sym (own-keys done)) (above key done front.1))
            ∙ sym (map_last done);
      }
    where
      map_last : (ks : List (List ℕ)) → map own (ks ++ key ∷ []) ≡ map own ks ++ own key ∷ []
      map_last [] = refl
      map_last (k ∷ ks) = ap (λ l. own k ∷ l) (map_last ks)

      by : Moved before outside lines done → (o : Option (List ℕ)) → lookup (at key) before ≡ o → line ≡ line_of es outside key o → outside' ≡ outside_of es outside key o → AllByRecursion (λ j. slice_cmp nat_cmp j key ≡ Less) done
          → Turn (remove_entry (at key) before) outside' done key line
      by is (Some l) found e1 e2 less = subst (λ (o : List ℕ). Turn (remove_entry (at key) before) o done key line) (sym e2) (known before outside done is.moving key line (found ∙ ap Some (sym e1)))
      by is None found e1 e2 less =
          let new = fresh before outside done is.moving key sorted found (not_done key done less) in
          subst (λ (l : List ℕ). Turn (remove_entry (at key) before) outside' done key l) (sym e1) (subst (λ (o : List ℕ). Turn (remove_entry (at key) before) o done key (filter (is_to es key) outside)) (sym e2) new)

  -- ---- the queues of those that are gone

  gone : (w : List ℕ × List ℕ) (before : List (List ℕ × List ℕ)) (outside : List ℕ) (done : List (List ℕ)) → IsStrictlySortedBy nat_cmp (keys_of es) → Moving (w ∷ before) outside done → Moving before (merge outside w.1) done
  gone w before outside done sorted is = record {
    rises = sorted_tail (slice_cmp nat_cmp) w.0 (keys_of before) is.rises;
    theirs = is.theirs.1;
    apart = is.apart.1;
    others = ap₂ merge is.others is.theirs.0 ∙ merge-from [] (numbers_to one es) (numbers_to (at w.0) es) ∙ merged-numbers one (at w.0) es sorted other ∙ numbers-same (λ k. one k || at w.0 k) (is_out (keys_of before ++ done)) es rest;
  } where
    one : List ℕ → Bool
    one = is_out (w.0 ∷ (keys_of before ++ done))

    other : (k : List ℕ) → one k ≡ true → at w.0 k ≡ false
    other k out = elim (cases_Bool (at w.0 k)) [
      | inl here ↦ let back : at k w.0 ≡ true = laws.symm k w.0 ∙ here in let no : false ≡ true = rw back at out in absurd (false≢true no)
      | inr there ↦ there
    ]

    none_here : has_queue (keys_of before ++ done) w.0 ≡ false
    none_here = let mine : list_any (at w.0) (keys_of before) ≡ false = not_later (keys_of before) (sorted_head (slice_cmp nat_cmp) w.0 (keys_of before) is.rises) in let not_done = is.apart.0 in
        list_any-append (at w.0) (keys_of before) done ∙ rw (mine, not_done) refl
      where
        not_later : (ks : List (List ℕ)) → AllByRecursion (λ k. slice_cmp nat_cmp w.0 k ≡ Less) ks → list_any (at w.0) ks ≡ false
        not_later [] all = refl
        not_later (k ∷ ks) all = let differs = at-back k w.0 (principal-less w.0 k all.0) in rw differs (not_later ks all.1)

    rest : (k : List ℕ) → (one k || at w.0 k) ≡ is_out (keys_of before ++ done) k
    rest k = elim (cases_Bool (at w.0 k)) [
      | inl here ↦
          let back : at k w.0 ≡ true = laws.symm k w.0 ∙ here in
          let out : has_queue (keys_of before ++ done) k ≡ false = ap (has_queue (keys_of before ++ done)) (sym (at-is w.0 k here)) ∙ none_here in
          rw (here, back, out) refl
      | inr there ↦ let back : at k w.0 ≡ false = at-back w.0 k there in rw (there, back) (no_or (not (has_queue (keys_of before ++ done) k)))
    ] where
      no_or : (b : Bool) → (b || false) ≡ b
      no_or true = refl
      no_or false = refl

  all-gone : (before : List (List ℕ × List ℕ)) (outside : List ℕ) (done : List (List ℕ)) → IsStrictlySortedBy nat_cmp (keys_of es) → Moving before outside done → fold merge outside (values_of before) ≡ numbers_to (is_out done) es
  all-gone [] outside done sorted is = is.others
  all-gone (w ∷ before) outside done sorted is = all-gone before (merge outside w.1) done sorted (gone w before outside done sorted is)

  own-lookup : (q : List ℕ) (keys : List (List ℕ)) → lookup (at q) (map own keys) ≡ cond (has_queue keys q) (Some (numbers_to (at q) es)) None
  own-lookup q [] = refl
  own-lookup q (k ∷ ks) = elim (cases_Bool (at q k)) [
    | inl here ↦ rw here (ap (λ (j : List ℕ). Some (numbers_to (at j) es)) (sym (at-is q k here)))
    | inr there ↦ rw there (own-lookup q ks)
  ]

  pub record MovedEnds (lines : List (List ℕ × List ℕ)) (outside : List ℕ) (next : ℕ) (keys : List (List ℕ)) : Type 0 where
    pub queued : IsQueued es lines outside next
    pub keys_are : keys_of lines ≡ keys

  pub moved-ends : (ws : List (List ℕ × List ℕ)) (all : List ℕ) (next : ℕ) → IsQueued es ws all next → (before : List (List ℕ × List ℕ)) (outside : List ℕ) (lines : List (List ℕ × List ℕ)) (done : List (List ℕ)) (outside' : List ℕ)
      → Rises done → (Rises done → Moved before outside lines done) → outside' ≡ fold merge outside (values_of before) → MovedEnds lines outside' next done
  moved-ends ws all next was before outside lines done outside' rises so_far is_outside =
      let is = so_far rises in
      let keys_are : keys_of lines ≡ done = ap keys_of is.made ∙ own-keys done in
      record {
        queued = record {
          ordered = was.ordered;
          below = was.below;
          queues = subst Rises (sym keys_are) rises;
          theirs = λ q. ap (lookup (at q)) is.made ∙ own-lookup q done ∙ ap (λ ks. cond (has_queue ks q) (Some (numbers_to (at q) es)) None) (sym keys_are);
          others = is_outside ∙ all-gone before outside done was.ordered is.moving ∙ ap (λ ks. numbers_to (is_out ks) es) (sym keys_are);
        };
        keys_are = keys_are;
      }
