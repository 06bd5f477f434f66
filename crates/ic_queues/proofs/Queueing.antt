-- The queues after a message has left its queue, and after one has come last.
use Rattle.std.proofs.Common.{◌≡◌, ◌<◌, ◌+◌, ℕ, Bool, true, false, cond, List, [], ◌∷◌, ◌++◌, Option, Some, None, refl, sym, ap, ◌∙◌, subst, append-nil, length, arith}
use Rattle.std.specs.Prelude.{not, is_some, nat_eq, zip}
use Rattle.std.specs.List.{list_any, list_all, find, AllByRecursion}
use Rattle.std.specs.List.Sorted.{IsStrictlySortedBy}
use Rattle.std.specs.Ordering.{nat_cmp}
use Rattle.std.specs.Cmp.Lexicographic.{slice_cmp, pointwise, texts_ties}
use Rattle.std.specs.Map.{lookup, remove_entry, set_value, keys_of, values_of}
use Rattle.std.specs.BTreeMap.{insert_entry}
use Rattle.std.proofs.lemmas.Bool.{cond-true, cond-false, and_parts, false≢true}
use Rattle.std.proofs.lemmas.Map.{lookup-set_value, keys-set_value}
use Rattle.std.proofs.lemmas.Map.Made.{is_some-lookup}
use Rattle.ic_behaviour.specs.declared.call.Message.{Message}
use Rattle.ic_behaviour.specs.State.{at, callee_of}
use Rattle.ic_behaviour.proofs.Weights.{laws, at-is, at-self, at-back}
use Rattle.ic_queues.specs.Queued.{Queued, first_to, without_first, without_first_to, push}
use Rattle.ic_queues.specs.Lines.{is_number, numbers_to, is_out, IsQueued, remove_number, numbered, line_at, popped_line, waiting_with, outside_with, without_number, waiting_without, outside_without}
use Rattle.ic_queues.proofs.Entries.{insert_last, sorted_last, all_keys_removed, sorted_removed}
use Rattle.ic_queues.proofs.Places.{line-without, line-same}
use Rattle.ic_queues.proofs.Numbers.{pops, none_waits, numbers-rise, numbers-last, values-last, keys_below, all_above, all_less}

-- who is one is not another
apart : (key other x : List ℕ) → at key other ≡ false → at key x ≡ true → at other x ≡ false
apart key other x differ is = laws.symm other x ∙ sym (laws.congr key x other is) ∙ differ

module _ (es : List (ℕ × Message)) (ws : List (List ℕ × List ℕ)) (outside : List ℕ) (next : ℕ) (is : IsQueued es ws outside next) where
  pub has : (key : List ℕ) (line : List ℕ) → lookup (at key) ws ≡ Some line → (list_any (at key) (keys_of ws) ≡ true) × (line ≡ numbers_to (at key) es)
  has key line there =
      let member : list_any (at key) (keys_of ws) ≡ true = sym (is_some-lookup (at key) ws) ∙ ap is_some there in
      let own : Some line ≡ Some (numbers_to (at key) es) = sym there ∙ is.theirs key ∙ cond-true _ _ _ member in
      (member, cc)

  pub line-rises : (key line : List ℕ) → lookup (at key) ws ≡ Some line → IsStrictlySortedBy nat_cmp line
  line-rises key line there = subst (λ (l : List ℕ). IsStrictlySortedBy nat_cmp l) (sym (has key line there).1) (numbers-rise (at key) es is.ordered)

  keys_stay : (key line : List ℕ) → keys_of (set_value (at key) ws line) ≡ keys_of ws
  keys_stay key line = keys-set_value (at key) ws line

  queues_stay : (key line : List ℕ) → IsStrictlySortedBy (slice_cmp nat_cmp) (keys_of (set_value (at key) ws line))
  queues_stay key line = subst (IsStrictlySortedBy (slice_cmp nat_cmp)) (sym (keys_stay key line)) is.queues

  -- one queue has changed with its messages, and the others' messages stand as before
  theirs_after : (key line line' : List ℕ) (es' : List (ℕ × Message)) → lookup (at key) ws ≡ Some line → line' ≡ numbers_to (at key) es'
      → ((q : List ℕ) → at key q ≡ false → numbers_to (at q) es' ≡ numbers_to (at q) es)
      → (q : List ℕ) → lookup (at q) (set_value (at key) ws line') ≡ cond (list_any (at q) (keys_of (set_value (at key) ws line'))) (Some (numbers_to (at q) es')) None
  theirs_after key line line' es' there own others q =
      lookup-set_value laws (at key) (λ x y e. laws.congr key x y e) q line' ws (ap is_some there)
      ∙ either (at key q) refl
      ∙ ap (λ ks. cond (list_any (at q) ks) (Some (numbers_to (at q) es')) None) (sym (keys_stay key line'))
    where
      either : (b : Bool) → at key q ≡ b → cond b (Some line') (lookup (at q) ws) ≡ cond (list_any (at q) (keys_of ws)) (Some (numbers_to (at q) es')) None
      either true same =
          let here : key ≡ q = at-is key q same in
          let member : list_any (at q) (keys_of ws) ≡ true = subst (λ (k : List ℕ). list_any (at k) (keys_of ws) ≡ true) here (has key line there).0 in
          ap (λ l. Some l) (own ∙ ap (λ k. numbers_to (at k) es') here) ∙ sym (cond-true _ _ _ member)
      either false differs = is.theirs q ∙ ap (λ l. cond (list_any (at q) (keys_of ws)) (Some l) None) (sym (others q differs))

  -- the first message to a canister has left
  pub record Popped (key : List ℕ) (o : Option (List ℕ)) : Type 0 where
    pub queued : IsQueued (remove_number (line_at o) es) (popped_line ws key o) outside next
    pub keys : keys_of (popped_line ws key o) ≡ keys_of ws
    pub list : values_of (remove_number (line_at o) es) ≡ cond (list_any (at key) (keys_of ws)) (without_first key (values_of es)) (values_of es)
    pub message : numbered (line_at o) es ≡ cond (list_any (at key) (keys_of ws)) (find (λ m. at key (callee_of m)) (values_of es)) None

  pub popped : (key : List ℕ) (o : Option (List ℕ)) → lookup (at key) ws ≡ o → Popped key o
  popped key None there =
      let fails : list_any (at key) (keys_of ws) ≡ false = sym (is_some-lookup (at key) ws) ∙ ap is_some there in
      record { queued = is; keys = refl; list = sym (cond-false _ _ _ fails); message = sym (cond-false _ _ _ fails) }
  popped key (Some []) there =
      let own = (has key [] there).1 in
      let none = none_waits (at key) es (sym own) in
      let keys = keys_stay key [] in
      let member = (has key [] there).0 in
      record {
        queued = record {
          ordered = is.ordered;
          below = is.below;
          queues = queues_stay key [];
          theirs = theirs_after key [] [] es there own (λ q differs. refl);
          others = is.others ∙ ap (λ ks. numbers_to (is_out ks) es) (sym keys);
        };
        keys = keys;
        list = sym (cond-true _ _ _ member ∙ none.list);
        message = sym (cond-true _ _ _ member ∙ none.found);
      }
  popped key (Some (n ∷ line)) there =
      let own = (has key (n ∷ line) there).1 in
      let first = pops (at key) n line es is.ordered (sym own) in
      let keys = keys_stay key line in
      let member = (has key (n ∷ line) there).0 in
      let apart_from : (k : List ℕ) → at key k ≡ true → is_out (keys_of ws) k ≡ false =
      λ k same. ap not (subst (λ (j : List ℕ). list_any (at j) (keys_of ws) ≡ true) (at-is key k same) member) in
      record {
        queued = record {
          ordered = sorted_removed nat_cmp (is_number n) es is.ordered;
          below = all_keys_removed nat_cmp (λ k. k < next) (is_number n) es is.below;
          queues = queues_stay key line;
          theirs = theirs_after key (n ∷ line) line (remove_entry (is_number n) es) there (sym first.own) (λ q differs. first.others (at q) (λ k same. apart key q k differs same));
          others = is.others ∙ sym (first.others (is_out (keys_of ws)) apart_from)
              ∙ ap (λ ks. numbers_to (is_out ks) (remove_entry (is_number n) es)) (sym keys);
        };
        keys = keys;
        list = first.list ∙ sym (cond-true _ _ _ member);
        message = first.found ∙ sym (cond-true _ _ _ member);
      }

  -- a message has come last
  pub record Pushed (m : Message) (o : Option (List ℕ)) : Type 0 where
    pub queued : IsQueued (insert_entry nat_cmp es next m) (waiting_with ws (callee_of m) next o) (outside_with outside next o) (next + 1)
    pub keys : keys_of (waiting_with ws (callee_of m) next o) ≡ keys_of ws
    pub list : values_of (insert_entry nat_cmp es next m) ≡ values_of es ++ m ∷ []

  module _ (m : Message) where
    last : insert_entry nat_cmp es next m ≡ es ++ (next, m) ∷ []
    last = insert_last nat_cmp next m es (all_above next (keys_of es) is.below)

    numbers_now : (is : List ℕ → Bool) → numbers_to is (insert_entry nat_cmp es next m) ≡ numbers_to is es ++ cond (is (callee_of m)) (next ∷ []) []
    numbers_now is = ap (numbers_to is) last ∙ numbers-last is es next m

    numbers_with : (is : List ℕ → Bool) → is (callee_of m) ≡ true → numbers_to is (insert_entry nat_cmp es next m) ≡ numbers_to is es ++ next ∷ []
    numbers_with is passes = numbers_now is ∙ ap (λ l. numbers_to is es ++ l) (cond-true _ _ _ passes)

    numbers_same : (is : List ℕ → Bool) → is (callee_of m) ≡ false → numbers_to is (insert_entry nat_cmp es next m) ≡ numbers_to is es
    numbers_same is fails = numbers_now is ∙ ap (λ l. numbers_to is es ++ l) (cond-false _ _ _ fails) ∙ append-nil (numbers_to is es)

    ordered_now : IsStrictlySortedBy nat_cmp (keys_of (insert_entry nat_cmp es next m))
    ordered_now =
        subst (λ (l : List (ℕ × Message)). IsStrictlySortedBy nat_cmp (keys_of l)) (sym last) (sorted_last nat_cmp next m es is.ordered (all_less next (keys_of es) is.below))

    below_now : AllByRecursion (λ k. k < next + 1) (keys_of (insert_entry nat_cmp es next m))
    below_now = subst (λ (l : List (ℕ × Message)). AllByRecursion (λ k. k < next + 1) (keys_of l)) (sym last) (keys_below es next m is.below)

    list_now : values_of (insert_entry nat_cmp es next m) ≡ values_of es ++ m ∷ []
    list_now = ap values_of last ∙ values-last es next m

    pub pushed : (o : Option (List ℕ)) → lookup (at (callee_of m)) ws ≡ o → Pushed m o
    pushed (Some line) there =
        let own = (has (callee_of m) line there).1 in
        let keys = keys_stay (callee_of m) (line ++ next ∷ []) in
        record {
          queued = record {
            ordered = ordered_now;
            below = below_now;
            queues = queues_stay (callee_of m) (line ++ next ∷ []);
            theirs = theirs_after (callee_of m) line (line ++ next ∷ []) (insert_entry nat_cmp es next m) there
                (ap (λ l. l ++ next ∷ []) own ∙ sym (numbers_with (at (callee_of m)) (at-self (callee_of m))))
                (λ q differs. numbers_same (at q) (at-back (callee_of m) q differs));
            others = is.others ∙ sym (numbers_same (is_out (keys_of ws)) (ap not (has (callee_of m) line there).0))
                ∙ ap (λ ks. numbers_to (is_out ks) (insert_entry nat_cmp es next m)) (sym keys);
          };
          keys = keys;
          list = list_now;
        }
    pushed None there =
        let none : list_any (at (callee_of m)) (keys_of ws) ≡ false = sym (is_some-lookup (at (callee_of m)) ws) ∙ ap is_some there in
        record {
          queued = record {
            ordered = ordered_now;
            below = below_now;
            queues = is.queues;
            theirs = λ q. is.theirs q ∙ same none q (list_any (at q) (keys_of ws)) refl (at q (callee_of m)) refl;
            others = ap (λ l. l ++ next ∷ []) is.others ∙ sym (numbers_with (is_out (keys_of ws)) (ap not none));
          };
          keys = refl;
          list = list_now;
        }
      where
        same : list_any (at (callee_of m)) (keys_of ws) ≡ false → (q : List ℕ) (b : Bool) → list_any (at q) (keys_of ws) ≡ b → (to : Bool) → at q (callee_of m) ≡ to
            → cond b (Some (numbers_to (at q) es)) None ≡ cond b (Some (numbers_to (at q) (insert_entry nat_cmp es next m))) None
        same none q false here to callee = refl
        same none q true here false callee = ap (λ l. Some l) (sym (numbers_same (at q) callee))
        same none q true here true callee =
            absurd (false≢true (sym none ∙ subst (λ (k : List ℕ). list_any (at k) (keys_of ws) ≡ true) (at-is q (callee_of m) callee) here))

-- the same, of the values that the code has
abbrev pub view : List (ℕ × Message) → List (List ℕ × List ℕ) → Queued
view es ws = record { canisters = keys_of ws; messages = values_of es }

pub record PopEnds (es : List (ℕ × Message)) (ws : List (List ℕ × List ℕ)) (outside : List ℕ) (next : ℕ) (key : List ℕ) (m : Option Message) (es' : List (ℕ × Message)) (ws' : List (List ℕ × List ℕ)) : Type 0 where
  pub queued : IsQueued es' ws' outside next
  pub queues : view es' ws' ≡ without_first_to key (view es ws)
  pub message : m ≡ first_to key (view es ws)

abbrev with_list : List (List ℕ) → List Message → Queued
with_list keys messages = record { canisters = keys; messages = messages }

popped_view : (b : Bool) (keys : List (List ℕ)) (xs ys : List Message) → with_list keys (cond b xs ys) ≡ cond b (with_list keys xs) (with_list keys ys)
popped_view true keys xs ys = refl
popped_view false keys xs ys = refl

pub pop_ends : (es : List (ℕ × Message)) (ws : List (List ℕ × List ℕ)) (outside : List ℕ) (next : ℕ) (key : List ℕ) (n : Option ℕ) (m : Option Message) (es' : List (ℕ × Message)) (ws' : List (List ℕ × List ℕ))
    → IsQueued es ws outside next
    → n ≡ line_at (lookup (at key) ws) → ws' ≡ popped_line ws key (lookup (at key) ws) → es' ≡ remove_number n es → m ≡ numbered n es
    → PopEnds es ws outside next key m es' ws'
pop_ends es ws outside next key n m es' ws' is e1 e2 e3 e4 =
    let o = lookup (at key) ws in
    let got = popped es ws outside next is key o refl in
    let entries : es' ≡ remove_number (line_at o) es = e3 ∙ ap (λ k. remove_number k es) e1 in
    record {
      queued = subst (λ (l : List (List ℕ × List ℕ)). IsQueued es' l outside next) (sym e2)
          (subst (λ (l : List (ℕ × Message)). IsQueued l (popped_line ws key o) outside next) (sym entries) got.queued);
      queues = ap (λ l. record { canisters = l; messages = values_of es' }) (ap keys_of e2 ∙ got.keys)
          ∙ ap (λ l. record { canisters = keys_of ws; messages = l }) (ap values_of entries ∙ got.list)
          ∙ popped_view (list_any (at key) (keys_of ws)) (keys_of ws) (without_first key (values_of es)) (values_of es);
      message = e4 ∙ ap (λ k. numbered k es) e1 ∙ got.message;
    }

pub record PushEnds (es : List (ℕ × Message)) (ws : List (List ℕ × List ℕ)) (m : Message) (es' : List (ℕ × Message)) (ws' : List (List ℕ × List ℕ)) (outside' : List ℕ) (next' : ℕ) : Type 0 where
  pub queued : IsQueued es' ws' outside' next'
  pub queues : view es' ws' ≡ push (view es ws) m

pub push_ends : (es : List (ℕ × Message)) (ws : List (List ℕ × List ℕ)) (outside : List ℕ) (next : ℕ) (m : Message) (callee : List ℕ)
    (es' : List (ℕ × Message)) (ws' : List (List ℕ × List ℕ)) (outside' : List ℕ) (next' : ℕ)
    → IsQueued es ws outside next → callee ≡ callee_of m → es' ≡ insert_entry nat_cmp es next m
    → ws' ≡ waiting_with ws callee next (lookup (at callee) ws) → outside' ≡ outside_with outside next (lookup (at callee) ws) → next' ≡ next + 1
    → PushEnds es ws m es' ws' outside' next'
push_ends es ws outside next m callee es' ws' outside' next' is e0 e1 e2 e3 e4 =
    let o = lookup (at (callee_of m)) ws in
    let got = pushed es ws outside next is m o refl in
    let waits : ws' ≡ waiting_with ws (callee_of m) next o = e2 ∙ ap (λ k. waiting_with ws k next (lookup (at k) ws)) e0 in
    let outs : outside' ≡ outside_with outside next o = e3 ∙ ap (λ k. outside_with outside next (lookup (at k) ws)) e0 in
    let q1 : IsQueued es' (waiting_with ws (callee_of m) next o) (outside_with outside next o) (next + 1) =
    subst (λ (l : List (ℕ × Message)). IsQueued l (waiting_with ws (callee_of m) next o) (outside_with outside next o) (next + 1)) (sym e1) got.queued in
    let q2 : IsQueued es' ws' (outside_with outside next o) (next + 1) =
    subst (λ (l : List (List ℕ × List ℕ)). IsQueued es' l (outside_with outside next o) (next + 1)) (sym waits) q1 in
    let q3 : IsQueued es' ws' outside' (next + 1) = subst (λ (l : List ℕ). IsQueued es' ws' l (next + 1)) (sym outs) q2 in
    record {
      queued = subst (λ (n : ℕ). IsQueued es' ws' outside' n) (sym e4) q3;
      queues = ap (λ l. record { canisters = l; messages = values_of es' }) (ap keys_of waits ∙ got.keys)
          ∙ ap (λ l. record { canisters = keys_of ws; messages = l }) (ap values_of e1 ∙ got.list);
    }

-- ---- a message at a place of the list leaves

module _ (es : List (ℕ × Message)) (ws : List (List ℕ × List ℕ)) (outside : List ℕ) (next : ℕ) (is : IsQueued es ws outside next) (n : ℕ) (m : Message) (found : lookup (is_number n) es ≡ Some m) where
  abbrev without : List (ℕ × Message)
  without = remove_entry (is_number n) es

  pub record Leaves (o : Option (List ℕ)) : Type 0 where
    pub queued : IsQueued without (waiting_without ws (callee_of m) n o) (outside_without outside n o) next
    pub keys : keys_of (waiting_without ws (callee_of m) n o) ≡ keys_of ws

  own : (test : List ℕ → Bool) → numbers_to test without ≡ without_number n (numbers_to test es)
  own test = line-without test n es is.ordered

  other : (test : List ℕ → Bool) → test (callee_of m) ≡ false → numbers_to test without ≡ numbers_to test es
  other test fails = line-same test n m es found fails

  pub leaves : (o : Option (List ℕ)) → lookup (at (callee_of m)) ws ≡ o → Leaves o
  leaves (Some line) there =
      let own_line = (has es ws outside next is (callee_of m) line there).1 in
      let keys = keys_stay es ws outside next is (callee_of m) (without_number n line) in
      record {
        queued = record {
          ordered = sorted_removed nat_cmp (is_number n) es is.ordered;
          below = all_keys_removed nat_cmp (λ k. k < next) (is_number n) es is.below;
          queues = queues_stay es ws outside next is (callee_of m) (without_number n line);
          theirs = theirs_after es ws outside next is (callee_of m) line (without_number n line) without there
              (ap (without_number n) own_line ∙ sym (own (at (callee_of m)))) (λ q differs. other (at q) (at-back (callee_of m) q differs));
          others = is.others ∙ sym (other (is_out (keys_of ws)) (ap not (has es ws outside next is (callee_of m) line there).0))
              ∙ ap (λ ks. numbers_to (is_out ks) without) (sym keys);
        };
        keys = keys;
      }
  leaves None there =
      let none : list_any (at (callee_of m)) (keys_of ws) ≡ false = sym (is_some-lookup (at (callee_of m)) ws) ∙ ap is_some there in
      record {
        queued = record {
          ordered = sorted_removed nat_cmp (is_number n) es is.ordered;
          below = all_keys_removed nat_cmp (λ k. k < next) (is_number n) es is.below;
          queues = is.queues;
          theirs = λ q. is.theirs q ∙ same none q (list_any (at q) (keys_of ws)) refl (at q (callee_of m)) refl;
          others = ap (without_number n) is.others ∙ sym (own (is_out (keys_of ws)));
        };
        keys = refl;
      }
    where
      same : list_any (at (callee_of m)) (keys_of ws) ≡ false → (q : List ℕ) (b : Bool) → list_any (at q) (keys_of ws) ≡ b → (to : Bool) → at q (callee_of m) ≡ to
          → cond b (Some (numbers_to (at q) es)) None ≡ cond b (Some (numbers_to (at q) without)) None
      same none q false here to callee = refl
      same none q true here false callee = ap (λ l. Some l) (sym (other (at q) callee))
      same none q true here true callee =
          absurd (false≢true (sym none ∙ subst (λ (k : List ℕ). list_any (at k) (keys_of ws) ≡ true) (at-is q (callee_of m) callee) here))

-- the same, of the values that the code has
pub record LeaveEnds (es : List (ℕ × Message)) (ws : List (List ℕ × List ℕ)) (outside : List ℕ) (next : ℕ) (es' : List (ℕ × Message)) (ws' : List (List ℕ × List ℕ)) (outside' : List ℕ) : Type 0 where
  pub queued : IsQueued es' ws' outside' next
  pub rest : view es' ws' ≡ record (view es ws) { messages = values_of es' }

pub leave_ends : (es : List (ℕ × Message)) (ws : List (List ℕ × List ℕ)) (outside : List ℕ) (next : ℕ) (n : ℕ) (m : Message) (callee : List ℕ) (es' : List (ℕ × Message)) (ws' : List (List ℕ × List ℕ)) (outside' : List ℕ)
    → IsQueued es ws outside next → lookup (is_number n) es ≡ Some m → callee ≡ callee_of m → es' ≡ remove_entry (is_number n) es
    → ws' ≡ waiting_without ws callee n (lookup (at callee) ws) → outside' ≡ outside_without outside n (lookup (at callee) ws)
    → LeaveEnds es ws outside next es' ws' outside'
leave_ends es ws outside next n m callee es' ws' outside' is found e0 e1 e2 e3 =
    let o = lookup (at (callee_of m)) ws in
    let got = leaves es ws outside next is n m found o refl in
    let waits : ws' ≡ waiting_without ws (callee_of m) n o = e2 ∙ ap (λ k. waiting_without ws k n (lookup (at k) ws)) e0 in
    let outs : outside' ≡ outside_without outside n o = e3 ∙ ap (λ k. outside_without outside n (lookup (at k) ws)) e0 in
    record {
      queued = subst (λ (l : List (ℕ × Message)). IsQueued l ws' outside' next) (sym e1)
          (subst (λ (l : List (List ℕ × List ℕ)). IsQueued (remove_entry (is_number n) es) l outside' next) (sym waits)
          (subst (λ (l : List ℕ). IsQueued (remove_entry (is_number n) es) (waiting_without ws (callee_of m) n o) l next) (sym outs) got.queued));
      rest = ap (λ l. record { canisters = l; messages = values_of es' }) (ap keys_of waits ∙ got.keys);
    }

pub same_keys : {X Y : Type 0} (es : List (List ℕ × X)) (fs : List (List ℕ × Y)) → length es ≡ length fs
    → list_all (λ (p : List ℕ × List ℕ). pointwise nat_eq p.0 p.1) (zip (keys_of es) (keys_of fs)) ≡ true → keys_of es ≡ keys_of fs
same_keys [] [] many all = refl
same_keys [] (f ∷ fs) many all = absurd (omega (arith, many))
same_keys (e ∷ es) [] many all = absurd (omega (arith, many))
same_keys (e ∷ es) (f ∷ fs) many all =
    let parts = and_parts (pointwise nat_eq e.0 f.0) _ all in
    let head : e.0 ≡ f.0 = at-is e.0 f.0 (sym (texts_ties e.0 f.0) ∙ parts.0) in
    λ i. head i ∷ same_keys es fs (omega (arith, many)) parts.1 i
