-- A walk from one message to no canister to the next.
use Rattle.std.proofs.Common.{◌≡◌, ◌<◌, ◌≤◌, ◌+◌, ℕ, zero, suc, Bool, true, false, cond, ◌&&◌, ◌||◌, List, [], ◌∷◌, ◌++◌, length, take, Option, Some, None, refl, sym, ap, ap₂, ◌∙◌, subst, inl, inr, arith, append-nil, append_assoc}
use Rattle.std.specs.Prelude.{◌==◌, slice_get, slice_index_or, drop}
use Rattle.std.specs.List.{list_any, list_all, filter, AllByRecursion}
use Rattle.std.specs.List.Sorted.{IsStrictlySortedBy}
use Rattle.std.specs.Ordering.{nat_cmp, is_gt, is_le, is_eq}
use Rattle.std.specs.declared.cmp.Ordering.TheVariants.{Less, Equal, Greater}
use Rattle.std.specs.Cmp.{nat_cmp_is}
use Rattle.std.specs.Map.{lookup, remove_entry, keys_of, values_of}
use Rattle.std.proofs.Math.Nat.{eq-or-lt_of_le, suc-ne-zero}
use Rattle.std.proofs.lemmas.Bool.{cases_Bool, cases_lt, false≢true, ne_eqb}
use Rattle.std.proofs.lemmas.Cmp.{ranked}
use Rattle.std.proofs.lemmas.List.Folds.{list_any-append}
use Rattle.std.proofs.lemmas.Map.Keys.{sorted_head, sorted_tail}
use Rattle.ic_behaviour.specs.declared.call.Message.{Message}
use Rattle.ic_behaviour.specs.State.{at, callee_of}
use Rattle.ic_behaviour.specs.Steps.{sender_of, same_way}
use Rattle.ic_behaviour.proofs.Weights.{at-is, each-map}
use Rattle.ic_queues.specs.Queued.{Queued, Walked, has_queue, is_inside, AllStay, Steps}
use Rattle.ic_queues.specs.Lines.{is_number, numbers_to, is_out, IsQueued}
use Rattle.ic_queues.specs.Walking.{gone, coming, IsWalked, of_way, is_of_way}
use Rattle.ic_queues.proofs.Entries.{all_keys_removed, sorted_removed}
use Rattle.ic_queues.proofs.Numbers.{all_numbers, number-self}
use Rattle.ic_queues.proofs.Places.{line-same}

-- ---- below a place, and from it on

gone-is : (place n : ℕ) → n < place → nat_cmp place n ≡ Greater
gone-is place n less = sym (nat_cmp_is place n Greater less)

not_gone : (place n : ℕ) → place ≤ n → (is_gt (nat_cmp place n) ≡ false) × (is_le (nat_cmp place n) ≡ true)
not_gone place n upto = elim (eq-or-lt_of_le upto) [
  | inl same ↦ let is : nat_cmp place n ≡ Equal = sym (nat_cmp_is place n Equal same) in (ap is_gt is, ap is_le is)
  | inr less ↦ let is : nat_cmp place n ≡ Less = sym (nat_cmp_is place n Less less) in (ap is_gt is, ap is_le is)
]

above : (n : ℕ) (ks : List ℕ) → AllByRecursion (λ k. nat_cmp n k ≡ Less) ks → AllByRecursion (λ k. n < k) ks
above n ks all = each-map (λ k. nat_cmp n k ≡ Less) (λ k. n < k) (λ k less. ranked n k Less (sym less)) ks all

pub none_gone : (place : ℕ) (es : List (ℕ × Message)) → AllByRecursion (λ k. place ≤ k) (keys_of es) → (gone place es ≡ []) × (coming place es ≡ es)
none_gone place [] all = (refl, refl)
none_gone place (e ∷ es) all =
    let rest = none_gone place es all.1 in
    let sides = not_gone place e.0 all.0 in
    (rw sides.0 rest.0, rw sides.1 (ap (λ l. e ∷ l) rest.1))

pub all_gone : (place : ℕ) (es : List (ℕ × Message)) → AllByRecursion (λ k. k < place) (keys_of es) → (gone place es ≡ es) × (coming place es ≡ [])
all_gone place [] all = (refl, refl)
all_gone place (e ∷ es) all =
    let rest = all_gone place es all.1 in
    let is = gone-is place e.0 all.0 in
    (rw (ap is_gt is) (ap (λ l. e ∷ l) rest.0), rw (ap is_le is) rest.1)

-- of entries that rise all are to come from the first one on
tail_coming : (place : ℕ) (e : ℕ × Message) (es : List (ℕ × Message)) → IsStrictlySortedBy nat_cmp (keys_of (e ∷ es)) → place ≤ e.0 + 1 → AllByRecursion (λ k. place ≤ k) (keys_of es)
tail_coming place e es sorted upto =
    each-map (λ k. nat_cmp e.0 k ≡ Less) (λ k. place ≤ k) (λ k less. omega (arith, upto, ranked e.0 k Less (sym less))) (keys_of es) (sorted_head nat_cmp e.0 (keys_of es) sorted)

pub halves : (place : ℕ) (es : List (ℕ × Message)) → IsStrictlySortedBy nat_cmp (keys_of es) → values_of (gone place es) ++ values_of (coming place es) ≡ values_of es
halves place [] sorted = refl
halves place (e ∷ es) sorted = elim (cases_lt e.0 place) [
  | inl less ↦
      let is = gone-is place e.0 less in
      rw (ap is_gt is, ap is_le is) (ap (λ l. e.1 ∷ l) (halves place es (sorted_tail nat_cmp e.0 (keys_of es) sorted)))
  | inr upto ↦
      let all = none_gone place (e ∷ es) (upto, tail_coming place e es sorted (omega (arith, upto))) in
      ap₂ (λ x y. values_of x ++ values_of y) all.0 all.1
]

coming_keys : (place : ℕ) (es : List (ℕ × Message)) → AllByRecursion (λ k. place ≤ k) (keys_of (coming place es))
coming_keys place [] = tt
coming_keys place (e ∷ es) = elim (cases_lt e.0 place) [
  | inl less ↦ let is = gone-is place e.0 less in rw (ap is_le is) (coming_keys place es)
  | inr upto ↦ let sides = not_gone place e.0 upto in rw sides.1 (upto, coming_keys place es)
]

-- ---- one message to no canister

module _ (keys : List (List ℕ)) where
  -- the first of these to no canister has the number n
  record From (n : ℕ) (ns : List ℕ) (es : List (ℕ × Message)) : Type 0 where
    pub front : List Message
    pub message : Message
    pub back : List Message
    pub whole : values_of es ≡ front ++ message ∷ back
    pub inside : AllByRecursion (λ m. is_inside keys m ≡ true) front
    pub out : is_inside keys message ≡ false
    pub found : lookup (is_number n) es ≡ Some message
    pub kept : values_of (gone n (remove_entry (is_number n) es)) ≡ front
    pub todo : values_of (coming n (remove_entry (is_number n) es)) ≡ back
    pub kept_too : values_of (gone (n + 1) es) ≡ front ++ message ∷ []
    pub todo_too : values_of (coming (n + 1) es) ≡ back
    pub later : numbers_to (is_out keys) (coming n (remove_entry (is_number n) es)) ≡ ns
    pub later_too : numbers_to (is_out keys) (coming (n + 1) es) ≡ ns
    pub before : numbers_to (is_out keys) (gone n (remove_entry (is_number n) es)) ≡ []
    pub before_too : numbers_to (is_out keys) (gone (n + 1) es) ≡ n ∷ []

  from : (n : ℕ) (ns : List ℕ) (es : List (ℕ × Message)) → IsStrictlySortedBy nat_cmp (keys_of es) → numbers_to (is_out keys) es ≡ n ∷ ns → From n ns es
  from n ns [] sorted some = absurd (cc)
  from n ns (e ∷ es) sorted some =
      elim (cases_Bool (has_queue keys (callee_of e.1))) [
        | inl here ↦
            let now : numbers_to (is_out keys) es ≡ n ∷ ns = rw here at some in
            let less : AllByRecursion (λ k. e.0 < k) (n ∷ ns) =
            subst (λ (l : List ℕ). AllByRecursion (λ k. e.0 < k) l) now (all_numbers (λ k. e.0 < k) (is_out keys) es (above e.0 (keys_of es) (sorted_head nat_cmp e.0 (keys_of es) sorted))) in
            let first = gone-is n e.0 less.0 in
            let next = gone-is (n + 1) e.0 (omega (arith, less.0)) in
            let rest = from n ns es (sorted_tail nat_cmp e.0 (keys_of es) sorted) now in
            record {
              front = e.1 ∷ rest.front;
              message = rest.message;
              back = rest.back;
              whole = ap (λ l. e.1 ∷ l) rest.whole;
              inside = (here, rest.inside);
              out = rest.out;
              found = rw (ap is_eq first) rest.found;
              kept = rw (ap is_eq first) (rw (ap is_gt first) (ap (λ l. e.1 ∷ l) rest.kept));
              todo = rw (ap is_eq first) (rw (ap is_le first) rest.todo);
              kept_too = rw (ap is_gt next) (ap (λ l. e.1 ∷ l) rest.kept_too);
              todo_too = rw (ap is_le next) rest.todo_too;
              later = rw (ap is_eq first) (rw (ap is_le first) rest.later);
              later_too = rw (ap is_le next) rest.later_too;
              before = rw (ap is_eq first) (rw (ap is_gt first) (rw here rest.before));
              before_too = rw (ap is_gt next) (rw here rest.before_too);
            }
        | inr there ↦
            let now : e.0 ∷ numbers_to (is_out keys) es ≡ n ∷ ns = rw there at some in
            let number : e.0 ≡ n = cc in
            let rest : numbers_to (is_out keys) es ≡ ns = cc in
            let same : is_number n e.0 ≡ true = subst (λ (k : ℕ). is_number k e.0 ≡ true) number (number-self e.0) in
            let later = none_gone n es (tail_coming n e es sorted (omega (arith, number))) in
            let after = none_gone (n + 1) es (tail_coming (n + 1) e es sorted (omega (arith, number))) in
            let next = gone-is (n + 1) e.0 (omega (arith, number)) in
            record {
              front = [];
              message = e.1;
              back = values_of es;
              whole = refl;
              inside = tt;
              out = there;
              found = rw same refl;
              kept = rw same (ap values_of later.0);
              todo = rw same (ap values_of later.1);
              kept_too = rw (ap is_gt next) (ap (λ l. e.1 ∷ values_of l) after.0);
              todo_too = rw (ap is_le next) (ap values_of after.1);
              later = rw same (ap (numbers_to (is_out keys)) later.1 ∙ rest);
              later_too = rw (ap is_le next) (ap (numbers_to (is_out keys)) after.1 ∙ rest);
              before = rw same (ap (numbers_to (is_out keys)) later.0);
              before_too = rw (ap is_gt next) (rw there (ap₂ (λ (k : ℕ) l. k ∷ numbers_to (is_out keys) l) number after.0));
            }
      ]

  -- the same, where some were gone past
  pub record Met (place n : ℕ) (ns : List ℕ) (es : List (ℕ × Message)) : Type 0 where
    pub front : List Message
    pub message : Message
    pub back : List Message
    pub whole : values_of (coming place es) ≡ front ++ message ∷ back
    pub inside : AllByRecursion (λ m. is_inside keys m ≡ true) front
    pub out : is_inside keys message ≡ false
    pub found : lookup (is_number n) es ≡ Some message
    pub kept : values_of (gone n (remove_entry (is_number n) es)) ≡ values_of (gone place es) ++ front
    pub todo : values_of (coming n (remove_entry (is_number n) es)) ≡ back
    pub kept_too : values_of (gone (n + 1) es) ≡ values_of (gone place es) ++ (front ++ message ∷ [])
    pub todo_too : values_of (coming (n + 1) es) ≡ back
    pub later : numbers_to (is_out keys) (coming n (remove_entry (is_number n) es)) ≡ ns
    pub later_too : numbers_to (is_out keys) (coming (n + 1) es) ≡ ns
    pub before : numbers_to (is_out keys) (gone n (remove_entry (is_number n) es)) ≡ numbers_to (is_out keys) (gone place es)
    pub before_too : numbers_to (is_out keys) (gone (n + 1) es) ≡ numbers_to (is_out keys) (gone place es) ++ n ∷ []

  one_more : (b : Bool) (k n : ℕ) (xs ys : List ℕ) → xs ≡ ys ++ n ∷ [] → cond b (k ∷ xs) xs ≡ cond b (k ∷ ys) ys ++ n ∷ []
  one_more true k n xs ys same = ap (λ l. k ∷ l) same
  one_more false k n xs ys same = same

  pub met : (place n : ℕ) (ns : List ℕ) (es : List (ℕ × Message)) → IsStrictlySortedBy nat_cmp (keys_of es) → numbers_to (is_out keys) (coming place es) ≡ n ∷ ns → Met place n ns es
  met place n ns [] sorted some = absurd (cc)
  met place n ns (e ∷ es) sorted some = elim (cases_lt e.0 place) [
    | inl passed ↦
        let is = gone-is place e.0 passed in
        let now : numbers_to (is_out keys) (coming place es) ≡ n ∷ ns = rw (ap is_le is) at some in
        let upto = subst (λ (l : List ℕ). AllByRecursion (λ k. place ≤ k) l) now (all_numbers (λ k. place ≤ k) (is_out keys) (coming place es) (coming_keys place es)) in
        let first = gone-is n e.0 (omega (arith, passed, upto.0)) in
        let next = gone-is (n + 1) e.0 (omega (arith, passed, upto.0)) in
        let rest = met place n ns es (sorted_tail nat_cmp e.0 (keys_of es) sorted) now in
        record {
          front = rest.front;
          message = rest.message;
          back = rest.back;
          whole = rw (ap is_le is) rest.whole;
          inside = rest.inside;
          out = rest.out;
          found = rw (ap is_eq first) rest.found;
          kept = rw (ap is_eq first) (rw (ap is_gt first, ap is_gt is) (ap (λ l. e.1 ∷ l) rest.kept));
          todo = rw (ap is_eq first) (rw (ap is_le first) rest.todo);
          kept_too = rw (ap is_gt next, ap is_gt is) (ap (λ l. e.1 ∷ l) rest.kept_too);
          todo_too = rw (ap is_le next) rest.todo_too;
          later = rw (ap is_eq first) (rw (ap is_le first) rest.later);
          later_too = rw (ap is_le next) rest.later_too;
          before = rw (ap is_eq first) (rw (ap is_gt first, ap is_gt is) (ap (λ l. cond (is_out keys (callee_of e.1)) (e.0 ∷ l) l) rest.before));
          before_too = rw (ap is_gt next, ap is_gt is) (one_more (is_out keys (callee_of e.1)) e.0 n _ _ rest.before_too);
        }
    | inr upto ↦
        let all = none_gone place (e ∷ es) (upto, tail_coming place e es sorted (omega (arith, upto))) in
        let first = from n ns (e ∷ es) sorted (ap (numbers_to (is_out keys)) (sym all.1) ∙ some) in
        record {
          front = first.front;
          message = first.message;
          back = first.back;
          whole = ap values_of all.1 ∙ first.whole;
          inside = first.inside;
          out = first.out;
          found = first.found;
          kept = first.kept ∙ ap (λ l. values_of l ++ first.front) (sym all.0);
          todo = first.todo;
          kept_too = first.kept_too ∙ ap (λ l. values_of l ++ (first.front ++ first.message ∷ [])) (sym all.0);
          todo_too = first.todo_too;
          later = first.later;
          later_too = first.later_too;
          before = first.before ∙ ap (numbers_to (is_out keys)) (sym all.0);
          before_too = first.before_too ∙ ap (λ l. numbers_to (is_out keys) l ++ n ∷ []) (sym all.0);
        }
  ]

  -- none is met
  pub over-is : (cs : List (ℕ × Message)) → (length (numbers_to (is_out keys) cs) == 0) ≡ list_all (is_inside keys) (values_of cs)
  over-is [] = refl
  over-is (e ∷ es) = elim (cases_Bool (has_queue keys (callee_of e.1))) [ inl here ↦ rw here (over-is es) | inr there ↦ rw there (ne_eqb (suc (length (numbers_to (is_out keys) es))) 0 (λ none. suc-ne-zero (length (numbers_to (is_out keys) es)) none)) ]

  -- ---- of one way

  not_same : (m x : Message) → is_inside keys m ≡ false → is_inside keys x ≡ true → same_way m x ≡ false
  not_same m x out inside = elim (cases_Bool (at (callee_of m) (callee_of x))) [
    | inl same ↦ absurd (false≢true (sym out ∙ ap (has_queue keys) (at-is (callee_of m) (callee_of x) same) ∙ inside))
    | inr differs ↦ rw differs (no_and (at (sender_of m) (sender_of x)))
  ] where
    no_and : (b : Bool) → (b && false) ≡ false
    no_and true = refl
    no_and false = refl

  none_same : (m : Message) (front : List Message) → is_inside keys m ≡ false → AllByRecursion (λ x. is_inside keys x ≡ true) front → list_any (same_way m) front ≡ false
  none_same m [] out inside = refl
  none_same m (x ∷ front) out inside = let differs = not_same m x out inside.0 in rw differs (none_same m front out inside.1)

  -- by the numbers of those that stay
  ways : (es : List (ℕ × Message)) (n : ℕ) (m : Message) (gs : List (ℕ × Message)) → lookup (is_number n) es ≡ Some m → is_inside keys m ≡ false
      → AllByRecursion (λ (g : ℕ × Message). lookup (is_number g.0) es ≡ Some g.1) gs
      → list_any (is_of_way es n) (numbers_to (is_out keys) gs) ≡ list_any (same_way m) (values_of gs)
  ways es n m [] found out all = refl
  ways es n m (g ∷ gs) found out all =
      let rest = ways es n m gs found out all.1 in
      elim (cases_Bool (has_queue keys (callee_of g.1))) [
        | inl here ↦ let differs = not_same m g.1 out here in rw (here, differs) rest
        | inr there ↦ rw there (ap₂ (λ x y. x || y) (ap₂ of_way found all.0) rest)
      ]

found_all : (es gs : List (ℕ × Message)) → AllByRecursion (λ (g : ℕ × Message). lookup (is_number g.0) es ≡ Some g.1) gs → (place : ℕ) → AllByRecursion (λ (g : ℕ × Message). lookup (is_number g.0) es ≡ Some g.1) (gone place gs)
found_all es [] all place = tt
found_all es (g ∷ gs) all place = elim (cases_Bool (is_gt (nat_cmp place g.0))) [ inl here ↦ rw here (all.0, found_all es gs all.1 place) | inr there ↦ rw there (found_all es gs all.1 place) ]

found_self : (es : List (ℕ × Message)) → IsStrictlySortedBy nat_cmp (keys_of es) → AllByRecursion (λ (g : ℕ × Message). lookup (is_number g.0) es ≡ Some g.1) es
found_self [] sorted = tt
found_self (e ∷ es) sorted =
    (rw (number-self e.0) refl, each es (found_self es (sorted_tail nat_cmp e.0 (keys_of es) sorted)) (sorted_head nat_cmp e.0 (keys_of es) sorted)) where
      each : (gs : List (ℕ × Message)) → AllByRecursion (λ (g : ℕ × Message). lookup (is_number g.0) es ≡ Some g.1) gs → AllByRecursion (λ k. nat_cmp e.0 k ≡ Less) (keys_of gs)
          → AllByRecursion (λ (g : ℕ × Message). lookup (is_number g.0) (e ∷ es) ≡ Some g.1) gs
      each [] all less = tt
      each (g ∷ gs) all less =
          let differs : is_number g.0 e.0 ≡ false = ap is_eq (sym (nat_cmp_is g.0 e.0 Greater (ranked e.0 g.0 Less (sym less.0)))) in
          (rw differs all.0, each gs all.1 less.1)

-- ---- steps

stay_inside : (keys : List (List ℕ)) (kept front : List Message) → AllByRecursion (λ m. is_inside keys m ≡ true) front → AllStay keys kept front
stay_inside keys kept [] inside = tt
stay_inside keys kept (m ∷ front) inside = (rw inside.0 refl, stay_inside keys (kept ++ m ∷ []) front inside.1)

stay_last : (keys : List (List ℕ)) (kept front : List Message) (m : Message) → AllStay keys kept front → (is_inside keys m || list_any (same_way m) (kept ++ front)) ≡ true → AllStay keys kept (front ++ m ∷ [])
stay_last keys kept [] m stay last = (subst (λ (l : List Message). (is_inside keys m || list_any (same_way m) l) ≡ true) (append-nil kept) last, tt)
stay_last keys kept (x ∷ front) m stay last =
    (stay.0, stay_last keys (kept ++ x ∷ []) front m stay.1 (subst (λ (l : List Message). (is_inside keys m || list_any (same_way m) l) ≡ true) (sym (append_assoc kept (x ∷ []) front)) last))

abbrev with_lists : List (List ℕ) → List Message → List Message → Walked
with_lists keys kept todo = record { canisters = keys; kept = kept; todo = todo }

abbrev with_list : List (List ℕ) → List Message → Queued
with_list keys messages = record { canisters = keys; messages = messages }

abbrev pub view : List (ℕ × Message) → List (List ℕ × List ℕ) → (place : ℕ) → Walked
view es ws place = with_lists (keys_of ws) (values_of (gone place es)) (values_of (coming place es))

module _ (es : List (ℕ × Message)) (ws : List (List ℕ × List ℕ)) (outside stay : List ℕ) (next place : ℕ) (is : IsWalked es ws outside stay next place) (n : ℕ) (ns : List ℕ) (first : outside ≡ n ∷ ns) where
  abbrev keys : List (List ℕ)
  keys = keys_of ws

  here : Met keys place n ns es
  here = met keys place n ns es is.ordered (sym is.ahead ∙ first)

  -- whether it stays is known by the numbers of those that stay
  blocked : list_any (is_of_way es n) stay ≡ list_any (same_way here.message) (values_of (gone place es) ++ here.front)
  blocked =
      ap (list_any (is_of_way es n)) is.stayed
      ∙ ways keys es n here.message (gone place es) here.found here.out (found_all es es (found_self es is.ordered) place)
      ∙ sym (
      list_any-append (same_way here.message) (values_of (gone place es)) here.front
      ∙ ap (λ b. list_any (same_way here.message) (values_of (gone place es)) || b) (none_same keys here.message here.front here.out here.inside)
      ∙ or_false (list_any (same_way here.message) (values_of (gone place es))))
    where
      or_false : (b : Bool) → (b || false) ≡ b
      or_false true = refl
      or_false false = refl

  pub record StepEnds (m : Option Message) (es' : List (ℕ × Message)) (stay' : List ℕ) (place' : ℕ) : Type 0 where
    pub walked : IsWalked es' ws ns stay' next place'
    pub steps : Steps (view es ws place) (view es' ws place') m
    pub fewer : length (values_of (coming place' es')) < length (values_of (coming place es))

  longer : (front back : List Message) (m : Message) → length back < length (front ++ m ∷ back)
  longer [] back m = omega arith
  longer (x ∷ front) back m = omega (arith, longer front back m)

  fewer_by : (todo : List Message) → todo ≡ here.back → length todo < length (values_of (coming place es))
  fewer_by todo is_back = omega (arith, ap length is_back, ap length here.whole, longer here.front here.back here.message)

  pub stays : (stay' : List ℕ) → list_any (is_of_way es n) stay ≡ true → stay' ≡ stay ++ n ∷ [] → StepEnds None es stay' (n + 1)
  stays stay' known is_stay = record {
    walked = record {
      ordered = is.ordered;
      below = is.below;
      queues = is.queues;
      theirs = is.theirs;
      ahead = sym here.later_too;
      stayed = is_stay ∙ ap (λ l. l ++ n ∷ []) is.stayed ∙ sym here.before_too;
    };
    steps = record {
      front = here.front ++ here.message ∷ [];
      stay = stay_last keys (values_of (gone place es)) here.front here.message (stay_inside keys (values_of (gone place es)) here.front here.inside) (rw here.out (sym blocked ∙ known));
      kept = here.kept_too;
      todo = here.whole ∙ sym (append_assoc here.front (here.message ∷ []) here.back) ∙ ap (λ l. (here.front ++ here.message ∷ []) ++ l) (sym here.todo_too);
      canisters = refl;
    };
    fewer = fewer_by (values_of (coming (n + 1) es)) here.todo_too;
  }

  -- who has a queue is not the callee
  apart : (q : List ℕ) → has_queue keys q ≡ true → at q (callee_of here.message) ≡ false
  apart q known = elim (cases_Bool (at q (callee_of here.message))) [
    | inl same ↦ absurd (false≢true (sym here.out ∙ ap (has_queue keys) (sym (at-is q (callee_of here.message) same)) ∙ known))
    | inr differs ↦ differs
  ]

  pub leaves : (m : Option Message) (es' : List (ℕ × Message)) → list_any (is_of_way es n) stay ≡ false → es' ≡ remove_entry (is_number n) es → m ≡ lookup (is_number n) es → StepEnds m es' stay n
  leaves m es' known is_es is_m =
      subst (λ (o : Option Message). StepEnds o es' stay n) (sym (is_m ∙ here.found))
      (subst (λ (l : List (ℕ × Message)). StepEnds (Some here.message) l stay n) (sym is_es) (record {
        walked = record {
          ordered = sorted_removed nat_cmp (is_number n) es is.ordered;
          below = all_keys_removed nat_cmp (λ k. k < next) (is_number n) es is.below;
          queues = is.queues;
          theirs = λ q. is.theirs q ∙ by (has_queue keys q) (numbers_to (at q) es) (numbers_to (at q) (remove_entry (is_number n) es)) (λ known. line-same (at q) n here.message es here.found (apart q known));
          ahead = sym here.later;
          stayed = is.stayed ∙ sym here.before;
        };
        steps = record {
          past = record {
            front = here.front;
            stay = stay_inside keys (values_of (gone place es)) here.front here.inside;
            kept = here.kept;
            todo = here.whole ∙ ap (λ l. here.front ++ here.message ∷ l) (sym here.todo);
            canisters = refl;
          };
          goes = rw here.out (ap (list_any (same_way here.message)) here.kept ∙ sym blocked ∙ known);
        };
        fewer = fewer_by (values_of (coming n (remove_entry (is_number n) es))) here.todo;
      }))
    where
      by : (b : Bool) (x y : List ℕ) → (b ≡ true → y ≡ x) → cond b (Some x) None ≡ cond b (Some y) None
      by true x y same = ap (λ l. Some l) (sym (same refl))
      by false x y same = refl

-- ---- the first, and the last

module _ (es : List (ℕ × Message)) (ws : List (List ℕ × List ℕ)) where
  zeros : (ns : List ℕ) → AllByRecursion (λ n. 0 ≤ n) ns
  zeros [] = tt
  zeros (n ∷ ns) = (omega arith, zeros ns)

  at_start : (gone 0 es ≡ []) × (coming 0 es ≡ es)
  at_start = none_gone 0 es (zeros (keys_of es))

  pub starts : (outside stay : List ℕ) (next : ℕ) → IsQueued es ws outside next → stay ≡ [] → IsWalked es ws outside stay next 0
  starts outside stay next is none = record {
    ordered = is.ordered;
    below = is.below;
    queues = is.queues;
    theirs = is.theirs;
    ahead = is.others ∙ ap (numbers_to (is_out (keys_of ws))) (sym at_start.1);
    stayed = none ∙ ap (numbers_to (is_out (keys_of ws))) (sym at_start.0);
  }

  pub starts_view : view es ws 0 ≡ with_lists (keys_of ws) [] (values_of es)
  starts_view = ap₂ (λ x y. with_lists (keys_of ws) (values_of x) (values_of y)) at_start.0 at_start.1

  module _ (outside stay : List ℕ) (next place : ℕ) (is : IsWalked es ws outside stay next place) where
    pub over : (length outside == 0) ≡ list_all (is_inside (keys_of ws)) (values_of (coming place es))
    over = ap (λ l. length l == 0) is.ahead ∙ over-is (keys_of ws) (coming place es)

    all_stay : (cs : List (ℕ × Message)) → IsStrictlySortedBy nat_cmp (keys_of cs) → list_all (is_inside (keys_of ws)) (values_of (coming place cs)) ≡ true
        → numbers_to (is_out (keys_of ws)) (gone place cs) ≡ numbers_to (is_out (keys_of ws)) cs
    all_stay [] sorted all = refl
    all_stay (c ∷ cs) sorted all = elim (cases_lt c.0 place) [
      | inl less ↦
          let is_gone = gone-is place c.0 less in
          let rest = all_stay cs (sorted_tail nat_cmp c.0 (keys_of cs) sorted) (rw (ap is_le is_gone) at all) in
          rw (ap is_gt is_gone) (ap (λ l. cond (is_out (keys_of ws) (callee_of c.1)) (c.0 ∷ l) l) rest)
      | inr upto ↦
          let sides = not_gone place c.0 upto in
          let parts : (is_inside (keys_of ws) c.1 && list_all (is_inside (keys_of ws)) (values_of (coming place cs))) ≡ true = rw sides.1 at all in
          let both = and_both (is_inside (keys_of ws) c.1) (list_all (is_inside (keys_of ws)) (values_of (coming place cs))) parts in
          rw (sides.0, both.0) (all_stay cs (sorted_tail nat_cmp c.0 (keys_of cs) sorted) both.1)
    ] where
      and_both : (a b : Bool) → (a && b) ≡ true → (a ≡ true) × (b ≡ true)
      and_both true b yes_b = (refl, yes_b)
      and_both false b yes_b = absurd (false≢true yes_b)

    pub ends : list_all (is_inside (keys_of ws)) (values_of (coming place es)) ≡ true → IsQueued es ws stay next
    ends all = record {
      ordered = is.ordered;
      below = is.below;
      queues = is.queues;
      theirs = is.theirs;
      others = is.stayed ∙ all_stay es is.ordered all;
    }

    pub finishes : (w : Walked) → view es ws place ≡ w → with_list (keys_of ws) (values_of es) ≡ with_list w.canisters (w.kept ++ w.todo)
    finishes w is_w =
        ap (λ l. with_list (keys_of ws) l) (sym (halves place es is.ordered)) ∙ ap (λ (v : Walked). with_list v.canisters (v.kept ++ v.todo)) is_w

-- ---- one of these numbers

pub any_found : (p : ℕ → Bool) (k : ℕ) (ks : List ℕ) (x : ℕ) → k < length ks → x ≡ slice_index_or ks k x → p x ≡ true → true ≡ list_any p ks
any_found p k [] x less is has = absurd (omega (arith, less))
any_found p zero (y ∷ ks) x less is has = let first : p y ≡ true = ap p (sym is) ∙ has in rw first refl
any_found p (suc k) (y ∷ ks) x less is has = elim (cases_Bool (p y)) [ inl here ↦ rw here refl | inr there ↦ rw there (any_found p k ks x (omega (arith, less)) is has) ]

pub any_none : (p : ℕ → Bool) (k : ℕ) (ks : List ℕ) (x : ℕ) → k < length ks → x ≡ slice_index_or ks k x → p x ≡ false → list_any p (take k ks) ≡ false → list_any p (take (suc k) ks) ≡ false
any_none p k [] x less is has none = absurd (omega (arith, less))
any_none p zero (y ∷ ks) x less is has none = let first : p y ≡ false = ap p (sym is) ∙ has in rw first refl
any_none p (suc k) (y ∷ ks) x less is has none = elim (cases_Bool (p y)) [
  | inl here ↦ let some : true ≡ false = rw here at none in absurd (false≢true (sym some))
  | inr there ↦ rw there (any_none p k ks x (omega (arith, less)) is has (rw there at none))
]

pub any_all : (p : ℕ → Bool) (k : ℕ) (ks : List ℕ) → length ks ≤ k → list_any p (take k ks) ≡ false → false ≡ list_any p ks
any_all p k [] past none = refl
any_all p zero (y ∷ ks) past none = absurd (omega (arith, past))
any_all p (suc k) (y ∷ ks) past none = elim (cases_Bool (p y)) [
  | inl here ↦ let some : true ≡ false = rw here at none in absurd (false≢true (sym some))
  | inr there ↦ rw there (any_all p k ks (omega (arith, past)) (rw there at none))
]

-- ---- queues of other canisters

fronted : (b : Bool) (k : ℕ) (xs ys zs : List ℕ) → xs ++ ys ≡ zs → cond b (k ∷ xs) xs ++ ys ≡ cond b (k ∷ zs) zs
fronted true k xs ys zs same = ap (λ l. k ∷ l) same
fronted false k xs ys zs same = same

whole : (test : List ℕ → Bool) (place : ℕ) (es : List (ℕ × Message)) → IsStrictlySortedBy nat_cmp (keys_of es) → numbers_to test (gone place es) ++ numbers_to test (coming place es) ≡ numbers_to test es
whole test place [] sorted = refl
whole test place (e ∷ es) sorted = elim (cases_lt e.0 place) [
  | inl less ↦
      let is = gone-is place e.0 less in
      rw (ap is_gt is, ap is_le is) (fronted (test (callee_of e.1)) e.0 _ _ _ (whole test place es (sorted_tail nat_cmp e.0 (keys_of es) sorted)))
  | inr upto ↦
      let all = none_gone place (e ∷ es) (upto, tail_coming place e es sorted (omega (arith, upto))) in
      ap₂ (λ x y. numbers_to test x ++ numbers_to test y) all.0 all.1
]

-- those that were gone past, and those to come, in one list
pub joined-queues : (es : List (ℕ × Message)) (ws : List (List ℕ × List ℕ)) (outside stay : List ℕ) (next place : ℕ) → IsWalked es ws outside stay next place → IsQueued es ws (stay ++ outside) next
joined-queues es ws outside stay next place is = record {
  ordered = is.ordered;
  below = is.below;
  queues = is.queues;
  theirs = is.theirs;
  others = ap₂ (λ x y. x ++ y) is.stayed is.ahead ∙ whole (is_out (keys_of ws)) place es is.ordered;
}

numbers_of : (t : ℕ → Bool) (test : List ℕ → Bool) (es : List (ℕ × Message)) → filter t (numbers_to test es) ≡ numbers_to test (filter (λ e. t e.0) es)
numbers_of t test [] = refl
numbers_of t test (e ∷ es) = elim (cases_Bool (test (callee_of e.1))) [
  | inl to ↦ elim (cases_Bool (t e.0)) [ inl here ↦ rw to (rw here (rw to (ap (λ l. e.0 ∷ l) (numbers_of t test es)))) | inr there ↦ rw to (rw there (numbers_of t test es)) ]
  | inr past ↦ elim (cases_Bool (t e.0)) [ inl here ↦ rw past (rw here (rw past (numbers_of t test es))) | inr there ↦ rw past (rw there (numbers_of t test es)) ]
]

-- queues, once the numbers to no canister are parted
pub parted-walk : (es : List (ℕ × Message)) (ws : List (List ℕ × List ℕ)) (all outside stay : List ℕ) (next place : ℕ) → IsQueued es ws all next
    → outside ≡ filter (λ n. is_le (nat_cmp place n)) all → stay ≡ filter (λ n. is_gt (nat_cmp place n)) all → IsWalked es ws outside stay next place
parted-walk es ws all outside stay next place is is_ahead is_stay = record {
  ordered = is.ordered;
  below = is.below;
  queues = is.queues;
  theirs = is.theirs;
  ahead = is_ahead ∙ ap (filter (λ n. is_le (nat_cmp place n))) is.others ∙ numbers_of (λ n. is_le (nat_cmp place n)) (is_out (keys_of ws)) es;
  stayed = is_stay ∙ ap (filter (λ n. is_gt (nat_cmp place n))) is.others ∙ numbers_of (λ n. is_gt (nat_cmp place n)) (is_out (keys_of ws)) es;
}

-- ---- as the code has it

pub popped-first : (line : List ℕ) (n : ℕ) → slice_get line 0 ≡ Some n → line ≡ n ∷ drop 1 line
popped-first [] n is = cc
popped-first (k ∷ line) n is = ap (λ x. x ∷ line) (let same : k ≡ n = cc in same)

pub nothing_popped : (line : List ℕ) → slice_get line 0 ≡ None → (length line == 0) ≡ true
nothing_popped [] is = refl
nothing_popped (k ∷ line) is = cc

-- a number that is met is below the next
pub number_below : (keys : List (List ℕ)) (es : List (ℕ × Message)) (n next : ℕ) (ns : List ℕ) (place : ℕ) → AllByRecursion (λ k. k < next) (keys_of es) → numbers_to (is_out keys) (coming place es) ≡ n ∷ ns → n < next
number_below keys es n next ns place below is =
    (subst (λ (l : List ℕ). AllByRecursion (λ k. k < next) l) is (all_numbers (λ k. k < next) (is_out keys) (coming place es) (those es below))).0
  where
    those : (gs : List (ℕ × Message)) → AllByRecursion (λ k. k < next) (keys_of gs) → AllByRecursion (λ k. k < next) (keys_of (coming place gs))
    those [] all = tt
    those (g ∷ gs) all = elim (cases_Bool (is_le (nat_cmp place g.0))) [ inl here ↦ rw here (all.0, those gs all.1) | inr there ↦ rw there (those gs all.1) ]
