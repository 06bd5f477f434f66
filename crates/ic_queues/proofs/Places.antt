-- Places of the list, by number: which message is there, and what is left without it.
use Rattle.std.proofs.Common.{◌≡◌, ◌<◌, ◌≤◌, ◌+◌, ◌-◌, ℕ, zero, suc, Bool, true, false, List, [], ◌∷◌, length, take, Option, Some, None, Ok, Err, get_or, refl, sym, ap, ap₂, ◌∙◌, subst, inl, inr, arith, option_map}
use Rattle.std.specs.Prelude.{slice_get, slice_index_or, not, drop}
use Rattle.std.specs.List.{list_any, remove, AllByRecursion}
use Rattle.std.specs.List.Sorted.{IsBinarySearchResult, IsStrictlySortedBy}
use Rattle.std.specs.Ordering.{nat_cmp, is_eq}
use Rattle.std.specs.declared.cmp.Ordering.{Ordering}
use Rattle.std.specs.declared.cmp.Ordering.TheVariants.{Less, Equal, Greater}
use Rattle.std.specs.Map.{lookup, remove_entry, keys_of, values_of}
use Rattle.std.specs.Set.{remove_key}
use Rattle.std.proofs.lemmas.Bool.{cases_Bool, cases_lt, false≢true}
use Rattle.std.specs.Cmp.{nat_cmp_is}
use Rattle.std.proofs.lemmas.Cmp.{ranked}
use Rattle.std.proofs.lemmas.List.Sorted.{searched}
use Rattle.std.proofs.lemmas.Map.Keys.{sorted_head, sorted_tail}
use Rattle.ic_behaviour.specs.declared.call.Message.{Message}
use Rattle.ic_behaviour.specs.State.{callee_of}
use Rattle.ic_behaviour.specs.Steps.{same_way}
use Rattle.ic_queues.specs.Queued.{first_of_way}
use Rattle.ic_queues.specs.Lines.{is_number, numbers_to, without_number}
use Rattle.ic_queues.specs.Shelved.{entries_from, starts_full, index_at, has_way, message_at, messages_of}
use Rattle.ic_queues.proofs.Numbers.{number-self, number-back, all_numbers}
use Rattle.ic_queues.proofs.Shelves.{values-are}

-- ---- the index of a place

composed : {A B C : Type 0} (f : B → C) (g : A → B) (o : Option A) → option_map f (option_map g o) ≡ option_map (λ x. f (g x)) o
composed f g None = refl
composed f g (Some x) = refl

same_map : {A B : Type 0} (f g : A → B) (o : Option A) → ((x : A) → f x ≡ g x) → option_map f o ≡ option_map g o
same_map f g None same = refl
same_map f g (Some x) same = ap Some (same x)

-- one index on
one_on : (n : ℕ) (o : Option ℕ) → option_map (λ i. n + i) (option_map suc o) ≡ option_map (λ i. suc n + i) o
one_on n o = composed (λ i. n + i) suc o ∙ same_map (λ i. n + suc i) (λ i. suc n + i) o (λ i. omega arith)

pub number-at : (place n : ℕ) (ps : List (Option Message)) → slice_get (keys_of (entries_from n ps)) place ≡ option_map (λ i. n + i) (index_at place ps)
number-at place n [] = refl
number-at place n (None ∷ ps) = number-at place (suc n) ps ∙ sym (one_on n (index_at place ps))
number-at zero n (Some m ∷ ps) = ap Some (let same : n ≡ n + 0 = omega arith in same)
number-at (suc place) n (Some m ∷ ps) = number-at place (suc n) ps ∙ sym (one_on n (index_at place ps))

-- what is at an index, and before it
pub record IsAt (place i : ℕ) (ps : List (Option Message)) : Type 0 where
  pub inside : i < length ps
  pub message : message_at i ps ≡ slice_get (messages_of ps) place
  pub before : messages_of (take i ps) ≡ take place (messages_of ps)

-- one place on
later : (place next i : ℕ) (p : Option Message) (ps : List (Option Message)) → ((j : ℕ) → index_at next ps ≡ Some j → IsAt place (suc j) (p ∷ ps)) → option_map suc (index_at next ps) ≡ Some i → IsAt place i (p ∷ ps)
later place next i p ps each is = by (index_at next ps) refl is where
  by : (o : Option ℕ) → index_at next ps ≡ o → option_map suc o ≡ Some i → IsAt place i (p ∷ ps)
  by None none is = cc
  by (Some k) found is = subst (λ (j : ℕ). IsAt place j (p ∷ ps)) (let same : suc k ≡ i = cc in same) (each k found)

pub at-index : (place i : ℕ) (ps : List (Option Message)) → index_at place ps ≡ Some i → IsAt place i ps
at-index place i [] is = cc
at-index place i (None ∷ ps) is =
    later place place i None ps (λ j found. let rest = at-index place j ps found in record { inside = omega (arith, rest.inside); message = rest.message; before = rest.before }) is
at-index zero i (Some m ∷ ps) is =
    let same : 0 ≡ i = cc in
    subst (λ (j : ℕ). IsAt zero j (Some m ∷ ps)) same (record { inside = omega arith; message = refl; before = refl })
at-index (suc place) i (Some m ∷ ps) is =
    later (suc place) place i (Some m) ps
    (λ j found. let rest = at-index place j ps found in record { inside = omega (arith, rest.inside); message = rest.message; before = ap (λ l. m ∷ l) rest.before }) is

no_more : (o : Option ℕ) → option_map suc o ≡ None → o ≡ None
no_more None is = refl
no_more (Some k) is = cc

pub no-index : (place : ℕ) (ps : List (Option Message)) → index_at place ps ≡ None → slice_get (messages_of ps) place ≡ None
no-index place [] is = refl
no-index place (None ∷ ps) is = no-index place ps (no_more (index_at place ps) is)
no-index zero (Some m ∷ ps) is = cc
no-index (suc place) (Some m ∷ ps) is = no-index place ps (no_more (index_at place ps) is)

-- none of the places at the front is empty
pub filled-index : (n place : ℕ) (ps : List (Option Message)) → starts_full n ps ≡ true → place < n → Some place ≡ index_at place ps
filled-index zero place ps full less = absurd (omega (arith, less))
filled-index (suc n) place [] full less = absurd (false≢true full)
filled-index (suc n) place (None ∷ ps) full less = absurd (false≢true full)
filled-index (suc n) zero (Some m ∷ ps) full less = refl
filled-index (suc n) (suc place) (Some m ∷ ps) full less = ap (option_map suc) (filled-index n place ps full (omega (arith, less)))

past-filled : (n left : ℕ) (ps : List (Option Message)) → starts_full n ps ≡ true → index_at (n + left) ps ≡ option_map (λ i. n + i) (index_at left (drop n ps))
past-filled zero left ps full = ap (λ (k : ℕ). index_at k ps) (let same : 0 + left ≡ left = omega arith in same) ∙ by (index_at left ps) where
  by : (o : Option ℕ) → o ≡ option_map (λ i. 0 + i) o
  by None = refl
  by (Some i) = ap Some (omega arith)
past-filled (suc n) left [] full = absurd (false≢true full)
past-filled (suc n) left (None ∷ ps) full = absurd (false≢true full)
past-filled (suc n) left (Some m ∷ ps) full =
    ap (λ (k : ℕ). index_at k (Some m ∷ ps)) (let next : suc n + left ≡ suc (n + left) = omega arith in next) ∙ ap (option_map suc) (past-filled n left ps full) ∙ composed suc (λ i. n + i) (index_at left (drop n ps))
    ∙ same_map (λ i. suc (n + i)) (λ i. suc n + i) (index_at left (drop n ps)) (λ i. omega arith)

pub after-filled : (n place : ℕ) (ps : List (Option Message)) → starts_full n ps ≡ true → n ≤ place → index_at place ps ≡ option_map (λ i. n + i) (index_at (place - n) (drop n ps))
after-filled n place ps full upto =
    subst (λ (k : ℕ). index_at k ps ≡ option_map (λ i. n + i) (index_at (place - n) (drop n ps))) (let whole : n + (place - n) ≡ place = omega (arith, upto) in whole) (past-filled n (place - n) ps full)

-- ---- one turn of the search for it

pub none-met : (place : ℕ) (n : ℕ) (p : Option Message) (rest : List (Option Message)) → p ≡ None → option_map (λ i. n + i) (index_at place (p ∷ rest)) ≡ option_map (λ i. suc n + i) (index_at place rest)
none-met place n None rest is = one_on n (index_at place rest)
none-met place n (Some m) rest is = cc

-- ---- a message leaves by its number

number-is : (n k : ℕ) → is_number n k ≡ true → n ≡ k
number-is n k is = by (nat_cmp n k) refl is where
  by : (o : Ordering) → o ≡ nat_cmp n k → is_eq o ≡ true → n ≡ k
  by Less e is_it = absurd (false≢true is_it)
  by Equal e is_it = ranked n k Equal e
  by Greater e is_it = absurd (false≢true is_it)

pub line-without : (is : List ℕ → Bool) (n : ℕ) (es : List (ℕ × Message)) → IsStrictlySortedBy nat_cmp (keys_of es) → numbers_to is (remove_entry (is_number n) es) ≡ without_number n (numbers_to is es)
line-without is n [] sorted = refl
line-without is n (e ∷ es) sorted =
    elim (cases_Bool (is_number n e.0)) [
      | inl here ↦ elim (cases_Bool (is (callee_of e.1))) [
        | inl to ↦ rw (here, to) (rw here refl)
        | inr past ↦ rw (here, past) (sym (none_above (numbers_to is es) (all_numbers (λ k. nat_cmp e.0 k ≡ Less) is es (sorted_head nat_cmp e.0 (keys_of es) sorted)) here))
      ]
      | inr there ↦
          let rest = line-without is n es (sorted_tail nat_cmp e.0 (keys_of es) sorted) in
          elim (cases_Bool (is (callee_of e.1))) [
            | inl to ↦ rw (there, to) (rw there (ap (λ l. e.0 ∷ l) rest))
            | inr past ↦ rw (there, past) rest
          ]
    ]
  where
    none_above : (ks : List ℕ) → AllByRecursion (λ k. nat_cmp e.0 k ≡ Less) ks → is_number n e.0 ≡ true → remove_key (is_number n) ks ≡ ks
    none_above [] all here = refl
    none_above (k ∷ ks) all here =
        let same : n ≡ e.0 = number-is n e.0 here in
        let differs : is_number n k ≡ false = subst (λ (j : ℕ). is_number j k ≡ false) (sym same) (ap is_eq all.0) in
        rw differs (ap (λ l. k ∷ l) (none_above ks all.1 here))

pub line-same : (is : List ℕ → Bool) (n : ℕ) (m : Message) (es : List (ℕ × Message)) → lookup (is_number n) es ≡ Some m → is (callee_of m) ≡ false
    → numbers_to is (remove_entry (is_number n) es) ≡ numbers_to is es
line-same is n m [] found fails = cc
line-same is n m (e ∷ es) found fails =
    elim (cases_Bool (is_number n e.0)) [
      | inl here ↦
          let same : Some e.1 ≡ Some m = rw here at found in
          let not_to : is (callee_of e.1) ≡ false = subst (λ (x : Message). is (callee_of x) ≡ false) (let back : m ≡ e.1 = cc in back) fails in
          rw (here, not_to) refl
      | inr there ↦
          let rest = line-same is n m es (rw there at found) fails in
          elim (cases_Bool (is (callee_of e.1))) [ inl to ↦ rw (there, to) (ap (λ l. e.0 ∷ l) rest) | inr past ↦ rw (there, past) rest ]
    ]

pub not-found : (n : ℕ) (es : List (ℕ × Message)) → lookup (is_number n) es ≡ None → remove_entry (is_number n) es ≡ es
not-found n [] none = refl
not-found n (e ∷ es) none = elim (cases_Bool (is_number n e.0)) [
  | inl here ↦ let some : Some e.1 ≡ None = rw here at none in absurd (cc)
  | inr there ↦ rw there (ap (λ l. e ∷ l) (not-found n es (rw there at none)))
]

-- the place of a number
pub record IsPlaced (place n : ℕ) (es : List (ℕ × Message)) : Type 0 where
  pub message : Message
  pub found : lookup (is_number n) es ≡ Some message
  pub there : slice_get (values_of es) place ≡ Some message
  pub left : values_of (remove_entry (is_number n) es) ≡ remove (values_of es) place

pub placed : (place n : ℕ) (es : List (ℕ × Message)) → IsStrictlySortedBy nat_cmp (keys_of es) → slice_get (keys_of es) place ≡ Some n → IsPlaced place n es
placed place n [] sorted is = cc
placed zero n (e ∷ es) sorted is =
    let same : e.0 ≡ n = cc in
    let here : is_number n e.0 ≡ true = subst (λ (k : ℕ). is_number k e.0 ≡ true) same (number-self e.0) in
    record { message = e.1; found = rw here refl; there = refl; left = rw here refl }
placed (suc place) n (e ∷ es) sorted is =
    let rest = placed place n es (sorted_tail nat_cmp e.0 (keys_of es) sorted) is in
    let less : nat_cmp e.0 n ≡ Less = above (keys_of es) place is (sorted_head nat_cmp e.0 (keys_of es) sorted) in
    let differs : is_number n e.0 ≡ false = number-back e.0 n (ap is_eq less) in
    record { message = rest.message; found = rw differs rest.found; there = rest.there; left = rw differs (ap (λ l. e.1 ∷ l) rest.left) }
  where
    above : (ks : List ℕ) (k : ℕ) → slice_get ks k ≡ Some n → AllByRecursion (λ y. nat_cmp e.0 y ≡ Less) ks → nat_cmp e.0 n ≡ Less
    above [] k is all = cc
    above (y ∷ ks) zero is all = subst (λ (x : ℕ). nat_cmp e.0 x ≡ Less) (let same : y ≡ n = cc in same) all.0
    above (y ∷ ks) (suc k) is all = above ks k is all.1

pub not-there : {X : Type 0} (place : ℕ) (xs : List X) → slice_get xs place ≡ None → remove xs place ≡ xs
not-there zero [] is = refl
not-there (suc place) [] is = refl
not-there zero (x ∷ xs) is = cc
not-there (suc place) (x ∷ xs) is = ap (λ l. x ∷ l) (not-there place xs is)

pub not-placed : (place : ℕ) (es : List (ℕ × Message)) → slice_get (keys_of es) place ≡ None → (slice_get (values_of es) place ≡ None) × (remove (values_of es) place ≡ values_of es)
not-placed place es none = let no_value = no_values place es none in (no_value, not-there place (values_of es) no_value) where
  no_values : (k : ℕ) (fs : List (ℕ × Message)) → slice_get (keys_of fs) k ≡ None → slice_get (values_of fs) k ≡ None
  no_values k [] is = refl
  no_values zero (f ∷ fs) is = cc
  no_values (suc k) (f ∷ fs) is = no_values k fs is

-- a number leaves a queue, whose numbers rise
above_head : (n : ℕ) (ns : List ℕ) (i : ℕ) → AllByRecursion (λ k. nat_cmp n k ≡ Less) ns → i < length ns → n < get_or ns i 0
above_head n [] i all inside = absurd (omega (arith, inside))
above_head n (k ∷ ns) zero all inside = ranked n k Less (sym all.0)
above_head n (k ∷ ns) (suc i) all inside = above_head n ns i all.1 (omega (arith, inside))

rises : (ns : List ℕ) (i j : ℕ) → IsStrictlySortedBy nat_cmp ns → i ≤ j → j < length ns → get_or ns i 0 ≤ get_or ns j 0
rises [] i j sorted upto inside = absurd (omega (arith, inside))
rises (n ∷ ns) zero zero sorted upto inside = omega arith
rises (n ∷ ns) (suc i) zero sorted upto inside = absurd (omega (arith, upto))
rises (n ∷ ns) zero (suc j) sorted upto inside = omega (arith, above_head n ns j (sorted_head nat_cmp n ns sorted) (omega (arith, inside)))
rises (n ∷ ns) (suc i) (suc j) sorted upto inside = rises ns i j (sorted_tail nat_cmp n ns sorted) (omega (arith, upto)) (omega (arith, inside))

left_at : (n i : ℕ) (ns : List ℕ) → IsStrictlySortedBy nat_cmp ns → i < length ns → get_or ns i 0 ≡ n → remove ns i ≡ without_number n ns
left_at n i [] sorted inside is = absurd (omega (arith, inside))
left_at n zero (k ∷ ns) sorted inside is = let here : is_number n k ≡ true = subst (λ (m : ℕ). is_number m k ≡ true) is (number-self k) in rw here refl
left_at n (suc i) (k ∷ ns) sorted inside is =
    let less = above_head k ns i (sorted_head nat_cmp k ns sorted) (omega (arith, inside)) in
    let there : is_number n k ≡ false = ap is_eq (sym (nat_cmp_is n k Greater (omega (arith, less, is)))) in
    rw there (ap (λ l. k ∷ l) (left_at n i ns (sorted_tail nat_cmp k ns sorted) (omega (arith, inside)) is))

none_left : (n : ℕ) (ns : List ℕ) → ((k : ℕ) → k < length ns → get_or ns k 0 ≡ n → ⊥) → ns ≡ without_number n ns
none_left n [] none = refl
none_left n (k ∷ ns) none = elim (cases_Bool (is_number n k)) [
  | inl here ↦ absurd (none 0 (omega arith) (sym (number-is n k here)))
  | inr there ↦ rw there (ap (λ l. k ∷ l) (none_left n ns (λ i inside. none (suc i) (omega (arith, inside)))))
]

-- as a search for it ends
pub removed-number : (n i : ℕ) (ns : List ℕ) → IsStrictlySortedBy nat_cmp ns → IsBinarySearchResult (λ y. nat_cmp y n) ns (Ok i) → remove ns i ≡ without_number n ns
removed-number n i ns sorted is = let found = searched ns n (Ok i) is (λ k l. rises ns k l sorted) in left_at n i ns sorted found.0 found.1

pub no-number : (n i : ℕ) (ns : List ℕ) → IsStrictlySortedBy nat_cmp ns → IsBinarySearchResult (λ y. nat_cmp y n) ns (Err i) → ns ≡ without_number n ns
no-number n i ns sorted is =
    let gap = searched ns n (Err i) is (λ k l. rises ns k l sorted) in
    none_left n ns (λ k inside same. elim (cases_lt k i) [ inl less ↦ omega (arith, gap.1 k less, same) | inr upto ↦ omega (arith, gap.2 k upto inside, same) ])

-- ---- a message of the same way

-- one before it has the way
pub earlier-found : (k i : ℕ) (ps : List (Option Message)) (p : Option Message) (m : Message) → k < i → i ≤ length ps → p ≡ slice_index_or ps k p → has_way p m ≡ true
    → true ≡ list_any (same_way m) (messages_of (take i ps))
earlier-found k zero ps p m less upto is has = absurd (omega (arith, less))
earlier-found k (suc i) [] p m less upto is has = absurd (omega (arith, upto))
earlier-found zero (suc i) (None ∷ ps) p m less upto is has = absurd (false≢true (ap (λ o. has_way o m) (sym is) ∙ has))
earlier-found zero (suc i) (Some x ∷ ps) p m less upto is has = let same : same_way m x ≡ true = ap (λ o. has_way o m) (sym is) ∙ has in rw same refl
earlier-found (suc k) (suc i) (None ∷ ps) p m less upto is has = earlier-found k i ps p m (omega (arith, less)) (omega (arith, upto)) is has
earlier-found (suc k) (suc i) (Some x ∷ ps) p m less upto is has =
    elim (cases_Bool (same_way m x)) [ inl same ↦ rw same refl | inr differs ↦ rw differs (earlier-found k i ps p m (omega (arith, less)) (omega (arith, upto)) is has) ]

-- one place more has it not
pub earlier-none : (k : ℕ) (ps : List (Option Message)) (p : Option Message) (m : Message) → k < length ps → p ≡ slice_index_or ps k p → has_way p m ≡ false
    → list_any (same_way m) (messages_of (take k ps)) ≡ false → list_any (same_way m) (messages_of (take (suc k) ps)) ≡ false
earlier-none k [] p m less is differs none = absurd (omega (arith, less))
earlier-none zero (None ∷ ps) p m less is differs none = refl
earlier-none zero (Some x ∷ ps) p m less is differs none = let fails : same_way m x ≡ false = ap (λ o. has_way o m) (sym is) ∙ differs in rw fails refl
earlier-none (suc k) (None ∷ ps) p m less is differs none = earlier-none k ps p m (omega (arith, less)) is differs none
earlier-none (suc k) (Some x ∷ ps) p m less is differs none =
    elim (cases_Bool (same_way m x)) [
      | inl same ↦ let some : true ≡ false = rw same at none in absurd (false≢true (sym some))
      | inr fails ↦ rw fails (earlier-none k ps p m (omega (arith, less)) is differs (rw fails at none))
    ]

-- ---- as the code has it

-- the number that is at the place, as the list of places has it
pub numbered-place : (place first : ℕ) (ps : List (Option Message)) (o : Option ℕ) → o ≡ index_at place ps → slice_get (keys_of (entries_from first ps)) place ≡ option_map (λ i. first + i) o
numbered-place place first ps o is = number-at place first ps ∙ ap (option_map (λ i. first + i)) (sym is)

pub eligible-some : (place i first : ℕ) (ps : List (Option Message)) → Some i ≡ index_at place ps
    → first_of_way (messages_of (take i ps)) (message_at i ps) ≡ first_of_way (take place (values_of (entries_from first ps))) (slice_get (values_of (entries_from first ps)) place)
eligible-some place i first ps is =
    let at = at-index place i ps (sym is) in
    ap₂ first_of_way at.before at.message ∙ ap (λ l. first_of_way (take place l) (slice_get l place)) (values-are first ps)

pub eligible-none : (place first : ℕ) (ps : List (Option Message)) → None ≡ index_at place ps
    → false ≡ first_of_way (take place (values_of (entries_from first ps))) (slice_get (values_of (entries_from first ps)) place)
eligible-none place first ps is =
    let none : slice_get (values_of (entries_from first ps)) place ≡ None = ap (λ l. slice_get l place) (sym (values-are first ps)) ∙ no-index place ps (sym is) in
    sym (ap (first_of_way (take place (values_of (entries_from first ps)))) none)
