-- Messages by number, and the numbers of those to some callee.
use Rattle.std.proofs.Common.{◌≡◌, ◌<◌, ◌+◌, ℕ, Bool, true, false, cond, List, [], ◌∷◌, ◌++◌, None, refl, sym, ap, ◌∙◌, subst, inl, inr, arith}
use Rattle.std.specs.List.{find, AllByRecursion}
use Rattle.std.specs.List.Sorted.{IsStrictlySortedBy}
use Rattle.std.specs.Cmp.{IsEquivalence}
use Rattle.std.specs.Ordering.{nat_cmp, is_eq, eq_by_cmp}
use Rattle.std.specs.declared.cmp.Ordering.TheVariants.{Less, Greater}
use Rattle.std.specs.Cmp.{nat_cmp_is}
use Rattle.std.specs.Map.{lookup, remove_entry, keys_of, values_of}
use Rattle.std.specs.Set.{remove_key}
use Rattle.std.proofs.lemmas.Bool.{cases_Bool}
use Rattle.std.proofs.lemmas.Cmp.{eq_by_cmp_equiv, nat_cmp_total, ranked}
use Rattle.std.proofs.lemmas.Map.Keys.{sorted_head, sorted_tail}
use Rattle.ic_behaviour.specs.declared.call.Message.{Message}
use Rattle.ic_behaviour.specs.State.{callee_of}
use Rattle.ic_queues.specs.Lines.{is_number, numbers_to}

number_laws : IsEquivalence (eq_by_cmp nat_cmp)
number_laws = eq_by_cmp_equiv nat_cmp_total

pub number-self : (n : ℕ) → is_number n n ≡ true
number-self n = number_laws.refl n

pub number-back : (k n : ℕ) → is_number k n ≡ false → is_number n k ≡ false
number-back k n differs = number_laws.symm n k ∙ differs

pub number-above : (j k : ℕ) → nat_cmp j k ≡ Less → nat_cmp k j ≡ Greater
number-above j k less = sym (nat_cmp_is k j Greater (ranked j k Less (sym less)))

pub number-less : (j k : ℕ) → nat_cmp j k ≡ Less → is_number k j ≡ false
number-less j k less = ap is_eq (number-above j k less)

-- what holds of each number holds of these
pub all_numbers : (P : ℕ → Type 0) (is : List ℕ → Bool) (es : List (ℕ × Message)) → AllByRecursion P (keys_of es) → AllByRecursion P (numbers_to is es)
all_numbers P is [] all = tt
all_numbers P is (e ∷ es) all =
    elim (cases_Bool (is (callee_of e.1))) [
      | inl here ↦ rw here (all.0, all_numbers P is es all.1)
      | inr there ↦ rw there (all_numbers P is es all.1)
    ]

pub numbers-rise : (is : List ℕ → Bool) (es : List (ℕ × Message)) → IsStrictlySortedBy nat_cmp (keys_of es) → IsStrictlySortedBy nat_cmp (numbers_to is es)
unfolding IsStrictlySortedBy
numbers-rise is [] sorted = tt
numbers-rise is (e ∷ es) sorted =
    elim (cases_Bool (is (callee_of e.1))) [
      | inl here ↦ rw here (all_numbers (λ y. nat_cmp e.0 y ≡ Less) is es sorted.0, numbers-rise is es sorted.1)
      | inr there ↦ rw there (numbers-rise is es sorted.1)
    ]

-- the first number that waits, n, is of the first message whose callee passes: what is left without it
pub record Pops (is : List ℕ → Bool) (n : ℕ) (ns : List ℕ) (es : List (ℕ × Message)) : Type 0 where
  pub found : lookup (is_number n) es ≡ find (λ m. is (callee_of m)) (values_of es)
  pub list : values_of (remove_entry (is_number n) es) ≡ remove_key (λ m. is (callee_of m)) (values_of es)
  pub own : numbers_to is (remove_entry (is_number n) es) ≡ ns
  pub others : (other : List ℕ → Bool) → ((k : List ℕ) → is k ≡ true → other k ≡ false) → numbers_to other (remove_entry (is_number n) es) ≡ numbers_to other es

pub pops : (is : List ℕ → Bool) (n : ℕ) (ns : List ℕ) (es : List (ℕ × Message)) → IsStrictlySortedBy nat_cmp (keys_of es) → numbers_to is es ≡ n ∷ ns → Pops is n ns es
pops is n ns [] sorted some = absurd (cc)
pops is n ns (e ∷ es) sorted some =
    elim (cases_Bool (is (callee_of e.1))) [
      | inl here ↦
          let now : e.0 ∷ numbers_to is es ≡ n ∷ ns = rw here at some in
          let number : n ≡ e.0 = cc in
          let same : is_number n e.0 ≡ true = subst (λ (k : ℕ). is_number k e.0 ≡ true) (sym number) (number-self e.0) in
          let rest : numbers_to is es ≡ ns = cc in
          record {
            found = rw (same, here) refl;
            list = rw (same, here) refl;
            own = rw same rest;
            others = λ other apart. let fails : other (callee_of e.1) ≡ false = apart (callee_of e.1) here in rw (same, fails) refl;
          }
      | inr there ↦
          let later : numbers_to is es ≡ n ∷ ns = rw there at some in
          let above : AllByRecursion (λ y. nat_cmp e.0 y ≡ Less) (n ∷ ns) =
          subst (λ (l : List ℕ). AllByRecursion (λ y. nat_cmp e.0 y ≡ Less) l) later (all_numbers (λ y. nat_cmp e.0 y ≡ Less) is es (sorted_head nat_cmp e.0 (keys_of es) sorted)) in
          let differs : is_number n e.0 ≡ false = number-back e.0 n (ap is_eq above.0) in
          let rest = pops is n ns es (sorted_tail nat_cmp e.0 (keys_of es) sorted) later in
          record {
            found = rw (differs, there) rest.found;
            list = rw (differs, there) (ap (λ l. e.1 ∷ l) rest.list);
            own = rw (differs, there) rest.own;
            others = λ other apart. rw differs (
                elim (cases_Bool (other (callee_of e.1))) [
                  | inl passes ↦ rw passes (ap (λ l. e.0 ∷ l) (rest.others other apart))
                  | inr fails ↦ rw fails (rest.others other apart)
                ]);
          }
    ]

-- no number waits
pub record NoneWaits (is : List ℕ → Bool) (es : List (ℕ × Message)) : Type 0 where
  pub found : find (λ m. is (callee_of m)) (values_of es) ≡ None
  pub list : remove_key (λ m. is (callee_of m)) (values_of es) ≡ values_of es

pub none_waits : (is : List ℕ → Bool) (es : List (ℕ × Message)) → numbers_to is es ≡ [] → NoneWaits is es
none_waits is [] none = record { found = refl; list = refl }
none_waits is (e ∷ es) none =
    elim (cases_Bool (is (callee_of e.1))) [
      | inl here ↦ let now : e.0 ∷ numbers_to is es ≡ [] = rw here at none in absurd (cc)
      | inr there ↦
          let later : numbers_to is es ≡ [] = rw there at none in
          let rest = none_waits is es later in
          record { found = rw there rest.found; list = rw there (ap (λ l. e.1 ∷ l) rest.list) }
    ]

-- a message comes last, under a number above all others
pub numbers-last : (is : List ℕ → Bool) (es : List (ℕ × Message)) (n : ℕ) (m : Message) → numbers_to is (es ++ (n, m) ∷ []) ≡ numbers_to is es ++ cond (is (callee_of m)) (n ∷ []) []
numbers-last is [] n m = refl
numbers-last is (e ∷ es) n m =
    elim (cases_Bool (is (callee_of e.1))) [
      | inl here ↦ rw here (ap (λ l. e.0 ∷ l) (numbers-last is es n m))
      | inr there ↦ rw there (numbers-last is es n m)
    ]

pub values-last : {X : Type 0} (es : List (ℕ × X)) (n : ℕ) (x : X) → values_of (es ++ (n, x) ∷ []) ≡ values_of es ++ x ∷ []
values-last [] n x = refl
values-last (e ∷ es) n x = ap (λ l. e.1 ∷ l) (values-last es n x)

pub keys_below : {X : Type 0} (es : List (ℕ × X)) (n : ℕ) (x : X) → AllByRecursion (λ k. k < n) (keys_of es) → AllByRecursion (λ k. k < n + 1) (keys_of (es ++ (n, x) ∷ []))
keys_below [] n x below = (omega arith, tt)
keys_below (e ∷ es) n x below = (omega (arith, below.0), keys_below es n x below.1)

pub all_above : (n : ℕ) (ks : List ℕ) → AllByRecursion (λ k. k < n) ks → AllByRecursion (λ k. nat_cmp n k ≡ Greater) ks
all_above n [] below = tt
all_above n (k ∷ ks) below = (sym (nat_cmp_is n k Greater below.0), all_above n ks below.1)

pub all_less : (n : ℕ) (ks : List ℕ) → AllByRecursion (λ k. k < n) ks → AllByRecursion (λ k. nat_cmp k n ≡ Less) ks
all_less n [] below = tt
all_less n (k ∷ ks) below = (sym (nat_cmp_is k n Less below.0), all_less n ks below.1)
