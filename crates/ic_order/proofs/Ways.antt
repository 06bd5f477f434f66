-- Lists with the same messages of each way.
use Rattle.std.proofs.Common.{◌≡◌, ℕ, Bool, true, false, cond, List, [], ◌∷◌, ◌++◌, refl, sym, ap, ap₂, ◌∙◌, subst, arith, inl, inr}
use Rattle.std.specs.List.{list_any, filter}
use Rattle.std.proofs.lemmas.Bool.{cases_Bool, and_parts, and_from, false≢true, true≢false}
use Rattle.std.proofs.lemmas.List.{append_cancel_left}
use Rattle.std.proofs.lemmas.List.Elements.{filter-append}
use Rattle.ic_behaviour.specs.declared.call.Message.{Message}
use Rattle.ic_behaviour.specs.Totals.{total}
use Rattle.ic_behaviour.proofs.Weights.{at-self, at-is, nat-self, nat-is, total-at}
use Rattle.ic_order.specs.declared.way.Way.{Way}
use Rattle.ic_order.specs.declared.way.Way.TheVariants.{Calls, Asks, Answers}
use Rattle.ic_order.specs.Ways.{equal_ways, way_of, is_on}
use Rattle.ic_order.specs.Order.{SameWays}
use Rattle.ic_order.proofs.Firsts.{Around, around_first, heads, kept_first, kept_others, tails}

equal_ways-self : (way : Way) → equal_ways way way ≡ true
equal_ways-self (Calls sender callee) = and_from _ _ (at-self sender) (at-self callee)
equal_ways-self (Asks k) = nat-self k
equal_ways-self (Answers caller n) = and_from _ _ (at-self caller) (nat-self n)

equal_ways-is : (way other : Way) → equal_ways way other ≡ true → way ≡ other
equal_ways-is (Calls sender callee) (Calls other another) is =
    let parts = and_parts _ _ is in
    ap₂ Calls (at-is sender other parts.0) (at-is callee another parts.1)
equal_ways-is (Asks k) (Asks l) is = ap Asks (nat-is k l is)
equal_ways-is (Answers caller n) (Answers other m) is =
    let parts = and_parts _ _ is in
    ap₂ Answers (at-is caller other parts.0) (nat-is n m parts.1)
equal_ways-is way other is = absurd (false≢true is)

pub own_way : (m : Message) → is_on (way_of m) m ≡ true
own_way m = equal_ways-self (way_of m)

pub ways_append : (ms ns more : List Message) → SameWays ms ns → SameWays (ms ++ more) (ns ++ more)
ways_append ms ns more same way =
    filter-append (is_on way) ms more ∙ ap (λ l. l ++ filter (is_on way) more) (same way) ∙ sym (filter-append (is_on way) ns more)

pub ways_behind : (m : Message) (ms ns : List Message) → SameWays ms ns → SameWays (m ∷ ms) (m ∷ ns)
ways_behind m ms ns same way = ap (λ l. cond (is_on way m) (m ∷ l) l) (same way)

-- neighbours that go different ways may be exchanged,
module _ (m n : Message) (differ : equal_ways (way_of m) (way_of n) ≡ false) (way : Way) where
  apart : is_on way m ≡ true → is_on way n ≡ true → way_of m ≡ way_of n → ⊥
  apart here there same = true≢false (sym (subst (λ w. equal_ways (way_of m) w ≡ true) same (equal_ways-self (way_of m))) ∙ differ)

  pub exchanged : (front back : List Message) → filter (is_on way) (front ++ m ∷ n ∷ back) ≡ filter (is_on way) (front ++ n ∷ m ∷ back)
  exchanged [] back =
      elim (cases_Bool (is_on way m)) [
        | inl here ↦
            elim (cases_Bool (is_on way n)) [
              | inl there ↦ absurd (apart here there (sym (equal_ways-is way (way_of m) here) ∙ equal_ways-is way (way_of n) there))
              | inr fails ↦ rw (here, fails) refl
            ]
        | inr fails ↦ rw fails refl
      ]
  exchanged (k ∷ front) back = ap (λ l. cond (is_on way k) (k ∷ l) l) (exchanged front back)

-- and of one way only equal ones
pub one_way : (m n : Message) (front back : List Message) → equal_ways (way_of m) (way_of n) ≡ true → SameWays (front ++ m ∷ n ∷ back) (front ++ n ∷ m ∷ back) → m ≡ n
one_way m n front back is same =
    let p : Message → Bool = is_on (way_of m) in
    let left : filter p (m ∷ n ∷ back) ≡ m ∷ n ∷ filter p back = rw (own_way m, is) refl in
    let right : filter p (n ∷ m ∷ back) ≡ n ∷ m ∷ filter p back = rw (own_way m, is) refl in
    heads m n (n ∷ filter p back) (m ∷ filter p back)
    (sym left ∙ append_cancel_left (filter p front) (filter p (m ∷ n ∷ back)) (filter p (n ∷ m ∷ back))
    (sym (filter-append p front (m ∷ n ∷ back)) ∙ same (way_of m) ∙ filter-append p front (n ∷ m ∷ back)) ∙ right)

-- the first message of a way is in both lists
module _ (m : Message) (front back : List Message) (none : list_any (is_on (way_of m)) front ≡ false) where
  pub other_place : (ns : List Message) → SameWays (front ++ m ∷ back) ns → Around (is_on (way_of m)) ns m
  other_place ns same =
      around_first (is_on (way_of m)) ns m (filter (is_on (way_of m)) (front ++ back))
      (sym (same (way_of m)) ∙ kept_first (is_on (way_of m)) front m back none (own_way m))

  -- and may leave both
  pub ways_left : (front' back' : List Message) → list_any (is_on (way_of m)) front' ≡ false → SameWays (front ++ m ∷ back) (front' ++ m ∷ back') → SameWays (front ++ back) (front' ++ back')
  ways_left front' back' none' same way =
      elim (cases_Bool (is_on way m)) [
        | inl is ↦
            subst (λ w. filter (is_on w) (front ++ back) ≡ filter (is_on w) (front' ++ back')) (sym (equal_ways-is way (way_of m) is))
            (tails m _ _ (sym (kept_first (is_on (way_of m)) front m back none (own_way m)) ∙ same (way_of m) ∙ kept_first (is_on (way_of m)) front' m back' none' (own_way m)))
        | inr fails ↦
            sym (kept_others (is_on way) front m back fails) ∙ same way ∙ kept_others (is_on way) front' m back' fails
      ]

-- ---- nothing, and totals

pub ways_none : (ns : List Message) → SameWays [] ns → ns ≡ []
ways_none [] same = refl
ways_none (n ∷ ns) same =
    let kept : filter (is_on (way_of n)) (n ∷ ns) ≡ n ∷ filter (is_on (way_of n)) ns = kept_first (is_on (way_of n)) [] n ns refl (own_way n) in
    let is : [] ≡ n ∷ filter (is_on (way_of n)) ns = same (way_of n) ∙ kept in
    cc

-- any sum over the messages is the same
pub ways_total : (weight : Message → ℕ) (ms ns : List Message) → SameWays ms ns → total weight ms ≡ total weight ns
ways_total weight [] ns same = ap (total weight) (sym (ways_none ns same))
ways_total weight (m ∷ ms) ns same =
    let at = other_place m [] ms refl ns same in
    let left = ways_left m [] ms refl at.front at.back at.none_before (subst (SameWays (m ∷ ms)) at.whole same) in
    let more : total weight ms ≡ total weight (at.front ++ at.back) = ways_total weight ms (at.front ++ at.back) left in
    let middle = total-at weight at.front m at.back in
    let whole : total weight ns ≡ total weight (at.front ++ m ∷ at.back) = ap (total weight) at.whole in
    omega (arith, more, middle, whole)
