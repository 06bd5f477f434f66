-- Messages that are sorted by their ways tell whether those of each way are the same.
use Rattle.std.proofs.Common.{◌≡◌, not, ◌&&◌, suc, Bool, true, false, List, [], ◌∷◌, ◌++◌, None, Ordering, Less, Equal, Greater, refl, sym, ap, ap₂, ◌∙◌, subst, arith, rules}
use Rattle.std.specs.List.{list_any, filter, AllByRecursion, AllPairs}
use Rattle.std.specs.List.Sorted.{IsSortedByKey, IsStableByKey, ties}
use Rattle.std.specs.Ordering.{is_lt, is_eq, ordering_reverse}
use Rattle.std.proofs.lemmas.Bool.{or_parts, true≢false}
use Rattle.std.proofs.lemmas.List.Elements.{filter_agree, recursion_from_All}
use Rattle.std.proofs.lemmas.List.Sorted.{ranks_by, sorted_far}
use Rattle.ic_behaviour.specs.declared.call.CallId.TheVariants as call_id
use Rattle.ic_behaviour.specs.declared.call.Callback.{Callback}
use Rattle.ic_behaviour.specs.declared.call.Origin.TheVariants as origin
use Rattle.ic_behaviour.specs.declared.call.Response.TheVariants.{Reply}
use Rattle.ic_behaviour.specs.declared.call.Message.{Message}
use Rattle.ic_behaviour.specs.declared.call.Message.TheVariants.{Call, Answer}
use Rattle.ic_order.specs.declared.way.Way.{Way}
use Rattle.ic_order.specs.declared.way.Way.TheVariants.{Calls, Asks, Answers}
use Rattle.ic_order.specs.contracts.way.WayOrd.TheImpl.Laws.{total-law}
use Rattle.ic_order.specs.Ways.{equal_ways, way_of, is_on}
use Rattle.ic_order.specs.Order.{SameWays}
use Rattle.ic_order.specs.Sorted.{way_order, IsByWays}
use Rattle.ic_order.proofs.Firsts.{Around}
use Rattle.ic_order.proofs.Ways.{other_place, own_way, ways_left, ways_none}

-- ---- messages that tie go one way

levels : (w v : Way) → is_eq (way_order w v) ≡ equal_ways w v
levels w v = search rules

-- it goes a way before the other's
abbrev precedes : Message → Message → Bool
precedes m n = is_lt (way_order (way_of m) (way_of n))

tie : (r s : Ordering) → r ≡ ordering_reverse s → (not (is_lt r) && not (is_lt s)) ≡ is_eq r
tie Less Greater is = refl
tie Equal Equal is = refl
tie Greater Less is = refl
tie r s is = grind rules

ties_are : (m n : Message) → ties precedes m n ≡ is_on (way_of m) n
ties_are m n =
    tie (way_order (way_of m) (way_of n)) (way_order (way_of n) (way_of m)) (total-law.antisymm (way_of m) (way_of n))
    ∙ levels (way_of m) (way_of n)

-- each way has a message
abbrev nothing : Callback
nothing = record { reply_fun = 0; reply_env = 0; reject_fun = 0; reject_env = 0; cleanup = None }

some : (way : Way) → (m : Message) × (way_of m ≡ way)
some (Calls sender callee) = (Call (origin.Canister sender 0 (call_id.Ingress 0) nothing) sender callee [] [] 0, refl)
some (Asks k) = (Call (origin.Ingress k) [] [] [] [] 0, refl)
some (Answers caller n) = (Answer (origin.Canister caller n (call_id.Ingress 0) nothing) [] (Reply []) 0, refl)

pub stable_same : (ms sorted : List Message) → IsStableByKey way_of way_order ms sorted → SameWays sorted ms
stable_same ms sorted stable way =
    let it = some way in
    let is : (n : Message) → is_on way n ≡ ties precedes it.0 n = λ n. sym (ties_are it.0 n ∙ ap (λ w. equal_ways w (way_of n)) it.1) in
    filter_agree (is_on way) (ties precedes it.0) is sorted ∙ stable it.0 ∙ sym (filter_agree (is_on way) (ties precedes it.0) is ms)

-- ---- sorted lists with the same messages of each way are equal

-- none goes a way before those of earlier ones
abbrev Rises : List Message → Type 0
Rises [] = Unit {0}
Rises (m ∷ ms) = AllByRecursion (λ n. precedes n m ≡ false) ms × Rises ms

pairs_rise : (ms : List Message) → AllPairs (λ m n. precedes n m ≡ false) ms → Rises ms
pairs_rise [] pairs = tt
pairs_rise (m ∷ ms) pairs = (
  recursion_from_All (λ n. precedes n m ≡ false) ms (λ k d below. pairs 0 (suc k) d (omega arith) (omega (arith, below))),
  pairs_rise ms (λ i j d less below. pairs (suc i) (suc j) d (omega (arith, less)) (omega (arith, below))),
)

rises : (ms : List Message) → IsSortedByKey way_of way_order ms → Rises ms
rises ms sorted = pairs_rise ms (λ i j d less below. sorted_far precedes (ranks_by total-law way_of) ms sorted i j d (omega (arith, less)) below)

at_middle : (P : Message → Type 0) (front : List Message) (m : Message) (back : List Message) → AllByRecursion P (front ++ m ∷ back) → P m
at_middle P [] m back all = all.0
at_middle P (n ∷ front) m back all = at_middle P front m back all.1

-- of two that go different ways one goes before the other
one_precedes : (m n : Message) → is_on (way_of m) n ≡ false → precedes m n ≡ false → precedes n m ≡ false → ⊥
one_precedes m n differ one other =
    let neither : ties precedes m n ≡ true = ap₂ (λ b c. not b && not c) one other in
    true≢false (sym neither ∙ ties_are m n ∙ differ)

-- the second list has m later and n first, the first one m first
turned : (m n : Message) (ms front back : List Message) → is_on (way_of m) n ≡ false → Rises (m ∷ ms) → Rises (n ∷ front ++ m ∷ back) → Around (is_on (way_of n)) (m ∷ ms) n → ⊥
turned m n ms front back differ up up' at = by at.front at.back at.whole where
  by : (before after : List Message) → m ∷ ms ≡ before ++ n ∷ after → ⊥
  by [] after whole = let same : m ≡ n = cc in true≢false (sym (own_way m) ∙ ap (is_on (way_of m)) same ∙ differ)
  by (k ∷ before) after whole =
      let rest : ms ≡ before ++ n ∷ after = cc in
      one_precedes m n differ (at_middle (λ k. precedes k n ≡ false) front m back up'.0)
      (at_middle (λ k. precedes k m ≡ false) before n after (subst (AllByRecursion (λ k. precedes k m ≡ false)) rest up.0))

one_list : (ms ns : List Message) → Rises ms → Rises ns → SameWays ms ns → ms ≡ ns
one_list [] ns up up' same = sym (ways_none ns same)
one_list (m ∷ ms) ns up up' same = by (λ back. one_list ms back up.1) at.front at.back at.whole at.none_before where
  at : Around (is_on (way_of m)) ns m
  at = other_place m [] ms refl ns same

  by : ((back : List Message) → Rises back → SameWays ms back → ms ≡ back) → (front back : List Message) → ns ≡ front ++ m ∷ back
      → list_any (is_on (way_of m)) front ≡ false → m ∷ ms ≡ ns
  by later [] back whole none =
      let left = ways_left m [] ms refl [] back refl (subst (SameWays (m ∷ ms)) whole same) in
      ap (λ l. m ∷ l) (later back (subst Rises whole up').1 left) ∙ sym whole
  by later (n ∷ front) back whole none =
      let parts = or_parts (is_on (way_of m) n) (list_any (is_on (way_of m)) front) none in
      let there = subst (SameWays (m ∷ ms)) whole same in
      absurd (turned m n ms front back parts.0 up (subst Rises whole up') (other_place n [] (front ++ m ∷ back) refl (m ∷ ms) (λ way. sym (there way))))

-- ---- so sorted lists tell

module _ (ms ns sorted others : List Message) (left : IsByWays ms sorted) (right : IsByWays ns others) where
  pub same_sorted : SameWays ms ns → sorted ≡ others
  same_sorted same =
      one_list sorted others (rises sorted left.rises) (rises others right.rises)
      (λ way. stable_same ms sorted left.stable way ∙ same way ∙ sym (stable_same ns others right.stable way))

  pub sorted_same : sorted ≡ others → SameWays ms ns
  sorted_same is way = sym (stable_same ms sorted left.stable way) ∙ ap (filter (is_on way)) is ∙ stable_same ns others right.stable way
