-- States that differ only in the order of messages that go different ways.
use Rattle.std.proofs.Common.{◌≡◌, ℕ, true, false, List, [], ◌∷◌, ◌++◌, map, refl, sym, ap, ◌∙◌, subst, arith}
use Rattle.std.specs.List.{flat_map}
use Rattle.ic_behaviour.specs.declared.call.CallId.{CallId}
use Rattle.ic_behaviour.specs.declared.call.Message.{Message}
use Rattle.ic_behaviour.specs.Totals.{total}
use Rattle.ic_behaviour.specs.State.{Canister, State}
use Rattle.ic_behaviour.specs.Items.{item_of, items_at, awaited, outstanding}
use Rattle.ic_behaviour.specs.Counted.{counted}
use Rattle.ic_behaviour.proofs.Weights.{total-append, total-map}
use Rattle.ic_behaviour.proofs.Counts.{counted_same}
use Rattle.ic_order.specs.Ways.{equal_ways, way_of}
use Rattle.ic_order.specs.Order.{SameWays, SameState}
use Rattle.ic_order.proofs.Ways.{exchanged, one_way, ways_none, ways_total}

pub reflexive : (s : State) → SameState s s
reflexive s = record { rest = refl; messages = λ way. refl }

pub symmetric : (s t : State) → SameState s t → SameState t s
symmetric s t same = record { rest = sym same.rest; messages = λ way. sym (same.messages way) }

pub transitive : (s t u : State) → SameState s t → SameState t u → SameState s u
transitive s t u same more = record { rest = same.rest ∙ more.rest; messages = λ way. same.messages way ∙ more.messages way }

-- the one with the messages of the other
with_messages : (s t : State) → SameState s t → record s { messages = t.messages } ≡ t
with_messages s t same = ap (λ (u : State). let w : State = record u { messages = t.messages } in w) same.rest

-- where no message is under way they are equal
pub equal : (s t : State) → SameState s t → s.messages ≡ [] → s ≡ t
equal s t same none =
    let none' : t.messages ≡ [] = ways_none t.messages (subst (λ l. SameWays l t.messages) none same.messages) in
    ap (λ (ms : List Message). let w : State = record s { messages = ms } in w) (none ∙ sym none') ∙ with_messages s t same

-- ---- neighbours in the list

abbrev with : State → List Message → State
with s messages = record s { messages = messages }

pub exchanged_same : (s : State) (front back : List Message) (m n : Message) → equal_ways (way_of m) (way_of n) ≡ false
    → SameState (with s (front ++ m ∷ n ∷ back)) (with s (front ++ n ∷ m ∷ back))
exchanged_same s front back m n differ = record { rest = refl; messages = λ way. exchanged m n differ way front back }

pub one_way_equal : (s : State) (front back : List Message) (m n : Message) → equal_ways (way_of m) (way_of n) ≡ true
    → SameState (with s (front ++ m ∷ n ∷ back)) (with s (front ++ n ∷ m ∷ back)) → m ≡ n
one_way_equal s front back m n is same = one_way m n front back is same.messages

-- ---- the numbers of open calls

module _ (s t : State) (same : SameState s t) where
  pub outstanding_same : (key : List ℕ) (id : CallId) → outstanding s key id ≡ outstanding t key id
  outstanding_same key id = omega (
    arith,
    total-append (awaited key id) (map item_of s.messages) (flat_map items_at s.canisters),
    total-append (awaited key id) (map item_of t.messages) (flat_map items_at t.canisters),
    total-map item_of (awaited key id) s.messages,
    total-map item_of (awaited key id) t.messages,
    ways_total (λ m. awaited key id (item_of m)) s.messages t.messages same.messages,
    ap (λ (u : State). total (awaited key id) (flat_map items_at u.canisters)) same.rest,
  )

  pub counts_same : (key : List ℕ) (c : Canister) → counted s key c ≡ counted t key c
  counts_same key c = counted_same t s key (outstanding_same key) c
