-- What holds while a message is handled, and the moves that keep it. A move takes some items and gives others; each fact
-- is about totals, so the places of items in their list do not matter.
use Rattle.std.proofs.Common.{◌≡◌, ℕ, zero, suc, ◌+◌, ◌<◌, ◌≤◌, Bool, true, false, cond, not, ◌&&◌, ◌⊎◌, List, [], ◌∷◌, ◌++◌, length, Some, None, refl, sym, ap, ◌∙◌, subst, arith, inl, inr, true≢false, ap₂, not-suc-le-zero}
use Rattle.std.proofs.lemmas.Bool.{cases_Bool, and_parts}
use Rattle.ic_behaviour.specs.declared.call.CallId.TheVariants as call_id
use Rattle.ic_behaviour.specs.declared.call.Origin.TheVariants as origin
use Rattle.ic_run_laws.proofs.Fills.{answered-fill, answered-fill_other, length-fill}
use Rattle.ic_behaviour.proofs.Weights.{at-is, bears-mentions, begins-mentions, same_id-is, same_id-self, total-append, total-below}
use Rattle.ic_behaviour.specs.Deliver.{fill, filled_by}
use Rattle.ic_behaviour.specs.Items.{items, Given, InAnswer, InCall, InContext, Item, answered, awaited, bears, begins, calls_of, counted_at, cycles_in, is_context, is_from, is_from_canister, is_id, mentions, open_at, outstanding, places}
use Rattle.ic_behaviour.specs.State.{CallContext, State, at, id_of, same_id}
use Rattle.ic_behaviour.specs.Tallied.{ingress_cycles, is_ingress, lost_answer, misranked, wrong_flags, wrong_id}
use Rattle.ic_behaviour.specs.Totals.{one, total, when}
use Rattle.ic_behaviour.specs.declared.call.CallId.{CallId}
use Rattle.ic_behaviour.specs.declared.call.Callback.{Callback}
use Rattle.ic_behaviour.specs.declared.call.Origin.{Origin}
use Rattle.ic_behaviour.specs.declared.call.Response.{Response}
use Rattle.ic_behaviour.specs.declared.request.Request.{Request}

-- items that are taken, and items that are given
abbrev pub Swaps : (old new xs ys : List Item) → Type 0
Swaps old new xs ys = (w : Item → ℕ) → total w ys + total w old ≡ total w xs + total w new

-- the items are among these
abbrev pub Within : (some all : List Item) → Type 0
Within some all = (w : Item → ℕ) → total w some ≤ total w all

-- how many calls of a canister have no answer yet
abbrev pub outstanding_of : State → List ℕ → ℕ
outstanding_of s key = total (calls_of key) (items s)

-- s is the state before, key the canister that handles the message; `off` says of which context it is that its calls may
-- be over, `less` is 1 for the call that the message answers
module _ (s : State) (key : List ℕ) (off : List ℕ → CallId → Bool) (less : CallId → ℕ) where
  -- given says which ids have been made, funds are the cycles outside of the items
  pub record Holds (given : CallId → Type 0) (xs : List Item) (rs : List Request) (funds : ℕ) : Type 0 where
    pub one_place : (id : CallId) → total (bears id) xs + answered rs id ≤ 1
    pub many : length rs ≡ length s.requests
    pub asked : (k : ℕ) → k < length rs → total (bears (call_id.Ingress k)) xs + answered rs (call_id.Ingress k) ≡ 1
    pub made : (id : CallId) → 0 < total (mentions id) xs → given id
    pub names : (k : List ℕ) (id : CallId) → 0 < total (awaited k id) xs → 0 < total (is_context k id) xs
    pub ids : total wrong_id xs ≡ 0
    pub begun : (id : CallId) → total (begins id) xs ≤ 1
    pub arrives : total lost_answer xs ≡ 0
    pub awaits : (k : List ℕ) (id : CallId) → 0 < total (is_context k id) xs → (0 < total (awaited k id) xs) ⊎ (off k id ≡ true)
    pub flags : total wrong_flags xs ≡ 0
    pub rank : CallId → ℕ
    pub ranked : total (misranked rank) xs ≡ 0
    pub free : total ingress_cycles xs ≡ 0
    pub conserved : s.created ≡ funds + total cycles_in xs
    pub placed : (id : CallId) → Given s id → total (bears id) xs + answered rs id + less id ≡ places s id
    pub others : (k : List ℕ) (id : CallId) → at key k ≡ false → total (awaited k id) xs ≡ outstanding s k id
    pub others_few : (k : List ℕ) → at key k ≡ false → total (calls_of k) xs ≡ outstanding_of s k

  when-below : (b : Bool) (n m : ℕ) → n ≤ m → when b n ≤ when b m
  when-below true n m h = h
  when-below false n m h = omega arith

  -- Cycles go from a context, or to it from the funds
  module _ {given : CallId → Type 0} {xs ys : List Item} {rs : List Request} {funds more : ℕ} where
    pub shifted : (x : CallContext) (n : ℕ) → Within (InContext key x ∷ []) xs
        → Swaps (InContext key x ∷ []) (InContext key (record x { available = n }) ∷ []) xs ys → n ≤ x.available → more + n ≡ funds + x.available
        → Holds given xs rs funds → Holds given ys rs more
    shifted x n within swaps fewer even h = record {
      one_place = λ id. omega (arith, h.one_place id, swaps (bears id));
      many = h.many;
      asked = λ k k_in. omega (arith, h.asked k k_in, swaps (bears (call_id.Ingress k)));
      made = λ id some. h.made id (omega (arith, some, swaps (mentions id)));
      names = λ k id some. (let old = h.names k id (omega (arith, some, swaps (awaited k id))) in omega (arith, old, swaps (is_context k id)));
      ids = omega (arith, h.ids, swaps wrong_id);
      begun = λ id. omega (arith, h.begun id, swaps (begins id));
      arrives = omega (arith, h.arrives, swaps lost_answer);
      awaits = λ k id some. elim (h.awaits k id (omega (arith, some, swaps (is_context k id)))) [
        | inl calls ↦ inl (omega (arith, calls, swaps (awaited k id)))
        | inr is ↦ inr is
      ];
      flags = omega (arith, h.flags, within wrong_flags, swaps wrong_flags, when-below (not x.must_respond) n x.available fewer);
      rank = h.rank;
      ranked = omega (arith, h.ranked, swaps (misranked h.rank));
      free = omega (arith, h.free, within ingress_cycles, swaps ingress_cycles, when-below (is_ingress x.origin) n x.available fewer);
      conserved = omega (arith, h.conserved, even, swaps cycles_in);
      placed = λ id is. omega (arith, h.placed id is, swaps (bears id));
      others = λ k id differs. omega (arith, h.others k id differs, swaps (awaited k id));
      others_few = λ k differs. omega (arith, h.others_few k differs, swaps (calls_of k));
    }

  -- the items may be in another order
  module _ {given : CallId → Type 0} {xs ys : List Item} {rs : List Request} {funds : ℕ} where
    pub sorted_anew : ((w : Item → ℕ) → total w ys ≡ total w xs) → Holds given xs rs funds → Holds given ys rs funds
    sorted_anew same h = record {
      one_place = λ id. omega (arith, h.one_place id, same (bears id));
      many = h.many;
      asked = λ k k_in. omega (arith, h.asked k k_in, same (bears (call_id.Ingress k)));
      made = λ id some. h.made id (omega (arith, some, same (mentions id)));
      names = λ k id some. (let old = h.names k id (omega (arith, some, same (awaited k id))) in omega (arith, old, same (is_context k id)));
      ids = omega (arith, h.ids, same wrong_id);
      begun = λ id. omega (arith, h.begun id, same (begins id));
      arrives = omega (arith, h.arrives, same lost_answer);
      awaits = λ k id some. elim (h.awaits k id (omega (arith, some, same (is_context k id)))) [
        | inl calls ↦ inl (omega (arith, calls, same (awaited k id)))
        | inr is ↦ inr is
      ];
      flags = omega (arith, h.flags, same wrong_flags);
      rank = h.rank;
      ranked = omega (arith, h.ranked, same (misranked h.rank));
      free = omega (arith, h.free, same ingress_cycles);
      conserved = omega (arith, h.conserved, same cycles_in);
      placed = λ id is. omega (arith, h.placed id is, same (bears id));
      others = λ k id differs. omega (arith, h.others k id differs, same (awaited k id));
      others_few = λ k differs. omega (arith, h.others_few k differs, same (calls_of k));
    }

  -- more ids may count as made
  module _ {given given' : CallId → Type 0} {xs : List Item} {rs : List Request} {funds : ℕ} where
    pub given_anew : ((id : CallId) → given id → given' id) → Holds given xs rs funds → Holds given' xs rs funds
    given_anew wider h = record {
      one_place = h.one_place;
      many = h.many;
      asked = h.asked;
      made = λ id some. wider id (h.made id some);
      names = h.names;
      ids = h.ids;
      begun = h.begun;
      arrives = h.arrives;
      awaits = h.awaits;
      flags = h.flags;
      rank = h.rank;
      ranked = h.ranked;
      free = h.free;
      conserved = h.conserved;
      placed = h.placed;
      others = h.others;
      others_few = h.others_few;
    }

  -- A call goes out, with a number that was not given
  module _ {given given' : CallId → Type 0} {xs ys : List Item} {rs : List Request} {funds more : ℕ} where
    pub performed : (n : ℕ) (own : CallId) (callback : Callback) (cycles : ℕ)
        → Swaps [] (InCall (origin.Canister key n own callback) cycles ∷ []) xs ys
        → (given (call_id.Canister key n) → ⊥) → (Given s (call_id.Canister key n) → ⊥) → given' (call_id.Canister key n) → ((id : CallId) → given id → given' id)
        → 0 < total (is_context key own) xs → more + cycles ≡ funds
        → Holds given xs rs funds → Holds given' ys rs more
    performed n own callback cycles swaps fresh fresh_before now wider stands even h = record {
      one_place = λ id. elim (cases_Bool (same_id id (call_id.Canister key n))) [
        | inl is ↦ omega (arith, swaps (bears id), ap one is, none_borne id is, answered-made id is)
        | inr differs ↦ omega (arith, h.one_place id, swaps (bears id), ap one differs)
      ];
      many = h.many;
      asked = λ k k_in. omega (arith, h.asked k k_in, swaps (bears (call_id.Ingress k)));
      made = λ id some. elim (cases_Bool (same_id id (call_id.Canister key n))) [
        | inl is ↦ subst given' (sym (same_id-is id (call_id.Canister key n) is)) now
        | inr differs ↦ wider id (h.made id (omega (arith, some, swaps (mentions id), ap one differs)))
      ];
      names = λ k id some. elim (cases_Bool (at key k && same_id own id)) [
        | inl is ↦ (let old = named k id is in omega (arith, old, swaps (is_context k id)))
        | inr differs ↦ (let old = h.names k id (omega (arith, some, swaps (awaited k id), ap one differs)) in omega (arith, old, swaps (is_context k id)))
      ];
      ids = omega (arith, h.ids, swaps wrong_id);
      begun = λ id. elim (cases_Bool (same_id id (call_id.Canister key n))) [
        | inl is ↦ omega (arith, swaps (begins id), ap one is, none_begun id is)
        | inr differs ↦ omega (arith, h.begun id, swaps (begins id), ap one differs)
      ];
      arrives = omega (arith, h.arrives, swaps lost_answer);
      awaits = λ k id some. elim (h.awaits k id (omega (arith, some, swaps (is_context k id)))) [
        | inl calls ↦ inl (omega (arith, calls, swaps (awaited k id)))
        | inr is ↦ inr is
      ];
      flags = omega (arith, h.flags, swaps wrong_flags);
      rank = h.rank;
      ranked = omega (arith, h.ranked, swaps (misranked h.rank));
      free = omega (arith, h.free, swaps ingress_cycles);
      conserved = omega (arith, h.conserved, even, swaps cycles_in);
      placed = λ id is. elim (cases_Bool (same_id id (call_id.Canister key n))) [
        | inl same ↦ absurd (fresh_before (subst (Given s) (same_id-is id (call_id.Canister key n) same) is))
        | inr differs ↦ omega (arith, h.placed id is, swaps (bears id), ap one differs)
      ];
      others = λ k id differs. omega (arith, h.others k id differs, swaps (awaited k id), ap (λ b. one (b && same_id own id)) differs);
      others_few = λ k differs. omega (arith, h.others_few k differs, swaps (calls_of k), ap one differs);
    } where
      not_mentioned : (id : CallId) → same_id id (call_id.Canister key n) ≡ true → total (mentions id) xs ≡ 0
      not_mentioned id is = none (total (mentions id) xs) refl where
        none : (m : ℕ) → total (mentions id) xs ≡ m → m ≡ 0
        none zero e = refl
        none (suc m) e = absurd (fresh (subst given (same_id-is id (call_id.Canister key n) is) (h.made id (omega (arith, e)))))

      none_borne : (id : CallId) → same_id id (call_id.Canister key n) ≡ true → total (bears id) xs ≡ 0
      none_borne id is = omega (arith, not_mentioned id is, total-below (bears id) (mentions id) (bears-mentions id) xs)

      none_begun : (id : CallId) → same_id id (call_id.Canister key n) ≡ true → total (begins id) xs ≡ 0
      none_begun id is = omega (arith, not_mentioned id is, total-below (begins id) (mentions id) (begins-mentions id) xs)

      answered-made : (id : CallId) → same_id id (call_id.Canister key n) ≡ true → answered rs id ≡ 0
      answered-made (call_id.Ingress k) is = absurd (true≢false (sym is))
      answered-made (call_id.Canister caller m) is = refl

      named : (k : List ℕ) (id : CallId) → (at key k && same_id own id) ≡ true → 0 < total (is_context k id) xs
      named k id is =
          let parts = and_parts (at key k) (same_id own id) is in
          let same_key : key ≡ k = at-is key k parts.0 in
          let same_own : own ≡ id = same_id-is own id parts.1 in
          subst (λ i. 0 < total (is_context k i) xs) same_own (subst (λ c. 0 < total (is_context c own) xs) same_key stands)

  -- A place is answered: a call that is refused, a context that answers, a waiter that is released

  abbrev pub replies : Origin → ℕ → List Item
  replies (origin.Ingress k) refund = []
  replies (origin.Canister caller n context callback) refund = InAnswer (origin.Canister caller n context callback) refund ∷ []

  -- what is left of an item whose place is answered
  pub record Leaves (it : Item) (left : List Item) (o : Origin) (refund : ℕ) : Type 0 where
    pub opens : open_at it ≡ Some o
    pub borne : (id : CallId) → total (bears id) left ≡ 0
    pub mentioned : (id : CallId) → 0 < total (mentions id) left + one (same_id id (id_of o)) → 0 < mentions id it
    pub calls : (k : List ℕ) (id : CallId) → total (awaited k id) left ≡ 0
    pub calls_few : (k : List ℕ) → total (calls_of k) left ≡ 0
    pub stands : (k : List ℕ) (id : CallId) → total (is_context k id) left ≡ is_context k id it
    pub ids : total wrong_id left ≤ wrong_id it
    pub begun : (id : CallId) → total (begins id) left ≤ begins id it
    pub arrives : total lost_answer left ≡ 0
    pub flags : total wrong_flags left ≤ wrong_flags it
    pub ranked : (rank : CallId → ℕ) → total (misranked rank) left ≡ 0
    pub free : total ingress_cycles left ≤ ingress_cycles it
    pub cycles : total cycles_in left + refund ≡ cycles_in it
    pub ingress : ingress_cycles it ≡ when (is_ingress o) (cycles_in it)

  module _ {given : CallId → Type 0} {xs ys : List Item} {rs : List Request} {funds : ℕ} where
    replied_message : (it : Item) (left : List Item) (caller : List ℕ) (n : ℕ) (context : CallId) (callback : Callback) (refund : ℕ)
        → Leaves it left (origin.Canister caller n context callback) refund
        → Within (it ∷ []) xs → Swaps (it ∷ []) (left ++ InAnswer (origin.Canister caller n context callback) refund ∷ []) xs ys
        → Holds given xs rs funds → Holds given ys rs funds
    replied_message it left caller n context callback refund l within swaps h = record {
      one_place = λ id. omega (arith, h.one_place id, borne id);
      many = h.many;
      asked = λ k k_in. omega (arith, h.asked k k_in, borne (call_id.Ingress k));
      made = λ id some. mention id some;
      names = λ k id some. (let old = h.names k id (omega (arith, some, calls k id)) in omega (arith, old, stands k id));
      ids = omega (arith, h.ids, l.ids, swaps wrong_id, total-append wrong_id left answer);
      begun = λ id. omega (arith, h.begun id, l.begun id, swaps (begins id), total-append (begins id) left answer);
      arrives = omega (arith, h.arrives, l.arrives, swaps lost_answer, total-append lost_answer left answer);
      awaits = λ k id some. elim (h.awaits k id (omega (arith, some, stands k id))) [
        | inl old ↦ inl (omega (arith, old, calls k id))
        | inr is ↦ inr is
      ];
      flags = omega (arith, h.flags, l.flags, swaps wrong_flags, total-append wrong_flags left answer);
      rank = h.rank;
      ranked = omega (arith, h.ranked, l.ranked h.rank, swaps (misranked h.rank), total-append (misranked h.rank) left answer);
      free = omega (arith, h.free, l.free, swaps ingress_cycles, total-append ingress_cycles left answer);
      conserved = omega (arith, h.conserved, l.cycles, swaps cycles_in, total-append cycles_in left answer);
      placed = λ id is. omega (arith, h.placed id is, borne id);
      others = λ k id differs. omega (arith, h.others k id differs, calls k id);
      others_few = λ k differs. omega (arith, h.others_few k differs, few k);
    } where
      answer : List Item
      answer = InAnswer (origin.Canister caller n context callback) refund ∷ []

      borne : (id : CallId) → total (bears id) ys ≡ total (bears id) xs
      borne id = omega (arith, swaps (bears id), l.borne id, total-append (bears id) left answer, ap (counted_at (is_id id)) l.opens)

      calls : (k : List ℕ) (id : CallId) → total (awaited k id) ys ≡ total (awaited k id) xs
      calls k id = omega (arith, swaps (awaited k id), l.calls k id, total-append (awaited k id) left answer, ap (counted_at (is_from k id)) l.opens)

      few : (k : List ℕ) → total (calls_of k) ys ≡ total (calls_of k) xs
      few k = omega (arith, swaps (calls_of k), l.calls_few k, total-append (calls_of k) left answer, ap (counted_at (is_from_canister k)) l.opens)

      stands : (k : List ℕ) (id : CallId) → total (is_context k id) ys ≡ total (is_context k id) xs
      stands k id = omega (arith, swaps (is_context k id), l.stands k id, total-append (is_context k id) left answer)

      mention : (id : CallId) → 0 < total (mentions id) ys → given id
      mention id some = by (mentions id it) refl where
        by : (m : ℕ) → mentions id it ≡ m → given id
        by (suc m) e = h.made id (omega (arith, within (mentions id), e))
        by zero e = h.made id (omega (arith, some, swaps (mentions id), total-append (mentions id) left answer, e, none)) where
          none : total (mentions id) left + one (same_id id (call_id.Canister caller n)) ≡ 0
          none = is_none (total (mentions id) left + one (same_id id (call_id.Canister caller n))) refl where
            is_none : (m : ℕ) → total (mentions id) left + one (same_id id (call_id.Canister caller n)) ≡ m → m ≡ 0
            is_none zero z = refl
            is_none (suc m) z = let bad = l.mentioned id (omega (arith, z)) in omega (arith, bad, e)

    replied_request : (it : Item) (left : List Item) (k : ℕ) (response : Response) (refund : ℕ) → Leaves it left (origin.Ingress k) refund
        → Within (it ∷ []) xs → Swaps (it ∷ []) left xs ys → (given (call_id.Ingress k) → k < length s.requests)
        → Holds given xs rs funds → Holds given ys (fill k response rs) funds
    replied_request it left k response refund l within swaps bounded h = record {
      one_place = λ id. omega (arith, h.one_place id, moved id);
      many = length-fill k response rs ∙ h.many;
      asked = λ j j_in. omega (arith, h.asked j (omega (arith, j_in, length-fill k response rs)), moved (call_id.Ingress j));
      made = λ id some. mention id some;
      names = λ c id some. (let old = h.names c id (omega (arith, some, calls c id)) in omega (arith, old, stands c id));
      ids = omega (arith, h.ids, l.ids, swaps wrong_id);
      begun = λ id. omega (arith, h.begun id, l.begun id, swaps (begins id));
      arrives = omega (arith, h.arrives, l.arrives, swaps lost_answer);
      awaits = λ c id some. elim (h.awaits c id (omega (arith, some, stands c id))) [
        | inl old ↦ inl (omega (arith, old, calls c id))
        | inr is ↦ inr is
      ];
      flags = omega (arith, h.flags, l.flags, swaps wrong_flags);
      rank = h.rank;
      ranked = omega (arith, h.ranked, l.ranked h.rank, swaps (misranked h.rank));
      free = omega (arith, h.free, l.free, swaps ingress_cycles);
      conserved = omega (arith, h.conserved, l.cycles, swaps cycles_in, no_cycles);
      placed = λ id is. omega (arith, h.placed id is, moved id);
      others = λ c id differs. omega (arith, h.others c id differs, calls c id);
      others_few = λ c differs. omega (arith, h.others_few c differs, few c);
    } where
      no_cycles : cycles_in it ≡ 0
      no_cycles = omega (arith, l.ingress, within ingress_cycles, h.free)

      calls : (c : List ℕ) (id : CallId) → total (awaited c id) ys ≡ total (awaited c id) xs
      calls c id = omega (arith, swaps (awaited c id), l.calls c id, ap (counted_at (is_from c id)) l.opens)

      few : (c : List ℕ) → total (calls_of c) ys ≡ total (calls_of c) xs
      few c = omega (arith, swaps (calls_of c), l.calls_few c, ap (counted_at (is_from_canister c)) l.opens)

      stands : (c : List ℕ) (id : CallId) → total (is_context c id) ys ≡ total (is_context c id) xs
      stands c id = omega (arith, swaps (is_context c id), l.stands c id)

      mention : (id : CallId) → 0 < total (mentions id) ys → given id
      mention id some = by (mentions id it) refl where
        by : (m : ℕ) → mentions id it ≡ m → given id
        by (suc m) e = h.made id (omega (arith, within (mentions id), e))
        by zero e = h.made id (omega (arith, some, swaps (mentions id), none, e)) where
          none : total (mentions id) left ≡ 0
          none = is_none (total (mentions id) left) refl where
            is_none : (m : ℕ) → total (mentions id) left ≡ m → m ≡ 0
            is_none zero z = refl
            is_none (suc m) z = let bad = l.mentioned id (omega (arith, z)) in omega (arith, bad, e)

      in_range : k < length rs
      in_range = omega (arith, h.many, bounded (h.made (call_id.Ingress k) (let named = l.mentioned (call_id.Ingress k) (omega (arith, ap one (same_id-self (call_id.Ingress k)))) in omega (arith, named, within (mentions (call_id.Ingress k))))))

      moved : (id : CallId) → total (bears id) ys + answered (fill k response rs) id ≡ total (bears id) xs + answered rs id
      moved id = elim (cases_Bool (same_id id (call_id.Ingress k))) [
        | inl is ↦ omega (arith, swaps (bears id), l.borne id, ap (counted_at (is_id id)) l.opens, ap one is, h.one_place id, within (bears id), answered-fill k response rs in_range id is)
        | inr differs ↦ omega (arith, swaps (bears id), l.borne id, ap (counted_at (is_id id)) l.opens, ap one differs, answered-fill_other k response rs id differs)
      ]

    pub replied : (it : Item) (left : List Item) (o : Origin) (response : Response) (refund : ℕ) → Leaves it left o refund
        → Within (it ∷ []) xs → Swaps (it ∷ []) (left ++ replies o refund) xs ys → ((k : ℕ) → given (call_id.Ingress k) → k < length s.requests)
        → Holds given xs rs funds → Holds given ys (filled_by o response rs) funds
    replied it left (origin.Canister caller n context callback) response refund l within swaps bounded h =
        replied_message it left caller n context callback refund l within swaps h
    replied it left (origin.Ingress k) response refund l within swaps bounded h =
        replied_request it left k response refund l within (λ w. omega (arith, swaps w, total-append w left [])) (bounded k) h

  -- A context that need not respond and has no call goes
  module _ {given : CallId → Type 0} {xs ys : List Item} {rs : List Request} {funds : ℕ} where
    pub dropped_context : (x : CallContext) → Within (InContext key x ∷ []) xs → Swaps (InContext key x ∷ []) [] xs ys
        → x.must_respond ≡ false → total (awaited key x.id) xs ≡ 0
        → Holds given xs rs funds → Holds given ys rs funds
    dropped_context x within swaps silent idle h = record {
      one_place = λ id. omega (arith, h.one_place id, swaps (bears id), shut (is_id id));
      many = h.many;
      asked = λ k k_in. omega (arith, h.asked k k_in, swaps (bears (call_id.Ingress k)), shut (is_id (call_id.Ingress k)));
      made = λ id some. h.made id (omega (arith, some, swaps (mentions id)));
      names = λ k id some. named k id some;
      ids = omega (arith, h.ids, swaps wrong_id);
      begun = λ id. omega (arith, h.begun id, swaps (begins id));
      arrives = omega (arith, h.arrives, swaps lost_answer);
      awaits = λ k id some. elim (h.awaits k id (omega (arith, some, swaps (is_context k id)))) [
        | inl calls ↦ inl (omega (arith, calls, swaps (awaited k id), shut (is_from k id)))
        | inr is ↦ inr is
      ];
      flags = omega (arith, h.flags, swaps wrong_flags);
      rank = h.rank;
      ranked = omega (arith, h.ranked, swaps (misranked h.rank));
      free = omega (arith, h.free, swaps ingress_cycles);
      conserved = omega (arith, h.conserved, swaps cycles_in, within wrong_flags, h.flags, ap (λ b. when (not b) x.available) silent);
      placed = λ id is. omega (arith, h.placed id is, swaps (bears id), shut (is_id id));
      others = λ k id differs. omega (arith, h.others k id differs, swaps (awaited k id), shut (is_from k id));
      others_few = λ k differs. omega (arith, h.others_few k differs, swaps (calls_of k), shut (is_from_canister k));
    } where
      shut : (test : Origin → Bool) → counted_at test (open_at (InContext key x)) ≡ 0
      shut test = ap (λ b. counted_at test (cond b (Some x.origin) None)) silent

      named : (k : List ℕ) (id : CallId) → 0 < total (awaited k id) ys → 0 < total (is_context k id) ys
      named k id some = elim (cases_Bool (at k key && same_id id x.id)) [
        | inl is ↦
            let parts = and_parts (at k key) (same_id id x.id) is in
            let e : total (awaited k id) xs ≡ total (awaited key x.id) xs = ap₂ (λ c i. total (awaited c i) xs) (at-is k key parts.0) (same_id-is id x.id parts.1) in
            let no : 0 < 0 = omega (arith, some, idle, e, swaps (awaited k id), shut (is_from k id)) in
            absurd (not-suc-le-zero no)
        | inr differs ↦
            let old = h.names k id (omega (arith, some, swaps (awaited k id), shut (is_from k id))) in
            omega (arith, old, swaps (is_context k id), ap one differs)
      ]
