-- An item is exchanged for another that is no other place, and so what holds of all stays.
use Rattle.std.proofs.Common.{◌≡◌, ℕ, ◌+◌, ◌≤◌, Bool, true, false, cond, List, [], ◌∷◌, Some, None, refl, sym, ap, arith, inl, inr}
use Rattle.ic_behaviour.specs.declared.call.CallId.{CallId}
use Rattle.ic_behaviour.specs.declared.call.CallId.TheVariants as call_id
use Rattle.ic_behaviour.specs.declared.call.Origin.{Origin}
use Rattle.ic_behaviour.specs.declared.request.Request.{Request}
use Rattle.ic_behaviour.specs.Totals.{total, when}
use Rattle.ic_behaviour.specs.State.{CallContext, State}
use Rattle.ic_behaviour.specs.Items.{Item, InCall, InContext, InWaiter, open_at, counted_at, is_id, is_from, is_from_canister, mentions, is_context, begins, cycles_in}
use Rattle.ic_behaviour.specs.Tallied.{wrong_id, wrong_flags, lost_answer, ingress_cycles, is_ingress, misranked}
use Rattle.ic_run_laws.proofs.Holds.{Holds, Swaps, Within}
use Rattle.ic_mgmt_laws.specs.Moves.{deleted}

-- the new item is the place of the same call, if the old one is one, and nothing is wrong with it that was not
pub record Exchanges (old new : Item) : Type 0 where
  pub opens : open_at new ≡ open_at old
  pub mentioned : (id : CallId) → mentions id new ≡ mentions id old
  pub stands : (k : List ℕ) (id : CallId) → is_context k id new ≡ is_context k id old
  pub begun : (id : CallId) → begins id new ≤ begins id old
  pub ids : wrong_id new ≤ wrong_id old
  pub arrives : lost_answer new ≤ lost_answer old
  pub flags : wrong_flags new ≤ wrong_flags old
  pub ranked : (rank : CallId → ℕ) → misranked rank new ≤ misranked rank old
  pub free : ingress_cycles new ≤ ingress_cycles old

module _ (s : State) (key : List ℕ) (off : List ℕ → CallId → Bool) (less : CallId → ℕ) {given : CallId → Type 0} {xs ys : List Item} {rs : List Request} {funds more : ℕ} (old new : Item) where
  pub exchanged : Exchanges old new → Within (old ∷ []) xs → Swaps (old ∷ []) (new ∷ []) xs ys → more + cycles_in new ≡ funds + cycles_in old
      → Holds s key off less given xs rs funds → Holds s key off less given ys rs more
  exchanged e within swaps even h = record {
    one_place = λ id. omega (arith, h.one_place id, borne (is_id id));
    many = h.many;
    asked = λ k k_in. omega (arith, h.asked k k_in, borne (is_id (call_id.Ingress k)));
    made = λ id some. h.made id (omega (arith, some, swaps (mentions id), e.mentioned id));
    names = λ k id some. (let old' = h.names k id (omega (arith, some, borne (is_from k id))) in omega (arith, old', swaps (is_context k id), e.stands k id));
    ids = omega (arith, h.ids, swaps wrong_id, e.ids, within wrong_id);
    begun = λ id. omega (arith, h.begun id, swaps (begins id), e.begun id);
    arrives = omega (arith, h.arrives, swaps lost_answer, e.arrives, within lost_answer);
    awaits = λ k id some. elim (h.awaits k id (omega (arith, some, swaps (is_context k id), e.stands k id))) [
      | inl calls ↦ inl (omega (arith, calls, borne (is_from k id)))
      | inr is ↦ inr is
    ];
    flags = omega (arith, h.flags, swaps wrong_flags, e.flags, within wrong_flags);
    rank = h.rank;
    ranked = omega (arith, h.ranked, swaps (misranked h.rank), e.ranked h.rank, within (misranked h.rank));
    free = omega (arith, h.free, swaps ingress_cycles, e.free, within ingress_cycles);
    conserved = omega (arith, h.conserved, even, swaps cycles_in);
    placed = λ id is. omega (arith, h.placed id is, borne (is_id id));
    others = λ k id differs. omega (arith, h.others k id differs, borne (is_from k id));
    others_few = λ k differs. omega (arith, h.others_few k differs, borne (is_from_canister k));
  } where
    borne : (test : Origin → Bool) → total (λ i. counted_at test (open_at i)) ys ≡ total (λ i. counted_at test (open_at i)) xs
    borne test = omega (arith, swaps (λ i. counted_at test (open_at i)), ap (counted_at test) e.opens)

when-fewer : (b : Bool) (n m : ℕ) → n ≤ m → when b n ≤ when b m
when-fewer true n m h = h
when-fewer false n m h = omega arith

-- a call keeps fewer cycles
pub fewer_cycles : (o : Origin) (n m : ℕ) → m ≤ n → Exchanges (InCall o n) (InCall o m)
fewer_cycles o n m fewer = record {
  opens = refl;
  mentioned = λ id. refl;
  stands = λ k id. refl;
  begun = λ id. omega arith;
  ids = omega arith;
  arrives = omega arith;
  flags = omega arith;
  ranked = λ rank. omega arith;
  free = when-fewer (is_ingress o) m n fewer;
}

-- a call waits for a canister to stop
pub waits : (key : List ℕ) (o : Origin) (n : ℕ) → Exchanges (InCall o n) (InWaiter key (record { origin = o; cycles = n }))
waits key o n = record {
  opens = refl;
  mentioned = λ id. refl;
  stands = λ k id. refl;
  begun = λ id. omega arith;
  ids = omega arith;
  arrives = omega arith;
  flags = omega arith;
  ranked = λ rank. omega arith;
  free = omega arith;
}

-- a context that need not respond is deleted
pub deletes : (key : List ℕ) (x : CallContext) → x.must_respond ≡ false → x.available ≡ 0 → Exchanges (InContext key x) (InContext key (deleted x))
deletes key x silent spent = record {
  opens = ap (λ b. cond b (Some x.origin) None) (sym silent);
  mentioned = λ id. refl;
  stands = λ k id. refl;
  begun = λ id. omega arith;
  ids = omega arith;
  arrives = omega arith;
  flags = omega arith;
  ranked = λ rank. omega arith;
  free = when-fewer (is_ingress x.origin) 0 x.available (omega arith);
}
