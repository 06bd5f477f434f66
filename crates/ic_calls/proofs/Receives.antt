-- A call makes a context, and an answer takes one call from its context.
use Rattle.std.proofs.Common.{◌≡◌, ℕ, ◌+◌, ◌-◌, ◌<◌, ◌≤◌, ◌^◌, Bool, true, false, not, cond, List, [], ◌∷◌, ◌++◌, length, Option, Some, None, slice_get, slice_set, find, refl, sym, ap, ◌∙◌, subst, arith}
use Rattle.std.specs.List.{position}
use Rattle.std.specs.Option.{IsSome, IsSomeAnd, option_map}
use Rattle.ic_behaviour.specs.declared.call.CallId.{CallId}
use Rattle.ic_behaviour.specs.declared.call.Origin.{Origin}
use Rattle.ic_behaviour.specs.declared.context.Context.{Context}
use Rattle.ic_behaviour.specs.Totals.{total}
use Rattle.ic_behaviour.specs.State.{id_of}
use Rattle.ic_behaviour.specs.Executing.{change, is_own}
use Rattle.ic_behaviour.specs.Local.{context_of, one_less}
use Rattle.ic_behaviour.proofs.Weights.{total-at, same_id-self}
use Rattle.ic_state.specs.declared.canister.Canister.{Canister}
use Rattle.ic_state.specs.IsCanister.{IsContext, IsCanister, cycles_of}
use Rattle.ic_calls.specs.Received.{is_live}
use Rattle.ic_calls.proofs.Splits.{Split, at_place, no_place, at_end, get-split, find-split, change-split, set-split, within-split, put_there, position-split}
use Rattle.ic_calls.proofs.Keeps.{changed_keeps, made_keeps}

-- ---- a call

pub call_keeps : (c d : Canister) (from : Origin) (sender : List ℕ) (cycles : ℕ) → IsCanister c → find (is_own (id_of from)) c.contexts ≡ None → IsSome c.code
    → cycles_of c + cycles ≤ 2 ^ 127 - 1 → d ≡ record c { contexts = c.contexts ++ context_of from sender cycles ∷ [] } → IsCanister d
call_keeps c d from sender cycles is fresh code room now =
    made_keeps c d (context_of from sender cycles) is now (record { id = refl; answered = λ e. absurd cc; deleted = λ e. absurd cc }) code refl fresh room

-- the context of the call is the last
pub call_place : (c d : Canister) (from : Origin) (sender : List ℕ) (cycles : ℕ) → find (is_own (id_of from)) c.contexts ≡ None
    → d ≡ record c { contexts = c.contexts ++ context_of from sender cycles ∷ [] } → position (is_own (id_of from)) d.contexts ≡ Some (length c.contexts)
call_place c d from sender cycles fresh now =
    ap (λ (a : Canister). position (is_own (id_of from)) a.contexts) now
    ∙ position-split (at_end (is_own (id_of from)) c.contexts (context_of from sender cycles) fresh (same_id-self (id_of from)))

-- ---- an answer

pub some_place : {A : Type 0} (test : A → Bool) (P : A → Type 0) (xs : List A) → position test xs ≡ None → IsSomeAnd (find test xs) P → ⊥
some_place test P xs e h = subst (λ o. IsSomeAnd o P) (no_place test xs e) h

module _ (c : Canister) (own : CallId) (place : ℕ) (x : Context) (is : IsCanister c) (awaits : IsSomeAnd (find (is_own own) c.contexts) (λ (y : Context). 0 < y.outstanding))
    (found : position (is_own own) c.contexts ≡ Some place) (got : slice_get c.contexts place ≡ Some x) where
  pub there : Split (is_own own) c.contexts place x
  there =
      let s = at_place (is_own own) c.contexts place found in
      let g = get-split s.1 in
      let e : s.0 ≡ x = cc in
      subst (Split (is_own own) c.contexts place) e s.1

  pub outstanding_there : 0 < x.outstanding
  outstanding_there = subst (λ o. IsSomeAnd o (λ (y : Context). 0 < y.outstanding)) (find-split there) awaits

  pub outstanding_all : 0 < c.outstanding
  outstanding_all = omega (arith, is.counts, ap (total (λ (y : Context). y.outstanding)) there.whole, total-at (λ (y : Context). y.outstanding) there.front x there.back, outstanding_there)

  pub lessened : (xs : List Context) → xs ≡ slice_set c.contexts place (one_less x) → xs ≡ change (is_own own) one_less c.contexts
  lessened xs e = e ∙ set-split there (one_less x) ∙ sym (change-split there one_less)

  pub same_place : (xs : List Context) → xs ≡ slice_set c.contexts place (one_less x) → position (is_own own) xs ≡ Some place
  same_place xs e = ap (position (is_own own)) e ∙ position-split (put_there there (one_less x) there.here)

  pub same_within : (xs : List Context) → xs ≡ slice_set c.contexts place (one_less x) → place < length xs
  same_within xs e = subst (λ l. place < length l) (sym e) (within-split (put_there there (one_less x) there.here))

  pub answer_keeps : (refund : ℕ) (xs : List Context) → cycles_of c + refund ≤ 2 ^ 127 - 1 → xs ≡ slice_set c.contexts place (one_less x)
      → IsCanister (record c { balance = c.balance + refund; contexts = xs; outstanding = c.outstanding - 1 })
  answer_keeps refund xs room e =
      let now : xs ≡ there.front ++ one_less x ∷ there.back = e ∙ set-split there (one_less x) in
      let same : total (λ (y : Context). y.available) xs ≡ total (λ (y : Context). y.available) c.contexts = omega (
        arith,
        ap (total (λ (y : Context). y.available)) now,
        ap (total (λ (y : Context). y.available)) there.whole,
        total-at (λ (y : Context). y.available) there.front x there.back,
        total-at (λ (y : Context). y.available) there.front (one_less x) there.back,
      ) in
      changed_keeps c _ there.front x (one_less x) there.back (record {
        was = there.whole;
        now = now;
        id = refl;
        deleted = refl;
        context = λ (h : IsContext x). record { id = h.id; answered = h.answered; deleted = h.deleted };
        code = refl;
        controllers = refl;
        outstanding = omega (arith, outstanding_there, outstanding_all);
        few = omega (arith, is.few);
        cycles = omega (arith, room, same);
        fits = is.fits;
        idle = is.idle;
      }) is

-- the changed context is found where it was
find-change : {A : Type 0} (test : A → Bool) (f : A → A) → ((x : A) → test (f x) ≡ test x) → (xs : List A) → find test (change test f xs) ≡ option_map f (find test xs)
find-change test f same [] = refl
find-change test f same (x ∷ xs) = by (test x) refl (find-change test f same xs) where
  by : (b : Bool) → test x ≡ b → find test (change test f xs) ≡ option_map f (find test xs)
      → find test (cond b (f x ∷ xs) (x ∷ change test f xs)) ≡ option_map f (cond b (Some x) (find test xs))
  by true e rest = ap (λ b. cond b (Some (f x)) (find test xs)) (same x ∙ e)
  by false e rest = ap (λ b. cond b (Some x) (find test (change test f xs))) e ∙ rest

pub runs_there : (own : CallId) (xs after : List Context) (place : ℕ) (x : Context) → after ≡ change (is_own own) one_less xs → position (is_own own) after ≡ Some place → slice_get after place ≡ Some x
    → not x.deleted ≡ is_live (find (is_own own) xs)
runs_there own xs after place x now found got =
    let s = at_place (is_own own) after place found in
    let g = get-split s.1 in
    let e : s.0 ≡ x = cc in
    by (find (is_own own) xs) (sym (find-change (is_own own) one_less (λ y. refl) xs) ∙ ap (find (is_own own)) (sym now) ∙ find-split s.1 ∙ ap (λ y. Some y) e) where
      by : (o : Option Context) → option_map one_less o ≡ Some x → not x.deleted ≡ is_live o
      by None e = absurd cc
      by (Some y) e = let same : one_less y ≡ x = cc in ap (λ (z : Context). not z.deleted) (sym same)
