-- Effects are applied to a canister.
use Rattle.std.proofs.Common.{◌≡◌, ℕ, ◌+◌, ◌<◌, ◌≤◌, ◌^◌, Bool, true, false, cond, List, ◌∷◌, ◌++◌, length, Option, Some, None, slice_get, slice_set, refl, sym, ap, ◌∙◌, subst, arith}
use Rattle.std.specs.List.{position}
use Rattle.std.specs.Option.{is_some}
use Rattle.ic_behaviour.specs.declared.call.Message.{Message}
use Rattle.ic_behaviour.specs.declared.call.Answered.{Answered}
use Rattle.ic_behaviour.specs.declared.call.Response.{Response}
use Rattle.ic_behaviour.specs.declared.context.Context.{Context}
use Rattle.ic_behaviour.specs.declared.execution.Effects.{Effects}
use Rattle.ic_behaviour.specs.Totals.{total}
use Rattle.ic_behaviour.specs.Executing.{change, is_own, served, numbered, given_answer, returned}
use Rattle.ic_behaviour.proofs.Weights.{total-at}
use Rattle.ic_state.specs.declared.canister.Canister.{Canister}
use Rattle.ic_state.specs.Seen.{seen}
use Rattle.ic_state.specs.IsCanister.{IsContext, IsCanister}
use Rattle.ic_calls.proofs.Splits.{Split, at_place, get-split, change-split, set-split}
use Rattle.ic_calls.proofs.Keeps.{changed_keeps}
use Rattle.ic_exec.specs.Executed.{HasRoomFor, work_of}

abbrev served_so : Context → Bool → ℕ → ℕ → Context
served_so x answered available n = record x {
  must_respond = cond answered false x.must_respond;
  available = cond answered 0 available;
  outstanding = x.outstanding + n;
}

-- a context that was served is still one
served_context : (x : Context) (answer : Option (Response × ℕ)) (available n : ℕ) → (x.must_respond ≡ false → available ≡ 0) → IsContext x → IsContext (served_so x (is_some answer) available n)
served_context x None available n answered is = record { id = is.id; answered = answered; deleted = is.deleted }
served_context x (Some a) available n answered is = record { id = is.id; answered = λ e. refl; deleted = λ e. refl }

served_below : (b : Bool) (available : ℕ) → cond b 0 available ≤ available
served_below true available = omega arith
served_below false available = omega arith

pub context_there : (c : Canister) (place : ℕ) (x : Context) → position (is_own x.id) c.contexts ≡ Some place → slice_get c.contexts place ≡ Some x → Split (is_own x.id) c.contexts place x
context_there c place x found got =
    let s = at_place (is_own x.id) c.contexts place found in
    let g = get-split s.1 in
    let e : s.0 ≡ x = cc in
    subst (Split (is_own x.id) c.contexts place) e s.1

-- what a context has is part of what all have
pub part_of : (c : Canister) (place : ℕ) (x : Context) (w : Context → ℕ) → Split (is_own x.id) c.contexts place x → w x ≤ total w c.contexts
part_of c place x w s = omega (arith, ap (total w) s.whole, total-at w s.front x s.back)

module _ (c : Canister) (place : ℕ) (x : Context) (e : Effects) (is : IsCanister c) (found : position (is_own x.id) c.contexts ≡ Some place) (got : slice_get c.contexts place ≡ Some x) (room : HasRoomFor (seen c) x e)
    (y : Context) (answered : Bool) (n : ℕ) (is_answered : answered ≡ is_some e.answer) (count : n ≡ length e.calls) where
  pub few_there : x.outstanding + n < 2 ^ 32
  few_there = omega (arith, part_of c place x (λ z. z.outstanding) (context_there c place x found got), is.counts, room.few, count)

  module _ (served_is : y ≡ served_so x answered e.available n) (contexts' : List Context) (put : contexts' ≡ slice_set c.contexts place y) where
    is_served : y ≡ served e x
    is_served = served_is ∙ (λ i. served_so x (is_answered i) e.available (count i))

    contexts_are : contexts' ≡ change (is_own x.id) (served e) c.contexts
    contexts_are =
        let s = context_there c place x found got in
        put ∙ ap (slice_set c.contexts place) is_served ∙ set-split s (served e x) ∙ sym (change-split s (served e))

    pub applied_is : (calls' : List Message) (answers' : List Answered) (used : ℕ) → calls' ≡ numbered c.id y.id c.next_call e.calls → answers' ≡ given_answer y.origin e.answer
        → work_of x.id (record c { balance = e.balance; certified = e.certified; contexts = contexts'; next_call = c.next_call + n; outstanding = c.outstanding + n }) (record { calls = calls'; answers = answers'; used = used; trapped = None })
        ≡ returned (seen c) x.id x c.store.lists e used
    applied_is calls' answers' used calls_are answers_are =
        let cs : calls' ≡ numbered c.id x.id c.next_call e.calls = calls_are ∙ ap (λ (z : Context). numbered c.id z.id c.next_call e.calls) is_served in
        let answer_is : answers' ≡ given_answer x.origin e.answer = answers_are ∙ ap (λ (z : Context). given_answer z.origin e.answer) is_served in
        λ i. record {
          canister = record (seen c) { balance = e.balance; certified = e.certified; contexts = contexts_are i; next_call = c.next_call + count i; outstanding = c.outstanding + count i };
          calls = cs i;
          answers = answer_is i;
          used = used;
          trapped = None;
        }

    pub applied_keeps : IsCanister (record c { balance = e.balance; certified = e.certified; contexts = contexts'; next_call = c.next_call + n; outstanding = c.outstanding + n })
    applied_keeps =
        let s = context_there c place x found got in
        let now : contexts' ≡ s.front ++ served e x ∷ s.back = put ∙ ap (slice_set c.contexts place) is_served ∙ set-split s (served e x) in
        let below = served_below (is_some e.answer) e.available in
        let w = λ (z : Context). z.available in
        changed_keeps c _ s.front x (served e x) s.back (record {
          was = s.whole;
          now = now;
          id = refl;
          deleted = refl;
          context = served_context x e.answer e.available (length e.calls) room.answered;
          code = refl;
          controllers = refl;
          outstanding = omega (arith, count);
          few = omega (arith, room.few, count);
          cycles = omega (arith, is.cycles, room.cycles, below, ap (total w) now, ap (total w) s.whole, total-at w s.front x s.back, total-at w s.front (served e x) s.back);
          fits = is.fits;
          idle = is.idle;
        }) is
