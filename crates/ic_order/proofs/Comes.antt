-- What may come next is in the list, what is eligible may come next, and so runs are made.
use Rattle.std.proofs.Common.{◌≡◌, ℕ, ◌+◌, ◌<◌, ◌≤◌, false, List, [], ◌∷◌, ◌++◌, length, take, drop, suc, map, Option, Some, None, refl, sym, subst, append_assoc, arith, inl, inr}
use Rattle.std.specs.Prelude.{slice_get, MatchOption}
use Rattle.std.specs.List.{list_any, flat_map}
use Rattle.std.proofs.lemmas.Bool.{cases_Bool, or_parts, or_from}
use Rattle.std.proofs.lemmas.Option.{slice_get_within}
use Rattle.ic_behaviour.specs.declared.call.CallId.{CallId}
use Rattle.ic_behaviour.specs.declared.call.Origin.{Origin}
use Rattle.ic_behaviour.specs.declared.call.Origin.TheVariants as origin
use Rattle.ic_behaviour.specs.declared.call.Message.{Message}
use Rattle.ic_behaviour.specs.declared.call.Message.TheVariants.{Call, Answer}
use Rattle.ic_behaviour.specs.Totals.{total, one}
use Rattle.ic_behaviour.specs.State.{same_id, id_of, State}
use Rattle.ic_behaviour.specs.Items.{item_of, items_at, is_id, bears, places}
use Rattle.ic_behaviour.specs.Sound.{Sound}
use Rattle.ic_behaviour.specs.Submitted.{empty}
use Rattle.ic_behaviour.specs.Steps.{Rules, same_way, IsEligible}
use Rattle.ic_behaviour.specs.Runs.{Act, Delivers, Submits, SetsTime, after_act, IsAllowed, AreAllowed, HasMessage, IsRun, IsAnyRun, last_state}
use Rattle.ic_behaviour.proofs.Weights.{total-append, total-map, total-at, same_id-self}
use Rattle.ic_behaviour.proofs.RunLaws.{after-append, allowed-append, any_run as any_order}
use Rattle.ic_run_laws.specs.RulesKeep.{RulesKeep}
use Rattle.ic_run_laws.proofs.Histories.{allowed_parts, run_sound}
use Rattle.ic_order.specs.Ways.{way_of, is_on, MayComeNext, IsOrderedRun}
use Rattle.ic_order.proofs.Firsts.{around}

-- ---- it is in the list

within_at : (s : State) (place : ℕ) (o : Option Message) → slice_get s.messages place ≡ o
    → MatchOption o ⊥ (λ m. list_any (is_on (way_of m)) (take place s.messages) ≡ false) → place < length s.messages
within_at s place None is may = absurd may
within_at s place (Some m) is may = slice_get_within s.messages place m is

pub within : (s : State) (place : ℕ) → MayComeNext s place → place < length s.messages
within s place may = within_at s place (slice_get s.messages place) refl may

-- ---- two messages of one way, where no call has both for a place, are of one sender, to one callee

-- 1 where the message bears this call
abbrev weight : CallId → Message → ℕ
weight id m = bears id (item_of m)

-- two that bear no call together are of different calls
apart : (from other : Origin) → ((id : CallId) → one (is_id id from) + one (is_id id other) ≤ 1) → same_id (id_of from) (id_of other) ≡ false
apart from other few =
    elim (cases_Bool (same_id (id_of from) (id_of other))) [
      | inl is ↦
          let both : one (same_id (id_of from) (id_of from)) + one (same_id (id_of from) (id_of other)) ≤ 1 = few (id_of from) in
          let two : 1 + 1 ≤ 1 = rw (same_id-self (id_of from), is) at both in
          absurd (omega (arith, two))
      | inr differs ↦ differs
    ]

others : (m n : Message) → ((id : CallId) → weight id m + weight id n ≤ 1) → same_way m n ≡ false → is_on (way_of m) n ≡ false
others (Call (origin.Ingress k) _ _ _ _ _) (Call (origin.Ingress l) _ _ _ _ _) few differs = apart (origin.Ingress k) (origin.Ingress l) few
others (Call (origin.Ingress k) _ _ _ _ _) (Answer (origin.Ingress l) _ _ _) few differs = apart (origin.Ingress k) (origin.Ingress l) few
others (Answer (origin.Ingress k) _ _ _) (Call (origin.Ingress l) _ _ _ _ _) few differs = apart (origin.Ingress k) (origin.Ingress l) few
others (Answer (origin.Ingress k) _ _ _) (Answer (origin.Ingress l) _ _ _) few differs = apart (origin.Ingress k) (origin.Ingress l) few
others (Answer (origin.Canister caller n context callback) _ _ _) (Answer (origin.Canister other m context' callback') _ _ _) few differs = apart (origin.Canister caller n context callback) (origin.Canister other m context' callback') few
others (Call (origin.Canister _ _ _ _) _ _ _ _ _) (Call (origin.Canister _ _ _ _) _ _ _ _ _) few differs = differs
others (Call (origin.Ingress k) _ _ _ _ _) (Call (origin.Canister _ _ _ _) _ _ _ _ _) few differs = refl
others (Call (origin.Ingress k) _ _ _ _ _) (Answer (origin.Canister _ _ _ _) _ _ _) few differs = refl
others (Answer (origin.Ingress k) _ _ _) (Call (origin.Canister _ _ _ _) _ _ _ _ _) few differs = refl
others (Answer (origin.Ingress k) _ _ _) (Answer (origin.Canister _ _ _ _) _ _ _) few differs = refl
others (Call (origin.Canister _ _ _ _) _ _ _ _ _) (Call (origin.Ingress l) _ _ _ _ _) few differs = refl
others (Call (origin.Canister _ _ _ _) _ _ _ _ _) (Answer (origin.Ingress l) _ _ _) few differs = refl
others (Answer (origin.Canister _ _ _ _) _ _ _) (Call (origin.Ingress l) _ _ _ _ _) few differs = refl
others (Answer (origin.Canister _ _ _ _) _ _ _) (Answer (origin.Ingress l) _ _ _) few differs = refl
others (Call (origin.Canister _ _ _ _) _ _ _ _ _) (Answer (origin.Canister _ _ _ _) _ _ _) few differs = refl
others (Answer (origin.Canister _ _ _ _) _ _ _) (Call (origin.Canister _ _ _ _) _ _ _ _ _) few differs = refl

-- ---- what is eligible may come next

none_of_way : (front : List Message) (m : Message) (back : List Message) → ((id : CallId) → total (weight id) (front ++ m ∷ back) ≤ 1)
    → list_any (same_way m) front ≡ false → list_any (is_on (way_of m)) front ≡ false
none_of_way [] m back few none = refl
none_of_way (n ∷ front) m back few none =
    let parts = or_parts (same_way m n) (list_any (same_way m) front) none in
    let two : (id : CallId) → weight id m + weight id n ≤ 1 = λ id. omega (arith, few id, total-at (weight id) front m back) in
    let fewer : (id : CallId) → total (weight id) (front ++ m ∷ back) ≤ 1 = λ id. omega (arith, few id) in
    or_from (is_on (way_of m) n) (list_any (is_on (way_of m)) front) (others m n two parts.0) (none_of_way front m back fewer parts.1)

-- no call has two messages
one_message : (s : State) → ((id : CallId) → places s id ≤ 1) → (id : CallId) → total (weight id) s.messages ≤ 1
one_message s one_place id =
    omega (arith, one_place id, total-append (bears id) (map item_of s.messages) (flat_map items_at s.canisters), total-map item_of (bears id) s.messages)

may_at : (s : State) (place : ℕ) (o : Option Message) → ((id : CallId) → places s id ≤ 1) → slice_get s.messages place ≡ o
    → MatchOption o ⊥ (λ m. list_any (same_way m) (take place s.messages) ≡ false)
    → MatchOption o ⊥ (λ m. list_any (is_on (way_of m)) (take place s.messages) ≡ false)
may_at s place None one_place is eligible = eligible
may_at s place (Some m) one_place is eligible =
    none_of_way (take place s.messages) m (drop (suc place) s.messages)
    (λ id. subst (λ l. total (weight id) l ≤ 1) (around s.messages place m is) (one_message s one_place id))
    eligible

pub eligible_next : (s : State) (place : ℕ) → ((id : CallId) → places s id ≤ 1) → IsEligible s place → MayComeNext s place
eligible_next s place one_place eligible = may_at s place (slice_get s.messages place) one_place refl eligible

-- ---- runs

module _ (rules : Rules) where
  any_of : (s : State) (act : Act) → IsAllowed MayComeNext s act → IsAllowed HasMessage s act
  any_of s (Delivers place) allowed = within s place allowed
  any_of s (Submits sender callee method arg) allowed = allowed
  any_of s (SetsTime time) allowed = allowed

  any_allowed : (s : State) (acts : List Act) → AreAllowed MayComeNext rules s acts → AreAllowed HasMessage rules s acts
  any_allowed s [] allowed = tt
  any_allowed s (act ∷ acts) allowed = (any_of s act allowed.0, any_allowed (after_act rules s act) acts allowed.1)

  pub any_run : (acts : List Act) → IsOrderedRun rules acts → IsAnyRun rules acts
  any_run acts run = any_allowed empty acts run

  pub one_more : (acts : List Act) (place : ℕ) → IsOrderedRun rules acts → MayComeNext (last_state rules acts) place → IsOrderedRun rules (acts ++ Delivers place ∷ [])
  one_more acts place run may = allowed-append MayComeNext rules empty acts (Delivers place ∷ []) run (may, tt)

  module _ (keep : RulesKeep rules) where
    next_of : (s : State) (act : Act) → Sound s → IsAllowed IsEligible s act → IsAllowed MayComeNext s act
    next_of s (Delivers place) sound allowed = eligible_next s place sound.calls.one_place allowed
    next_of s (Submits sender callee method arg) sound allowed = allowed
    next_of s (SetsTime time) sound allowed = allowed

    -- each state on the way is sound, since what comes before it is a run of any order
    next_allowed : (front back : List Act) → IsAnyRun rules (front ++ back) → AreAllowed IsEligible rules (last_state rules front) back
        → AreAllowed MayComeNext rules (last_state rules front) back
    next_allowed front [] run allowed = tt
    next_allowed front (act ∷ back) run allowed =
        let sound = run_sound rules keep front (allowed_parts rules HasMessage empty front (act ∷ back) run).0 in
        let there : last_state rules (front ++ act ∷ []) ≡ after_act rules (last_state rules front) act = after-append rules empty front (act ∷ []) in
        let later = next_allowed (front ++ act ∷ []) back (subst (IsAnyRun rules) (sym (append_assoc front (act ∷ []) back)) run) (subst (λ s. AreAllowed IsEligible rules s back) (sym there) allowed.1) in
        (next_of (last_state rules front) act sound allowed.0, subst (λ s. AreAllowed MayComeNext rules s back) there later)

    pub run_is_ordered : (acts : List Act) → IsRun rules acts → IsOrderedRun rules acts
    run_is_ordered acts run = next_allowed [] acts (any_order rules acts run) run
