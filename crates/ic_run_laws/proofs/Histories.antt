-- The laws of runs.
use Rattle.std.proofs.Common.{◌≡◌, ℕ, zero, suc, ◌<◌, ◌≤◌, ◌⊎◌, List, [], ◌∷◌, ◌++◌, map, length, length-append, slice_get, Option, Some, None, refl, sym, ap, ◌∙◌, subst, arith, inl, inr, not-suc-le-zero, MatchOption}
use Rattle.std.specs.List.{flat_map}
use Rattle.std.proofs.lemmas.Bool.{cases_lt}
use Rattle.std.proofs.lemmas.List.Sums.{fold-append}
use Rattle.ic_behaviour.specs.declared.call.CallId.{CallId}
use Rattle.ic_behaviour.specs.declared.call.CallId.TheVariants as call_id
use Rattle.ic_behaviour.specs.declared.call.Message.{Message}
use Rattle.ic_behaviour.specs.declared.call.Message.TheVariants.{Call, Answer}
use Rattle.ic_behaviour.specs.declared.request.Request.{Request}
use Rattle.ic_behaviour.specs.Totals.{total, one}
use Rattle.ic_behaviour.specs.State.{callee_of, State}
use Rattle.ic_behaviour.specs.Items.{item_of, items_at, items, bears, mentions, answered, is_answered, places, Given}
use Rattle.ic_behaviour.specs.Sound.{Sound}
use Rattle.ic_behaviour.specs.Submitted.{empty, submitted, timed}
use Rattle.ic_behaviour.specs.Deliver.{deliver}
use Rattle.ic_behaviour.proofs.Weights.{total-append, total-map, total-below, bears-mentions}
use Rattle.ic_behaviour.proofs.Ties.{tallied, sound as sound_from}
use Rattle.ic_behaviour.proofs.Changes.{empty_tallied, submitted_tallied, submit_places, timed_tallied}
use Rattle.ic_run_laws.specs.Advances.{ends, Advances}
use Rattle.ic_behaviour.specs.Steps.{Rules}
use Rattle.ic_behaviour.specs.Runs.{Act, Delivers, Submits, SetsTime, after_act, after, HasMessage, IsAllowed, AreAllowed, IsAnyRun, last_state}
use Rattle.ic_run_laws.specs.RulesKeep.{RulesKeep, AnswersCall}
use Rattle.ic_run_laws.proofs.Fills.{total-remove}
use Rattle.ic_run_laws.proofs.Delivers.{deliver_advances, deliver_none}

-- one act, or more: what was given stays so, and has no more places than before
pub record Acted (s t : State) : Type 0 where
  pub sound : Sound t
  pub given : (id : CallId) → Given s id → Given t id
  pub fewer : (id : CallId) → Given s id → places t id ≤ places s id

answered-past : (rs : List Request) (k : ℕ) → length rs ≤ k → one (is_answered (slice_get rs k)) ≡ 0
answered-past [] k h = refl
answered-past (r ∷ rs) zero h = let none : 0 < 0 = omega (arith, h) in absurd (not-suc-le-zero none)
answered-past (r ∷ rs) (suc k) h = answered-past rs k (omega (arith, h))

-- what has a place was made
placed_given : (s : State) → Sound s → (id : CallId) → 0 < places s id → Given s id
placed_given s sound id some = by (total (bears id) (items s)) refl id refl where
  by : (m : ℕ) → total (bears id) (items s) ≡ m → (i : CallId) → id ≡ i → Given s id
  by (suc m) e i is = sound.calls.given id (omega (arith, e, total-below (bears id) (mentions id) (bears-mentions id) (items s)))
  by zero e (call_id.Canister caller n) is = let none : 0 < 0 = omega (arith, some, e, ap (answered s.requests) is) in absurd (not-suc-le-zero none)
  by zero e (call_id.Ingress k) is = subst (Given s) (sym is) (in_range (cases_lt k (length s.requests))) where
    in_range : (k < length s.requests) ⊎ (length s.requests ≤ k) → k < length s.requests
    in_range (inl h) = h
    in_range (inr h) = let none : 0 < 0 = omega (arith, some, e, ap (answered s.requests) is, answered-past s.requests k h) in absurd (not-suc-le-zero none)

submit_given : (s : State) (sender callee method arg : List ℕ) (id : CallId) → Given s id → Given (submitted s sender callee method arg) id
submit_given s sender callee method arg (call_id.Ingress k) g =
    omega (arith, g, length-append s.requests ((record { sender = sender; callee = callee; method = method; arg = arg; time = s.time; answer = None }) ∷ []))
submit_given s sender callee method arg (call_id.Canister caller n) g = g

timed_given : (s : State) (time : ℕ) (id : CallId) → Given s id → Given (timed s time) id
timed_given s time (call_id.Ingress k) g = g
timed_given s time (call_id.Canister caller n) g = g

module _ (rules : Rules) where
  -- a list of acts in two parts
  pub allowed_parts : (may : State → ℕ → Type 0) (s : State) (front back : List Act) → AreAllowed may rules s (front ++ back) → AreAllowed may rules s front × AreAllowed may rules (after rules s front) back
  allowed_parts may s [] back allowed = (tt, allowed)
  allowed_parts may s (act ∷ front) back allowed = let rest = allowed_parts may (after_act rules s act) front back allowed.1 in ((allowed.0, rest.0), rest.1)

  split_state : (s : State) (front back : List Act) (id : CallId) → places (after rules s (front ++ back)) id ≡ places (after rules (after rules s front) back) id
  split_state s front back id = ap (λ (u : State). places u id) (fold-append (after_act rules) s front back)

  module _ (keep : RulesKeep rules) where
    delivery : (s : State) (place : ℕ) (m : Message) → Sound s → slice_get s.messages place ≡ Some m → Advances s (after_act rules s (Delivers place)) (callee_of m) (ends m)
    delivery s place m sound is_m = deliver_advances rules.enters keep.entries rules.outside keep.outside rules.limit rules.price s place (tallied s sound) m is_m

    acted : (s : State) (act : Act) → Sound s → IsAllowed HasMessage s act → Acted s (after_act rules s act)
    acted s (Delivers place) sound allowed = by (slice_get s.messages place) refl where
      by : (o : Option Message) → slice_get s.messages place ≡ o → Acted s (deliver rules.enters rules.outside rules.limit rules.price s place)
      by (Some m) e =
          let f = delivery s place m sound e in
          record { sound = f.sound; given = f.given; fewer = λ id g. omega (arith, f.placed id g) }
      by None e = subst (Acted s) (sym (deliver_none rules.enters rules.outside rules.limit rules.price s place e)) (record { sound = sound; given = λ id g. g; fewer = λ id g. omega arith })
    acted s (Submits sender callee method arg) sound allowed = record {
      sound = sound_from (submitted s sender callee method arg) (submitted_tallied s sender callee method arg (tallied s sound) allowed);
      given = submit_given s sender callee method arg;
      fewer = λ id g. omega (arith, submit_places s sender callee method arg (tallied s sound) allowed id g);
    }
    acted s (SetsTime time) sound allowed = record { sound = sound_from (timed s time) (timed_tallied s time (tallied s sound) allowed.0 allowed.1); given = timed_given s time; fewer = λ id g. omega arith }

    all_acted : (s : State) (acts : List Act) → Sound s → AreAllowed HasMessage rules s acts → Acted s (after rules s acts)
    all_acted s [] sound allowed = record { sound = sound; given = λ id g. g; fewer = λ id g. omega arith }
    all_acted s (act ∷ acts) sound allowed =
        let first = acted s act sound allowed.0 in
        let later = all_acted (after_act rules s act) acts first.sound allowed.1 in
        record { sound = later.sound; given = λ id g. later.given id (first.given id g); fewer = λ id g. omega (arith, first.fewer id g, later.fewer id (first.given id g)) }

    -- a place ends with nothing but the delivery of the answer
    ends_by : (s : State) (act : Act) → Sound s → IsAllowed HasMessage s act → (id : CallId) → places s id ≡ 1 → places (after_act rules s act) id ≡ 0 → (place : ℕ) × (act ≡ Delivers place) × AnswersCall s place id
    ends_by s (Delivers place) sound allowed id one_before none_after = (place, refl, by (slice_get s.messages place) refl) where
      by : (o : Option Message) → slice_get s.messages place ≡ o → MatchOption o ⊥ (λ m. ends m id ≡ 1)
      by (Some m) e =
          let f = delivery s place m sound e in
          omega (arith, f.placed id (placed_given s sound id (omega (arith, one_before))), one_before, none_after)
      by None e =
          let none : 0 < 0 = omega (arith, one_before, none_after, ap (λ (u : State). places u id) (deliver_none rules.enters rules.outside rules.limit rules.price s place e)) in absurd (not-suc-le-zero none)
    ends_by s (Submits sender callee method arg) sound allowed id one_before none_after =
        let none : 0 < 0 = omega (arith, one_before, none_after, submit_places s sender callee method arg (tallied s sound) allowed id (placed_given s sound id (omega (arith, one_before)))) in absurd (not-suc-le-zero none)
    ends_by s (SetsTime time) sound allowed id one_before none_after = let none : 0 < 0 = omega (arith, one_before, none_after) in absurd (not-suc-le-zero none)

    -- and that delivery ends it
    answer_ends : (s : State) (place : ℕ) → Sound s → (id : CallId) → AnswersCall s place id
        → (places s id ≡ 1) × (places (after_act rules s (Delivers place)) id ≡ 0) × Given s id
    answer_ends s place sound id answers_call = by (slice_get s.messages place) refl answers_call where
      by : (o : Option Message) → slice_get s.messages place ≡ o → MatchOption o ⊥ (λ m. ends m id ≡ 1) → (places s id ≡ 1) × (places (after_act rules s (Delivers place)) id ≡ 0) × Given s id
      by None e h = absurd h
      by (Some (Call from sender callee method arg cycles)) e h = let none : 0 < 0 = omega (arith, h) in absurd (not-suc-le-zero none)
      by (Some (Answer from sender response refund)) e h =
          let named : 0 < total (mentions id) (items s) = omega (
            arith,
            h,
            total-append (mentions id) (map item_of s.messages) (flat_map items_at s.canisters),
            total-map item_of (mentions id) s.messages,
            total-remove (λ n. mentions id (item_of n)) s.messages place (Answer from sender response refund) e,
          ) in
          let g = sound.calls.given id named in
          let f = delivery s place (Answer from sender response refund) sound e in
          (omega (arith, f.placed id g, h, sound.calls.one_place id), omega (arith, f.placed id g, h, sound.calls.one_place id), g)

    -- from the empty state

    pub run_sound : (acts : List Act) → IsAnyRun rules acts → Sound (last_state rules acts)
    run_sound acts run = (all_acted empty acts (sound_from empty empty_tallied) run).sound

    pub run_consecutive : (front middle back : List Act) (id : CallId) → IsAnyRun rules (front ++ (middle ++ back)) → places (last_state rules front) id ≡ 1
        → places (last_state rules (front ++ (middle ++ back))) id ≡ 1 → places (last_state rules (front ++ middle)) id ≡ 1
    run_consecutive front middle back id run first last =
        let s : State = last_state rules front in
        let parts = allowed_parts HasMessage empty front (middle ++ back) run in
        let sound = run_sound front parts.0 in
        let rest = allowed_parts HasMessage s middle back parts.1 in
        let there = all_acted s middle sound rest.0 in
        let ending = all_acted (after rules s middle) back there.sound rest.1 in
        let g = placed_given s sound id (omega (arith, first)) in
        omega (
          arith,
          first,
          last,
          there.fewer id g,
          ending.fewer id (there.given id g),
          split_state empty front (middle ++ back) id,
          split_state s middle back id,
          split_state empty front middle id,
        )

    pub run_ends : (acts : List Act) (act : Act) (id : CallId) → IsAnyRun rules (acts ++ act ∷ []) → places (last_state rules acts) id ≡ 1
        → places (last_state rules (acts ++ act ∷ [])) id ≡ 0 → (place : ℕ) × (act ≡ Delivers place) × AnswersCall (last_state rules acts) place id
    run_ends acts act id run first last =
        let parts = allowed_parts HasMessage empty acts (act ∷ []) run in
        ends_by (last_state rules acts) act (run_sound acts parts.0) parts.1.0 id first (sym (split_state empty acts (act ∷ []) id) ∙ last)

    pub run_answered : (front back : List Act) (place : ℕ) (id : CallId) → IsAnyRun rules (front ++ Delivers place ∷ back) → AnswersCall (last_state rules front) place id
        → (places (last_state rules front) id ≡ 1) × (places (last_state rules (front ++ Delivers place ∷ back)) id ≡ 0)
    run_answered front back place id run answers_call =
        let s : State = last_state rules front in
        let parts = allowed_parts HasMessage empty front (Delivers place ∷ back) run in
        let sound = run_sound front parts.0 in
        let first = answer_ends s place sound id answers_call in
        let step = acted s (Delivers place) sound parts.1.0 in
        let later = all_acted (after_act rules s (Delivers place)) back step.sound parts.1.1 in
        (first.0, omega (arith, first.1, later.fewer id (step.given id first.2), split_state empty front (Delivers place ∷ back) id))
