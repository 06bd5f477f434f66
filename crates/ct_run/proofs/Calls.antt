-- A call, and a canister that is made by two of them.
use Rattle.std.proofs.Common.{◌≡◌, ◌<◌, ◌≤◌, ℕ, Bool, true, false, cond, List, length, Option, Some, None, refl, sym, ap, ◌∙◌, subst, inl, inr, nat_lt, arith}
use Rattle.std.specs.List.{concat}
use Rattle.std.proofs.lemmas.Bool.{cases_Bool, ltb-true, ltb-false}
use Rattle.ic_base.proofs.Steps.{some_is}
use Rattle.ic_behaviour.specs.State.{State}
use Rattle.ic_behaviour.specs.Steps.{along}
use Rattle.ic_behaviour.specs.Round.{rounds}
use Rattle.ic_behaviour.specs.declared.charge.Charge.{Charge}
use Rattle.ic_behaviour.specs.declared.install.Mode.TheVariants.{Install}
use Rattle.ic_behaviour.proofs.RunLaws.{after_delivers, after-append}
use Rattle.ic_script.specs.declared.Ask.{Ask}
use Rattle.ic_asking.specs.Asking.{accepts_now}
use Rattle.ct_outcomes.specs.declared.came.Came.{Came}
use Rattle.ct_outcomes.specs.declared.came.Came.TheVariants.{Refused, TooManyCalls}
use Rattle.ct_asked.specs.declared.asked.Asked.TheVariants.{Call}
use Rattle.ct_asked.specs.Asked.{unless_too_long}
use Rattle.ct_asked.specs.Requests.{Code, creating, installing}
use Rattle.ct_run.specs.Called.{Doing, rules_of, most_calls, most_rounds, nothing, came_now, acts_of_rounds, acts_of_call, with_call, if_accepted, accepted_call, called, doing, after_acts}
use Rattle.ct_run.specs.Created.{Making, canister_of, not_made, then_installed, making}

module _ (charge : Charge) (s : State) where
  -- the state after all rounds, as deliveries one after another
  pub after_rounds : along (rules_of charge) s (concat (rounds (rules_of charge) most_rounds s)) ≡ after_acts charge s (acts_of_rounds charge s)
  unfolding acts_of_rounds
  after_rounds = sym (after_delivers (rules_of charge) s (concat (rounds (rules_of charge) most_rounds s)))

  -- what was done is what this doing says
  abbrev pub IsDone : Doing → State → Came → Type 0
  IsDone d end came = (end ≡ after_acts charge s d.acts) × (came ≡ d.came)

  module _ (ask : Ask) where
    -- a call is submitted, or it is not, as its callee answers
    pub submit_accepted : (end : State) (number : ℕ) → accepts_now charge.limit charge.price s ask ≡ true → end ≡ with_call s ask → number ≡ length s.requests
        → ◌≡◌ {A = State × Option ℕ} (end, Some number) (if_accepted charge s ask)
    submit_accepted end number go made counted = rw (go, made, counted) refl

    pub submit_refused : (end : State) → accepts_now charge.limit charge.price s ask ≡ false → end ≡ s → ◌≡◌ {A = State × Option ℕ} (end, None) (if_accepted charge s ask)
    submit_refused end stays same = rw (stays, same) refl

    pub call_accepted : length s.requests < most_calls → (t : State) (number : ℕ) → ◌≡◌ {A = State × Option ℕ} (t, Some number) (if_accepted charge s ask)
        → (end : State) (came : Came) → end ≡ after_acts charge t (acts_of_rounds charge t) → came ≡ came_now number end → IsDone (called charge s ask) end came
    unfolding called
    call_accepted few t number is end came at told =
        elim (cases_Bool (nat_lt (length s.requests) most_calls)) [
          | inl now ↦ rw now (by (accepts_now charge.limit charge.price s ask) is)
          | inr many ↦ absurd (omega (arith, few, ltb-false _ _ many))
        ]
      where
        by : (accepted : Bool) → ◌≡◌ {A = State × Option ℕ} (t, Some number) (cond accepted (with_call s ask, Some (length s.requests)) (s, None))
            → IsDone (cond accepted (accepted_call charge s ask) (nothing Refused)) end came
        by true e =
            let same : t ≡ with_call s ask = ap (λ (p : State × Option ℕ). p.0) e in
            let counted : number ≡ length s.requests = some_is number (length s.requests) (ap (λ (p : State × Option ℕ). p.1) e) in
            let there : end ≡ after_acts charge s (acts_of_call charge s ask) = at ∙ ap (λ (u : State). after_acts charge u (acts_of_rounds charge u)) same in
            (there, told ∙ ap (λ (n : ℕ). came_now n end) counted ∙ ap (λ (u : State). came_now (length s.requests) u) there)
        by false e = absurd (let bad : Some number ≡ None = ap (λ (p : State × Option ℕ). p.1) e in cc)

    pub call_refused : length s.requests < most_calls → (t : State) → ◌≡◌ {A = State × Option ℕ} (t, None) (if_accepted charge s ask) → IsDone (called charge s ask) t Refused
    unfolding called
    call_refused few t is =
        elim (cases_Bool (nat_lt (length s.requests) most_calls)) [
          | inl now ↦ rw now (by (accepts_now charge.limit charge.price s ask) is)
          | inr many ↦ absurd (omega (arith, few, ltb-false _ _ many))
        ]
      where
        by : (accepted : Bool) → ◌≡◌ {A = State × Option ℕ} (t, None) (cond accepted (with_call s ask, Some (length s.requests)) (s, None))
            → IsDone (cond accepted (accepted_call charge s ask) (nothing Refused)) t Refused
        by true e = absurd (let bad : None ≡ Some (length s.requests) = ap (λ (p : State × Option ℕ). p.1) e in cc)
        by false e = (ap (λ (p : State × Option ℕ). p.0) e, refl)

    pub call_too_many : most_calls ≤ length s.requests → IsDone (called charge s ask) s TooManyCalls
    unfolding called
    call_too_many many =
        elim (cases_Bool (nat_lt (length s.requests) most_calls)) [
          | inl now ↦ absurd (omega (arith, many, ltb-true _ _ now))
          | inr none ↦ rw none (refl, refl)
        ]

  module _ (maker : List ℕ × Code) (cycles : Option ℕ) where
    abbrev first : Doing
    first = doing charge s (unless_too_long Call (creating maker.0 cycles))

    abbrev IsMade : Making → State → Option (List ℕ) → Came → Type 0
    IsMade m end canister came = (end ≡ after_acts charge s m.acts) × (canister ≡ m.canister) × (came ≡ m.came)

    pub made_none : (t : State) (came : Came) → IsDone first t came → canister_of came ≡ None → IsMade (making charge s maker cycles) t None (not_made came)
    unfolding making
    made_none t came done none =
        let P = λ (o : Option (List ℕ)). IsMade (then_installed charge s maker first o) t None (not_made came) in
        subst P (sym none ∙ ap canister_of done.1) (done.0, refl, ap not_made done.1)

    pub made_some : (t : State) (came : Came) (id : List ℕ) → IsDone first t came → canister_of came ≡ Some id → (end : State) (last : Came)
        → (end ≡ after_acts charge t (doing charge t (unless_too_long Call (installing maker.0 id Install maker.1))).acts) × (last ≡ (doing charge t (unless_too_long Call (installing maker.0 id Install maker.1))).came)
        → IsMade (making charge s maker cycles) end (Some id) last
    unfolding making
    made_some t came id done named end last second =
        let P = λ (o : Option (List ℕ)). IsMade (then_installed charge s maker first o) end (Some id) last in
        let ask = unless_too_long Call (installing maker.0 id Install maker.1) in
        let Q = λ (u : State). (end ≡ after_acts charge u (doing charge u ask).acts) × (last ≡ (doing charge u ask).came) in
        let there = subst Q done.0 second in
        subst P (sym named ∙ ap canister_of done.1)
        (there.0 ∙ sym (after-append (rules_of charge) s first.acts (doing charge (after_acts charge s first.acts) ask).acts), refl, there.1)
