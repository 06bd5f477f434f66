-- A test goes on, part after part.
use Rattle.std.proofs.Common.{◌≡◌, ℕ, zero, suc, ◌+◌, ◌<◌, ◌≤◌, Bool, true, false, List, [], ◌∷◌, ◌++◌, length, take, map, Option, Some, None, refl, sym, ap, ◌∙◌, subst, append_assoc, inl, inr, arith}
use Rattle.std.specs.Prelude.{All}
use Rattle.std.specs.Bool.{OnTrue, OnFalse}
use Rattle.std.specs.List.{Any}
use Rattle.std.proofs.lemmas.Bool.{cases_lt}
use Rattle.std.proofs.lemmas.List.{length-append}
use Rattle.ic_behaviour.specs.State.{State}
use Rattle.ic_behaviour.specs.Runs.{Act}
use Rattle.ic_behaviour.specs.Submitted.{empty}
use Rattle.ct_check.specs.Moving.{Moving}
use Rattle.ct_check.specs.declared.checked.CheckedKind.{CheckedKind}
use Rattle.ct_check.specs.declared.checked.CheckedStep.{CheckedStep}
use Rattle.ct_check.specs.declared.checked.CheckedStep.TheVariants.{Statement, Interleave}
use Rattle.ct_outcomes.specs.declared.named.Named.{Named}
use Rattle.ct_outcomes.specs.declared.came.Came.{Came as What}
use Rattle.ct_run.specs.Called.{after_acts}
use Rattle.ct_run.specs.Statements.{Setting, IsMet, first_names}
use Rattle.ct_run.specs.Runs.{Runs, Stops}
use Rattle.ct_run.proofs.One.{MeetsOnce, met_once}
use Rattle.ct_cases.specs.Interleaves.{IsOnWay, CallsAreMet}
use Rattle.ct_cases.specs.Meanings.{Meaning}
use Rattle.ct_cases.specs.Reached.{Reached}
use Rattle.ct_orders.specs.Ways.{Comes, begins, states, leaves}
use Rattle.ct_cases.specs.Holding.{CanBegin, HoldsTo}
use Rattle.ct_orders.specs.Verdicts.{OnEachWayTo, AllHolds, Holds, HoldsBefore, IsAt, Passes, Fails, FailsFirst, IsStart}
use Rattle.ct_orders.specs.Verdicts as fails
use Rattle.ct_orders.specs.declared.verdict.TooMany.{TooMany}
use Rattle.ct_cases.specs.Cases.{first_case, AreAfter, IsUnmetIn, AreBegun, Begins, IsStuckIn, IsRefutedFrom, HoldsToFrom, IsBehind, HasCase, HoldsFrom, HasMore, Leads}
use Rattle.ct_orders.specs.Course.{first_undecided, HadTooMany, IsWhole, IsDecided, IsSoFar}
use Rattle.ct_cases.proofs.Lists.{any_first, any_later, any_split, all_as, all_first, all_later, all_none, all_cons, front_is, none_of, found}
use Rattle.ct_orders.proofs.Parts.{Came, at_first, by_statement, by_interleave, came, one_left, few_left}

module _ (setting : Setting) (most : ℕ) (steps : List CheckedStep) where
  abbrev pub Reaches : List CheckedStep → Reached → Type 0
  Reaches left c = Comes setting steps c.state c.names left c.order

  -- one part more is done
  parts_more : (done : List CheckedStep) (step : CheckedStep) (left : List CheckedStep) → steps ≡ done ++ step ∷ left → steps ≡ (done ++ step ∷ []) ++ left
  parts_more done step left parts = parts ∙ sym (append_assoc done (step ∷ []) left)

  -- it is not the first of the parts
  not_first : (done : List CheckedStep) (step : CheckedStep) (left : List CheckedStep) → steps ≡ done ++ step ∷ left → left ≡ steps → ⊥
  not_first done step left parts same = omega (arith, ap length parts, ap length same, length-append done (step ∷ left))

  -- the one before these is this one
  one_before : (done : List CheckedStep) (step other : CheckedStep) (left : List CheckedStep) {s : State} {names : List Named} {order : List ℕ}
      → steps ≡ done ++ step ∷ left → Comes setting steps s names (other ∷ left) order → other ≡ step
  one_before done step other left parts comes =
      let same : other ∷ left ≡ step ∷ left = one_left setting steps done (step ∷ left) parts comes refl in
      cc

  -- ---- the start

  pub at_start : IsSoFar setting most steps steps (first_case empty first_names ∷ []) None
  at_start = record {
    done = [];
    parts = refl;
    sound = all_cons (Reaches steps) (first_case empty first_names) [] begins (all_none (Reaches steps));
    decided = record {
      comes = λ s names order comes. start s names (came setting steps comes);
      longest = 0;
      before = λ s names rest order comes more. absurd (omega (arith, more, few_left setting steps comes));
    };
  }
    where
      start : (s : State) (names : List Named) → Came setting steps s names steps → HasCase (first_case empty first_names ∷ []) s names
      start s names (at_first state named same) =
          any_first (λ (c : Reached). (c.state ≡ s) × (c.names ≡ names)) (first_case empty first_names) [] (sym state, sym named)
      start s names (by_statement before known bound statement order acts comes met state named) = absurd (omega (arith, few_left setting steps comes))
      start s names (by_interleave before known bound moves numbers order more comes way ended met named) = absurd (omega (arith, few_left setting steps comes))

  -- ---- what holds of an interleave holds with a longer order

  holds_longer : (longest more : ℕ) (s : State) (names : List Named) (left : List CheckedStep) → Holds setting longest s names left → Holds setting (longest + more) s names left
  holds_longer longest more s names [] holds = tt
  holds_longer longest more s names (Statement statement ∷ left) holds = holds
  holds_longer longest more s names (Interleave moves ∷ left) holds = record {
    begins = holds.begins;
    queries = holds.queries;
    calls = holds.calls;
    ends = λ numbers order t way. let few = holds.ends numbers order t way in omega (arith, few);
  }

  -- ---- all that comes before holds

  module _ (left : List CheckedStep) (cs : List Reached) (place : ℕ) (at : IsAt steps place left) where
    held_before : (undecided : Option TooMany) → IsDecided setting most steps left cs undecided → HoldsBefore setting most steps place
    held_before None whole =
        inl (whole.longest, λ s names rest order comes more. whole.before s names rest order comes (omega (arith, at, more)))
    held_before (Some first) (rest, moves, more, within, there) = inr (rest, moves, more, omega (arith, at, within))

    pub fails_first : (undecided : Option TooMany) (order : List ℕ) (names : List Named) (came : What) → IsSoFar setting most steps left cs undecided
        → Fails setting most steps place order names came → FailsFirst setting most steps place order names came
    fails_first undecided order names came so_far fails = record { fails = fails; before = held_before undecided so_far.decided }

  -- ---- a statement

  module _ (statement : CheckedKind) (left : List CheckedStep) where
    after_sound : (cs ds : List Reached) → AreAfter setting statement cs ds → All (Reaches (Statement statement ∷ left)) cs → All (Reaches left) ds
    after_sound [] [] after sound = all_none (Reaches left)
    after_sound (c ∷ cs) (d ∷ ds) after sound =
        let R = Reaches (Statement statement ∷ left) in
        let is = after.0 in
        let there = states c.state c.names is.bound statement left c.order is.acts (all_first R c cs sound) is.met in
        all_cons (Reaches left) d ds
        (subst (λ (s : State). Comes setting steps s d.names left d.order) (sym is.state)
        (subst (λ (ns : List Named). Comes setting steps (after_acts setting.charge c.state is.acts) ns left d.order) (sym is.names)
        (subst (λ (o : List ℕ). Comes setting steps (after_acts setting.charge c.state is.acts) (c.names ++ is.bound) left o) (sym is.order) there)))
        (after_sound cs ds after.1 (all_later R c cs sound))
    after_sound [] (d ∷ ds) after sound = absurd after
    after_sound (c ∷ cs) [] after sound = absurd after

    -- where the case with this state and these names goes
    record Gone (ds : List Reached) (s : State) (names : List Named) : Type 0 where
      acts : List Act
      bound : List Named
      met : IsMet setting s names statement acts bound
      case : HasCase ds (after_acts setting.charge s acts) (names ++ bound)

    gone : (cs ds : List Reached) (s : State) (names : List Named) → AreAfter setting statement cs ds → HasCase cs s names → Gone ds s names
    gone [] ds s names after has = absurd (none_of (λ (c : Reached). (c.state ≡ s) × (c.names ≡ names)) has)
    gone (c ∷ cs) [] s names after has = absurd after
    gone (c ∷ cs) (d ∷ ds) s names after has =
        any_split (λ (x : Reached). (x.state ≡ s) × (x.names ≡ names)) {C = Gone (d ∷ ds) s names} c cs has
        (λ here.
        let is = after.0 in record {
          acts = is.acts;
          bound = is.bound;
          met = subst (λ (x : State). IsMet setting x names statement is.acts is.bound) here.0 (subst (λ (ns : List Named). IsMet setting c.state ns statement is.acts is.bound) here.1 is.met);
          case =
              any_first (λ (x : Reached). (x.state ≡ after_acts setting.charge s is.acts) × (x.names ≡ names ++ is.bound)) d ds
              (is.state ∙ ap (λ (x : State). after_acts setting.charge x is.acts) here.0, is.names ∙ ap (λ (ns : List Named). ns ++ is.bound) here.1);
        })
        (λ there.
        let g = gone cs ds s names after.1 there in record {
          acts = g.acts;
          bound = g.bound;
          met = g.met;
          case = any_later (λ (x : Reached). (x.state ≡ after_acts setting.charge s g.acts) × (x.names ≡ names ++ g.bound)) d ds g.case;
        })

    module _ (meeting_once : MeetsOnce) (done : List CheckedStep) (parts : steps ≡ done ++ Statement statement ∷ left) (cs ds : List Reached) (after : AreAfter setting statement cs ds)
        (so_far : IsWhole setting steps (Statement statement ∷ left) cs) where
      comes_after : (s : State) (names : List Named) → Came setting steps s names left → HasCase ds s names
      comes_after s names (at_first state named same) = absurd (not_first done (Statement statement) left parts same)
      comes_after s names (by_statement before known bound other order acts comes met state named) =
          let part : Statement other ≡ Statement statement = one_before done (Statement statement) (Statement other) left parts comes in
          let same : other ≡ statement = cc in
          let here = subst (λ (k : CheckedKind). Comes setting steps before known (Statement k ∷ left) order) same comes in
          let g = gone cs ds before known after (so_far.comes before known order here) in
          let once = met_once meeting_once setting before known statement g.acts acts g.bound bound g.met (subst (λ (k : CheckedKind). IsMet setting before known k acts bound) same met) in
          subst (λ (x : State). HasCase ds x names) (ap (after_acts setting.charge before) once.0 ∙ sym state)
          (subst (λ (ns : List Named). HasCase ds (after_acts setting.charge before g.acts) ns) (ap (λ (b : List Named). known ++ b) once.1 ∙ sym named) g.case)
      comes_after s names (by_interleave before known bound moves numbers order more comes way ended met named) =
          let part : Interleave moves ≡ Statement statement = one_before done (Statement statement) (Interleave moves) left parts comes in
          cc

      holds_before : (s : State) (names : List Named) (rest : List CheckedStep) (order : List ℕ) → Comes setting steps s names rest order → length left < length rest → Holds setting so_far.longest s names rest
      holds_before s names rest order comes more =
          elim (cases_lt (suc (length left)) (length rest)) [
            | inl less ↦ so_far.before s names rest order comes less
            | inr not ↦
                let same = one_left setting steps done (Statement statement ∷ left) parts comes (omega (arith, more, not)) in
                let here = subst (λ (l : List CheckedStep). Comes setting steps s names l order) same comes in
                let g = gone cs ds s names after (so_far.comes s names order here) in
                subst (Holds setting so_far.longest s names) (sym same) (g.acts, g.bound, g.met)
          ]

      pub whole_after : IsWhole setting steps left ds
      whole_after = record {
        comes = λ s names order comes. comes_after s names (came setting steps comes);
        longest = so_far.longest;
        before = holds_before;
      }

    decided_after : MeetsOnce → (done : List CheckedStep) → steps ≡ done ++ Statement statement ∷ left → (cs ds : List Reached) → AreAfter setting statement cs ds
        → (undecided : Option TooMany) → IsDecided setting most steps (Statement statement ∷ left) cs undecided → IsDecided setting most steps left ds undecided
    decided_after meeting_once done parts cs ds after None decided = whole_after meeting_once done parts cs ds after decided
    decided_after meeting_once done parts cs ds after (Some first) (rest, moves, more, within, there) = (rest, moves, more, omega (arith, within), there)

    pub statement_goes_on : MeetsOnce → (cs ds : List Reached) (undecided : Option TooMany) → IsSoFar setting most steps (Statement statement ∷ left) cs undecided → AreAfter setting statement cs ds
        → IsSoFar setting most steps left ds undecided
    statement_goes_on meeting_once cs ds undecided so_far after = record {
      done = so_far.done ++ Statement statement ∷ [];
      parts = parts_more so_far.done (Statement statement) left so_far.parts;
      sound = after_sound cs ds after so_far.sound;
      decided = decided_after meeting_once so_far.done so_far.parts cs ds after undecided so_far.decided;
    }

    pub statement_fails : (cs : List Reached) (undecided : Option TooMany) (place : ℕ) (order : List ℕ) (names : List Named) (came : What) → IsSoFar setting most steps (Statement statement ∷ left) cs undecided
        → IsAt steps place (Statement statement ∷ left) → Any (IsUnmetIn setting statement order names came) cs → FailsFirst setting most steps place order names came
    statement_fails cs undecided place order names came so_far at some =
        fails_first (Statement statement ∷ left) cs place at undecided order names came so_far
        (let it = found (Reaches (Statement statement ∷ left)) (IsUnmetIn setting statement order names came) cs so_far.sound some in
        let c = it.0 in let unmet = it.2 in
        subst (λ (o : List ℕ). Fails setting most steps place o names came) (sym unmet.same_order)
        (subst (λ (ns : List Named). Fails setting most steps place c.order ns came) (sym unmet.same_names)
        (fails.statement c.state c.names statement left place c.order came it.1 at unmet.unmet)))

  -- ---- an interleave

  module _ (moves : List Moving) (left : List CheckedStep) where
    behind_sound : (cs ends : List Reached) → All (Reaches (Interleave moves ∷ left)) cs → All (λ (e : Reached). Any (λ (c : Reached). IsBehind setting moves c e) cs) ends → All (Reaches left) ends
    behind_sound cs ends sound behind =
        all_as {P = λ (e : Reached). Any (λ (c : Reached). IsBehind setting moves c e) cs} {Q = Reaches left}
        (λ e some.
        let it = found (Reaches (Interleave moves ∷ left)) (λ (c : Reached). IsBehind setting moves c e) cs sound some in
        let c = it.0 in let is = it.2 in
        let there = leaves c.state e.state c.names is.bound moves is.numbers left c.order is.more it.1 is.way is.ended is.met in
        subst (λ (ns : List Named). Comes setting steps e.state ns left e.order) (sym is.names)
        (subst (λ (o : List ℕ). Comes setting steps e.state (c.names ++ is.bound) left o) (sym is.order) there)) ends behind

    starts_begun : (meanings : List Meaning) (cs : List Reached) (starts : List (ℕ × State)) → All (Reaches (Interleave moves ∷ left)) cs → AreBegun setting moves meanings cs starts
        → All (IsStart setting steps left moves meanings) starts
    starts_begun meanings [] [] sound begun = all_none (IsStart setting steps left moves meanings)
    starts_begun meanings (c ∷ cs) (start ∷ starts) sound begun =
        let R = Reaches (Interleave moves ∷ left) in
        all_cons (IsStart setting steps left moves meanings) start starts (record { case = c; comes = all_first R c cs sound; begun = begun.0 })
        (starts_begun meanings cs starts (all_later R c cs sound) begun.1)
    starts_begun meanings [] (start ∷ starts) sound begun = absurd begun
    starts_begun meanings (c ∷ cs) [] sound begun = absurd begun

    -- more cases than that can be met in it
    too_many : (cs : List Reached) (part : ℕ) → IsAt steps part (Interleave moves ∷ left) → All (Reaches (Interleave moves ∷ left)) cs → HasMore setting moves most cs
        → HadTooMany setting most steps left part
    too_many cs part at sound more = (
      left,
      moves,
      record {
        meanings = more.meanings;
        apart = more.apart;
        starts = more.starts;
        begun = starts_begun more.meanings cs more.starts sound more.begun;
        more = more.more;
      },
      omega arith,
      at,
    )

    -- what holds from each case holds on each way that comes here
    each_way : (P : List Named → State → Type 0) (cs : List Reached) (place count : ℕ) → IsAt steps place (Interleave moves ∷ left) → place ≤ count → All (λ (c : Reached). P c.names c.state) cs
        → (undecided : Option TooMany) → IsDecided setting most steps (Interleave moves ∷ left) cs undecided → OnEachWayTo setting most steps moves left count P
    each_way P cs place count at few hold None whole =
        inl (λ s names order comes.
        let it = found (λ (c : Reached). P c.names c.state) (λ (c : Reached). (c.state ≡ s) × (c.names ≡ names)) cs hold (whole.comes s names order comes) in
        subst (λ (x : State). P names x) it.2.0 (subst (λ (ns : List Named). P ns it.0.state) it.2.1 it.1))
    each_way P cs place count at few hold (Some first) (rest, others, more, within, there) = inr (rest, others, more, omega (arith, at, few, within))

    module _ (done : List CheckedStep) (parts : steps ≡ done ++ Interleave moves ∷ left) (cs ends : List Reached) (longest : ℕ) (hold : All (HoldsFrom setting moves longest ends) cs)
        (so_far : IsWhole setting steps (Interleave moves ∷ left) cs) where
      -- what holds from the case with this state and these names
      holds_at : (s : State) (names : List Named) → HasCase cs s names → HoldsFrom setting moves longest ends (record { state = s; names = names; order = [] })
      holds_at s names has =
          let it = found (HoldsFrom setting moves longest ends) (λ (c : Reached). (c.state ≡ s) × (c.names ≡ names)) cs hold has in
          let is = it.1 in
          let at : HoldsFrom setting moves longest ends (record { state = it.0.state; names = it.0.names; order = [] }) =
          record { begins = is.begins; queries = is.queries; calls = is.calls; within = is.within; met = is.met } in
          subst (λ (x : State). HoldsFrom setting moves longest ends (record { state = x; names = names; order = [] })) it.2.0
          (subst (λ (ns : List Named). HoldsFrom setting moves longest ends (record { state = it.0.state; names = ns; order = [] })) it.2.1 at)

      comes_behind : (s : State) (names : List Named) → Came setting steps s names left → HasCase ends s names
      comes_behind s names (at_first state named same) = absurd (not_first done (Interleave moves) left parts same)
      comes_behind s names (by_statement before known bound other order acts comes met state named) =
          let part : Statement other ≡ Interleave moves = one_before done (Interleave moves) (Statement other) left parts comes in
          cc
      comes_behind s names (by_interleave before known bound others numbers order more comes way ended met named) =
          let part : Interleave others ≡ Interleave moves = one_before done (Interleave moves) (Interleave others) left parts comes in
          let same : others ≡ moves = cc in
          let here = subst (λ (ms : List Moving). Comes setting steps before known (Interleave ms ∷ left) order) same comes in
          let holds = holds_at before known (so_far.comes before known order here) in
          subst (HasCase ends s) (sym named)
          (holds.met numbers more s bound (subst (λ (ms : List Moving). IsOnWay setting known before ms numbers more s) same way) ended
          (subst (λ (ms : List Moving). CallsAreMet setting known s ms numbers bound) same met))

      all_before : (s : State) (names : List Named) (rest : List CheckedStep) (order : List ℕ) → Comes setting steps s names rest order → length left < length rest
          → Holds setting (so_far.longest + longest) s names rest
      all_before s names rest order comes more =
          elim (cases_lt (suc (length left)) (length rest)) [
            | inl less ↦ holds_longer so_far.longest longest s names rest (so_far.before s names rest order comes less)
            | inr not ↦
                let same = one_left setting steps done (Interleave moves ∷ left) parts comes (omega (arith, more, not)) in
                let here = subst (λ (l : List CheckedStep). Comes setting steps s names l order) same comes in
                let holds = holds_at s names (so_far.comes s names order here) in
                let all : AllHolds setting (so_far.longest + longest) s names moves = record {
                  begins = holds.begins;
                  queries = holds.queries;
                  calls = holds.calls;
                  ends = λ numbers o t way. let few = holds.within numbers o t way in omega (arith, few);
                } in
                subst (Holds setting (so_far.longest + longest) s names) (sym same) all
          ]

      pub whole_behind : IsWhole setting steps left ends
      whole_behind = record {
        comes = λ s names order comes. comes_behind s names (came setting steps comes);
        longest = so_far.longest + longest;
        before = all_before;
      }

    decided_behind : (done : List CheckedStep) → steps ≡ done ++ Interleave moves ∷ left → (cs ends : List Reached) → All (Reaches (Interleave moves ∷ left)) cs
        → (undecided : Option TooMany) (all : Bool) (here : TooMany) → IsAt steps here.part (Interleave moves ∷ left) → IsDecided setting most steps (Interleave moves ∷ left) cs undecided
        → Leads setting moves most cs ends all → IsDecided setting most steps left ends (first_undecided undecided all here)
    decided_behind done parts cs ends sound (Some first) all here at (rest, others, more, within, there) leads = (rest, others, more, omega (arith, within), there)
    decided_behind done parts cs ends sound None true here at decided leads =
        let complete = leads.complete in
        whole_behind done parts cs ends complete.0 complete.1 decided
    decided_behind done parts cs ends sound None false here at decided leads = too_many cs here.part at sound leads.more

    pub interleave_goes_on : (cs ends : List Reached) (undecided : Option TooMany) (all : Bool) (here : TooMany) → IsAt steps here.part (Interleave moves ∷ left)
        → IsSoFar setting most steps (Interleave moves ∷ left) cs undecided → Leads setting moves most cs ends all → IsSoFar setting most steps left ends (first_undecided undecided all here)
    interleave_goes_on cs ends undecided all here at so_far leads = record {
      done = so_far.done ++ Interleave moves ∷ [];
      parts = parts_more so_far.done (Interleave moves) left so_far.parts;
      sound = behind_sound cs ends so_far.sound leads.sound;
      decided = decided_behind so_far.done so_far.parts cs ends so_far.sound undecided all here at so_far.decided leads;
    }

    -- where it begins with no case
    leads_nowhere : Leads setting moves most [] [] true
    leads_nowhere = record {
      sound = all_none (λ (e : Reached). Any (λ (c : Reached). IsBehind setting moves c e) []);
      complete = (0, all_none (HoldsFrom setting moves 0 []));
      more = tt;
    }

    as_before : (undecided : Option TooMany) (here : TooMany) → first_undecided undecided true here ≡ undecided
    as_before None here = refl
    as_before (Some first) here = refl

    pub none_goes_on : (undecided : Option TooMany) → IsSoFar setting most steps (Interleave moves ∷ left) [] undecided → IsSoFar setting most steps left [] undecided
    none_goes_on undecided so_far =
        let here : TooMany = record { part = length so_far.done; place = 0 } in
        let at : IsAt steps here.part (Interleave moves ∷ left) = ap length so_far.parts ∙ length-append so_far.done (Interleave moves ∷ left) in
        subst (IsSoFar setting most steps left []) (as_before undecided here) (interleave_goes_on [] [] undecided true here at so_far leads_nowhere)

    module _ (cs : List Reached) (undecided : Option TooMany) (place : ℕ) (order : List ℕ) (names : List Named) (came : What)
        (so_far : IsSoFar setting most steps (Interleave moves ∷ left) cs undecided) (at : IsAt steps place (Interleave moves ∷ left)) where
      pub stuck_fails : (count : ℕ) → Any (IsStuckIn setting moves count order names came) cs → All (Begins setting moves count) cs → FailsFirst setting most steps place order names came
      stuck_fails count some begin =
          fails_first (Interleave moves ∷ left) cs place at undecided order names came so_far
          (let it = found (Reaches (Interleave moves ∷ left)) (IsStuckIn setting moves count order names came) cs so_far.sound some in
          let c = it.0 in let is = it.2 in
          let front = front_is is.stuck.before (is.stuck.moving ∷ is.stuck.after) moves count is.stuck.parts is.at in
          let each =
          subst (λ (ms : List Moving). OnEachWayTo setting most steps moves left place (λ known u. CanBegin setting known u ms)) (sym front)
          (each_way (λ known u. CanBegin setting known u (take count moves)) cs place place at (omega arith) begin undecided so_far.decided) in
          subst (λ (o : List ℕ). Fails setting most steps place o names came) (sym is.same_order)
          (subst (λ (ns : List Named). Fails setting most steps place c.order ns came) (sym is.same_names)
          (fails.unsent c.state c.names moves left place c.order came it.1 at is.stuck each)))

      -- those before it are met, where all orders were looked at
      each_or : (all : Bool) (count : ℕ) → OnTrue all (All (HoldsToFrom setting moves count) cs) → OnFalse all (HasMore setting moves most cs)
          → OnEachWayTo setting most steps moves left (place + 1) (λ known u. HoldsTo setting known u moves count)
      each_or true count complete more = each_way (λ known u. HoldsTo setting known u moves count) cs place (place + 1) at (omega arith) complete undecided so_far.decided
      each_or false count complete more =
          let here = too_many cs place at so_far.sound more in
          inr (here.0, here.1, here.2, omega (arith, at, here.3))

      pub refuted_fails : (all : Bool) (count : ℕ) → Any (IsRefutedFrom setting moves count order names came) cs
          → OnTrue all (All (HoldsToFrom setting moves count) cs) → OnFalse all (HasMore setting moves most cs) → FailsFirst setting most steps place order names came
      refuted_fails all count some complete more =
          fails_first (Interleave moves ∷ left) cs place at undecided order names came so_far
          (let it = found (Reaches (Interleave moves ∷ left)) (IsRefutedFrom setting moves count order names came) cs so_far.sound some in
          let c = it.0 in let is = it.2 in
          let each =
          subst (λ (n : ℕ). OnEachWayTo setting most steps moves left (place + 1) (λ known u. HoldsTo setting known u moves n)) (sym is.at) (each_or all count complete more) in
          subst (λ (o : List ℕ). Fails setting most steps place o names came) (sym is.same_order)
          (subst (λ (ns : List Named). Fails setting most steps place (c.order ++ is.more) ns came) (sym is.same_names)
          (fails.move c.state is.state c.names moves is.numbers left place c.order is.more came it.1 at is.way is.refuted each)))

  -- ---- the statements before the first interleave

  abbrev pub one : State → List Named → List Reached
  one s names = first_case s names ∷ []

  pub walks_on : MeetsOnce → (s end : State) (names last : List Named) (statements : List CheckedKind) (left : List CheckedStep) (acts : List Act)
      → Runs setting s names statements acts end last → IsSoFar setting most steps (map Statement statements ++ left) (one s names) None
      → IsSoFar setting most steps left (one end last) None
  walks_on meeting_once s end names last [] left acts (none, at, known) so_far =
      subst (λ (x : State). IsSoFar setting most steps left (one x last) None) (sym at)
      (subst (λ (ns : List Named). IsSoFar setting most steps left (one s ns) None) (sym known) so_far)
  walks_on meeting_once s end names last (k ∷ statements) left acts (first, bound, more, met, runs, all) so_far =
      let next = after_acts setting.charge s first in
      walks_on meeting_once next end (names ++ bound) last statements left more runs
      (statement_goes_on k (map Statement statements ++ left) meeting_once (one s names) (one next (names ++ bound)) None so_far
      (record { acts = first; bound = bound; met = met; state = refl; names = refl; order = refl }, tt))

  pub stops_at : MeetsOnce → (s : State) (names last : List Named) (statements : List CheckedKind) (left : List CheckedStep) (place before : ℕ) (came : What)
      → Stops setting s names statements place came last → IsSoFar setting most steps (map Statement statements ++ left) (one s names) None
      → IsAt steps before (map Statement statements ++ left) → FailsFirst setting most steps (before + place) [] last came
  stops_at meeting_once s names last [] left place before came stops so_far at = absurd stops
  stops_at meeting_once s names last (k ∷ statements) left zero before came (unmet, same) so_far at =
      let here : before ≡ before + 0 = omega arith in
      subst (λ (n : ℕ). FailsFirst setting most steps n [] last came) here
      (statement_fails k (map Statement statements ++ left) (one s names) None before [] last came so_far at
      (any_first (IsUnmetIn setting k [] last came) (first_case s names) [] (record { unmet = unmet; same_order = refl; same_names = same })))
  stops_at meeting_once s names last (k ∷ statements) left (suc place) before came (acts, bound, met, stops) so_far at =
      let next = after_acts setting.charge s acts in
      let later : before + 1 + place ≡ before + suc place = omega arith in
      subst (λ (n : ℕ). FailsFirst setting most steps n [] last came) later
      (stops_at meeting_once next (names ++ bound) last statements left place (before + 1) came stops
      (statement_goes_on k (map Statement statements ++ left) meeting_once (one s names) (one next (names ++ bound)) None so_far
      (record { acts = acts; bound = bound; met = met; state = refl; names = refl; order = refl }, tt))
      (omega (arith, at)))

  pub stops_within : (s : State) (names last : List Named) (statements : List CheckedKind) (place : ℕ) (came : What) → Stops setting s names statements place came last → place < length statements
  stops_within s names last [] place came stops = absurd stops
  stops_within s names last (k ∷ statements) zero came stops = omega arith
  stops_within s names last (k ∷ statements) (suc place) came (acts, bound, met, stops) =
      let less = stops_within (after_acts setting.charge s acts) (names ++ bound) last statements place came stops in omega (arith, less)

  -- ---- the end

  pub passes : (cs : List Reached) → IsWhole setting steps [] cs → Passes setting steps
  passes cs whole = record {
    statements = λ s names statement left order comes. whole.before s names (Statement statement ∷ left) order comes (omega arith);
    begins = λ s names moves left order comes. (whole.before s names (Interleave moves ∷ left) order comes (omega arith)).begins;
    queries = λ s names moves left order comes. (whole.before s names (Interleave moves ∷ left) order comes (omega arith)).queries;
    calls = λ s names moves left order comes. (whole.before s names (Interleave moves ∷ left) order comes (omega arith)).calls;
    most = whole.longest;
    ends = λ s names moves left order comes. (whole.before s names (Interleave moves ∷ left) order comes (omega arith)).ends;
  }
