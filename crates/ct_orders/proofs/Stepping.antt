-- What a part of a test comes to, as code has it.
use Rattle.std.proofs.Common.{◌≡◌, ℕ, ◌+◌, ◌<◌, ◌≤◌, Bool, false, List, [], ◌∷◌, ◌++◌, length, take, drop, map, Option, Some, None, refl, sym, ap, ◌∙◌, subst, inl, inr, arith}
use Rattle.std.specs.Prelude.{Result, Ok, Err, IfOk}
use Rattle.std.specs.List.{Any}
use Rattle.std.proofs.lemmas.List.{length-drop, take-append-drop, length-append, length-map}
use Rattle.ic_behaviour.specs.State.{State}
use Rattle.ic_behaviour.specs.Submitted.{empty}
use Rattle.ct_check.specs.Moving.{Moving}
use Rattle.ct_check.specs.declared.checked.CheckedKind.{CheckedKind}
use Rattle.ct_check.specs.declared.checked.CheckedStep.{CheckedStep}
use Rattle.ct_check.specs.declared.checked.CheckedStep.TheVariants.{Statement, Interleave}
use Rattle.ct_outcomes.specs.declared.named.Named.{Named}
use Rattle.ct_outcomes.specs.declared.came.Came.{Came}
use Rattle.ct_run.specs.Statements.{Setting, first_names}
use Rattle.ct_run.specs.Runs.{Runs, Stops as StopsAt, Walks, without_interleaves}
use Rattle.ct_run.proofs.One.{MeetsOnce}
use Rattle.ct_cases.specs.declared.case.Case.{Case}
use Rattle.ct_cases.specs.declared.case.Tables.{Tables}
use Rattle.ct_orders.specs.declared.tester.Course.{Course}
use Rattle.ct_orders.specs.declared.tester.Next.{Next}
use Rattle.ct_orders.specs.declared.tester.Next.TheVariants.{On, Fails as Stops}
use Rattle.ct_orders.specs.declared.verdict.Ended.{Ended}
use Rattle.ct_orders.specs.declared.verdict.NotMet.{NotMet}
use Rattle.ct_orders.specs.declared.verdict.TooMany.{TooMany}
use Rattle.ct_orders.specs.declared.verdict.Verdict.{Verdict}
use Rattle.ct_orders.specs.declared.verdict.Verdict.TheVariants.{Passed, Failed, Undecided}
use Rattle.ct_cases.specs.declared.failing.Failing.{Failing}
use Rattle.ct_cases.specs.Reached.{Reached}
use Rattle.ct_orders.specs.Verdicts.{IsAt, FailsFirst, HasTooMany, whole}
use Rattle.ct_cases.specs.Cases.{AreHeld, AreAfter, IsUnmetIn, reached, all_reached}
use Rattle.ct_cases.specs.Answers.{IsInterleaved}
use Rattle.ct_orders.specs.Course.{first_undecided, is_interleave, ended_with, IsDecided, IsWhole, IsSoFar, IsNext, IsVerdict}
use Rattle.ct_orders.proofs.Courses.{statement_goes_on, statement_fails, interleave_goes_on, none_goes_on, stuck_fails, refuted_fails, walks_on, stops_at, at_start, passes, one}

module _ (setting : Setting) (most : ℕ) (steps left : List CheckedStep) where
  -- ---- an interleave

  module _ (old new : Tables) (cases ends : List Case) (moves : List Moving) (all : Bool) (undecided : Option TooMany)
      (so_far : IsSoFar setting most steps (Interleave moves ∷ left) (all_reached old cases) undecided) where
    pub interleave_next : (failing : Option Failing) → failing ≡ None → IsInterleaved setting most old new cases moves ends failing all → (here : TooMany) → IsAt steps here.part (Interleave moves ∷ left)
        → IsSoFar setting most steps left (all_reached new ends) (first_undecided undecided all here)
    interleave_next None is done here at = interleave_goes_on setting most steps moves left (all_reached old cases) (all_reached new ends) undecided all here at so_far done.1
    interleave_next (Some f) is done here at = cc

    stuck_or_refuted : (f : Failing) (place : ℕ) → IsInterleaved setting most old new cases moves ends (Some f) all → IsAt steps place (Interleave moves ∷ left)
        → FailsFirst setting most steps place f.order.items f.names f.unmet.came
    stuck_or_refuted f place (inl (count, some, begin)) at =
        stuck_fails setting most steps moves left (all_reached old cases) undecided place f.order.items f.names f.unmet.came so_far at count some begin
    stuck_or_refuted f place (inr (count, some, complete, more)) at =
        refuted_fails setting most steps moves left (all_reached old cases) undecided place f.order.items f.names f.unmet.came so_far at all count some complete more

    pub interleave_fails : (failing : Option Failing) (f : Failing) → failing ≡ Some f → IsInterleaved setting most old new cases moves ends failing all → (place : ℕ)
        → IsAt steps place (Interleave moves ∷ left) → FailsFirst setting most steps place f.order.items f.names f.unmet.came
    interleave_fails failing f is done place at = stuck_or_refuted f place (subst (λ (o : Option Failing). IsInterleaved setting most old new cases moves ends o all) is done) at

  pub no_cases : (t : Tables) (cases : List Case) (moves : List Moving) (undecided : Option TooMany) → cases ≡ [] → IsSoFar setting most steps (Interleave moves ∷ left) (all_reached t cases) undecided
      → IsSoFar setting most steps left (all_reached t cases) undecided
  no_cases t [] moves undecided is so_far = none_goes_on setting most steps moves left undecided so_far
  no_cases t (c ∷ cases) moves undecided is so_far = cc

  -- ---- a statement

  module _ (old new : Tables) (cases : List Case) (statement : CheckedKind) (undecided : Option TooMany)
      (so_far : IsSoFar setting most steps (Statement statement ∷ left) (all_reached old cases) undecided) where
    pub statement_next : MeetsOnce → (after : List Case) → AreHeld new after × AreAfter setting statement (all_reached old cases) (all_reached new after)
        → IsSoFar setting most steps left (all_reached new after) undecided
    statement_next once after goes = statement_goes_on setting most steps statement left once (all_reached old cases) (all_reached new after) undecided so_far goes.1

    pub statement_stops : (f : Failing) (place : ℕ) → Any (IsUnmetIn setting statement f.order.items f.names f.unmet.came) (all_reached old cases)
        → IsAt steps place (Statement statement ∷ left) → FailsFirst setting most steps place f.order.items f.names f.unmet.came
    statement_stops f place some at = statement_fails setting most steps statement left (all_reached old cases) undecided place f.order.items f.names f.unmet.came so_far at some

pub interleave_held : (setting : Setting) (most : ℕ) (old new : Tables) (cases ends : List Case) (moves : List Moving) (all : Bool) (failing : Option Failing) → failing ≡ None
    → IsInterleaved setting most old new cases moves ends failing all → AreHeld new ends
interleave_held setting most old new cases ends moves all None is done = done.0
interleave_held setting most old new cases ends moves all (Some f) is done = cc

-- ---- the parts from the first interleave on

-- a case that is kept, as the only one
pub one_reached : (t : Tables) (cases : List Case) (c : Case) (first : Reached) → cases ≡ c ∷ [] → reached t c ≡ first → all_reached t cases ≡ first ∷ []
one_reached t cases c first only is = ap (all_reached t) only ∙ ap (λ (r : Reached). r ∷ []) is

module _ (setting : Setting) (most : ℕ) (parts : List CheckedStep) (start : List Reached) (before : ℕ) where
  abbrev pub Still : Tables → List CheckedStep → List Case → Option TooMany → Type 0
  Still t left cases undecided =
      (all : List CheckedStep) → IsSoFar setting most all parts start None → IsAt all before parts → IsSoFar setting most all left (all_reached t cases) undecided

  pub at_first : (t : Tables) (cases : List Case) (undecided : Option TooMany) → all_reached t cases ≡ start → undecided ≡ None → Still t parts cases undecided
  at_first t cases undecided same none all so_far at =
      subst (λ (cs : List Reached). IsSoFar setting most all parts cs undecided) (sym same) (subst (IsSoFar setting most all parts start) (sym none) so_far)

  -- the place of what is left
  place_of : (all : List CheckedStep) (i : ℕ) → i ≤ length parts → IsAt all before parts → IsAt all (before + i) (drop i parts)
  place_of all i few at = omega (arith, few, at, length-drop i parts)

  module _ (old new : Tables) (i : ℕ) (step : CheckedStep) (lt : i < length parts) (split : drop i parts ≡ step ∷ drop (i + 1) parts) (cases : List Case) (undecided : Option TooMany)
      (still : Still old (drop i parts) cases undecided) (next : Next)
      (goes : (steps left : List CheckedStep) → IsSoFar setting most steps (step ∷ left) (all_reached old cases) undecided → IsAt steps (before + i) (step ∷ left)
      → IsNext setting most steps left (before + i) new next) where
    -- what comes of the part at this place
    comes : (all : List CheckedStep) → IsSoFar setting most all parts start None → IsAt all before parts → IsNext setting most all (drop (i + 1) parts) (before + i) new next
    comes all so_far at =
        goes all (drop (i + 1) parts) (subst (λ (l : List CheckedStep). IsSoFar setting most all l (all_reached old cases) undecided) split (still all so_far at))
        (subst (IsAt all (before + i)) split (place_of all i (omega (arith, lt)) at))

    pub still_on : (course : Course) → next ≡ On course → Still new (drop (i + 1) parts) course.cases.items course.undecided
    still_on course is all so_far at = subst (λ (n : Next). IsNext setting most all (drop (i + 1) parts) (before + i) new n) is (comes all so_far at)

    pub stops_there : (f : Failing) → next ≡ Stops f → (all : List CheckedStep) → IsSoFar setting most all parts start None → IsAt all before parts
        → FailsFirst setting most all (before + i) f.order.items f.names f.unmet.came
    stops_there f is all so_far at = subst (λ (n : Next). IsNext setting most all (drop (i + 1) parts) (before + i) new n) is (comes all so_far at)

-- ---- the end

abbrev kind : Verdict → ℕ
kind Passed = 0
kind (Failed f) = 1
kind (Undecided first) = 2

not_passed : (f : NotMet) → Failed f ≡ Passed → ⊥
not_passed f same = let e : 1 ≡ 0 = ap kind same in omega (arith, e)

not_undecided : (first : TooMany) → Undecided first ≡ Passed → ⊥
not_undecided first same = let e : 2 ≡ 0 = ap kind same in omega (arith, e)

not_both : (f : NotMet) (first : TooMany) → Failed f ≡ Undecided first → ⊥
not_both f first same = let e : 1 ≡ 2 = ap kind same in omega (arith, e)

module _ (setting : Setting) (most : ℕ) (steps : List CheckedStep) where
  passed_so : (cases : List Reached) (ended : Ended) → IsWhole setting steps [] cases → ended.verdict ≡ Passed → IsVerdict setting most steps ended
  passed_so cases ended whole is = record {
    passed = λ same. passes setting most steps cases whole;
    failed = λ unmet same. absurd (not_passed unmet (sym same ∙ is));
    undecided = λ first same. absurd (not_undecided first (sym same ∙ is));
  }

  undecided_so : (first : TooMany) (ended : Ended) → (left : List CheckedStep) × (moves : List Moving) × HasTooMany setting steps left moves most × IsAt steps first.part (Interleave moves ∷ left)
      → ended.verdict ≡ Undecided first → IsVerdict setting most steps ended
  undecided_so first ended more is = record {
    passed = λ same. absurd (not_undecided first (sym is ∙ same));
    failed = λ unmet same. absurd (not_both unmet first (sym same ∙ is));
    undecided = λ other same.
        let both : Undecided first ≡ Undecided other = sym is ∙ same in
        let one : first ≡ other = cc in
        subst (λ (x : TooMany). (left : List CheckedStep) × (moves : List Moving) × HasTooMany setting steps left moves most × IsAt steps x.part (Interleave moves ∷ left)) one more;
  }

  ended_by : (undecided : Option TooMany) (cases : List Reached) (ended : Ended) → IsDecided setting most steps [] cases undecided → ended.verdict ≡ ended_with undecided → IsVerdict setting most steps ended
  ended_by None cases ended decided is = passed_so cases ended decided is
  ended_by (Some first) cases ended (left, moves, more, within, there) is = undecided_so first ended (left, moves, more, there) is

  pub ended_so : (left : List CheckedStep) (cases : List Reached) (undecided : Option TooMany) (ended : Ended) → left ≡ [] → IsSoFar setting most steps left cases undecided
      → ended.verdict ≡ ended_with undecided → IsVerdict setting most steps ended
  ended_so left cases undecided ended none so_far is =
      ended_by undecided cases ended (subst (λ (l : List CheckedStep). IsDecided setting most steps l cases undecided) none so_far.decided) is

  pub failed_so : (place : ℕ) (f : NotMet) (ended : Ended) → ended.verdict ≡ Failed f → FailsFirst setting most steps f.failure.place ended.way.order.items f.names f.failure.unmet.came → IsVerdict setting most steps ended
  failed_so place f ended is fails = record {
    passed = λ same. absurd (not_passed f (sym is ∙ same));
    failed = λ unmet same.
        let both : Failed f ≡ Failed unmet = sym is ∙ same in
        let one : f ≡ unmet = cc in
        subst (λ (x : NotMet). FailsFirst setting most steps x.failure.place ended.way.order.items x.names x.failure.unmet.came) one fails;
    undecided = λ first same. absurd (not_both f first (sym is ∙ same));
  }

pub all_ended : {E : Type 0} (setting : Setting) (most : ℕ) (parts left : List CheckedStep) (start : List Reached) (t : Tables) (course : Course) (before : ℕ) (r : Result Ended E) → left ≡ []
    → Still setting most parts start before t left course.cases.items course.undecided → IfOk r (λ ended. ended.verdict ≡ ended_with course.undecided)
    → IfOk r (λ ended. (all : List CheckedStep) → IsSoFar setting most all parts start None → IsAt all before parts → IsVerdict setting most all ended)
all_ended setting most parts left start t course before (Ok ended) none still is = λ all so_far at.
    ended_so setting most all left (all_reached t course.cases.items) course.undecided ended none (still all so_far at) is
all_ended setting most parts left start t course before (Err e) none still is = tt

-- ---- the statements before the first interleave

pub more_statements : (steps : List CheckedStep) (k : ℕ) (step : CheckedStep) → is_interleave step ≡ false → take k steps ≡ map Statement (without_interleaves (take k steps))
    → take (k + 1) steps ≡ take k steps ++ step ∷ [] → take (k + 1) steps ≡ map Statement (without_interleaves (take (k + 1) steps))
more_statements steps k step is so_far more =
    subst (λ (l : List CheckedStep). l ≡ map Statement (without_interleaves l)) (sym more) (pushed (take k steps) step is so_far)
  where
    pushed : (l : List CheckedStep) (s : CheckedStep) → is_interleave s ≡ false → l ≡ map Statement (without_interleaves l) → l ++ s ∷ [] ≡ map Statement (without_interleaves (l ++ s ∷ []))
    pushed [] (Statement k) none same = refl
    pushed [] (Interleave moves) none same = cc
    pushed (Statement k ∷ l) s none same = let rest : l ≡ map Statement (without_interleaves l) = cc in ap (λ (xs : List CheckedStep). Statement k ∷ xs) (pushed l s none rest)
    pushed (Interleave moves ∷ l) s none same = absurd (not_statement moves l (without_interleaves l) same)
      where
        not_statement : (ms : List Moving) (xs : List CheckedStep) (ks : List CheckedKind) → Interleave ms ∷ xs ≡ map Statement ks → ⊥
        not_statement ms xs [] same = cc
        not_statement ms xs (k ∷ ks) same = cc

module _ (setting : Setting) (most : ℕ) (once : MeetsOnce) (preamble : List CheckedKind) (parts : List CheckedStep) where
  pub preamble_walked : (s : State) (first names : List Named) → first ≡ first_names → Walks setting empty first preamble s names None → IsSoFar setting most (whole preamble parts) parts (one setting most (whole preamble parts) s names) None
  preamble_walked s first names start (acts, runs) =
      walks_on setting most (whole preamble parts) once empty s first_names names preamble parts acts
      (subst (λ (ns : List Named). Runs setting empty ns preamble acts s names) start runs) (at_start setting most (whole preamble parts))

  pub preamble_stops : (s : State) (first names : List Named) (place : ℕ) (came : Came) → first ≡ first_names → Walks setting empty first preamble s names (Some (place, came))
      → FailsFirst setting most (whole preamble parts) place [] names came
  preamble_stops s first names place came start stops =
      let none : 0 + place ≡ place = omega arith in
      subst (λ (n : ℕ). FailsFirst setting most (whole preamble parts) n [] names came) none
      (stops_at setting most (whole preamble parts) once empty first_names names preamble parts place 0 came
      (subst (λ (ns : List Named). StopsAt setting empty ns preamble place came names) start stops) (at_start setting most (whole preamble parts)) (omega arith))

  module _ (count : ℕ) (alone : take count parts ≡ map Statement (without_interleaves (take count parts))) (s : State) (names : List Named)
      (so_far : IsSoFar setting most (whole preamble parts) parts (one setting most (whole preamble parts) s names) None) where
    split : parts ≡ map Statement (without_interleaves (take count parts)) ++ drop count parts
    split = sym (take-append-drop count parts) ∙ ap (λ (l : List CheckedStep). l ++ drop count parts) alone

    so_split : IsSoFar setting most (whole preamble parts) (map Statement (without_interleaves (take count parts)) ++ drop count parts) (one setting most (whole preamble parts) s names) None
    so_split = subst (λ (l : List CheckedStep). IsSoFar setting most (whole preamble parts) l (one setting most (whole preamble parts) s names) None) split so_far

    pub alone_walked : (end : State) (last : List Named) → Walks setting s names (without_interleaves (take count parts)) end last None
        → IsSoFar setting most (whole preamble parts) (drop count parts) (one setting most (whole preamble parts) end last) None
    alone_walked end last (acts, runs) =
        walks_on setting most (whole preamble parts) once s end names last (without_interleaves (take count parts)) (drop count parts) acts runs so_split

    pub alone_stops : (end : State) (last : List Named) (place : ℕ) (came : Came) → Walks setting s names (without_interleaves (take count parts)) end last (Some (place, came))
        → FailsFirst setting most (whole preamble parts) (length preamble + place) [] last came
    alone_stops end last place came stops =
        stops_at setting most (whole preamble parts) once s names last (without_interleaves (take count parts)) (drop count parts) place (length preamble) came stops so_split
        (omega (arith, length-append (map Statement preamble) parts, length-map preamble Statement, ap length split))

  -- how many parts come before what is left
  pub at_left : (count : ℕ) → count ≤ length parts → IsAt (whole preamble parts) (length preamble + count) (drop count parts)
  at_left count few = omega (arith, few, length-append (map Statement preamble) parts, length-map preamble Statement, length-drop count parts)

-- what code holds of the parts, of a result
pub parts_verdicts : {E : Type 0} (setting : Setting) (most : ℕ) (parts left : List CheckedStep) (start rest : List Reached) (before place : ℕ) (r : Result Ended E)
    → IfOk r (λ ended. (all : List CheckedStep) → IsSoFar setting most all left rest None → IsAt all place left → IsVerdict setting most all ended)
    → ((preamble : List CheckedKind) → IsSoFar setting most (whole preamble parts) parts start None → length preamble ≡ before
    → IsSoFar setting most (whole preamble parts) left rest None × IsAt (whole preamble parts) place left)
    → IfOk r (λ ended. (preamble : List CheckedKind) → IsSoFar setting most (whole preamble parts) parts start None → length preamble ≡ before → IsVerdict setting most (whole preamble parts) ended)
parts_verdicts setting most parts left start rest before place (Ok ended) is so = λ preamble so_far at.
    let both = so preamble so_far at in is (whole preamble parts) both.0 both.1
parts_verdicts setting most parts left start rest before place (Err e) is so = tt

-- and of a test
pub run_verdicts : {E : Type 0} (setting : Setting) (most : ℕ) (preamble : List CheckedKind) (parts : List CheckedStep) (start : List Reached) (before : ℕ) (r : Result Ended E)
    → IfOk r (λ ended. (statements : List CheckedKind) → IsSoFar setting most (whole statements parts) parts start None → length statements ≡ before → IsVerdict setting most (whole statements parts) ended)
    → IsSoFar setting most (whole preamble parts) parts start None → length preamble ≡ before → IfOk r (IsVerdict setting most (whole preamble parts))
run_verdicts setting most preamble parts start before (Ok ended) is so_far at = is preamble so_far at
run_verdicts setting most preamble parts start before (Err e) is so_far at = tt
