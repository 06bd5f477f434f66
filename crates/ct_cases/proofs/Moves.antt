-- Moves of an interleave, one after another: what is submitted and what is met, with one move more; and that it is so in one way.
use Rattle.std.proofs.Common.{◌≡◌, ◌||◌, ℕ, zero, suc, Bool, true, false, List, [], ◌∷◌, ◌++◌, length, take, Option, Some, None, refl, sym, ap, ap₂, ◌∙◌, subst, append_assoc}
use Rattle.std.specs.List.{list_any}
use Rattle.std.proofs.lemmas.Bool.{true≢false}
use Rattle.std.proofs.lemmas.List.{append-nil}
use Rattle.ic_behaviour.specs.State.{State}
use Rattle.ct_check.specs.Moving.{Moving}
use Rattle.ct_check.specs.declared.checked.CheckedOutcome.{CheckedOutcome}
use Rattle.ct_outcomes.specs.declared.named.Named.{Named}
use Rattle.ct_outcomes.specs.declared.came.Came.{Came}
use Rattle.ct_outcomes.specs.Types.{Types}
use Rattle.ct_asked.specs.declared.asked.Asked.TheVariants.{Call}
use Rattle.ct_asked.proofs.Once.{move_once}
use Rattle.ct_run.specs.Called.{if_accepted}
use Rattle.ct_run.specs.Statements.{Setting, IsMoveMet, MeetsAt, expected_of, reply_types}
use Rattle.ct_run.proofs.One.{MeetsOnce}
use Rattle.ct_cases.specs.Interleaves.{is_query, Choose, IsCallSubmitted, IsSubmitted, AreSubmitted, QueryIsMet, QueriesAreMet, CallIsMet, CallsAreMet, IsAnswered, came_under}
use Rattle.ct_cases.specs.Holding.{CanBegin}

-- what came meets outcomes in one way
met_at_once : MeetsOnce → (types : Option Types) (names : List Named) (expected : List CheckedOutcome) (came : Came) (bound other : List Named)
    → MeetsAt types names expected came bound → MeetsAt types names expected came other → bound ≡ other
met_at_once once None names expected came bound other is are = absurd is
met_at_once once (Some types) names expected came bound other is are = once types names expected came bound other is are

module _ (setting : Setting) (names : List Named) where
  -- ---- submissions

  pub submitted_more : (s t u : State) (moves : List Moving) (numbers : List (Option ℕ)) (moving : Moving) (number : Option ℕ)
      → AreSubmitted setting names s moves numbers t → IsSubmitted setting names t moving number u
      → AreSubmitted setting names s (moves ++ moving ∷ []) (numbers ++ number ∷ []) u
  submitted_more s t u [] [] moving number same is = (u, subst (λ (x : State). IsSubmitted setting names x moving number u) same is, refl)
  submitted_more s t u (m ∷ moves) (n ∷ numbers) moving number (next, first, rest) is = (next, first, submitted_more next t u moves numbers moving number rest is)
  submitted_more s t u [] (n ∷ numbers) moving number none is = absurd none
  submitted_more s t u (m ∷ moves) [] moving number none is = absurd none

  pub submitted_length : (s t : State) (moves : List Moving) (numbers : List (Option ℕ)) → AreSubmitted setting names s moves numbers t → length numbers ≡ length moves
  submitted_length s t [] [] are = refl
  submitted_length s t (m ∷ moves) (n ∷ numbers) (next, first, rest) = ap suc (submitted_length next t moves numbers rest)
  submitted_length s t [] (n ∷ numbers) none = absurd none
  submitted_length s t (m ∷ moves) [] none = absurd none

  -- the first of them are submitted too
  pub begins_front : (s t : State) (moves : List Moving) (numbers : List (Option ℕ)) (k : ℕ) → AreSubmitted setting names s moves numbers t → CanBegin setting names s (take k moves)
  begins_front s t moves numbers zero are = ([], s, refl)
  begins_front s t [] [] (suc k) are = ([], s, refl)
  begins_front s t (m ∷ moves) (n ∷ numbers) (suc k) (next, first, rest) =
      let more = begins_front next t moves numbers k rest in (n ∷ more.0, more.1, (next, first, more.2))
  begins_front s t [] (n ∷ numbers) (suc k) none = absurd none
  begins_front s t (m ∷ moves) [] (suc k) none = absurd none

  one_call : (s t u : State) (moving : Moving) (n m : Option ℕ) → IsCallSubmitted setting names s moving n t → IsCallSubmitted setting names s moving m u → (n ≡ m) × (t ≡ u)
  one_call s t u moving n m is are =
      let asked : Call is.ask ≡ Call are.ask = move_once setting.files names moving (Call is.ask) (Call are.ask) is.asked are.asked in
      let ask : is.ask ≡ are.ask = cc in
      let both : ◌≡◌ {A = State × Option ℕ} (t, n) (u, m) = is.submitted ∙ ap (if_accepted setting.charge s) ask ∙ sym are.submitted in
      (ap (λ (x : State × Option ℕ). x.1) both, ap (λ (x : State × Option ℕ). x.0) both)

  one_submitted : (b : Bool) (s t u : State) (moving : Moving) (n m : Option ℕ) → Choose b ((n ≡ None) × (t ≡ s)) (IsCallSubmitted setting names s moving n t)
      → Choose b ((m ≡ None) × (u ≡ s)) (IsCallSubmitted setting names s moving m u) → (n ≡ m) × (t ≡ u)
  one_submitted true s t u moving n m is are = (is.0 ∙ sym are.0, is.1 ∙ sym are.1)
  one_submitted false s t u moving n m is are = one_call s t u moving n m is are

  pub submitted_once : (s t u : State) (moves : List Moving) (ns ms : List (Option ℕ)) → AreSubmitted setting names s moves ns t → AreSubmitted setting names s moves ms u → (ns ≡ ms) × (t ≡ u)
  submitted_once s t u [] [] [] is are = (refl, is ∙ sym are)
  submitted_once s t u (m ∷ moves) (n ∷ ns) (k ∷ ms) (x, first, rest) (y, other, others) =
      let one = one_submitted (is_query m.action) s x y m n k first other in
      let more = submitted_once x t u moves ns ms rest (subst (λ (z : State). AreSubmitted setting names z moves ms u) (sym one.1) others) in
      (ap₂ (λ (a : Option ℕ) (l : List (Option ℕ)). a ∷ l) one.0 more.0, more.1)
  submitted_once s t u [] (n ∷ ns) ms none are = absurd none
  submitted_once s t u [] [] (k ∷ ms) is none = absurd none
  submitted_once s t u (m ∷ moves) [] ms none are = absurd none
  submitted_once s t u (m ∷ moves) (n ∷ ns) [] is none = absurd none

  module _ (t : State) where
    -- ---- queries

    pub queries_more : (moves : List Moving) (moving : Moving) → QueriesAreMet setting names t moves → QueryIsMet setting names t moving → QueriesAreMet setting names t (moves ++ moving ∷ [])
    queries_more [] moving met is = (is, tt)
    queries_more (m ∷ moves) moving met is = (met.0, queries_more moves moving met.1 is)

    pub queries_front : (moves : List Moving) (k : ℕ) → QueriesAreMet setting names t moves → QueriesAreMet setting names t (take k moves)
    queries_front moves zero met = tt
    queries_front [] (suc k) met = tt
    queries_front (m ∷ moves) (suc k) met = (met.0, queries_front moves k met.1)

    no_queries_by : (b rest : Bool) (moving : Moving) → (b || rest) ≡ false → Choose b (IsAnswered setting names t moving) (Unit {0}) × (rest ≡ false)
    no_queries_by true true moving is = absurd (true≢false is)
    no_queries_by true false moving is = absurd (true≢false is)
    no_queries_by false true moving is = absurd (true≢false is)
    no_queries_by false false moving is = (tt, refl)

    pub no_queries : (moves : List Moving) → list_any (λ moving. is_query moving.action) moves ≡ false → QueriesAreMet setting names t moves
    no_queries [] is = tt
    no_queries (moving ∷ moves) is =
        let both = no_queries_by (is_query moving.action) (list_any (λ (m : Moving). is_query m.action) moves) moving is in
        (both.0, no_queries moves both.1)

    -- ---- calls

    pub calls_more : (moves : List Moving) (numbers : List (Option ℕ)) (moving : Moving) (number : Option ℕ) (bound own : List Named)
        → CallsAreMet setting names t moves numbers bound → CallIsMet setting names t moving number own
        → CallsAreMet setting names t (moves ++ moving ∷ []) (numbers ++ number ∷ []) (bound ++ own)
    calls_more [] [] moving number bound own none is = (own, [], is, refl, ap (λ (l : List Named). l ++ own) none ∙ sym (append-nil own))
    calls_more (m ∷ moves) (n ∷ numbers) moving number bound own (first, others, met, rest, all) is = (
      first,
      others ++ own,
      met,
      calls_more moves numbers moving number others own rest is,
      ap (λ (l : List Named). l ++ own) all ∙ append_assoc first others own,
    )
    calls_more [] (n ∷ numbers) moving number bound own none is = absurd none
    calls_more (m ∷ moves) [] moving number bound own none is = absurd none

    pub calls_front : (moves : List Moving) (numbers : List (Option ℕ)) (bound : List Named) (k : ℕ) → CallsAreMet setting names t moves numbers bound
        → (first : List Named) × CallsAreMet setting names t (take k moves) (take k numbers) first
    calls_front moves numbers bound zero met = ([], refl)
    calls_front [] [] bound (suc k) met = ([], refl)
    calls_front (m ∷ moves) (n ∷ numbers) bound (suc k) (own, others, met, rest, all) =
        let more = calls_front moves numbers others k rest in (own ++ more.0, (own, more.0, met, more.1, refl))
    calls_front [] (n ∷ numbers) bound (suc k) none = absurd none
    calls_front (m ∷ moves) [] bound (suc k) none = absurd none

    module _ (meeting_once : MeetsOnce) where
      one_bound : (b : Bool) (moving : Moving) (number : Option ℕ) (own other : List Named)
          → Choose b (own ≡ []) (IsMoveMet setting.files names moving.action (came_under t number) own)
          → Choose b (other ≡ []) (IsMoveMet setting.files names moving.action (came_under t number) other) → own ≡ other
      one_bound true moving number own other is are = is ∙ sym are
      one_bound false moving number own other is are =
          met_at_once meeting_once (reply_types setting.files moving.action) names (expected_of moving.action) (came_under t number) own other is are

      pub calls_once : (moves : List Moving) (numbers : List (Option ℕ)) (bound other : List Named)
          → CallsAreMet setting names t moves numbers bound → CallsAreMet setting names t moves numbers other → bound ≡ other
      calls_once [] [] bound other is are = is ∙ sym are
      calls_once (m ∷ moves) (n ∷ numbers) bound other (own, others, met, rest, all) (own', others', met', rest', all') =
          all ∙ ap₂ (λ (x y : List Named). x ++ y) (one_bound (is_query m.action) m n own own' met met') (calls_once moves numbers others others' rest rest') ∙ sym all'
      calls_once [] (n ∷ numbers) bound other none are = absurd none
      calls_once (m ∷ moves) [] bound other none are = absurd none
