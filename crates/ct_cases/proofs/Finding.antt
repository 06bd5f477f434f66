-- Cases that are met are judged, one after another.
use Rattle.std.proofs.Common.{◌≡◌, ℕ, ◌<◌, ◌≤◌, List, [], ◌∷◌, ◌++◌, length, take, drop, Option, Some, None, refl, sym, ◌∙◌, subst, arith}
use Rattle.std.specs.Prelude.{All}
use Rattle.std.specs.List.{Any}
use Rattle.std.proofs.lemmas.List.{map-append, length-take, length-take-le, take_all, take-append-drop}
use Rattle.std.proofs.lemmas.List.Quantifiers.{Any-push}
use Rattle.std.proofs.lemmas.List.Elements.{All-push}
use Rattle.ct_check.specs.Moving.{Moving}
use Rattle.ct_run.specs.Statements.{Setting}
use Rattle.ct_search.specs.declared.case.Case.{Case as Met}
use Rattle.ct_search.proofs.Lists.{any_longer}
use Rattle.ct_worlds.specs.declared.worlds.NamedWorld.{NamedWorld}
use Rattle.ct_cases.specs.declared.case.Case.{Case}
use Rattle.ct_cases.specs.declared.case.Tables.{Tables}
use Rattle.ct_cases.specs.declared.judging.Found.{Found as WhatIsFound}
use Rattle.ct_cases.specs.declared.judging.Found.TheVariants.{Passed, End, Unmet}
use Rattle.ct_cases.specs.declared.failing.Failing.{Failing}
use Rattle.ct_cases.specs.Reached.{Reached}
use Rattle.ct_cases.specs.Interleaves.{QueriesAreMet, CallsAreMet}
use Rattle.ct_cases.specs.Holding.{IsRefuted}
use Rattle.ct_cases.specs.Cases.{Grows, IsHeld, reached, all_reached, Stage, stage, all_stages, IsMetBehind, IsEndOf, HoldsIn, FrontHolds, IsRefutedIn, AreJudged}
use Rattle.ct_cases.specs.Answers.{IsFound, AddsFound, AreFoundTo, AreFound}
use Rattle.ct_cases.proofs.Lists.{all_as, all_none, rec_push, take_front}
use Rattle.ct_cases.proofs.Moves.{queries_front, calls_front}
use Rattle.ct_cases.proofs.Stays.{grows_not, grows_further, all_held_stay, all_reached_stay, stage_stays}
use Rattle.ct_cases.proofs.Further.{refuted_of_more}

module _ (setting : Setting) (moves : List Moving) where
  -- more ends, and one stage more
  holds_longer : (ends more : List Reached) (g : Stage) → HoldsIn setting moves ends g → HoldsIn setting moves (ends ++ more) g
  holds_longer ends more g is = record { queries = is.queries; calls = λ ended. any_longer (IsEndOf setting moves g) ends more (is.calls ended) }

  judged_passed : (stages : List Stage) (ends : List Reached) (g : Stage) → AreJudged setting moves stages ends → HoldsIn setting moves ends g → AreJudged setting moves (stages ++ g ∷ []) ends
  judged_passed stages ends g so_far is = record {
    sound =
        all_as {P = λ (e : Reached). Any (λ (x : Stage). IsEndOf setting moves x e) stages} {Q = λ (e : Reached). Any (λ (x : Stage). IsEndOf setting moves x e) (stages ++ g ∷ [])}
        (λ e some. any_longer (λ (x : Stage). IsEndOf setting moves x e) stages (g ∷ []) some) ends so_far.sound;
    holds = All-push (HoldsIn setting moves ends) stages g so_far.holds is;
  }

  judged_end : (stages : List Stage) (ends : List Reached) (g : Stage) (e : Reached) → AreJudged setting moves stages ends → HoldsIn setting moves (ends ++ e ∷ []) g → IsEndOf setting moves g e
      → AreJudged setting moves (stages ++ g ∷ []) (ends ++ e ∷ [])
  judged_end stages ends g e so_far is end = record {
    sound =
        All-push (λ (x : Reached). Any (λ (y : Stage). IsEndOf setting moves y x) (stages ++ g ∷ [])) ends e
        (all_as {P = λ (x : Reached). Any (λ (y : Stage). IsEndOf setting moves y x) stages} {Q = λ (x : Reached). Any (λ (y : Stage). IsEndOf setting moves y x) (stages ++ g ∷ [])}
        (λ x some. any_longer (λ (y : Stage). IsEndOf setting moves y x) stages (g ∷ []) some) ends so_far.sound)
        (Any-push (λ (y : Stage). IsEndOf setting moves y e) stages g end);
    holds =
        All-push (HoldsIn setting moves (ends ++ e ∷ [])) stages g
        (all_as {P = HoldsIn setting moves ends} {Q = HoldsIn setting moves (ends ++ e ∷ [])} (holds_longer ends (e ∷ [])) stages so_far.holds) is;
  }

  -- ---- the first moves

  front_of_all : (ends : List Reached) (k : ℕ) → k ≤ length moves → (g : Stage) → HoldsIn setting moves ends g → FrontHolds setting moves k g
  front_of_all ends k le g is = record {
    queries = queries_front setting g.meaning.0 g.state moves k is.queries;
    calls = λ ended.
        let end = (is.calls ended).4 in
        let first = calls_front setting g.meaning.0 g.state moves (take (length moves) g.meaning.1) end.bound k end.met in (
          first.0,
          subst (λ (ns : List (Option ℕ)). CallsAreMet setting g.meaning.0 g.state (take k moves) ns first.0) (take_front k (length moves) g.meaning.1 le) first.1,
        );
  }

  front_of_front : (count k : ℕ) → k ≤ count → (g : Stage) → FrontHolds setting moves count g → FrontHolds setting moves k g
  front_of_front count k le g is = record {
    queries = subst (QueriesAreMet setting g.meaning.0 g.state) (take_front k count moves le) (queries_front setting g.meaning.0 g.state (take count moves) k is.queries);
    calls = λ ended.
        let met = is.calls ended in
        let first = calls_front setting g.meaning.0 g.state (take count moves) (take count g.meaning.1) met.0 k met.1 in (
          first.0,
          subst (λ (ms : List Moving). CallsAreMet setting g.meaning.0 g.state ms (take k g.meaning.1) first.0) (take_front k count moves le)
              (subst (λ (ns : List (Option ℕ)). CallsAreMet setting g.meaning.0 g.state (take k (take count moves)) ns first.0) (take_front k count g.meaning.1 le) first.1),
        );
  }

  -- what is met of the first of the first moves
  front_within : (count k : ℕ) → k ≤ count → (g : Stage) → FrontHolds setting (take count moves) k g → FrontHolds setting moves k g
  front_within count k le g is = record {
    queries = subst (QueriesAreMet setting g.meaning.0 g.state) (take_front k count moves le) is.queries;
    calls = λ ended.
        let met = is.calls ended in
        (met.0, subst (λ (ms : List Moving). CallsAreMet setting g.meaning.0 g.state ms (take k g.meaning.1) met.0) (take_front k count moves le) met.1);
  }

  module _ (old mid new : Tables) (cases : List Case) (met : List (Met NamedWorld)) (m : Met NamedWorld) (ends : List Case) (count : ℕ)
      (first : Grows old mid) (then : Grows mid new) (behind : IsMetBehind old moves m) where
    same_stage : stage mid cases m ≡ stage old cases m
    same_stage = stage_stays old mid first moves cases m behind

    one_more : all_stages old cases (met ++ m ∷ []) ≡ all_stages old cases met ++ stage old cases m ∷ []
    one_more = map-append (stage old cases) met (m ∷ [])

    still : {P : Stage → Type 0} → Any P (all_stages old cases met) → Any P (all_stages old cases (met ++ m ∷ []))
    still {P} some = subst (Any P) (sym one_more) (any_longer P (all_stages old cases met) (stage old cases m ∷ []) some)

    -- what is found of the first moves is found of all, where these are all
    of_all : (failing : Option Failing) → (failing ≡ None → count ≡ length moves) → failing ≡ None → take count moves ≡ moves
    of_all failing all none = take_all count moves (let e = all none in omega (arith, e))

    -- one stage more at which the first moves are met
    fronts_more : (k : ℕ) → All (FrontHolds setting moves k) (all_stages old cases met) → FrontHolds setting moves k (stage mid cases m) → All (FrontHolds setting moves k) (all_stages old cases (met ++ m ∷ []))
    fronts_more k all is =
        subst (All (FrontHolds setting moves k)) (sym one_more)
        (All-push (FrontHolds setting moves k) (all_stages old cases met) (stage old cases m) all (subst (FrontHolds setting moves k) same_stage is))

    pub found_passed : (failing : Option Failing) → (failing ≡ None → count ≡ length moves) → AreFoundTo setting moves mid (all_stages old cases met) ends count failing
        → IsFound setting (take count moves) new (stage mid cases m) Passed → AreFoundTo setting moves new (all_stages old cases (met ++ m ∷ [])) ends count failing
    found_passed None all so_far is =
        let here = subst (λ (ms : List Moving). IsFound setting ms new (stage mid cases m) Passed) (of_all None all refl) is in
        let there = subst (λ (g : Stage). IsFound setting moves new g Passed) same_stage here in (
          all_held_stay mid new then ends so_far.0,
          subst (λ (gs : List Stage). AreJudged setting moves gs (all_reached new ends)) (sym one_more)
              (subst (AreJudged setting moves (all_stages old cases met ++ stage old cases m ∷ [])) (sym (all_reached_stay mid new then ends so_far.0))
              (judged_passed (all_stages old cases met) (all_reached mid ends) (stage old cases m) so_far.1
              (record { queries = there.0; calls = λ ended. absurd (there.1 ended) }))),
        )
    found_passed (Some f) all so_far is = (
      still {P = IsRefutedIn setting moves count f.order.items f.names f.unmet.came} so_far.0,
      fronts_more count so_far.1 (record { queries = is.0; calls = λ ended. absurd (is.1 ended) }),
    )

    pub found_end : (failing : Option Failing) (e : Case) → (failing ≡ None → count ≡ length moves) → count ≤ length moves → AreFoundTo setting moves mid (all_stages old cases met) ends count failing
        → IsFound setting (take count moves) new (stage mid cases m) (End e) → AreFoundTo setting moves new (all_stages old cases (met ++ m ∷ [])) (ends ++ e ∷ []) count failing
    found_end None e all few so_far is =
        let here = subst (λ (ms : List Moving). IsFound setting ms new (stage mid cases m) (End e)) (of_all None all refl) is in
        let there = subst (λ (g : Stage). IsFound setting moves new g (End e)) same_stage here in (
          rec_push (IsHeld new) ends e (all_held_stay mid new then ends so_far.0) there.0,
          subst (λ (gs : List Stage). AreJudged setting moves gs (all_reached new (ends ++ e ∷ []))) (sym one_more)
              (subst (AreJudged setting moves (all_stages old cases met ++ stage old cases m ∷ [])) (sym (map-append (reached new) ends (e ∷ [])))
              (subst (λ (es : List Reached). AreJudged setting moves (all_stages old cases met ++ stage old cases m ∷ []) (es ++ reached new e ∷ [])) (sym (all_reached_stay mid new then ends so_far.0))
              (judged_end (all_stages old cases met) (all_reached mid ends) (stage old cases m) (reached new e) so_far.1
              (record { queries = there.1; calls = λ ended. Any-push (IsEndOf setting moves (stage old cases m)) (all_reached mid ends) (reached new e) there.2 }) there.2))),
        )
    found_end (Some f) e all few so_far is =
        let g = stage mid cases m in
        let many : length (take count moves) ≡ count = length-take-le count moves few in (
          still {P = IsRefutedIn setting moves count f.order.items f.names f.unmet.came} so_far.0,
          fronts_more count so_far.1 (record {
            queries = is.1;
            calls = λ ended. (is.2.bound, subst (λ (n : ℕ). CallsAreMet setting g.meaning.0 g.state (take count moves) (take n g.meaning.1) is.2.bound) many is.2.met);
          }),
        )

    -- fewer moves are met at the stages before
    fronts : (failing : Option Failing) (k : ℕ) → k ≤ count → count ≤ length moves → AreFoundTo setting moves mid (all_stages old cases met) ends count failing
        → All (FrontHolds setting moves k) (all_stages old cases met)
    fronts None k le few so_far =
        all_as {P = HoldsIn setting moves (all_reached mid ends)} {Q = FrontHolds setting moves k} (front_of_all (all_reached mid ends) k (omega (arith, le, few))) (all_stages old cases met) so_far.1.holds
    fronts (Some f) k le few so_far = all_as {P = FrontHolds setting moves count} {Q = FrontHolds setting moves k} (front_of_front count k le) (all_stages old cases met) so_far.1

    pub found_unmet : (failing : Option Failing) → count ≤ length moves → AreFoundTo setting moves mid (all_stages old cases met) ends count failing → (place : ℕ) (f : Failing)
        → IsFound setting (take count moves) new (stage mid cases m) (Unmet place f) → AreFoundTo setting moves new (all_stages old cases (met ++ m ∷ [])) ends place (Some f)
    found_unmet failing few so_far place f is =
        let g = stage mid cases m in
        let within : place < length (take count moves) = is.0 in
        let le : place ≤ count = omega (arith, within, length-take-le count moves few) in
        let more = refuted_of_more setting g.meaning.0 g.state (take count moves) (drop count moves) g.meaning.1 f.unmet.came is.1.refuted in
        let told =
        subst (λ (ms : List Moving). (refuted : IsRefuted setting g.meaning.0 g.state ms g.meaning.1 f.unmet.came) × (refuted.place ≡ place)) (take-append-drop count moves) (more.0, more.1 ∙ is.1.at) in
        let whole : IsRefutedIn setting moves place f.order.items f.names f.unmet.came g =
        record { refuted = told.0; at = told.1; same_order = is.1.same_order; same_names = is.1.same_names } in (
          subst (Any (IsRefutedIn setting moves place f.order.items f.names f.unmet.came)) (sym one_more)
              (Any-push (IsRefutedIn setting moves place f.order.items f.names f.unmet.came) (all_stages old cases met) (stage old cases m)
              (subst (IsRefutedIn setting moves place f.order.items f.names f.unmet.came) same_stage whole)),
          fronts_more place (fronts failing place le few so_far) (front_within count place le g is.2),
        )

  -- ---- the cases so far

  pub record FoundSoFar (old now : Tables) (cases : List Case) (met : List (Met NamedWorld)) (ends : List Case) (failing : Option Failing) (count : ℕ) : Type 0 where
    pub grows : Grows old now
    pub few : count ≤ length moves
    pub all : failing ≡ None → count ≡ length moves
    pub found : AreFoundTo setting moves now (all_stages old cases met) ends count failing

  pub found_none : (t : Tables) (cases : List Case) → FoundSoFar t t cases [] [] None (length moves)
  found_none t cases = record {
    grows = grows_not t;
    few = omega arith;
    all = λ none. refl;
    found = (
      tt,
      record {
        sound = all_none (λ (e : Reached). Any (λ (g : Stage). IsEndOf setting moves g e) []);
        holds = all_none (HoldsIn setting moves []);
      },
    );
  }

  -- where no case is left
  pub found_of : (t : Tables) (stages : List Stage) (ends : List Case) (place : ℕ) (failing : Option Failing) → AreFoundTo setting moves t stages ends place failing → AreFound setting moves t stages ends failing
  found_of t stages ends place None is = is
  found_of t stages ends place (Some f) is = (place, is)

  -- a case that is met tells this of the first moves
  pub behind_front : (t : Tables) (m : Met NamedWorld) (k : ℕ) → IsMetBehind t moves m → IsMetBehind t (take k moves) m
  behind_front t m k is = record { kept = is.kept; known = is.known; accepted = omega (arith, is.accepted, length-take k moves) }

  module _ (old mid new : Tables) (cases : List Case) (met : List (Met NamedWorld)) (m : Met NamedWorld) (ends after : List Case) (failing last : Option Failing) (count left : ℕ)
      (so_far : FoundSoFar old mid cases met ends failing count) (then : Grows mid new) (behind : IsMetBehind old moves m) where
    abbrev Found : List Case → (place : ℕ) → Option Failing → Type 0
    Found es place last = AreFoundTo setting moves new (all_stages old cases (met ++ m ∷ [])) es place last

    as_found : (found : WhatIsFound) → IsFound setting (take count moves) new (stage mid cases m) found → AddsFound found ends after failing last count left
        → AreFoundTo setting moves new (all_stages old cases (met ++ m ∷ [])) after left last × (left ≤ length moves) × (last ≡ None → left ≡ length moves)
    as_found Passed is (more, none, same) = (
      subst (λ (es : List Case). Found es left last) (sym more) (subst (λ (n : ℕ). Found ends n last) (sym same)
          (subst (Found ends count) (sym none) (found_passed old mid new cases met m ends count so_far.grows then behind failing so_far.all so_far.found is))),
      subst (λ (n : ℕ). n ≤ length moves) (sym same) so_far.few,
      λ empty. same ∙ so_far.all (sym none ∙ empty),
    )
    as_found (End e) is (more, none, same) = (
      subst (λ (es : List Case). Found es left last) (sym more) (subst (λ (n : ℕ). Found (ends ++ e ∷ []) n last) (sym same)
          (subst (Found (ends ++ e ∷ []) count) (sym none) (found_end old mid new cases met m ends count so_far.grows then behind failing e so_far.all so_far.few so_far.found is))),
      subst (λ (n : ℕ). n ≤ length moves) (sym same) so_far.few,
      λ empty. same ∙ so_far.all (sym none ∙ empty),
    )
    as_found (Unmet place f) is (more, some, same) =
        let within : place < length (take count moves) = is.0 in (
          subst (λ (es : List Case). Found es left last) (sym more) (subst (λ (n : ℕ). Found ends n last) (sym same)
              (subst (Found ends place) (sym some) (found_unmet old mid new cases met m ends count so_far.grows then behind failing so_far.few so_far.found place f is))),
          subst (λ (n : ℕ). n ≤ length moves) (sym same) (omega (arith, within, length-take count moves)),
          λ empty. (let both : Some f ≡ None = sym some ∙ empty in cc),
        )

    pub found_more : (found : WhatIsFound) → IsFound setting (take count moves) new (stage mid cases m) found → AddsFound found ends after failing last count left
        → FoundSoFar old new cases (met ++ m ∷ []) after last left
    found_more found is adds =
        let next = as_found found is adds in
        record { grows = grows_further old mid new so_far.grows then; few = next.1; all = next.2; found = next.0 }
