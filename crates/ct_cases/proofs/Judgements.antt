-- Moves that are judged: queries in each state, calls where no message is left.
use Rattle.std.proofs.Common.{◌≡◌, ℕ, ◌+◌, ◌<◌, ◌≤◌, true, false, List, [], ◌∷◌, ◌++◌, length, take, drop, get_or, Option, Some, None, refl, sym, ap, ◌∙◌, subst, append-nil, arith}
use Rattle.std.specs.Prelude.{Result, Ok, Err, IfOk, option_map, slice_get}
use Rattle.std.specs.List.{list_any}
use Rattle.std.proofs.lemmas.List.{take_all}
use Rattle.std.proofs.Math.Seq.{take-length, take-append_seam, drop-append_seam}
use Rattle.ic_behaviour.specs.State.{State}
use Rattle.ct_check.specs.Moving.{Moving}
use Rattle.ct_check.specs.declared.checked.CheckedKind.TheVariants.{Move}
use Rattle.ct_check.specs.declared.checked.CheckedOutcome.{CheckedOutcome}
use Rattle.ct_outcomes.specs.declared.named.Named.{Named}
use Rattle.ct_outcomes.specs.declared.came.Came.{Came}
use Rattle.ct_outcomes.specs.Types.{Types}
use Rattle.ct_asked.specs.declared.asked.Asked.{Asked}
use Rattle.ct_asked.specs.declared.asked.Asked.TheVariants.{Call, Query, Nothing}
use Rattle.ct_asked.specs.Asked.{IsAsked}
use Rattle.ct_run.specs.Called.{after_acts, doing}
use Rattle.ct_run.specs.Statements.{Setting, IsMoveMet, MeetsAt, Judges, expected_of, reply_types}
use Rattle.ct_run.specs.Runs.{Steps}
use Rattle.ct_search.specs.declared.case.Case.{Case as Met}
use Rattle.ct_worlds.specs.declared.worlds.NamedWorld.{NamedWorld}
use Rattle.ct_cases.specs.declared.case.Case.{Case}
use Rattle.ct_cases.specs.declared.case.Tables.{Tables}
use Rattle.ct_cases.specs.declared.judging.Found.{Found}
use Rattle.ct_cases.specs.declared.judging.Found.TheVariants.{Passed, End, Unmet}
use Rattle.ct_cases.specs.declared.judging.Refuted.{Refuted}
use Rattle.ct_cases.specs.declared.failing.Failing.{Failing}
use Rattle.ct_cases.specs.Meanings.{Meaning}
use Rattle.ct_cases.specs.Reached.{Reached}
use Rattle.ct_cases.specs.Cases.{Grows, stage, IsMetBehind}
use Rattle.ct_cases.specs.Interleaves.{is_query, IsAnswered, IsEnd, QueriesAreMet, CallsAreMet, came_under}
use Rattle.ct_cases.specs.Holding.{IsQueryUnmet, IsCallUnmet, IsRefuted}
use Rattle.ct_cases.specs.Answers.{IsQueryJudged, IsCallJudged, IsMoveJudged, FrontIsMet, AreMovesJudged, IsStageJudged, IsLeft, IsFound}
use Rattle.ct_cases.proofs.Asking.{chosen_true, chosen_false, no_call}
use Rattle.ct_cases.proofs.Lists.{take_one, take_some, get_some}
use Rattle.ct_cases.proofs.Moves.{queries_more, calls_more, no_queries}

module _ (setting : Setting) (names : List Named) (s : State) where
  -- ---- queries

  no_acts : (moving : Moving) (asked : Asked) → is_query moving.action ≡ true → IsAsked setting.files names moving asked → (doing setting.charge s asked).acts ≡ []
  no_acts moving (Call ask) query is = absurd (no_call setting.files names moving ask query is)
  no_acts moving (Query ask) query is = refl
  no_acts moving (Nothing came) query is = refl

  pub query_judged : (moving : Moving) (end : State) (next : List Named) (told : Option Came) → is_query moving.action ≡ true
      → Steps setting s names (Move moving) end next told → IsQueryJudged setting names s moving end told
  query_judged moving end next None query (acts, bound, (asked, is, met, does), at, known) = (
    at ∙ ap (after_acts setting.charge s) (does ∙ no_acts moving asked query is),
    record { asked = asked; is = is; bound = bound; met = met },
  )
  query_judged moving end next (Some came) query ((asked, is, never, told), known) = record {
    asked = asked;
    is = is;
    told = told;
    unmet = λ bound met. never bound (subst (λ x. IsMoveMet setting.files names moving.action x bound) told met);
  }

  pub names_back : (moving : Moving) (end : State) (next : List Named) (told : Option Came) → Steps setting s names (Move moving) end next told → take (length names) next ≡ names
  names_back moving end next None (acts, bound, met, at, known) = ap (take (length names)) known ∙ take-append_seam names bound
  names_back moving end next (Some came) (unmet, known) = ap (take (length names)) known ∙ take-length names

  -- ---- calls

  module _ (moving : Moving) (number : Option ℕ) (types : Option Types) (expected : List CheckedOutcome) (came : Came)
      (typed : types ≡ reply_types setting.files moving.action) (wanted : expected ≡ expected_of moving.action) (comes : came ≡ came_under s number) where
    meets : (bound : List Named) → MeetsAt types names expected came bound → IsMoveMet setting.files names moving.action (came_under s number) bound
    meets bound met =
        subst (λ (c : Came). MeetsAt (reply_types setting.files moving.action) names (expected_of moving.action) c bound) comes
        (subst (λ (e : List CheckedOutcome). MeetsAt (reply_types setting.files moving.action) names e came bound) wanted
        (subst (λ (ts : Option Types). MeetsAt ts names expected came bound) typed met))

    meets_back : (bound : List Named) → IsMoveMet setting.files names moving.action came bound → MeetsAt types names expected came bound
    meets_back bound met =
        subst (λ (ts : Option Types). MeetsAt ts names expected came bound) (sym typed)
        (subst (λ (e : List CheckedOutcome). MeetsAt (reply_types setting.files moving.action) names e came bound) (sym wanted) met)

    pub call_judged : (next bound more : List Named) (told : Option Came) → IsEnd s → Judges types names expected came next told → more ≡ bound ++ drop (length names) next
        → IsCallJudged setting names s moving number bound more told
    call_judged next bound more None end (own, met, known) back =
        (own, back ∙ ap (λ (l : List Named). bound ++ l) (ap (drop (length names)) known ∙ drop-append_seam names own), λ ended. meets own met)
    call_judged next bound more (Some instead) end (never, told, known) back = record {
      ended = end;
      told = told ∙ comes;
      unmet = λ own met. never own (meets_back own (subst (λ (c : Came). IsMoveMet setting.files names moving.action c own) told met));
    }

    pub call_names : (next : List Named) (told : Option Came) → Judges types names expected came next told → take (length names) next ≡ names
    call_names next None (own, met, known) = ap (take (length names)) known ∙ take-append_seam names own
    call_names next (Some instead) (never, told, known) = ap (take (length names)) known ∙ take-length names

  -- ---- either

  pub query_as_move : (moving : Moving) (number : Option ℕ) (end : State) (bound : List Named) (told : Option Came) → is_query moving.action ≡ true
      → IsQueryJudged setting names s moving end told → IsMoveJudged setting names s moving number end bound bound told
  query_as_move moving number end bound None query (same, answered) = (
    [],
    sym (append-nil bound),
    same,
    chosen_true (is_query moving.action) (IsAnswered setting names s moving) (Unit {0}) query answered,
    λ ended. chosen_true (is_query moving.action) (◌≡◌ {A = List Named} [] []) (IsMoveMet setting.files names moving.action (came_under s number) []) query refl,
  )
  query_as_move moving number end bound (Some came) query unmet =
      chosen_true (is_query moving.action) (IsQueryUnmet setting names s moving came) (IsCallUnmet setting names s moving number came) query unmet

  pub call_as_move : (moving : Moving) (number : Option ℕ) (bound more : List Named) (told : Option Came) → is_query moving.action ≡ false
      → IsCallJudged setting names s moving number bound more told → IsMoveJudged setting names s moving number s bound more told
  call_as_move moving number bound more None query (own, back, met) = (
    own,
    back,
    refl,
    chosen_false (is_query moving.action) (IsAnswered setting names s moving) (Unit {0}) query tt,
    λ ended. chosen_false (is_query moving.action) (own ≡ []) (IsMoveMet setting.files names moving.action (came_under s number) own) query (met ended),
  )
  call_as_move moving number bound more (Some came) query unmet =
      chosen_false (is_query moving.action) (IsQueryUnmet setting names s moving came) (IsCallUnmet setting names s moving number came) query unmet

-- a query, whose answer is as it is judged
pub query_moves : {U E : Type 0} (setting : Setting) (names : List Named) (s : State) (moving : Moving) (number : Option ℕ) (bound : List Named) (came : U → Came) (r : Result (State × Option U) E)
    → is_query moving.action ≡ true → IfOk r (λ done. IsQueryJudged setting names s moving done.0 (option_map came done.1))
    → IfOk r (λ done. IsMoveJudged setting names s moving number done.0 bound bound (option_map came done.1))
query_moves setting names s moving number bound came (Ok done) query is = query_as_move setting names s moving number done.0 bound (option_map came done.1) query is
query_moves setting names s moving number bound came (Err e) query is = tt

-- ---- moves, one after another

-- the first moves are met, and these names are bound
pub record MovesSoFar (setting : Setting) (names : List Named) (t : State) (moves : List Moving) (numbers : List (Option ℕ)) (count : ℕ) (world : State) (known bound : List Named) : Type 0 where
  pub within : count ≤ length moves
  pub same : world ≡ t
  pub same_names : known ≡ names
  pub queries : QueriesAreMet setting names t (take count moves)
  pub calls : IsEnd t → CallsAreMet setting names t (take count moves) (take count numbers) bound

module _ (setting : Setting) (names : List Named) (t : State) (moves : List Moving) (numbers : List (Option ℕ)) where
  pub moves_none : MovesSoFar setting names t moves numbers 0 t names []
  moves_none = record { within = omega arith; same = refl; same_names = refl; queries = tt; calls = λ ended. refl }

  module _ (i : ℕ) (world : State) (known bound : List Named) (so_far : MovesSoFar setting names t moves numbers i world known bound)
      (moving : Moving) (number : Option ℕ) (lt : i < length moves) (at : moving ≡ get_or moves i moving) (accepted : slice_get numbers i ≡ Some number) where
    -- what is judged, of the state and the names at the start
    here : (same : State) (more : List Named) (told : Option Came) → IsMoveJudged setting known world moving number same bound more told → IsMoveJudged setting names t moving number same bound more told
    here same more told is =
        subst (λ (ns : List Named). IsMoveJudged setting ns t moving number same bound more told) so_far.same_names
        (subst (λ (s : State). IsMoveJudged setting known s moving number same bound more told) so_far.same is)

    longer : take (i + 1) moves ≡ take i moves ++ moving ∷ []
    longer = take_one moves i moving lt ∙ ap (λ (m : Moving). take i moves ++ m ∷ []) (sym at)

    pub moves_more : (same : State) (after more : List Named) → after ≡ known → IsMoveJudged setting known world moving number same bound more None
        → MovesSoFar setting names t moves numbers (i + 1) same after more
    moves_more same after more kept is = from (here same more None is)
      where
        from : IsMoveJudged setting names t moving number same bound more None → MovesSoFar setting names t moves numbers (i + 1) same after more
        from (own, back, state, query, call) = record {
          within = omega (arith, lt);
          same = state;
          same_names = kept ∙ so_far.same_names;
          queries = subst (QueriesAreMet setting names t) (sym longer) (queries_more setting names t (take i moves) moving so_far.queries query);
          calls = λ ended.
              subst (λ (ms : List Moving). CallsAreMet setting names t ms (take (i + 1) numbers) more) (sym longer)
              (subst (λ (ns : List (Option ℕ)). CallsAreMet setting names t (take i moves ++ moving ∷ []) ns more) (sym (take_some numbers i number accepted))
              (subst (CallsAreMet setting names t (take i moves ++ moving ∷ []) (take i numbers ++ number ∷ [])) (sym back)
              (calls_more setting names t (take i moves) (take i numbers) moving number bound own (so_far.calls ended) (call ended))));
        }

    pub moves_refuted : (same : State) (more : List Named) (came : Came) → IsMoveJudged setting known world moving number same bound more (Some came)
        → (i < length moves) × ((refuted : IsRefuted setting names t moves numbers came) × (refuted.place ≡ i)) × FrontIsMet setting names t moves numbers i
    moves_refuted same more came is = (
      lt,
      (
        record {
          place = i;
          moving = moving;
          number = number;
          move = get_some moves i moving lt ∙ ap (λ (m : Moving). Some m) (sym at);
          accepted = accepted;
          unmet = here same more (Some came) is;
        },
        refl,
      ),
      (so_far.queries, λ ended. (bound, so_far.calls ended)),
    )

  pub moves_done : (count : ℕ) (world : State) (known bound after : List Named) → MovesSoFar setting names t moves numbers count world known bound → length moves ≤ count → after ≡ known ++ bound
      → (world ≡ t) × QueriesAreMet setting names t moves
      × (IsEnd t → (all : List Named) × CallsAreMet setting names t moves (take (length moves) numbers) all × (after ≡ names ++ all))
  moves_done count world known bound after so_far all back =
      let whole : take count moves ≡ moves = take_all count moves all in
      let many : count ≡ length moves = omega (arith, all, so_far.within) in (
        so_far.same,
        subst (QueriesAreMet setting names t) whole so_far.queries,
        λ ended. (
          bound,
          subst (λ (n : ℕ). CallsAreMet setting names t moves (take n numbers) bound) many
              (subst (λ (ms : List Moving). CallsAreMet setting names t ms (take count numbers) bound) whole (so_far.calls ended)),
          back ∙ ap (λ (ns : List Named). ns ++ bound) so_far.same_names,
        ),
      )

-- ---- a stage

pub stage_judged : (setting : Setting) (moves : List Moving) (s t same : State) (names next : List Named) (numbers : List (Option ℕ)) (meaning : Meaning) (told : Option Refuted)
    → s ≡ t → names ≡ meaning.0 → numbers ≡ meaning.1 → AreMovesJudged setting names s moves numbers same next told → IsStageJudged setting moves t meaning next told
stage_judged setting moves s t same names next numbers meaning None at known accepted is =
    let there = subst (λ (x : State). AreMovesJudged setting names x moves numbers same next None) at is in
    let named = subst (λ (ns : List Named). AreMovesJudged setting ns t moves numbers same next None) known there in
    let all = subst (λ (ns : List (Option ℕ)). AreMovesJudged setting meaning.0 t moves ns same next None) accepted named in
    (all.1, all.2)
stage_judged setting moves s t same names next numbers meaning (Some r) at known accepted is =
    let there = subst (λ (x : State). AreMovesJudged setting names x moves numbers same next (Some r)) at is in
    let named = subst (λ (ns : List Named). AreMovesJudged setting ns t moves numbers same next (Some r)) known there in
    subst (λ (ns : List (Option ℕ)). AreMovesJudged setting meaning.0 t moves ns same next (Some r)) accepted named

module _ (setting : Setting) (moves : List Moving) (old mid new : Tables) (cases : List Case) (m : Met NamedWorld) where
  pub silent_found : (m.kept.kept.messages ≡ [] → ⊥) → list_any (λ (x : Moving). is_query x.action) moves ≡ false → IsFound setting moves new (stage old cases m) Passed
  silent_found under none = (no_queries setting (stage old cases m).meaning.0 (stage old cases m).state moves none, under)

  pub unmet_found : (names : List Named) (r : Refuted) (f : Failing) → IsStageJudged setting moves (stage old cases m).state (stage old cases m).meaning names (Some r)
      → f.unmet.came ≡ r.unmet.came → f.names ≡ (stage old cases m).meaning.0 → f.order.items ≡ (stage old cases m).order
      → IsFound setting moves new (stage old cases m) (Unmet r.place f)
  unmet_found names r f (within, (refuted, at), (queries, calls)) came known order =
      let g = stage old cases m in
      let told = subst (λ (x : Came). (refuted : IsRefuted setting g.meaning.0 g.state moves g.meaning.1 x) × (refuted.place ≡ r.place)) (sym came) (refuted, at) in
      (within, record { refuted = told.0; at = told.1; same_order = order; same_names = known }, record { queries = queries; calls = calls })

  pub left_found : Grows old mid → IsMetBehind old moves m → (names : List Named) (found : Found) → IsStageJudged setting moves (stage old cases m).state (stage old cases m).meaning names None
      → IsLeft mid new cases m names found → IsFound setting moves new (stage old cases m) found
  left_found grows behind names Passed is left = (is.0, left)
  left_found grows behind names (End e) is left =
      let there = is.1 left.0 in (
        left.1,
        is.0,
        record {
          bound = there.0;
          state = ap (λ (r : Reached). r.state) left.2 ∙ (grows.kept m.kept.kept behind.kept).1;
          ended = left.0;
          met = there.1;
          names = ap (λ (r : Reached). r.names) left.2 ∙ there.2;
          order = ap (λ (r : Reached). r.order) left.2;
        },
      )
  left_found grows behind names (Unmet place f) is left = absurd left

  pub all_left_found : {E : Type 0} → Grows old mid → IsMetBehind old moves m → (names : List Named) (r : Result Found E) → IsStageJudged setting moves (stage old cases m).state (stage old cases m).meaning names None
      → IfOk r (IsLeft mid new cases m names) → IfOk r (IsFound setting moves new (stage old cases m))
  all_left_found grows behind names (Ok found) is left = left_found grows behind names found is left
  all_left_found grows behind names (Err e) is left = tt
