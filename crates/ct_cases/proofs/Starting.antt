-- Cases get their starts, one after another.
use Rattle.std.proofs.Common.{◌≡◌, ℕ, zero, suc, ◌+◌, ◌<◌, ◌≤◌, List, [], ◌∷◌, ◌++◌, length, take, drop, get_or, map, Option, Some, None, refl, sym, ap, ◌∙◌, subst, arith}
use Rattle.std.specs.Prelude.{All}
use Rattle.std.specs.List.{Any, AllByRecursion}
use Rattle.std.proofs.lemmas.List.{map-append, length-append, length-take-le, take_all, take-append-drop}
use Rattle.std.proofs.lemmas.List.Quantifiers.{Any-push}
use Rattle.std.proofs.lemmas.List.Elements.{All-push}
use Rattle.ic_behaviour.specs.State.{State}
use Rattle.ic_keep.specs.Kept as keeping
use Rattle.ic_keep.specs.Kept.{state_at}
use Rattle.ct_check.specs.Moving.{Moving}
use Rattle.ct_outcomes.specs.declared.named.Named.{Named}
use Rattle.ct_outcomes.specs.declared.came.Came.{Came}
use Rattle.ct_run.specs.Statements.{Setting}
use Rattle.ct_search.proofs.Lists.{any_longer}
use Rattle.ct_worlds.specs.declared.worlds.NamedWorld.{NamedWorld}
use Rattle.ct_worlds.specs.Worlds.{IsKeptNamed, named_at}
use Rattle.ct_cases.specs.declared.case.Case.{Case}
use Rattle.ct_cases.specs.declared.case.Tables.{Tables}
use Rattle.ct_cases.specs.declared.submitting.Unsent.{Unsent}
use Rattle.ct_cases.specs.declared.failing.Failing.{Failing}
use Rattle.ct_cases.specs.Meanings.{Meaning, Extends, meaning_at}
use Rattle.ct_cases.specs.Reached.{Reached, IsBegun}
use Rattle.ct_cases.specs.Holding.{CanBegin, IsStuck}
use Rattle.ct_cases.specs.Cases.{Grows, IsHeld, AreHeld, reached, all_reached, AreBegun, Begins, IsStuckIn}
use Rattle.ct_cases.specs.Interleaves.{AreSubmitted}
use Rattle.ct_cases.specs.Answers.{AreSent, IsStarted, AreStartedTo, AreStarted}
use Rattle.ct_cases.proofs.Lists.{all_as, all_cons, all_none, front_is, rec_push, take_front, take_one}
use Rattle.ct_cases.proofs.Moves.{begins_front}
use Rattle.ct_cases.proofs.Stays.{grows_further, grows_in, meaning_stays, held_stays, reached_stays, all_named_held, all_named_stay}
use Rattle.ct_cases.proofs.Further.{begun_push, all_begun_stay, stuck_of_more}

rec_at : {X : Type 0} (P : X → Type 0) (xs : List X) (i : ℕ) (d : X) → i < length xs → AllByRecursion P xs → P (get_or xs i d)
rec_at P [] i d lt all = absurd (omega (arith, lt))
rec_at P (x ∷ xs) zero d lt all = all.0
rec_at P (x ∷ xs) (suc i) d lt all = rec_at P xs i d (omega (arith, lt)) all.1

-- where all moves are submitted, the first are
begun_front : (setting : Setting) (moves : List Moving) (meanings : List Meaning) (cs : List Reached) (starts : List (ℕ × State)) (k : ℕ) → AreBegun setting moves meanings cs starts
    → All (Begins setting moves k) cs
begun_front setting moves meanings [] [] k begun = all_none (Begins setting moves k)
begun_front setting moves meanings (c ∷ cs) (s ∷ starts) k begun =
    all_cons (Begins setting moves k) c cs (begins_front setting c.names c.state s.1 moves (meaning_at meanings s.0).1 k begun.0.submitted) (begun_front setting moves meanings cs starts k begun.1)
begun_front setting moves meanings [] (s ∷ starts) k begun = absurd begun
begun_front setting moves meanings (c ∷ cs) [] k begun = absurd begun

-- a case gets its start: its world is made, its moves are submitted, and what came is kept
module _ (setting : Setting) (old made kept new : Tables) (c : Case) (held : IsHeld old c) (first : Grows old made) (then : Grows made kept)
    (more : Extends kept.meanings new.meanings) (same : new.keeper ≡ kept.keeper) where
  pub grows_all : Grows old new
  grows_all = grows_further old kept new (grows_further old made kept first then) (grows_in kept new same more)

  pub started_in : (moves : List Moving) (s t : State) (names : List Named) (numbers : List (Option ℕ)) (start : NamedWorld) (unsent : Option Unsent)
      → s ≡ state_at old.keeper c.kept → names ≡ (meaning_at made.meanings c.meaning).0 → AreSent setting names s moves numbers t unsent
      → state_at kept.keeper start.kept ≡ t → start.names < length new.meanings → meaning_at new.meanings start.names ≡ (names, numbers)
      → IsStarted setting old new c moves start unsent
  started_in moves s t names numbers start None at called sent there known means =
      let known_as = called ∙ ap (λ (m : Meaning). m.0) (meaning_stays old made first c.meaning held.known) in
      let Sent = λ (ns : List Named) (u : State) (ks : List (Option ℕ)) (v : State). AreSubmitted setting ns u moves ks v in
      let own = subst (λ (ns : List Named). Sent ns s numbers t) known_as sent in
      let from = subst (λ (u : State). Sent (reached old c).names u numbers t) at own in
      let under = subst (λ (ks : List (Option ℕ)). Sent (reached old c).names (reached old c).state ks t) (sym (ap (λ (m : Meaning). m.1) means)) from in
      let to = sym there ∙ sym (ap (λ (q : keeping.Tables). state_at q start.kept) same) in
      record {
        known = known;
        names = ap (λ (m : Meaning). m.0) means ∙ known_as;
        submitted = subst (λ (v : State). Sent (reached old c).names (reached old c).state (meaning_at new.meanings start.names).1 v) to under;
      }
  started_in moves s t names numbers start (Some u) at called sent there known means =
      let known_as = called ∙ ap (λ (m : Meaning). m.0) (meaning_stays old made first c.meaning held.known) in
      let Stuck = λ (ns : List Named) (v : State). (stuck : IsStuck setting ns v moves u.came) × (length stuck.before ≡ u.place) in
      subst (Stuck (reached old c).names) at (subst (λ (ns : List Named). Stuck ns s) known_as sent)

module _ (setting : Setting) (moves : List Moving) (old mid new : Tables) (cases : List Case) (c : Case) (starts : List NamedWorld) (start : NamedWorld) (count : ℕ)
    (first : Grows old mid) (then : Grows mid new) (held : IsHeld old c) (kept : IsKeptNamed new.keeper start) where
  -- the case as it was
  same_case : reached mid c ≡ reached old c
  same_case = reached_stays old mid first c held

  one_more : all_reached old (cases ++ c ∷ []) ≡ all_reached old cases ++ reached old c ∷ []
  one_more = map-append (reached old) cases (c ∷ [])

  -- what was found stays found
  still : {P : Reached → Type 0} → Any P (all_reached old cases) → Any P (all_reached old (cases ++ c ∷ []))
  still {P} some = subst (Any P) (sym one_more) (any_longer P (all_reached old cases) (reached old c ∷ []) some)

  -- the case itself, where its first moves are submitted
  begins_here : IsStarted setting mid new c (take count moves) start None → Begins setting moves count (reached old c)
  begins_here is = subst (Begins setting moves count) same_case ((meaning_at new.meanings start.names).1, state_at new.keeper start.kept, is.submitted)

  started_more : (failing : Option Failing) → (failing ≡ None → count ≡ length moves) → AreStartedTo setting old mid cases moves starts count failing
      → IsStarted setting mid new c (take count moves) start None → AreStartedTo setting old new (cases ++ c ∷ []) moves (starts ++ start ∷ []) count failing
  started_more None all so_far is =
      let whole : take count moves ≡ moves = take_all count moves (let e = all refl in omega (arith, e)) in
      let begun : IsBegun setting moves new.meanings (reached old c) (named_at new.keeper start) =
      subst (λ (r : Reached). IsBegun setting moves new.meanings r (named_at new.keeper start)) same_case
      (subst (λ (ms : List Moving). IsBegun setting ms new.meanings (reached mid c) (named_at new.keeper start)) whole is) in
      let before = all_begun_stay setting mid new then moves (all_reached old cases) (map (named_at mid.keeper) starts) so_far.1 in
      let named = sym (all_named_stay mid new then starts so_far.0) in (
        rec_push (IsKeptNamed new.keeper) starts start (all_named_held mid new then starts so_far.0) kept,
        subst (λ (cs : List Reached). AreBegun setting moves new.meanings cs (map (named_at new.keeper) (starts ++ start ∷ []))) (sym one_more)
            (subst (AreBegun setting moves new.meanings (all_reached old cases ++ reached old c ∷ [])) (sym (map-append (named_at new.keeper) starts (start ∷ [])))
            (begun_push setting moves new.meanings (all_reached old cases) (map (named_at new.keeper) starts) (reached old c) (named_at new.keeper start)
            (subst (AreBegun setting moves new.meanings (all_reached old cases)) named before) begun)),
      )
  started_more (Some f) all so_far is = (
    still {P = IsStuckIn setting moves count f.order.items f.names f.unmet.came} so_far.0,
    subst (All (Begins setting moves count)) (sym one_more) (All-push (Begins setting moves count) (all_reached old cases) (reached old c) so_far.1 (begins_here is)),
  )

  -- fewer moves can be submitted in the cases before
  fronts : (failing : Option Failing) (k : ℕ) → k ≤ count → AreStartedTo setting old mid cases moves starts count failing → All (Begins setting moves k) (all_reached old cases)
  fronts None k le so_far = begun_front setting moves mid.meanings (all_reached old cases) (map (named_at mid.keeper) starts) k so_far.1
  fronts (Some f) k le so_far =
      all_as {P = Begins setting moves count} {Q = Begins setting moves k} (λ r begins.
      subst (CanBegin setting r.names r.state) (take_front k count moves le)
      (begins_front setting r.names r.state begins.1 (take count moves) begins.0 k begins.2)) (all_reached old cases) so_far.1

  started_stuck : (failing : Option Failing) → AreStartedTo setting old mid cases moves starts count failing → (u : Unsent) (f : Failing) → u.place ≤ count
      → IsStarted setting mid new c (take count moves) start (Some u)
      → f.unmet.came ≡ u.came → f.names ≡ (meaning_at new.meanings c.meaning).0 → f.order.items ≡ c.order.items
      → AreStartedTo setting old new (cases ++ c ∷ []) moves (starts ++ start ∷ []) u.place (Some f)
  started_stuck failing so_far u f le is came names order =
      let more = stuck_of_more setting (reached mid c).names (reached mid c).state (take count moves) (drop count moves) u.came is.0 in
      let whole =
      subst (λ (ms : List Moving). (stuck : IsStuck setting (reached mid c).names (reached mid c).state ms u.came) × (length stuck.before ≡ u.place)) (take-append-drop count moves)
      (more.0, more.1 ∙ is.1) in
      let here = subst (λ (r : Reached). (stuck : IsStuck setting r.names r.state moves u.came) × (length stuck.before ≡ u.place)) same_case whole in
      let told = subst (λ (x : Came). (stuck : IsStuck setting (reached old c).names (reached old c).state moves x) × (length stuck.before ≡ u.place)) (sym came) here in
      let there : reached new c ≡ reached old c = reached_stays mid new then c (held_stays old mid first c held) ∙ same_case in
      let front : here.0.before ≡ take u.place moves = front_is here.0.before (here.0.moving ∷ here.0.after) moves u.place here.0.parts here.1 in
      let begins : Begins setting moves u.place (reached old c) = (
        here.0.numbers,
        here.0.state,
        subst (λ (ms : List Moving). AreSubmitted setting (reached old c).names (reached old c).state ms here.0.numbers here.0.state) front here.0.submitted,
      ) in (
        subst (Any (IsStuckIn setting moves u.place f.order.items f.names f.unmet.came)) (sym one_more)
            (Any-push (IsStuckIn setting moves u.place f.order.items f.names f.unmet.came) (all_reached old cases) (reached old c) (record {
              stuck = told.0;
              at = told.1;
              same_order = order;
              same_names = names ∙ ap (λ (r : Reached). r.names) there;
            })),
        subst (All (Begins setting moves u.place)) (sym one_more)
            (All-push (Begins setting moves u.place) (all_reached old cases) (reached old c) (fronts failing u.place le so_far) begins),
      )

-- a case at a place is held as all are
pub held_at : (old : Tables) (cases : List Case) (i : ℕ) (c : Case) → i < length cases → c ≡ get_or cases i c → AreHeld old cases → IsHeld old c
held_at old cases i c within item held = subst (IsHeld old) (sym item) (rec_at (IsHeld old) cases i c within held)

-- where there is no more case
pub started_of : (setting : Setting) (old new : Tables) (cases : List Case) (moves : List Moving) (starts : List NamedWorld) (place : ℕ) (failing : Option Failing)
    → AreStartedTo setting old new cases moves starts place failing → AreStarted setting old new cases moves starts failing
started_of setting old new cases moves starts place None is = is
started_of setting old new cases moves starts place (Some f) is = (place, is)

-- the place of a move that cannot be submitted
pub stuck_place : (setting : Setting) (mid new : Tables) (c : Case) (moves : List Moving) (count : ℕ) (start : NamedWorld) (u : Unsent) → count ≤ length moves
    → IsStarted setting mid new c (take count moves) start (Some u) → u.place < length moves
stuck_place setting mid new c moves count start u few is =
    omega (arith, few, is.1, ap length is.0.parts, length-append is.0.before (is.0.moving ∷ is.0.after), length-take-le count moves few)

-- the case at a place gets its start
module _ (setting : Setting) (moves : List Moving) (old mid new : Tables) (cases : List Case) (i : ℕ) (c : Case) (starts next : List NamedWorld) (start : NamedWorld) (count : ℕ)
    (within : i < length cases) (item : c ≡ get_or cases i c) (pushed : next ≡ starts ++ start ∷ []) (first : Grows old mid) (then : Grows mid new) (held : AreHeld old cases)
    (kept : IsKeptNamed new.keeper start) where
  as_next : (place : ℕ) (failing : Option Failing) → AreStartedTo setting old new (take i cases ++ c ∷ []) moves (starts ++ start ∷ []) place failing
      → AreStartedTo setting old new (take (i + 1) cases) moves next place failing
  as_next place failing are =
      let more : take i cases ++ c ∷ [] ≡ take (i + 1) cases = ap (λ (d : Case). take i cases ++ d ∷ []) item ∙ sym (take_one cases i c within) in
      subst (λ (cs : List Case). AreStartedTo setting old new cs moves next place failing) more
      (subst (λ (ks : List NamedWorld). AreStartedTo setting old new (take i cases ++ c ∷ []) moves ks place failing) (sym pushed) are)

  at_place : (place other : ℕ) (told failing : Option Failing) → place ≡ other → told ≡ failing → AreStartedTo setting old new (take (i + 1) cases) moves next other failing
      → AreStartedTo setting old new (take (i + 1) cases) moves next place told
  at_place place other told failing here same are =
      subst (λ (n : ℕ). AreStartedTo setting old new (take (i + 1) cases) moves next n told) (sym here)
      (subst (AreStartedTo setting old new (take (i + 1) cases) moves next other) (sym same) are)

  pub next_started : (failing : Option Failing) → (failing ≡ None → count ≡ length moves) → AreStartedTo setting old mid (take i cases) moves starts count failing
      → IsStarted setting mid new c (take count moves) start None → (place : ℕ) (told : Option Failing) → place ≡ count → told ≡ failing
      → AreStartedTo setting old new (take (i + 1) cases) moves next place told
  next_started failing all so_far is place told here same =
      at_place place count told failing here same (as_next count failing (started_more setting moves old mid new (take i cases) c starts start count first then (held_at old cases i c within item held) kept failing all so_far is))

  pub next_stuck : (failing : Option Failing) → AreStartedTo setting old mid (take i cases) moves starts count failing → (u : Unsent) (f : Failing) → count ≤ length moves
      → IsStarted setting mid new c (take count moves) start (Some u)
      → f.unmet.came ≡ u.came → f.names ≡ (meaning_at new.meanings c.meaning).0 → f.order.items ≡ c.order.items
      → (place : ℕ) (told : Option Failing) → place ≡ u.place → told ≡ Some f → AreStartedTo setting old new (take (i + 1) cases) moves next place told
  next_stuck failing so_far u f few is came names order place told here same =
      let le : u.place ≤ count =
      omega (arith, is.1, ap length is.0.parts, length-append is.0.before (is.0.moving ∷ is.0.after), length-take-le count moves few) in
      at_place place u.place told (Some f) here same (as_next u.place (Some f)
      (started_stuck setting moves old mid new (take i cases) c starts start count first then (held_at old cases i c within item held) kept failing so_far u f le is came names order))
