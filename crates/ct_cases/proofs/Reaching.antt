-- An interleave: what is met after the starts of cases is what every way through it comes to.
use Rattle.std.proofs.Common.{◌≡◌, ℕ, zero, suc, ◌+◌, ◌<◌, ◌≤◌, Bool, true, false, List, [], ◌∷◌, ◌++◌, length, take, Option, Some, refl, sym, ap, ◌∙◌, subst, arith}
use Rattle.std.specs.Prelude.{All, slice_get}
use Rattle.std.specs.Bool.{OnTrue, OnFalse}
use Rattle.std.specs.List.{Any}
use Rattle.std.proofs.lemmas.List.{take_all}
use Rattle.ic_base.proofs.Steps.{some_is}
use Rattle.ic_behaviour.specs.State.{State}
use Rattle.ic_order.specs.Order.{SameState}
use Rattle.ic_order.proofs.Same.{equal, symmetric}
use Rattle.ct_check.specs.Moving.{Moving}
use Rattle.ct_outcomes.specs.declared.named.Named.{Named as Name}
use Rattle.ct_outcomes.specs.declared.came.Came.{Came}
use Rattle.ct_run.specs.Statements.{Setting}
use Rattle.ct_run.proofs.One.{MeetsOnce}
use Rattle.ct_search.specs.declared.case.Case.{Case as Met}
use Rattle.ct_search.specs.Meaning.{along, IsAllowed}
use Rattle.ct_search.specs.Visits.{IsVisit, IsComplete, HasSame, IsMore}
use Rattle.ct_search.specs.Search.{seen, all_seen, AreHeld}
use Rattle.ct_worlds.specs.declared.worlds.NamedWorld.{NamedWorld}
use Rattle.ct_worlds.specs.Worlds.{Named, SameNamed, worlds, IsKeptNamed, named_at}
use Rattle.ct_cases.specs.declared.case.Case.{Case}
use Rattle.ct_cases.specs.declared.case.Tables.{Tables}
use Rattle.ct_cases.specs.Interleaves.{AreSubmitted, Deliver, IsOnWay, IsEnd, QueriesAreMet, CallsAreMet}
use Rattle.ct_cases.specs.Meanings.{Meaning, AreApart, meaning_at}
use Rattle.ct_cases.specs.Reached.{Reached, IsBegun}
use Rattle.ct_cases.specs.Holding.{IsRefuted}
use Rattle.ct_cases.specs.Cases.{AreBegun, IsRefutedFrom, HoldsToFrom, IsBehind, HasCase, HoldsFrom, HasMore, Leads, Stage, stage, all_stages, order_at, reached, all_reached, IsEndOf, HoldsIn, FrontHolds, IsRefutedIn, AreJudged, AreMetBehind}
use Rattle.ct_cases.proofs.Asking.{queries_alike}
use Rattle.ct_cases.proofs.Deliveries.{delivered, delivers}
use Rattle.ct_cases.proofs.Lists.{any_first, any_later, any_split, any_as, all_as, all_first, all_later, all_none, all_cons, none_of, found}
use Rattle.ct_cases.proofs.Moves.{submitted_length, submitted_once, calls_once}

-- the stage comes from a case, on this way
pub record ComesFrom (setting : Setting) (moves : List Moving) (cases : List Reached) (g : Stage) : Type 0 where
  pub case : Reached
  pub among : Any (λ (c : Reached). c ≡ case) cases
  pub names : g.meaning.0 ≡ case.names
  pub more : List ℕ
  pub way : IsOnWay setting case.names case.state moves g.meaning.1 more g.state
  pub order : g.order ≡ case.order ++ more

-- a case and its start, at a place
record BegunAt (setting : Setting) (moves : List Moving) (meanings : List Meaning) (cases : List Reached) (place : ℕ) (start : ℕ × State) : Type 0 where
  case : Reached
  is : slice_get cases place ≡ Some case
  among : Any (λ (c : Reached). c ≡ case) cases
  begun : IsBegun setting moves meanings case start

module _ (setting : Setting) (moves : List Moving) where
  begun_at : (meanings : List Meaning) (cases : List Reached) (starts : List (ℕ × State)) → AreBegun setting moves meanings cases starts
      → (place : ℕ) (start : ℕ × State) → slice_get starts place ≡ Some start → BegunAt setting moves meanings cases place start
  begun_at meanings (c ∷ cases) (s ∷ starts) begun zero start is =
      let same : s ≡ start = some_is s start is in
      record { case = c; is = refl; among = any_first (λ (x : Reached). x ≡ c) c cases refl; begun = subst (IsBegun setting moves meanings c) same begun.0 }
  begun_at meanings (c ∷ cases) (s ∷ starts) begun (suc place) start is =
      let there = begun_at meanings cases starts begun.1 place start is in
      record { case = there.case; is = there.is; among = any_later (λ (x : Reached). x ≡ there.case) c cases there.among; begun = there.begun }
  begun_at meanings [] [] begun zero start is = cc
  begun_at meanings [] [] begun (suc place) start is = cc
  begun_at meanings [] (s ∷ starts) begun place start is = absurd begun
  begun_at meanings (c ∷ cases) [] begun place start is = absurd begun

  orders_at : (t : Tables) (cases : List Case) (place : ℕ) (c : Reached) → slice_get (all_reached t cases) place ≡ Some c → order_at cases place ≡ c.order
  orders_at t (d ∷ cases) zero c is = ap (λ (r : Reached). r.order) (some_is (reached t d) c is)
  orders_at t (d ∷ cases) (suc place) c is = orders_at t cases place c is
  orders_at t [] zero c is = cc
  orders_at t [] (suc place) c is = cc

  module _ (old t : Tables) (cases : List Case) (starts : List (ℕ × State)) (begun : AreBegun setting moves t.meanings (all_reached old cases) starts) where
    -- a case that is met comes from the case of its start
    comes_from : (m : Met NamedWorld) → IsVisit (worlds setting.charge.limit setting.charge.price) starts (seen named_at t.keeper m)
        → ComesFrom setting moves (all_reached old cases) (stage t cases m)
    comes_from m visit =
        let W = worlds setting.charge.limit setting.charge.price in
        let at = begun_at t.meanings (all_reached old cases) starts begun m.start visit.from visit.is in
        let c = at.case in
        let there = delivers setting visit.from.0 visit.from.1 m.order.items visit.allowed in
        let number : visit.from.0 ≡ m.kept.names = sym there.1 ∙ ap (λ (x : Named). x.0) visit.leads in
        let state = ap (λ (x : Named). x.1) visit.leads in
        let meaning : meaning_at t.meanings visit.from.0 ≡ meaning_at t.meanings m.kept.names = ap (meaning_at t.meanings) number in
        record {
          case = c;
          among = at.among;
          names = sym (ap (λ (x : Meaning). x.0) meaning) ∙ at.begun.names;
          more = m.order.items;
          way = record {
            start = visit.from.1;
            submitted = subst (λ (x : Meaning). AreSubmitted setting c.names c.state moves x.1 visit.from.1) meaning at.begun.submitted;
            delivered = subst (Deliver setting visit.from.1 m.order.items) state there.0;
          };
          order = ap (λ (l : List ℕ). l ++ m.order.items) (orders_at old cases m.start c at.is);
        }

    pub all_come : (met : List (Met NamedWorld)) → All (IsVisit (worlds setting.charge.limit setting.charge.price) starts) (all_seen named_at t.keeper met)
        → All (ComesFrom setting moves (all_reached old cases)) (all_stages t cases met)
    all_come [] visits = all_none (ComesFrom setting moves (all_reached old cases))
    all_come (m ∷ met) visits =
        let V = IsVisit (worlds setting.charge.limit setting.charge.price) starts in
        all_cons (ComesFrom setting moves (all_reached old cases)) (stage t cases m) (all_stages t cases met)
        (comes_from m (all_first V (seen named_at t.keeper m) (all_seen named_at t.keeper met) visits))
        (all_come met (all_later V (seen named_at t.keeper m) (all_seen named_at t.keeper met) visits))

    -- and its start is known, with what was accepted of each move
    pub known_start : (m : Met NamedWorld) → IsVisit (worlds setting.charge.limit setting.charge.price) starts (seen named_at t.keeper m)
        → (m.kept.names < length t.meanings) × (length moves ≤ length (meaning_at t.meanings m.kept.names).1)
    known_start m visit =
        let at = begun_at t.meanings (all_reached old cases) starts begun m.start visit.from visit.is in
        let there = delivers setting visit.from.0 visit.from.1 m.order.items visit.allowed in
        let number : visit.from.0 ≡ m.kept.names = sym there.1 ∙ ap (λ (x : Named). x.0) visit.leads in
        let many = submitted_length setting at.case.names at.case.state visit.from.1 moves (meaning_at t.meanings visit.from.0).1 at.begun.submitted in (
          subst (λ (n : ℕ). n < length t.meanings) number at.begun.known,
          subst (λ (n : ℕ). length moves ≤ length (meaning_at t.meanings n).1) number (omega (arith, many)),
        )

  -- ---- one way back: what is judged of the cases that are met

  module _ (cases : List Reached) where
    -- what holds of the case that it is, of one among them
    among_as : {P : Reached → Type 0} (case : Reached) → Any (λ (c : Reached). c ≡ case) cases → P case → Any P cases
    among_as {P} case among p = any_as {P = λ (c : Reached). c ≡ case} {Q = P} (λ c same. subst P (sym same) p) cases among

    behind : (g : Stage) (e : Reached) (from : ComesFrom setting moves cases g) → IsEndOf setting moves g e → IsBehind setting moves from.case e
    behind g e from end =
        let many = submitted_length setting from.case.names from.case.state from.way.start moves g.meaning.1 from.way.submitted in
        let whole : take (length moves) g.meaning.1 ≡ g.meaning.1 = take_all (length moves) g.meaning.1 (omega (arith, many)) in
        let met = subst (λ (ns : List (Option ℕ)). CallsAreMet setting g.meaning.0 g.state moves ns end.bound) whole end.met in
        let named = subst (λ (ns : List Name). CallsAreMet setting ns g.state moves g.meaning.1 end.bound) from.names met in
        record {
          numbers = g.meaning.1;
          more = from.more;
          bound = end.bound;
          way = subst (IsOnWay setting from.case.names from.case.state moves g.meaning.1 from.more) (sym end.state) from.way;
          ended = subst IsEnd (sym end.state) end.ended;
          met = subst (λ (s : State). CallsAreMet setting from.case.names s moves g.meaning.1 end.bound) (sym end.state) named;
          names = end.names ∙ ap (λ (ns : List Name). ns ++ end.bound) from.names;
          order = end.order ∙ from.order;
        }

    pub all_behind : (stages : List Stage) (ends : List Reached) → All (ComesFrom setting moves cases) stages
        → All (λ (e : Reached). Any (λ (g : Stage). IsEndOf setting moves g e) stages) ends
        → All (λ (e : Reached). Any (λ (c : Reached). IsBehind setting moves c e) cases) ends
    all_behind stages ends come sound =
        all_as {P = λ (e : Reached). Any (λ (g : Stage). IsEndOf setting moves g e) stages} {Q = λ (e : Reached). Any (λ (c : Reached). IsBehind setting moves c e) cases}
        (λ e some.
        let it = found (ComesFrom setting moves cases) (λ (g : Stage). IsEndOf setting moves g e) stages come some in
        among_as {P = λ (c : Reached). IsBehind setting moves c e} it.1.case it.1.among (behind it.0 e it.1 it.2)) ends sound

    pub refuted_from : (stages : List Stage) (place : ℕ) (order : List ℕ) (names : List Name) (came : Came) → All (ComesFrom setting moves cases) stages
        → Any (IsRefutedIn setting moves place order names came) stages → Any (IsRefutedFrom setting moves place order names came) cases
    refuted_from stages place order names came come some =
        let it = found (ComesFrom setting moves cases) (IsRefutedIn setting moves place order names came) stages come some in
        let g = it.0 in let from = it.1 in let refuted = it.2 in
        let told =
        subst (λ (ns : List Name). (r : IsRefuted setting ns g.state moves g.meaning.1 came) × (r.place ≡ place)) from.names (refuted.refuted, refuted.at) in
        among_as {P = IsRefutedFrom setting moves place order names came} from.case from.among (record {
          state = g.state;
          numbers = g.meaning.1;
          more = from.more;
          way = from.way;
          refuted = told.0;
          at = told.1;
          same_order = refuted.same_order ∙ from.order;
          same_names = refuted.same_names ∙ from.names;
        })

  -- ---- the other: each way comes to one of them

  -- what an order leads to is the same as a case that is met, after as many deliveries
  abbrev Reaches : (t : Tables) → List (Met NamedWorld) → Named → Type 0
  Reaches t met start =
      (order : List ℕ) → IsAllowed (worlds setting.charge.limit setting.charge.price) start order
      → HasSame (worlds setting.charge.limit setting.charge.price) (along (worlds setting.charge.limit setting.charge.price) start order) (length order) (all_seen named_at t.keeper met)

  -- the longest order
  pub longest_of : (met : List (Met NamedWorld)) → (longest : ℕ) × All (λ (m : Met NamedWorld). length m.order.items ≤ longest) met
  longest_of [] = (0, all_none (λ (m : Met NamedWorld). length m.order.items ≤ 0))
  longest_of (m ∷ met) =
      let rest = longest_of met in (
        rest.0 + length m.order.items,
        all_cons (λ (x : Met NamedWorld). length x.order.items ≤ rest.0 + length m.order.items) m met (omega arith)
            (all_as {P = λ (x : Met NamedWorld). length x.order.items ≤ rest.0} {Q = λ (x : Met NamedWorld). length x.order.items ≤ rest.0 + length m.order.items} (λ x le. omega (arith, le)) met rest.1),
      )

  module _ (t : Tables) (cases : List Case) (H : Stage → Type 0) (longest : ℕ) where
    -- a stage at which this holds, and that is the same as this one
    record Holding (y : Named) (count : ℕ) : Type 0 where
      g : Stage
      holds : H g
      meaning : g.meaning ≡ meaning_at t.meanings y.0
      same : SameState y.1 g.state
      few : count ≤ longest

    holding : (y : Named) (count : ℕ) (met : List (Met NamedWorld)) → HasSame (worlds setting.charge.limit setting.charge.price) y count (all_seen named_at t.keeper met)
        → All H (all_stages t cases met) → All (λ (m : Met NamedWorld). length m.order.items ≤ longest) met → Holding y count
    holding y count [] has hold few = absurd (none_of (λ (x : Met Named). (length x.order.items ≡ count) × SameNamed y x.kept) has)
    holding y count (m ∷ met) has hold few =
        any_split (λ (x : Met Named). (length x.order.items ≡ count) × SameNamed y x.kept) {C = Holding y count} (seen named_at t.keeper m) (all_seen named_at t.keeper met) has
        (λ here. record {
          g = stage t cases m;
          holds = all_first H (stage t cases m) (all_stages t cases met) hold;
          meaning = ap (meaning_at t.meanings) (sym here.1.0);
          same = here.1.1;
          few = (let le = all_first (λ (x : Met NamedWorld). length x.order.items ≤ longest) m met few in omega (arith, le, here.0));
        })
        (λ there. holding y count met there (all_later H (stage t cases m) (all_stages t cases met) hold)
        (all_later (λ (x : Met NamedWorld). length x.order.items ≤ longest) m met few))

    module _ (met : List (Met NamedWorld)) (hold : All H (all_stages t cases met)) (few : All (λ (m : Met NamedWorld). length m.order.items ≤ longest) met) where
      -- the stage that a way comes to
      record Arrived (c : Reached) (numbers : List (Option ℕ)) (order : List ℕ) (end : State) : Type 0 where
        g : Stage
        holds : H g
        names : g.meaning.0 ≡ c.names
        accepted : g.meaning.1 ≡ numbers
        same : SameState end g.state
        within : length order ≤ longest

      arrives : (c : Reached) (start : ℕ × State) → IsBegun setting moves t.meanings c start → Reaches t met start
          → (numbers : List (Option ℕ)) (order : List ℕ) (end : State) → IsOnWay setting c.names c.state moves numbers order end → Arrived c numbers order end
      arrives c start begun reaches numbers order end way =
          let W = worlds setting.charge.limit setting.charge.price in
          let accepted = (meaning_at t.meanings start.0).1 in
          let once = submitted_once setting c.names c.state start.1 way.start moves accepted numbers begun.submitted way.submitted in
          let from : Deliver setting start.1 order end = subst (λ (s : State). Deliver setting s order end) (sym once.1) way.delivered in
          let there = delivered setting start.0 start.1 order end from in
          let has : HasSame W (start.0, end) (length order) (all_seen named_at t.keeper met) =
          subst (λ (y : Named). HasSame W y (length order) (all_seen named_at t.keeper met)) there.1 (reaches order there.0) in
          let h = holding (start.0, end) (length order) met has hold few in
          record {
            g = h.g;
            holds = h.holds;
            names = ap (λ (x : Meaning). x.0) h.meaning ∙ begun.names;
            accepted = ap (λ (x : Meaning). x.1) h.meaning ∙ once.0;
            same = h.same;
            within = h.few;
          }

  -- the moves before a place are met on each way, where they are at each stage
  module _ (t : Tables) (cases : List Case) (place longest : ℕ) (met : List (Met NamedWorld)) (hold : All (FrontHolds setting moves place) (all_stages t cases met))
      (few : All (λ (m : Met NamedWorld). length m.order.items ≤ longest) met) where
    arrives_front : (c : Reached) (start : ℕ × State) → IsBegun setting moves t.meanings c start → Reaches t met start
        → (numbers : List (Option ℕ)) (order : List ℕ) (end : State) → IsOnWay setting c.names c.state moves numbers order end
        → Arrived t cases (FrontHolds setting moves place) longest met hold few c numbers order end
    arrives_front = arrives t cases (FrontHolds setting moves place) longest met hold few

    holds_to : (c : Reached) (start : ℕ × State) → IsBegun setting moves t.meanings c start → Reaches t met start → HoldsToFrom setting moves place c
    holds_to c start begun reaches = record {
      begins = ((meaning_at t.meanings start.0).1, start.1, begun.submitted);
      queries = λ numbers order end way.
          let a = arrives_front c start begun reaches numbers order end way in
          queries_alike a.g.state end (symmetric end a.g.state a.same) setting c.names (take place moves)
          (subst (λ (ns : List Name). QueriesAreMet setting ns a.g.state (take place moves)) a.names a.holds.queries);
      calls = λ numbers order end way ended.
          let a = arrives_front c start begun reaches numbers order end way in
          let same : end ≡ a.g.state = equal end a.g.state a.same ended in
          let own = a.holds.calls (subst IsEnd same ended) in
          let under = subst (λ (ns : List (Option ℕ)). CallsAreMet setting a.g.meaning.0 a.g.state (take place moves) (take place ns) own.0) a.accepted own.1 in
          let named = subst (λ (ns : List Name). CallsAreMet setting ns a.g.state (take place moves) (take place numbers) own.0) a.names under in
          (own.0, subst (λ (s : State). CallsAreMet setting c.names s (take place moves) (take place numbers) own.0) (sym same) named);
    }

    all_hold_to : (cs : List Reached) (starts : List (ℕ × State)) → AreBegun setting moves t.meanings cs starts
        → ((k : ℕ) (start : Named) → slice_get starts k ≡ Some start → Reaches t met start) → All (HoldsToFrom setting moves place) cs
    all_hold_to [] [] begun reach = all_none (HoldsToFrom setting moves place)
    all_hold_to (c ∷ cs) (start ∷ starts) begun reach =
        all_cons (HoldsToFrom setting moves place) c cs (holds_to c start begun.0 (reach 0 start refl)) (all_hold_to cs starts begun.1 (λ k s is. reach (suc k) s is))
    all_hold_to [] (start ∷ starts) begun reach = absurd begun
    all_hold_to (c ∷ cs) [] begun reach = absurd begun

  module _ (t : Tables) (cases : List Case) (ends : List Reached) (longest : ℕ) where
    module _ (met : List (Met NamedWorld)) (hold : All (HoldsIn setting moves ends) (all_stages t cases met))
        (few : All (λ (m : Met NamedWorld). length m.order.items ≤ longest) met) (meeting_once : MeetsOnce) where
      abbrev Arriving : Reached → List (Option ℕ) → List ℕ → State → Type 0
      Arriving c numbers order end = Arrived t cases (HoldsIn setting moves ends) longest met hold few c numbers order end

      arriving : (c : Reached) (start : ℕ × State) → IsBegun setting moves t.meanings c start → Reaches t met start
          → (numbers : List (Option ℕ)) (order : List ℕ) (end : State) → IsOnWay setting c.names c.state moves numbers order end → Arriving c numbers order end
      arriving = arrives t cases (HoldsIn setting moves ends) longest met hold few

      -- what is met at an end that a way comes to
      record Ended (c : Reached) (numbers : List (Option ℕ)) (end : State) : Type 0 where
        bound : List Name
        calls : CallsAreMet setting c.names end moves numbers bound
        among : HasCase ends end (c.names ++ bound)

      ends_so : (c : Reached) (numbers : List (Option ℕ)) (order : List ℕ) (end : State) → length numbers ≡ length moves → Arriving c numbers order end → IsEnd end → Ended c numbers end
      ends_so c numbers order end many a ended =
          let same : end ≡ a.g.state = equal end a.g.state a.same ended in
          let some = a.holds.calls (subst IsEnd same ended) in
          let e = some.1 in
          let is = some.4 in
          let whole : take (length moves) a.g.meaning.1 ≡ numbers = ap (take (length moves)) a.accepted ∙ take_all (length moves) numbers (omega (arith, many)) in
          let met = subst (λ (ns : List (Option ℕ)). CallsAreMet setting a.g.meaning.0 a.g.state moves ns is.bound) whole is.met in
          let named = subst (λ (ns : List Name). CallsAreMet setting ns a.g.state moves numbers is.bound) a.names met in
          record {
            bound = is.bound;
            calls = subst (λ (s : State). CallsAreMet setting c.names s moves numbers is.bound) (sym same) named;
            among = (some.0, e, some.2, some.3, (is.state ∙ sym same, is.names ∙ ap (λ (ns : List Name). ns ++ is.bound) a.names));
          }

      holds_from : (c : Reached) (start : ℕ × State) → IsBegun setting moves t.meanings c start → Reaches t met start → HoldsFrom setting moves longest ends c
      holds_from c start begun reaches = record {
        begins = ((meaning_at t.meanings start.0).1, start.1, begun.submitted);
        queries = λ numbers order end way.
            let a = arriving c start begun reaches numbers order end way in
            queries_alike a.g.state end (symmetric end a.g.state a.same) setting c.names moves (subst (λ (ns : List Name). QueriesAreMet setting ns a.g.state moves) a.names a.holds.queries);
        calls = λ numbers order end way ended.
            let many = submitted_length setting c.names c.state way.start moves numbers way.submitted in
            let e = ends_so c numbers order end many (arriving c start begun reaches numbers order end way) ended in
            (e.bound, e.calls);
        within = λ numbers order end way. (arriving c start begun reaches numbers order end way).within;
        met = λ numbers order end bound way ended met.
            let many = submitted_length setting c.names c.state way.start moves numbers way.submitted in
            let e = ends_so c numbers order end many (arriving c start begun reaches numbers order end way) ended in
            let same : e.bound ≡ bound = calls_once setting c.names end meeting_once moves numbers e.bound bound e.calls met in
            subst (λ (b : List Name). HasCase ends end (c.names ++ b)) same e.among;
      }

      pub all_hold_from : (cs : List Reached) (starts : List (ℕ × State)) → AreBegun setting moves t.meanings cs starts
          → ((k : ℕ) (start : Named) → slice_get starts k ≡ Some start → Reaches t met start) → All (HoldsFrom setting moves longest ends) cs
      all_hold_from [] [] begun reach = all_none (HoldsFrom setting moves longest ends)
      all_hold_from (c ∷ cs) (start ∷ starts) begun reach =
          all_cons (HoldsFrom setting moves longest ends) c cs (holds_from c start begun.0 (reach 0 start refl)) (all_hold_from cs starts begun.1 (λ k s is. reach (suc k) s is))
      all_hold_from [] (start ∷ starts) begun reach = absurd begun
      all_hold_from (c ∷ cs) [] begun reach = absurd begun

  -- ---- the whole

  module _ (most : ℕ) (old t : Tables) (cases : List Case) (starts : List (ℕ × State)) (begun : AreBegun setting moves t.meanings (all_reached old cases) starts) where
    pub has_more : (all : Bool) → AreApart t.meanings → OnFalse all (IsMore (worlds setting.charge.limit setting.charge.price) starts most) → OnFalse all (HasMore setting moves most (all_reached old cases))
    has_more true apart more = tt
    has_more false apart more = record { meanings = t.meanings; apart = apart; starts = starts; begun = begun; more = more }

    pub front_holds : (place : ℕ) (met : List (Met NamedWorld)) → All (FrontHolds setting moves place) (all_stages t cases met) → (all : Bool)
        → OnTrue all (IsComplete (worlds setting.charge.limit setting.charge.price) starts (all_seen named_at t.keeper met))
        → OnTrue all (All (HoldsToFrom setting moves place) (all_reached old cases))
    front_holds place met hold false complete = tt
    front_holds place met hold true complete =
        let longest = longest_of met in
        all_hold_to t cases place longest.0 met hold longest.1 (all_reached old cases) starts begun (λ k start is order allowed. complete k start is order allowed)

  module _ (most : ℕ) (meeting_once : MeetsOnce) (old t : Tables) (cases : List Case) (starts : List (ℕ × State)) (met : List (Met NamedWorld)) (ends : List Reached)
      (begun : AreBegun setting moves t.meanings (all_reached old cases) starts)
      (visits : All (IsVisit (worlds setting.charge.limit setting.charge.price) starts) (all_seen named_at t.keeper met))
      (judged : AreJudged setting moves (all_stages t cases met) ends) where
    complete_so : (all : Bool) → OnTrue all (IsComplete (worlds setting.charge.limit setting.charge.price) starts (all_seen named_at t.keeper met))
        → OnTrue all ((longest : ℕ) × All (HoldsFrom setting moves longest ends) (all_reached old cases))
    complete_so false complete = tt
    complete_so true complete =
        let longest = longest_of met in
        (longest.0, all_hold_from t cases ends longest.0 met judged.holds longest.1 meeting_once (all_reached old cases) starts begun (λ k start is order allowed. complete k start is order allowed))

    pub leads : (all : Bool) → AreApart t.meanings → OnTrue all (IsComplete (worlds setting.charge.limit setting.charge.price) starts (all_seen named_at t.keeper met))
        → OnFalse all (IsMore (worlds setting.charge.limit setting.charge.price) starts most) → Leads setting moves most (all_reached old cases) ends all
    leads all apart complete more = record {
      sound = all_behind (all_reached old cases) (all_stages t cases met) ends (all_come old t cases starts begun met visits) judged.sound;
      complete = complete_so all complete;
      more = has_more most old t cases starts begun all apart more;
    }

  -- what is kept of the cases that are met
  pub met_behind : (old t : Tables) (cases : List Case) (starts : List (ℕ × State)) → AreBegun setting moves t.meanings (all_reached old cases) starts
      → (met : List (Met NamedWorld)) → AreHeld IsKeptNamed t.keeper met → All (IsVisit (worlds setting.charge.limit setting.charge.price) starts) (all_seen named_at t.keeper met)
      → AreMetBehind t moves met
  met_behind old t cases starts begun [] held visits = tt
  met_behind old t cases starts begun (m ∷ met) held visits =
      let V = IsVisit (worlds setting.charge.limit setting.charge.price) starts in
      let known = known_start old t cases starts begun m (all_first V (seen named_at t.keeper m) (all_seen named_at t.keeper met) visits) in (
        record { kept = held.0; known = known.0; accepted = known.1 },
        met_behind old t cases starts begun met held.1 (all_later V (seen named_at t.keeper m) (all_seen named_at t.keeper met) visits),
      )
