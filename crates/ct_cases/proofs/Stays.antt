-- What was kept stands for what it stood for, while tables grow.
use Rattle.std.proofs.Common.{◌≡◌, ℕ, ◌<◌, ◌≤◌, ◌++◌, List, [], ◌∷◌, length, map, refl, sym, ap, ap₂, ◌∙◌, subst, append_assoc, arith}
use Rattle.std.specs.List.{AllByRecursion}
use Rattle.std.proofs.lemmas.List.{append-nil, get_or_append_left, length-append}
use Rattle.ic_behaviour.specs.State.{State}
use Rattle.ic_keep.specs.Kept.{state_at}
use Rattle.ic_keep.specs.IsKept.{IsKept}
use Rattle.ic_keep.specs.IsKept as kept
use Rattle.ic_keep.proofs.Stays.{kept_stays}
use Rattle.ct_check.specs.Moving.{Moving}
use Rattle.ct_search.specs.declared.case.Case.{Case as Met}
use Rattle.ct_worlds.specs.declared.worlds.NamedWorld.{NamedWorld}
use Rattle.ct_worlds.specs.Worlds.{IsKeptNamed, named_at}
use Rattle.ct_cases.specs.declared.case.Case.{Case}
use Rattle.ct_cases.specs.declared.case.Tables.{Tables}
use Rattle.ct_cases.specs.Meanings.{Meaning, meaning_at}
use Rattle.ct_cases.specs.Reached.{Reached}
use Rattle.ct_cases.specs.Cases.{IsHeld, AreHeld, Grows, reached, all_reached, Stage, stage, order_at, IsMetBehind, AreMetBehind}

pub grows_not : (t : Tables) → Grows t t
grows_not t = record { kept = λ k is. (is, refl); meanings = ([], sym (append-nil t.meanings)) }

pub grows_further : (a b c : Tables) → Grows a b → Grows b c → Grows a c
grows_further a b c first then = record {
  kept = λ k is. let here = first.kept k is in let there = then.kept k here.0 in (there.0, there.1 ∙ here.1);
  meanings = (
    first.meanings.0 ++ then.meanings.0,
    then.meanings.1 ∙ ap (λ (l : List Meaning). l ++ then.meanings.0) first.meanings.1 ∙ append_assoc a.meanings first.meanings.0 then.meanings.0,
  );
}

-- where more is kept, and names stand for what they stood for
pub grows_by : (a b : Tables) → kept.Grows a.keeper b.keeper → b.meanings ≡ a.meanings → Grows a b
grows_by a b grows same = record { kept = kept_stays a.keeper b.keeper grows; meanings = ([], same ∙ sym (append-nil a.meanings)) }

-- where there are more meanings
pub grows_in : (a b : Tables) → b.keeper ≡ a.keeper → (more : List Meaning) × (b.meanings ≡ a.meanings ++ more) → Grows a b
grows_in a b same more = record {
  kept = λ k is. (subst (λ q. IsKept q k) (sym same) is, ap (λ q. state_at q k) same);
  meanings = more;
}

-- where nothing is more
pub grows_same : (a b : Tables) → b.keeper ≡ a.keeper → b.meanings ≡ a.meanings → Grows a b
grows_same a b same meanings = grows_in a b same ([], meanings ∙ sym (append-nil a.meanings))

module _ (a b : Tables) (grows : Grows a b) where
  pub known_stays : (n : ℕ) → n < length a.meanings → n < length b.meanings
  known_stays n lt = omega (arith, ap length grows.meanings.1, length-append a.meanings grows.meanings.0)

  pub meaning_stays : (n : ℕ) → n < length a.meanings → meaning_at b.meanings n ≡ meaning_at a.meanings n
  meaning_stays n lt = ap (λ (l : List Meaning). meaning_at l n) grows.meanings.1 ∙ get_or_append_left a.meanings grows.meanings.0 ([], []) n lt

  pub held_stays : (c : Case) → IsHeld a c → IsHeld b c
  held_stays c is = record { kept = (grows.kept c.kept is.kept).0; known = known_stays c.meaning is.known }

  pub reached_stays : (c : Case) → IsHeld a c → reached b c ≡ reached a c
  reached_stays c is =
      ap (λ (s : State). let r : Reached = record { state = s; names = (meaning_at b.meanings c.meaning).0; order = c.order.items } in r) (grows.kept c.kept is.kept).1
      ∙ ap (λ (m : Meaning). let r : Reached = record { state = state_at a.keeper c.kept; names = m.0; order = c.order.items } in r) (meaning_stays c.meaning is.known)

  pub all_held_stay : (cases : List Case) → AreHeld a cases → AreHeld b cases
  all_held_stay [] held = tt
  all_held_stay (c ∷ cases) held = (held_stays c held.0, all_held_stay cases held.1)

  pub all_reached_stay : (cases : List Case) → AreHeld a cases → all_reached b cases ≡ all_reached a cases
  all_reached_stay [] held = refl
  all_reached_stay (c ∷ cases) held = ap₂ (λ (x : Reached) (xs : List Reached). x ∷ xs) (reached_stays c held.0) (all_reached_stay cases held.1)

  pub named_stays : (k : NamedWorld) → IsKeptNamed a.keeper k → IsKeptNamed b.keeper k × (named_at b.keeper k ≡ named_at a.keeper k)
  named_stays k is = let still = grows.kept k.kept is in (still.0, ap (λ (s : State). (k.names, s)) still.1)

  pub all_named_held : (ks : List NamedWorld) → AllByRecursion (IsKeptNamed a.keeper) ks → AllByRecursion (IsKeptNamed b.keeper) ks
  all_named_held [] held = tt
  all_named_held (k ∷ ks) held = ((named_stays k held.0).0, all_named_held ks held.1)

  pub all_named_stay : (ks : List NamedWorld) → AllByRecursion (IsKeptNamed a.keeper) ks → map (named_at b.keeper) ks ≡ map (named_at a.keeper) ks
  all_named_stay [] held = refl
  all_named_stay (k ∷ ks) held = ap₂ (λ (x : ℕ × State) (xs : List (ℕ × State)). x ∷ xs) (named_stays k held.0).1 (all_named_stay ks held.1)

  module _ (moves : List Moving) where
    pub met_stays : (m : Met NamedWorld) → IsMetBehind a moves m → IsMetBehind b moves m
    met_stays m is = record {
      kept = (grows.kept m.kept.kept is.kept).0;
      known = known_stays m.kept.names is.known;
      accepted = subst (λ (x : Meaning). length moves ≤ length x.1) (sym (meaning_stays m.kept.names is.known)) is.accepted;
    }

    pub stage_stays : (cases : List Case) (m : Met NamedWorld) → IsMetBehind a moves m → stage b cases m ≡ stage a cases m
    stage_stays cases m is =
        ap (λ (s : State). let g : Stage = record { state = s; meaning = meaning_at b.meanings m.kept.names; order = order_at cases m.start ++ m.order.items } in g) (grows.kept m.kept.kept is.kept).1
        ∙ ap (λ (x : Meaning). let g : Stage = record { state = state_at a.keeper m.kept.kept; meaning = x; order = order_at cases m.start ++ m.order.items } in g) (meaning_stays m.kept.names is.known)

    pub all_met_stay : (met : List (Met NamedWorld)) → AreMetBehind a moves met → AreMetBehind b moves met
    all_met_stay [] held = tt
    all_met_stay (m ∷ met) held = (met_stays m held.0, all_met_stay met held.1)
