-- A statement is met in one way at most, and what is not met is told in one way.
use Rattle.std.proofs.Common.{◌≡◌, ℕ, zero, suc, List, [], ◌∷◌, ◌++◌, take, Option, Some, None, refl, sym, ap, ◌∙◌, subst, inl, inr}
use Rattle.ic_base.proofs.Steps.{some_is}
use Rattle.ic_behaviour.specs.State.{State}
use Rattle.ic_behaviour.specs.Runs.{Act}
use Rattle.ct_check.specs.Moving.{Moving}
use Rattle.ct_check.specs.declared.checked.CheckedCreation.{CheckedCreation}
use Rattle.ct_check.specs.declared.checked.CheckedKind.{CheckedKind}
use Rattle.ct_check.specs.declared.checked.CheckedKind.TheVariants as kinds
use Rattle.ct_check.specs.declared.checked.CheckedOrigin.TheVariants as origins
use Rattle.ct_check.specs.declared.checked.CheckedOutcome.{CheckedOutcome}
use Rattle.ct_outcomes.specs.declared.named.Named.{Named}
use Rattle.ct_outcomes.specs.declared.came.Came.{Came}
use Rattle.ct_outcomes.specs.Types.{Types}
use Rattle.ct_outcomes.specs.Meets.{MeetsOne}
use Rattle.ct_asked.specs.declared.asked.Asked.{Asked}
use Rattle.ct_asked.specs.Requests.{Code}
use Rattle.ct_asked.specs.Asked.{types_of, IsAsked}
use Rattle.ct_asked.proofs.Once.{move_once, creation_once}
use Rattle.ct_run.specs.Called.{doing, after_acts}
use Rattle.ct_run.specs.Created.{Making, making}
use Rattle.ct_run.specs.Statements.{Setting, MeetsAt, expected_of, reply_types, IsMoveMet, IsMaking, IsMadeAsExpected, IsMet, IsUnmet, principal_named}
use Rattle.ct_run.specs.Runs.{Runs, Stops, Passes, Fails}

-- outcomes that are met bind one thing
abbrev pub MeetsOnce : Type 0
MeetsOnce = (types : Types) (names : List Named) (expected : List CheckedOutcome) (came : Came) (a b : List Named) → MeetsOne types names expected came a → MeetsOne types names expected came b → a ≡ b

module _ (meeting_once : MeetsOnce) (setting : Setting) where
  one_meeting : (types : Option Types) (names : List Named) (expected : List CheckedOutcome) (came : Came) (a b : List Named) → MeetsAt types names expected came a → MeetsAt types names expected came b → a ≡ b
  one_meeting None names expected came a b x y = absurd x
  one_meeting (Some types) names expected came a b x y = meeting_once types names expected came a b x y

  one_making : (s : State) (names : List Named) (by : ℕ) (creation : CheckedCreation) (m n : Making) → IsMaking setting s names by creation m → IsMaking setting s names by creation n → m ≡ n
  one_making s names by creation m n (inl (a, is, e)) (inl (b, are, f)) =
      e ∙ ap (λ (x : List ℕ × Code). making setting.charge s x creation.cycles) (creation_once setting.files names by creation a b is are) ∙ sym f
  one_making s names by creation m n (inl (a, is, e)) (inr (none, f)) = absurd (none a is)
  one_making s names by creation m n (inr (none, e)) (inl (b, are, f)) = absurd (none b are)
  one_making s names by creation m n (inr (none, e)) (inr (none', f)) = e ∙ sym f

  -- a move that is met binds one thing
  module _ (s : State) (names : List Named) where
    moved_once : (moving : Moving) (a b : Asked) (bound other : List Named) → IsAsked setting.files names moving a → IsAsked setting.files names moving b
        → IsMoveMet setting.files names moving.action (doing setting.charge s a).came bound → IsMoveMet setting.files names moving.action (doing setting.charge s b).came other
        → bound ≡ other
    moved_once moving a b bound other is are x y =
        let same : b ≡ a = sym (move_once setting.files names moving a b is are) in
        one_meeting (reply_types setting.files moving.action) names (expected_of moving.action) (doing setting.charge s a).came bound other x
        (subst (λ (z : Asked). IsMoveMet setting.files names moving.action (doing setting.charge s z).came other) same y)

    made_once : (creation : CheckedCreation) (m : Making) (id id' : List ℕ) (bound other : List Named)
        → IsMadeAsExpected setting.files names creation m id bound → IsMadeAsExpected setting.files names creation m id' other → (id ≡ id') × (bound ≡ other)
    made_once creation m id id' bound other x y =
        (some_is id id' (sym x.0 ∙ y.0), one_meeting (types_of setting.files creation.interface []) names creation.expected m.came bound other x.1 y.1)

    -- a statement that is met does one thing and binds one
    pub met_once : (k : CheckedKind) (acts others : List Act) (bound known : List Named) → IsMet setting s names k acts bound → IsMet setting s names k others known
        → (acts ≡ others) × (bound ≡ known)
    met_once (kinds.Users us) acts others bound known x y = (x.0 ∙ sym y.0, x.1 ∙ sym y.1)
    met_once (kinds.Time t) acts others bound known x y = (x.0 ∙ sym y.0, x.1 ∙ sym y.1)
    met_once (kinds.Canister by name (origins.Principal id interface)) acts others bound known x y = (x.0 ∙ sym y.0, x.1 ∙ sym y.1)
    met_once (kinds.Canister by name (origins.Named slot interface)) acts others bound known (none, (id, at, binds)) (none', (id', at', binds')) =
        (none ∙ sym none', binds ∙ ap (λ (i : List ℕ). principal_named name i ∷ []) (some_is id id' (sym at ∙ at')) ∙ sym binds')
    met_once (kinds.Canister by name (origins.Made creation)) acts others bound known (m, id, met, is, so, does, binds) (n, id', met', are, so', does', binds') =
        let same : n ≡ m = one_making s names by creation n m are is in
        let both = made_once creation m id id' met met' so (subst (λ (z : Making). IsMadeAsExpected setting.files names creation z id' met') same so') in (
          does ∙ sym (ap (λ (z : Making). z.acts) same) ∙ sym does',
          binds ∙ ap (λ (i : List ℕ). met ++ principal_named name i ∷ []) both.0 ∙ ap (λ (ns : List Named). ns ++ principal_named name id' ∷ []) both.1 ∙ sym binds',
        )
    met_once (kinds.Move moving) acts others bound known (a, is, meets, does) (b, are, meets', does') = (
      does ∙ ap (λ (z : Asked). (doing setting.charge s z).acts) (move_once setting.files names moving a b is are) ∙ sym does',
      moved_once moving a b bound known is are meets meets',
    )

    -- and is not unmet
    pub met_not_unmet : (k : CheckedKind) (acts : List Act) (bound : List Named) (came : Came) → IsMet setting s names k acts bound → IsUnmet setting s names k came → ⊥
    met_not_unmet (kinds.Users us) acts bound came x y = y
    met_not_unmet (kinds.Time t) acts bound came x y = y
    met_not_unmet (kinds.Canister by name (origins.Principal id interface)) acts bound came x y = y
    met_not_unmet (kinds.Canister by name (origins.Named slot interface)) acts bound came (none, (id, at, binds)) y = absurd (let e : Some id ≡ None = sym at ∙ y.0 in cc)
    met_not_unmet (kinds.Canister by name (origins.Made creation)) acts bound came (m, id, met, is, so, does, binds) (n, are, never, e) =
        never id met (subst (λ (z : Making). IsMadeAsExpected setting.files names creation z id met) (one_making s names by creation m n is are) so)
    met_not_unmet (kinds.Move moving) acts bound came (a, is, meets, does) (b, are, never, e) =
        never bound (subst (λ (z : Asked). IsMoveMet setting.files names moving.action (doing setting.charge s z).came bound) (move_once setting.files names moving a b is are) meets)

    -- one thing is told of one that is not met
    unmet_once : (k : CheckedKind) (came other : Came) → IsUnmet setting s names k came → IsUnmet setting s names k other → came ≡ other
    unmet_once (kinds.Users us) came other x y = absurd x
    unmet_once (kinds.Time t) came other x y = absurd x
    unmet_once (kinds.Canister by name (origins.Principal id interface)) came other x y = absurd x
    unmet_once (kinds.Canister by name (origins.Named slot interface)) came other x y = x.1 ∙ sym y.1
    unmet_once (kinds.Canister by name (origins.Made creation)) came other (m, is, never, e) (n, are, never', f) =
        e ∙ ap (λ (z : Making). z.came) (one_making s names by creation m n is are) ∙ sym f
    unmet_once (kinds.Move moving) came other (a, is, never, e) (b, are, never', f) =
        e ∙ ap (λ (z : Asked). (doing setting.charge s z).came) (move_once setting.files names moving a b is are) ∙ sym f

  -- ---- tests

  -- what comes after a statement that is met, as it is met in one way
  stops_again : (s : State) (names : List Named) (k : CheckedKind) (ks : List CheckedKind) (place : ℕ) (came : Came) (last : List Named) (acts others : List Act) (bound known : List Named)
      → IsMet setting s names k acts bound → IsMet setting s names k others known
      → Stops setting (after_acts setting.charge s others) (names ++ known) ks place came last → Stops setting (after_acts setting.charge s acts) (names ++ bound) ks place came last
  stops_again s names k ks place came last acts others bound known x y stops =
      let same = met_once s names k acts others bound known x y in
      subst (λ (xs : List Act). Stops setting (after_acts setting.charge s xs) (names ++ bound) ks place came last) (sym same.0)
      (subst (λ (ns : List Named). Stops setting (after_acts setting.charge s others) (names ++ ns) ks place came last) (sym same.1) stops)

  runs_not_stops : (s : State) (names : List Named) (ks : List CheckedKind) (acts : List Act) (end : State) (last known : List Named) (place : ℕ) (came : Came)
      → Runs setting s names ks acts end last → Stops setting s names ks place came known → ⊥
  runs_not_stops s names [] acts end last known place came runs stops = stops
  runs_not_stops s names (k ∷ ks) acts end last known zero came (first, bound, more, met, runs, all) (unmet, same) = met_not_unmet s names k first bound came met unmet
  runs_not_stops s names (k ∷ ks) acts end last known (suc place) came (first, bound, more, met, runs, all) (others, known', met', stops) =
      runs_not_stops (after_acts setting.charge s first) (names ++ bound) ks more end last known place came runs
      (stops_again s names k ks place came known first others bound known' met met' stops)

  pub one_verdict : (ks : List CheckedKind) (place : ℕ) (came : Came) (names : List Named) → Passes setting ks → Fails setting ks place came names → ⊥
  one_verdict ks place came names (acts, end, last, runs) stops = runs_not_stops _ _ ks acts end last names place came runs stops

  stops_once : (s : State) (names : List Named) (ks : List CheckedKind) (place other : ℕ) (came instead : Came) (last known : List Named)
      → Stops setting s names ks place came last → Stops setting s names ks other instead known → (place ≡ other) × (came ≡ instead) × (last ≡ known)
  stops_once s names [] place other came instead last known x y = absurd x
  stops_once s names (k ∷ ks) zero zero came instead last known (x, same) (y, also) = (refl, unmet_once s names k came instead x y, same ∙ sym also)
  stops_once s names (k ∷ ks) zero (suc other) came instead last known (x, same) (acts, bound, met, stops) = absurd (met_not_unmet s names k acts bound came met x)
  stops_once s names (k ∷ ks) (suc place) zero came instead last known (acts, bound, met, stops) (y, same) = absurd (met_not_unmet s names k acts bound instead met y)
  stops_once s names (k ∷ ks) (suc place) (suc other) came instead last known (acts, bound, met, stops) (others, bound', met', stops') =
      let rest = stops_once (after_acts setting.charge s acts) (names ++ bound) ks place other came instead last known stops
      (stops_again s names k ks other instead known acts others bound bound' met met' stops') in
      (ap suc rest.0, rest.1, rest.2)

  pub one_failure : (ks : List CheckedKind) (place other : ℕ) (came instead : Came) (names others : List Named) → Fails setting ks place came names → Fails setting ks other instead others
      → (place ≡ other) × (came ≡ instead) × (names ≡ others)
  one_failure ks place other came instead names others = stops_once _ _ ks place other came instead names others

-- the statements before the place of one that is not met
pub met_before : (setting : Setting) (s : State) (names last : List Named) (ks : List CheckedKind) (place : ℕ) (came : Came) → Stops setting s names ks place came last
    → (acts : List Act) × (end : State) × Runs setting s names (take place ks) acts end last
met_before setting s names last [] place came stops = absurd stops
met_before setting s names last (k ∷ ks) zero came (unmet, same) = ([], s, (refl, refl, same))
met_before setting s names last (k ∷ ks) (suc place) came (acts, bound, met, stops) =
    let rest = met_before setting (after_acts setting.charge s acts) (names ++ bound) last ks place came stops in
    (acts ++ rest.0, rest.1, (acts, bound, rest.0, met, rest.2, refl))
