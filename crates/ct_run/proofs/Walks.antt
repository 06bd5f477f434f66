-- Statements are walked one after another, as loops do.
use Rattle.std.proofs.Common.{◌≡◌, ◌+◌, ◌<◌, ◌≤◌, ℕ, zero, suc, List, [], ◌∷◌, ◌++◌, length, Some, None, refl, sym, subst, arith}
use Rattle.ic_behaviour.specs.State.{State}
use Rattle.ic_behaviour.specs.Runs.{Act}
use Rattle.ct_check.specs.declared.checked.CheckedKind.{CheckedKind}
use Rattle.ct_check.specs.declared.checked.CheckedStep.{CheckedStep}
use Rattle.ct_check.specs.declared.checked.CheckedStep.TheVariants.{Statement, Interleave}
use Rattle.ct_outcomes.specs.declared.named.Named.{Named}
use Rattle.ct_outcomes.specs.declared.came.Came.{Came}
use Rattle.ct_run.specs.Called.{after_acts}
use Rattle.ct_run.specs.Statements.{Setting}
use Rattle.ct_run.specs.Runs.{Runs, Stops, Steps, without_interleaves}

module _ (setting : Setting) where
  -- the first statement is met, and then the others are
  run_more : (s mid end : State) (names known last : List Named) (k : CheckedKind) (ks : List CheckedKind) (more : List Act)
      → Steps setting s names k mid known None → Runs setting mid known ks more end last → (acts : List Act) × Runs setting s names (k ∷ ks) acts end last
  run_more s mid end names known last k ks more (acts, bound, met, at, binds) runs =
      let there = subst (λ (t : State). Runs setting t known ks more end last) at runs in
      (acts ++ more, (acts, bound, more, met, subst (λ (ns : List Named). Runs setting (after_acts setting.charge s acts) ns ks more end last) binds there, refl))

  -- or one of them is not
  stop_later : (s mid : State) (names known last : List Named) (k : CheckedKind) (ks : List CheckedKind) (place : ℕ) (came : Came)
      → Steps setting s names k mid known None → Stops setting mid known ks place came last → Stops setting s names (k ∷ ks) (suc place) came last
  stop_later s mid names known last k ks place came (acts, bound, met, at, binds) stops =
      let there = subst (λ (t : State). Stops setting t known ks place came last) at stops in
      (acts, bound, met, subst (λ (ns : List Named). Stops setting (after_acts setting.charge s acts) ns ks place came last) binds there)

  -- some statements were met: what is left to walk, from this state with these names, walks all
  pub record Still (s : State) (names : List Named) (all : List CheckedKind) (mid : State) (known : List Named) (rest : List CheckedKind) (met : ℕ) : Type 0 where
    pub runs : (acts : List Act) (end : State) (last : List Named) → Runs setting mid known rest acts end last → (whole : List Act) × Runs setting s names all whole end last
    pub stops : (place total : ℕ) (came : Came) (last : List Named) → total ≡ met + place → Stops setting mid known rest place came last → Stops setting s names all total came last

  pub at_start : (s : State) (names : List Named) (all : List CheckedKind) → Still s names all s names all 0
  at_start s names all = record {
    runs = λ acts end last runs. (acts, runs);
    stops = λ place total came last same stops.
        let is : place ≡ total = omega arith in
        subst (λ (p : ℕ). Stops setting s names all p came last) is stops;
  }

  module _ (s mid : State) (names known : List Named) (all rest : List CheckedKind) (met : ℕ) (still : Still s names all mid known rest met) where
    pub goes_on : (next : State) (bound : List Named) (k : CheckedKind) (ks : List CheckedKind) → rest ≡ k ∷ ks → Steps setting mid known k next bound None → Still s names all next bound ks (met + 1)
    goes_on next bound k ks split steps = record {
      runs = λ acts end last runs.
          let more = run_more mid next end known bound last k ks acts steps runs in
          still.runs more.0 end last (subst (λ (r : List CheckedKind). Runs setting mid known r more.0 end last) (sym split) more.1);
      stops = λ place total came last same stops.
          let is : total ≡ met + suc place = omega arith in
          still.stops (suc place) total came last is
          (subst (λ (r : List CheckedKind). Stops setting mid known r (suc place) came last) (sym split) (stop_later mid next known bound last k ks place came steps stops));
    }

    pub at_failure : (end : State) (last : List Named) (k : CheckedKind) (ks : List CheckedKind) (came : Came)
        → rest ≡ k ∷ ks → Steps setting mid known k end last (Some came) → Stops setting s names all met came last
    at_failure end last k ks came split unmet =
        let is : met ≡ met + 0 = omega arith in
        still.stops 0 met came last is (subst (λ (r : List CheckedKind). Stops setting mid known r 0 came last) (sym split) unmet)

    pub at_end : rest ≡ [] → (acts : List Act) × Runs setting s names all acts mid known
    at_end none = still.runs [] mid known (subst (λ (r : List CheckedKind). Runs setting mid known r [] mid known) (sym none) (refl, refl, refl))

  -- some statements, and then others
  pub runs_both : (s mid end : State) (names known last : List Named) (front rest : List CheckedKind) (acts more : List Act)
      → Runs setting s names front acts mid known → Runs setting mid known rest more end last → (whole : List Act) × Runs setting s names (front ++ rest) whole end last
  runs_both s mid end names known last [] rest acts more (none, at, binds) runs =
      (more, subst (λ (t : State). Runs setting t names rest more end last) at (subst (λ (ns : List Named). Runs setting mid ns rest more end last) binds runs))
  runs_both s mid end names known last (k ∷ front) rest acts more (first, bound, others, met, met_all, all) runs =
      let whole = runs_both (after_acts setting.charge s first) mid end (names ++ bound) known last front rest others more met_all runs in
      (first ++ whole.0, (first, bound, whole.0, met, whole.1, refl))

  pub stops_after : (s mid : State) (names known last : List Named) (front rest : List CheckedKind) (acts : List Act) (place total : ℕ) (came : Came) → total ≡ length front + place
      → Runs setting s names front acts mid known → Stops setting mid known rest place came last → Stops setting s names (front ++ rest) total came last
  stops_after s mid names known last [] rest acts place total came same (none, at, binds) stops =
      let is : place ≡ total = omega arith in
      subst (λ (p : ℕ). Stops setting s names rest p came last) is
      (subst (λ (t : State). Stops setting t names rest place came last) at (subst (λ (ns : List Named). Stops setting mid ns rest place came last) binds stops))
  stops_after s mid names known last (k ∷ front) rest acts place total came same (first, bound, others, met, met_all, all) stops =
      let is : suc (length front + place) ≡ total = omega arith in
      subst (λ (p : ℕ). Stops setting s names (k ∷ (front ++ rest)) p came last) is
      (first, bound, met, stops_after (after_acts setting.charge s first) mid (names ++ bound) known last front rest others place (length front + place) came refl met_all stops)

  pub stops_before : (s : State) (names last : List Named) (front rest : List CheckedKind) (place : ℕ) (came : Came) → Stops setting s names front place came last → Stops setting s names (front ++ rest) place came last
  stops_before s names last [] rest place came stops = absurd stops
  stops_before s names last (k ∷ front) rest zero came stops = stops
  stops_before s names last (k ∷ front) rest (suc place) came (acts, bound, met, stops) =
      (acts, bound, met, stops_before (after_acts setting.charge s acts) (names ++ bound) last front rest place came stops)

  -- there is a statement at the place
  pub stops_within : (s : State) (names last : List Named) (ks : List CheckedKind) (place : ℕ) (came : Came) → Stops setting s names ks place came last → place < length ks
  stops_within s names last [] place came stops = absurd stops
  stops_within s names last (k ∷ ks) zero came stops = omega arith
  stops_within s names last (k ∷ ks) (suc place) came (acts, bound, met, stops) =
      omega (arith, stops_within (after_acts setting.charge s acts) (names ++ bound) last ks place came stops)

pub few_statements : (steps : List CheckedStep) → length (without_interleaves steps) ≤ length steps
few_statements [] = omega arith
few_statements (Statement statement ∷ steps) = omega (arith, few_statements steps)
few_statements (Interleave moves ∷ steps) = omega (arith, few_statements steps)
