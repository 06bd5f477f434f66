-- How the program ends, by how its run ended.
use Rattle.std.proofs.Common.{◌≡◌, ◌⊎◌, ℕ, List, Option, Some, None, Result, Ok, Err, IfOk, refl, sym, ap, ◌∙◌, subst, inl, inr, string_bytes}
use Rattle.ic_outside.specs.Faults.{next_count}
use Rattle.ct_words.specs.declared.Choice.{Choice}
use Rattle.ct_words.specs.declared.Choice.TheVariants as choices
use Rattle.ct_words.specs.declared.TestOptions.{TestOptions}
use Rattle.ct_words.specs.Options.{usage_text}
use Rattle.ct_host.specs.declared.running.Limits.{Limits}
use Rattle.ct_host.specs.declared.status.Status.{Status}
use Rattle.ct_host.specs.declared.status.Status.TheVariants as statuses
use Rattle.ct_host.specs.declared.stop.Broken.{Broken}
use Rattle.ct_host.specs.declared.stop.Broken.TheVariants as breaks
use Rattle.ct_host.specs.declared.stop.Stop.{Stop}
use Rattle.ct_host.specs.declared.stop.Stop.TheVariants as stops
use Rattle.ct_host.specs.declared.stop.Told.{Told}
use Rattle.ct_host.specs.declared.stop.Why.{Why}
use Rattle.ct_host.specs.declared.stop.Why.TheVariants as reasons
use Rattle.ct_host.specs.Chosen.{Chosen, chosen_tests}
use Rattle.ct_host.specs.Ends.{AreOf, Concludes, EndsRefused, EndsWell, Hinders, HindersTests, Refuses, RunsChosen, RunsTests, faults_then}
use Rattle.ct_host.specs.Looking.{AreSuites, Gives, Suite}
use Rattle.ct_host.specs.Reports.{IsPrinted}
use Rattle.ct_host.specs.Statuses.{status_of, status_after}

-- ---- what is run, and why nothing is

pub runs_tests : (gives : Gives) (options : TestOptions) (suites : List Suite) (limits : Limits) (before after : Option (List ℕ)) (r : Result Status Stop)
    → AreSuites gives options.files suites None → AreOf options limits
    → IfOk r (RunsChosen limits options.choice (chosen_tests options.choice suites) before after) → IfOk r (RunsTests gives options before after)
runs_tests gives options suites limits before after (Ok status) are given runs = (suites, limits, are, given, runs)
runs_tests gives options suites limits before after (Err stop) are given runs = tt

pub hinders_files : (gives : Gives) (options : TestOptions) (suites : List Suite) (fault : Option Why) (why : Why) → AreSuites gives options.files suites fault → fault ≡ Some why → Hinders gives options why
hinders_files gives options suites fault why are is = inl (suites, subst (λ (f : Option Why). AreSuites gives options.files suites f) is are)

pub hinders_tests : (gives : Gives) (options : TestOptions) (suites : List Suite) (why : Why)
    → AreSuites gives options.files suites None → HindersTests options.choice (chosen_tests options.choice suites) why → Hinders gives options why
hinders_tests gives options suites why are hinders = inr (suites, are, hinders)

-- what was told is told
pub same_told : (P : Told → Type 0) (a b : Told) → ◌≡◌ {A = Result Status Stop} (Err (stops.Told a)) (Err (stops.Told b)) → P a → P b
same_told P a b same holds = let e : a ≡ b = cc in subst P e holds

-- ---- a run is over where its tests are

abbrev pub IsOver : Status → Type 0
IsOver status = (status ≡ statuses.Passed) ⊎ (status ≡ statuses.Failed)

printed_over : (limits : Limits) (choice : Choice) (tests : List Chosen) (printed : List ℕ) (status : Status) → IsPrinted limits choice tests printed status → IsOver status
printed_over limits choices.All tests printed status (told, counts, tells, text, inl (is, failed, undecided)) = inl is
printed_over limits choices.All tests printed status (told, counts, tells, text, inr (is, some)) = inr is
printed_over limits (choices.Only part) tests printed status (told, counts, tells, text, inl (is, failed, undecided)) = inl is
printed_over limits (choices.Only part) tests printed status (told, counts, tells, text, inr (is, some)) = inr is
printed_over limits (choices.Script wanted) tests printed status is = inl is
printed_over limits (choices.Picture wanted) tests printed status is = inl is

runs_over : (gives : Gives) (options : TestOptions) (before after : Option (List ℕ)) (status : Status) → RunsTests gives options before after status → IsOver status
runs_over gives options before after status (suites, limits, are, given, (some, (printed, is, took))) =
    printed_over limits options.choice (chosen_tests options.choice suites) printed status is

-- the words that were taken, if they were
module _ (gives : Gives) (taken : Option TestOptions) (before mid : Option (List ℕ)) (r : Result Status Stop) where
  pub is_over : (taken ≡ None → Refuses r) → ((options : TestOptions) → taken ≡ Some options → IfOk r (RunsTests gives options before mid)) → IfOk r IsOver
  is_over refuses runs = over taken r refuses runs
    where
      over : (words : Option TestOptions) (ended : Result Status Stop) → (words ≡ None → Refuses ended)
          → ((options : TestOptions) → words ≡ Some options → IfOk ended (RunsTests gives options before mid)) → IfOk ended IsOver
      over None (Ok status) refuses runs = absurd (refuses refl)
      over (Some options) (Ok status) refuses runs = runs_over gives options before mid status (runs options refl)
      over words (Err stop) refuses runs = tt

-- ---- what the status says

pub ends_refused : (old new : ℕ) (r : Result Status Stop) (status : Status) → Refuses r → Concludes old new r status → EndsRefused status
ends_refused old new (Ok ended) status refuses concludes = absurd refuses
ends_refused old new (Err (stops.Told told)) status (bad, line) (inl (is, same)) = inl (is ∙ ap status_of bad)
ends_refused old new (Err (stops.Told told)) status (bad, line) (inr (is, more)) = inr (inl is)
ends_refused old new (Err (stops.Broken broken)) status out (is, same) = inr (inr (is ∙ ap status_after out))

pub usage_told : (old new : ℕ) (r : Result Status Stop) (status : Status) → Refuses r → Concludes old new r status → status ≡ statuses.BadWords
    → (told : Told) × (r ≡ Err (stops.Told told)) × (string_bytes told.line ≡ usage_text)
usage_told old new (Ok ended) status refuses concludes is = absurd refuses
usage_told old new (Err (stops.Told told)) status (bad, line) concludes is = (told, refl, line)
usage_told old new (Err (stops.Broken broken)) status out (concluded, same) is = let e = sym is ∙ concluded ∙ ap status_after out in cc

passed_well : (gives : Gives) (options : TestOptions) (before after : Option (List ℕ)) (status : Status) → IsOver status → RunsTests gives options before after status → EndsWell gives options before after status
passed_well gives options before after status (inl is) runs =
    subst (λ (s : Status). EndsWell gives options before after s) (sym is) (subst (λ (s : Status). RunsTests gives options before after s) is runs)
passed_well gives options before after status (inr is) runs =
    subst (λ (s : Status). EndsWell gives options before after s) (sym is) (subst (λ (s : Status). RunsTests gives options before after s) is runs)

hindered_well : (gives : Gives) (options : TestOptions) (before after : Option (List ℕ)) (why : Why) → Hinders gives options why → EndsWell gives options before after (status_of why)
hindered_well gives options before after reasons.BadWords hinders = hinders
hindered_well gives options before after reasons.Faulty hinders = hinders
hindered_well gives options before after reasons.Unreadable hinders = hinders

broken_well : (gives : Gives) (options : TestOptions) (before after : Option (List ℕ)) (broken : Broken) → EndsWell gives options before after (status_after broken)
broken_well gives options before after breaks.WriteFault = tt
broken_well gives options before after breaks.NoMemory = tt

pub ends_well : (gives : Gives) (options : TestOptions) (before after : Option (List ℕ)) (old new : ℕ) (r : Result Status Stop) (status : Status)
    → IfOk r (RunsTests gives options before after) → ((told : Told) → r ≡ Err (stops.Told told) → Hinders gives options told.why) → Concludes old new r status
    → EndsWell gives options before after status
ends_well gives options before after old new (Ok ended) status runs hinders (is, same) =
    subst (λ (s : Status). EndsWell gives options before after s) (sym is) (passed_well gives options before after ended (runs_over gives options before after ended runs) runs)
ends_well gives options before after old new (Err (stops.Told told)) status runs hinders (inl (is, same)) =
    subst (λ (s : Status). EndsWell gives options before after s) (sym is) (hindered_well gives options before after told.why (hinders told refl))
ends_well gives options before after old new (Err (stops.Told told)) status runs hinders (inr (is, more)) = subst (λ (s : Status). EndsWell gives options before after s) (sym is) tt
ends_well gives options before after old new (Err (stops.Broken broken)) status runs hinders (is, same) =
    subst (λ (s : Status). EndsWell gives options before after s) (sym is) (broken_well gives options before after broken)

-- no status of a run that is over or breaks off is that of one that does not begin
over_is_other : (status : Status) (why : Why) → IsOver status → status ≡ status_of why → ⊥
over_is_other status reasons.BadWords (inl over) is = cc
over_is_other status reasons.BadWords (inr over) is = cc
over_is_other status reasons.Faulty (inl over) is = cc
over_is_other status reasons.Faulty (inr over) is = cc
over_is_other status reasons.Unreadable (inl over) is = cc
over_is_other status reasons.Unreadable (inr over) is = cc

broken_is_other : (broken : Broken) (why : Why) → status_after broken ≡ status_of why → ⊥
broken_is_other breaks.WriteFault reasons.BadWords is = cc
broken_is_other breaks.WriteFault reasons.Faulty is = cc
broken_is_other breaks.WriteFault reasons.Unreadable is = cc
broken_is_other breaks.NoMemory reasons.BadWords is = cc
broken_is_other breaks.NoMemory reasons.Faulty is = cc
broken_is_other breaks.NoMemory reasons.Unreadable is = cc

-- where the status is that of a run that does not begin, why it does not was told
pub was_told : (old new : ℕ) (r : Result Status Stop) (status : Status) (why : Why) → IfOk r IsOver → Concludes old new r status → status ≡ status_of why
    → (told : Told) × (r ≡ Err (stops.Told told))
was_told old new (Ok ended) status why over (concluded, same) is = absurd (over_is_other ended why over (sym concluded ∙ is))
was_told old new (Err (stops.Told told)) status why over concludes is = (told, refl)
was_told old new (Err (stops.Broken broken)) status why over (concluded, same) is = absurd (broken_is_other broken why (sym concluded ∙ is))

-- where the status is that an output failed, one did: in the run, or where it is told why there is none
pub rose : (old new : ℕ) (r : Result Status Stop) (status : Status) (was : ℕ) → IfOk r IsOver → Concludes old new r status → status ≡ statuses.WriteFault
    → (faults_then was r ≡ next_count was) ⊎ ((told : Told) × (r ≡ Err (stops.Told told)) × (new ≡ next_count old))
rose old new (Ok ended) status was (inl over) (concluded, same) is = absurd (let e = sym over ∙ sym concluded ∙ is in cc)
rose old new (Ok ended) status was (inr over) (concluded, same) is = absurd (let e = sym over ∙ sym concluded ∙ is in cc)
rose old new (Err (stops.Told told)) status was over (inl (concluded, same)) is = absurd (told_is_other told.why (sym concluded ∙ is))
  where
    told_is_other : (why : Why) → status_of why ≡ statuses.WriteFault → ⊥
    told_is_other reasons.BadWords e = cc
    told_is_other reasons.Faulty e = cc
    told_is_other reasons.Unreadable e = cc
rose old new (Err (stops.Told told)) status was over (inr (concluded, more)) is = inr (told, refl, more)
rose old new (Err (stops.Broken breaks.WriteFault)) status was over (concluded, same) is = inl refl
rose old new (Err (stops.Broken breaks.NoMemory)) status was over (concluded, same) is = absurd (let e = sym concluded ∙ is in cc)
