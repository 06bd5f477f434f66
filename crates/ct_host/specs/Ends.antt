-- How the program ends, by its words and by what the disk gives.
use Rattle.std.specs.Prelude.{◌≡◌, ◌⊎◌, ℕ, List, Option, Some, None, Result, Ok, Err, string_bytes}
use Rattle.ic_outside.specs.Faults.{next_count}
use Rattle.ct_words.specs.declared.Choice.{Choice}
use Rattle.ct_words.specs.declared.TestOptions.{TestOptions}
use Rattle.ct_words.specs.Options.{usage_text}
use Rattle.ct_host.specs.Chosen.{AreSome, Chosen, chosen_tests}
use Rattle.ct_host.specs.Looking.{Gives, Suite, AreSuites}
use Rattle.ct_host.specs.Reports.{Prints}
use Rattle.ct_host.specs.Statuses.{status_of, status_after}
use Rattle.ct_host.specs.declared.running.Limits.{Limits}
use Rattle.ct_host.specs.declared.status.Status.{Status}
use Rattle.ct_host.specs.declared.status.Status.TheVariants as statuses
use Rattle.ct_host.specs.declared.stop.Broken.{Broken}
use Rattle.ct_host.specs.declared.stop.Broken.TheVariants as breaks
use Rattle.ct_host.specs.declared.stop.Stop.{Stop}
use Rattle.ct_host.specs.declared.stop.Stop.TheVariants as stops
use Rattle.ct_host.specs.declared.stop.Why.{Why}
use Rattle.ct_host.specs.declared.stop.Why.TheVariants.{BadWords, Faulty, Unreadable}

-- ---- why no test runs

-- of tests that are there none is meant
abbrev pub HindersTests : Choice → List Chosen → Why → Type 0
HindersTests choice tests why = (why ≡ BadWords) × (AreSome choice tests → ⊥)

-- not all holds that must of a file, of the first such; or of all files that holds, and no test is meant
abbrev pub Hinders : Gives → TestOptions → Why → Type 0
Hinders gives options why =
    ((suites : List Suite) × AreSuites gives options.files suites (Some why))
    ⊎ ((suites : List Suite) × AreSuites gives options.files suites None × HindersTests options.choice (chosen_tests options.choice suites) why)

-- ---- what tests print

-- there are tests, and this is printed where they are run
abbrev pub RunsChosen : Limits → Choice → List Chosen → (before after : Option (List ℕ)) → Status → Type 0
RunsChosen limits choice tests before after status = AreSome choice tests × Prints limits choice tests before after status

-- tests are run with the limit, the price and the most states of the words
pub record AreOf (options : TestOptions) (limits : Limits) : Type 0 where
  pub limit : limits.charge.limit ≡ options.limit
  pub price : limits.charge.price ≡ options.price
  pub states : limits.states ≡ options.states
  pub trace : limits.trace ≡ options.trace

-- of all files all holds that must, and the tests that are meant are run as the words say
abbrev pub RunsTests : Gives → TestOptions → (before after : Option (List ℕ)) → Status → Type 0
RunsTests gives options before after status =
    (suites : List Suite) × (limits : Limits) × AreSuites gives options.files suites None × AreOf options limits
    × RunsChosen limits options.choice (chosen_tests options.choice suites) before after status

-- ---- what each status says

-- of words that are taken
abbrev pub EndsWell : Gives → TestOptions → (before after : Option (List ℕ)) → Status → Type 0
EndsWell gives options before after statuses.Passed = RunsTests gives options before after statuses.Passed
EndsWell gives options before after statuses.Failed = RunsTests gives options before after statuses.Failed
EndsWell gives options before after statuses.BadWords = Hinders gives options BadWords
EndsWell gives options before after statuses.Faulty = Hinders gives options Faulty
EndsWell gives options before after statuses.Unreadable = Hinders gives options Unreadable
EndsWell gives options before after statuses.WriteFault = Unit {0}
EndsWell gives options before after statuses.NoMemory = Unit {0}

-- of words that are refused
abbrev pub EndsRefused : Status → Type 0
EndsRefused status = (status ≡ statuses.BadWords) ⊎ (status ≡ statuses.WriteFault) ⊎ (status ≡ statuses.NoMemory)

-- ---- what code holds of these

-- words are refused by the usage line, unless memory ran out
abbrev pub Refuses : Result Status Stop → Type 0
Refuses (Ok status) = ⊥
Refuses (Err (stops.Told told)) = (told.why ≡ BadWords) × (string_bytes told.line ≡ usage_text)
Refuses (Err (stops.Broken broken)) = broken ≡ breaks.NoMemory

-- this holds; or it does not, which is told as that; or memory ran out
abbrev pub HoldsOr : {T : Type 0} → Type 0 → Why → Result T Stop → Type 0
HoldsOr P why (Ok done) = P
HoldsOr P why (Err (stops.Told told)) = (told.why ≡ why) × (P → ⊥)
HoldsOr P why (Err (stops.Broken broken)) = broken ≡ breaks.NoMemory

-- the faults of an output after a call: one more where the call says that it could not write
abbrev pub faults_after : {T : Type 0} → ℕ → Result T Broken → ℕ
faults_after before (Ok done) = before
faults_after before (Err breaks.WriteFault) = next_count before
faults_after before (Err breaks.NoMemory) = before

-- the same where the call may also tell why no test runs
abbrev pub faults_then : {T : Type 0} → ℕ → Result T Stop → ℕ
faults_then before (Ok done) = before
faults_then before (Err (stops.Told told)) = before
faults_then before (Err (stops.Broken breaks.WriteFault)) = next_count before
faults_then before (Err (stops.Broken breaks.NoMemory)) = before

-- the status of a program that ended so, by the faults of standard error before and after it is told why
abbrev pub Concludes : (before after : ℕ) → Result Status Stop → Status → Type 0
Concludes before after (Ok status) concluded = (concluded ≡ status) × (after ≡ before)
Concludes before after (Err (stops.Broken broken)) concluded = (concluded ≡ status_after broken) × (after ≡ before)
Concludes before after (Err (stops.Told told)) concluded =
    ((concluded ≡ status_of told.why) × (after ≡ before)) ⊎ ((concluded ≡ statuses.WriteFault) × (after ≡ next_count before))
