-- Tests one after another, as loops take them.
use Rattle.std.proofs.Common.{◌≡◌, ℕ, true, false, List, [], ◌∷◌, ◌++◌, Option, Some, None, length, ◌+◌, refl, sym, ap, ap₂, ◌∙◌, subst, inl, inr, append_assoc}
use Rattle.std.specs.Prelude.{Result, Ok, Err, IfOk}
use Rattle.std.proofs.lemmas.List.{append-nil}
use Rattle.std.specs.Io.KnownBytes.{append_known}
use Rattle.ct_check.specs.Moving.{Moving}
use Rattle.ct_check.specs.declared.checked.CheckedStep.{CheckedStep}
use Rattle.ct_check.specs.declared.checked.CheckedStep.TheVariants.{Interleave}
use Rattle.ct_check.specs.declared.checked.CheckedTest.{CheckedTest}
use Rattle.ct_outcomes.specs.declared.came.Came.{Came}
use Rattle.ct_outcomes.specs.declared.named.Named.{Named}
use Rattle.ct_run.specs.Statements.{Setting}
use Rattle.ct_orders.specs.Verdicts.{FailsFirst, HasTooMany, IsAt, Passes, whole}
use Rattle.ct_orders.specs.declared.verdict.Ended.{Ended}
use Rattle.ct_orders.specs.declared.verdict.NotMet.{NotMet}
use Rattle.ct_orders.specs.declared.verdict.TooMany.{TooMany}
use Rattle.ct_orders.specs.declared.verdict.Verdict.TheVariants as verdicts
use Rattle.ct_report.specs.declared.tap.Block.{Block}
use Rattle.ct_report.specs.declared.tap.Counts.{Counts}
use Rattle.ct_report.specs.Texts.{block_text, counts_text, failed_text, next_number, place_text, plan_text}
use Rattle.ct_report.specs.Told.{Tells}
use Rattle.ct_words.specs.declared.Choice.{Choice}
use Rattle.ct_host.specs.Chosen.{Chosen, chosen_in, chosen_tests, is_chosen, parts_of}
use Rattle.ct_host.specs.Looking.{Suite}
use Rattle.ct_host.specs.Reports.{HasEnded, IsReport, IsVerdict, TellsTest, TellsTests, TellsVerdict, chosen_setting, no_counts, place_in}
use Rattle.ct_host.specs.declared.running.Limits.{Limits}
use Rattle.ct_host.specs.declared.status.Status.{Status}

-- ---- those that are meant

pub meant : (choice : Choice) (suite : Suite) (front : List Chosen) (rest : List CheckedTest) (test : CheckedTest) (tests : List CheckedTest) (all : List Chosen)
    → rest ≡ test ∷ tests → is_chosen choice test.name ≡ true → front ++ chosen_in choice suite rest ≡ all
    → (front ++ (record { suite = suite; test = test }) ∷ []) ++ chosen_in choice suite tests ≡ all
meant choice suite front rest test tests all split is so_far =
    let e : chosen_in choice suite rest ≡ (record { suite = suite; test = test }) ∷ chosen_in choice suite tests = rw (split, is) refl in
    append_assoc front ((record { suite = suite; test = test }) ∷ []) (chosen_in choice suite tests) ∙ ap (λ (more : List Chosen). front ++ more) (sym e) ∙ so_far

pub not_meant : (choice : Choice) (suite : Suite) (front : List Chosen) (rest : List CheckedTest) (test : CheckedTest) (tests : List CheckedTest) (all : List Chosen)
    → rest ≡ test ∷ tests → is_chosen choice test.name ≡ false → front ++ chosen_in choice suite rest ≡ all → front ++ chosen_in choice suite tests ≡ all
not_meant choice suite front rest test tests all split is_not so_far =
    let e : chosen_in choice suite rest ≡ chosen_in choice suite tests = rw (split, is_not) refl in
    ap (λ (more : List Chosen). front ++ more) (sym e) ∙ so_far

pub all_meant : (choice : Choice) (suite : Suite) (front : List Chosen) (rest : List CheckedTest) (all : List Chosen)
    → rest ≡ [] → front ++ chosen_in choice suite rest ≡ all → front ≡ all
all_meant choice suite front rest all none so_far =
    let e : chosen_in choice suite rest ≡ [] = rw none refl in
    sym (append-nil front) ∙ ap (λ (more : List Chosen). front ++ more) (sym e) ∙ so_far

-- those of a file, and of the files after it
pub meant_in : (choice : Choice) (front : List Chosen) (rest : List Suite) (suite : Suite) (suites : List Suite) (all : List Chosen)
    → rest ≡ suite ∷ suites → front ++ chosen_tests choice rest ≡ all
    → (front ++ chosen_in choice suite suite.checked.tests) ++ chosen_tests choice suites ≡ all
meant_in choice front rest suite suites all split so_far =
    append_assoc front (chosen_in choice suite suite.checked.tests) (chosen_tests choice suites)
    ∙ ap (λ (s : List Suite). front ++ chosen_tests choice s) (sym split) ∙ so_far

pub none_meant : (choice : Choice) (front : List Chosen) (rest : List Suite) (all : List Chosen) → rest ≡ [] → front ++ chosen_tests choice rest ≡ all → front ≡ all
none_meant choice front rest all none so_far =
    sym (append-nil front) ∙ ap (λ (s : List Suite). front ++ chosen_tests choice s) (sym none) ∙ so_far

-- ---- what is told of them

module _ (limits : Limits) where
  -- what is told of those that are left goes on what was told
  abbrev pub Telling : List Chosen → Counts → List ℕ → Counts → List Chosen → Type 0
  Telling all start so_far counts rest = (more : List ℕ) (last : Counts) → TellsTests limits rest counts more last → TellsTests limits all start (so_far ++ more) last

  pub tell_start : (all : List Chosen) (start : Counts) → Telling all start [] start all
  tell_start all start more last tells = tells

  pub tell_more : (all : List Chosen) (start : Counts) (so_far : List ℕ) (counts : Counts) (rest : List Chosen) (x : Chosen) (xs : List Chosen) (told : List ℕ) (next : Counts)
      → rest ≡ x ∷ xs → TellsTest limits x counts told next → Telling all start so_far counts rest → Telling all start (so_far ++ told) next xs
  tell_more all start so_far counts rest x xs told next split tells telling more last left =
      let step : TellsTests limits rest counts (told ++ more) last = subst (λ (r : List Chosen). TellsTests limits r counts (told ++ more) last) (sym split) (told, next, more, tells, left, refl) in
      subst (λ (t : List ℕ). TellsTests limits all start t last) (sym (append_assoc so_far told more)) (telling (told ++ more) last step)

  pub tell_end : (all : List Chosen) (start : Counts) (so_far : List ℕ) (counts : Counts) (rest : List Chosen)
      → rest ≡ [] → Telling all start so_far counts rest → TellsTests limits all start so_far counts
  tell_end all start so_far counts rest none telling =
      subst (λ (t : List ℕ). TellsTests limits all start t counts) (append-nil so_far)
      (telling [] counts (subst (λ (r : List Chosen). TellsTests limits r counts [] counts) (sym none) (refl, refl)))

-- a text goes on one that was printed
pub known_more : (before : Option (List ℕ)) (first second : List ℕ) → append_known (append_known before first) second ≡ append_known before (first ++ second)
known_more None first second = refl
known_more (Some bytes) first second = ap (λ (b : List ℕ). Some b) (append_assoc bytes first second)

-- a whole report is the plan, what is told of the tests, and the counts
pub reported : (limits : Limits) (tests : List Chosen) (before first second after : Option (List ℕ)) (plan text : List ℕ) (start counts : Counts) (status : Status)
    → plan ≡ plan_text (length tests) → first ≡ append_known before plan → start ≡ no_counts
    → ((told : List ℕ) × TellsTests limits tests start told counts × (second ≡ append_known first told))
    → text ≡ counts_text counts → after ≡ append_known second text → IsVerdict counts status
    → (report : List ℕ) × IsReport limits tests report status × (after ≡ append_known before report)
reported limits tests before first second after plan text start counts status planned printed none (told, tells, more) summed last verdict = (
  plan ++ (told ++ text),
  (
    told,
    counts,
    subst (λ (k : Counts). TellsTests limits tests k told counts) none tells,
    ap₂ (λ (p s : List ℕ). p ++ (told ++ s)) planned summed ∙ sym (append_assoc (plan_text (length tests)) told (counts_text counts)),
    verdict,
  ),
  last
      ∙ ap (λ (t : Option (List ℕ)). append_known t text) (more ∙ ap (λ (t : Option (List ℕ)). append_known t told) printed)
      ∙ known_more (append_known before plan) told text
      ∙ known_more before plan (told ++ text),
)

-- ---- what is told of one

-- what is told of a test that failed
pub told_failed : {E : Type 0} (limits : Limits) (chosen : Chosen) (counts next : Counts) (number : ℕ) (title : List ℕ) (r : Result (List ℕ) E)
    (place start : ℕ) (order : List ℕ) (names : List Named) (came : Came) (name text : List ℕ)
    → number ≡ next_number counts → title ≡ chosen.test.name → name ≡ chosen.suite.sourced.name → text ≡ chosen.suite.sourced.text
    → FailsFirst (chosen_setting limits chosen) limits.states (parts_of chosen) place order names came → next ≡ record counts { failed = counts.failed + 1 }
    → IfOk r (λ told. (block : Block) × Tells came block.got × (block.at ≡ place_text name text start) × (told ≡ failed_text number title ++ block_text block))
    → IfOk r (λ told. TellsVerdict limits chosen counts told next)
told_failed limits chosen counts next number title (Err e) place start order names came name text numbered titled named written fails counted is = tt
told_failed limits chosen counts next number title (Ok told) place start order names came name text numbered titled named written fails counted (block, tells, at_place, is) =
    let there : block.at ≡ place_in chosen.suite.sourced start = rw (named, written) at at_place in
    let here : told ≡ failed_text (next_number counts) chosen.test.name ++ block_text block = rw (numbered, titled) at is in
    inr (inl (place, order, names, came, block_text block, fails, (start, block, tells, there, refl), here, counted))

-- the parts of a test that is in a file are those of the test that is meant
pub parts : (suite other : Suite) (inside chosen : Chosen) → suite ≡ other → inside ≡ chosen → other ≡ inside.suite → whole suite.checked.preamble inside.test.steps ≡ parts_of chosen
parts suite other inside chosen first second same =
    ap (λ (s : Suite). whole s.checked.preamble inside.test.steps) (first ∙ same) ∙ ap (λ (x : Chosen). parts_of x) second

-- how a test ended, run with the parts of the test that is meant
module _ (limits : Limits) (chosen : Chosen) (setting : Setting) (most : ℕ) (steps : List CheckedStep)
    (set : setting ≡ chosen_setting limits chosen) (mosts : most ≡ limits.states) (parted : steps ≡ parts_of chosen) where
  meant_by : (P : Setting → ℕ → List CheckedStep → Type 0) → P setting most steps → P (chosen_setting limits chosen) limits.states (parts_of chosen)
  meant_by P holds =
      subst (λ (s : Setting). P s limits.states (parts_of chosen)) set
      (subst (λ (n : ℕ). P setting n (parts_of chosen)) mosts (subst (λ (l : List CheckedStep). P setting most l) parted holds))

  pub has_ended : (ended : Ended) → (ended.verdict ≡ verdicts.Passed → Passes setting steps)
      → ((unmet : NotMet) → ended.verdict ≡ verdicts.Failed unmet → FailsFirst setting most steps unmet.failure.place ended.way.order.items unmet.names unmet.failure.unmet.came)
      → ((first : TooMany) → ended.verdict ≡ verdicts.Undecided first
      → (left : List CheckedStep) × (moves : List Moving) × HasTooMany setting steps left moves most × IsAt steps first.part (Interleave moves ∷ left))
      → HasEnded limits chosen ended
  has_ended ended passed failed undecided = record {
    passed = λ e. meant_by (λ s n l. Passes s l) (passed e);
    failed = λ unmet e. meant_by (λ s n l. FailsFirst s n l unmet.failure.place ended.way.order.items unmet.names unmet.failure.unmet.came) (failed unmet e);
    undecided = λ first e. meant_by (λ s n l. (left : List CheckedStep) × (moves : List Moving) × HasTooMany s l left moves n × IsAt l first.part (Interleave moves ∷ left)) (undecided first e);
  }
