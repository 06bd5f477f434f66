-- What tests print, and how many of them end how.
use Rattle.std.specs.Prelude.{◌≡◌, ◌⊎◌, ◌+◌, ◌++◌, ℕ, false, List, [], ◌∷◌, Option, length}
use Rattle.std.specs.Io.KnownBytes.{append_known}
use Rattle.ic_behaviour.specs.declared.charge.Charge.{Charge}
use Rattle.ct_outcomes.specs.declared.came.Came.{Came}
use Rattle.ct_outcomes.specs.declared.named.Named.{Named}
use Rattle.ct_words.specs.declared.Choice.{Choice}
use Rattle.ct_words.specs.declared.Choice.TheVariants.{All, Only, Script, Picture}
use Rattle.ct_run.specs.Statements.{Setting}
use Rattle.ct_check.specs.Moving.{Moving}
use Rattle.ct_check.specs.declared.checked.CheckedStep.{CheckedStep}
use Rattle.ct_check.specs.declared.checked.CheckedStep.TheVariants.{Interleave}
use Rattle.ct_orders.specs.Verdicts.{FailsFirst, HasTooMany, IsAt, Passes}
use Rattle.ct_orders.specs.declared.verdict.Ended.{Ended}
use Rattle.ct_orders.specs.declared.verdict.NotMet.{NotMet}
use Rattle.ct_orders.specs.declared.verdict.TooMany.{TooMany}
use Rattle.ct_orders.specs.declared.verdict.Verdict.TheVariants as verdicts
use Rattle.ct_report.specs.declared.tap.Block.{Block}
use Rattle.ct_report.specs.declared.tap.Counts.{Counts}
use Rattle.ct_report.specs.Texts.{block_text, comments_text, counts_text, failed_text, next_number, passed_text, place_text, plan_text, undecided_text}
use Rattle.ct_report.specs.Told.{Tells}
use Rattle.ct_host.specs.Chosen.{Chosen, parts_of}
use Rattle.ct_host.specs.Looking.{SourcedFile}
use Rattle.ct_host.specs.declared.running.Limits.{Limits}
use Rattle.ct_host.specs.declared.status.Status.{Status}
use Rattle.ct_host.specs.declared.status.Status.TheVariants.{Passed, Failed}

-- what the tests of a file are run with
abbrev pub setting_of : Charge → SourcedFile → Setting
setting_of charge sourced = record { files = sourced.sources; charge = charge }

abbrev pub chosen_setting : Limits → Chosen → Setting
chosen_setting limits chosen = setting_of limits.charge chosen.suite.sourced

-- the test ended so, run with its parts: what each verdict says holds
pub record HasEnded (limits : Limits) (chosen : Chosen) (ended : Ended) : Type 0 where
  pub passed : ended.verdict ≡ verdicts.Passed → Passes (chosen_setting limits chosen) (parts_of chosen)
  pub failed : (unmet : NotMet) → ended.verdict ≡ verdicts.Failed unmet
      → FailsFirst (chosen_setting limits chosen) limits.states (parts_of chosen) unmet.failure.place ended.way.order.items unmet.names unmet.failure.unmet.came
  pub undecided : (first : TooMany) → ended.verdict ≡ verdicts.Undecided first
      → (left : List CheckedStep) × (moves : List Moving) × HasTooMany (chosen_setting limits chosen) (parts_of chosen) left moves limits.states
      × IsAt (parts_of chosen) first.part (Interleave moves ∷ left)

-- a place of the file of a test, as it is told
abbrev pub place_in : SourcedFile → (place : ℕ) → List ℕ
place_in sourced place = place_text sourced.name sourced.text place

-- the block of a test that failed: where a statement of its file is, and what came instead of what was expected of it
abbrev pub IsBlock : SourcedFile → Came → List ℕ → Type 0
IsBlock sourced came text = (place : ℕ) × (block : Block) × Tells came block.got × (block.at ≡ place_in sourced place) × (text ≡ block_text block)

-- a test passed on each way through it, and this is told; or it failed on one; or it has an interleave with too many cases
abbrev pub TellsPassed : Limits → Chosen → Counts → List ℕ → Counts → Type 0
TellsPassed limits chosen counts told next =
    Passes (chosen_setting limits chosen) (parts_of chosen) × (told ≡ passed_text (next_number counts) chosen.test.name)
    × (next ≡ record counts { passed = counts.passed + 1 })

abbrev pub TellsFailed : Limits → Chosen → Counts → List ℕ → Counts → Type 0
TellsFailed limits chosen counts told next =
    (place : ℕ) × (order : List ℕ) × (names : List Named) × (came : Came) × (block : List ℕ) × FailsFirst (chosen_setting limits chosen) limits.states (parts_of chosen) place order names came
    × IsBlock chosen.suite.sourced came block × (told ≡ failed_text (next_number counts) chosen.test.name ++ block) × (next ≡ record counts { failed = counts.failed + 1 })

abbrev pub TellsUndecided : Limits → Chosen → Counts → List ℕ → Counts → Type 0
TellsUndecided limits chosen counts told next =
    (first : TooMany) × (left : List CheckedStep) × (moves : List Moving) × HasTooMany (chosen_setting limits chosen) (parts_of chosen) left moves limits.states
    × IsAt (parts_of chosen) first.part (Interleave moves ∷ left)
    × (told ≡ failed_text (next_number counts) chosen.test.name ++ undecided_text (place_in chosen.suite.sourced first.place) limits.states)
    × (next ≡ record counts { undecided = counts.undecided + 1 })

abbrev pub TellsVerdict : Limits → Chosen → Counts → List ℕ → Counts → Type 0
TellsVerdict limits chosen counts told next = TellsPassed limits chosen counts told next ⊎ TellsFailed limits chosen counts told next ⊎ TellsUndecided limits chosen counts told next

-- comments are told after what came of it, where they are wanted
abbrev pub TellsTest : Limits → Chosen → Counts → List ℕ → Counts → Type 0
TellsTest limits chosen counts told next =
    (verdict : List ℕ) × (comments : List (List ℕ)) × TellsVerdict limits chosen counts verdict next × (limits.trace ≡ false → comments ≡ [])
    × (told ≡ verdict ++ comments_text comments)

-- tests are told of, one after another
abbrev pub TellsTests : Limits → List Chosen → Counts → List ℕ → Counts → Type 0
TellsTests limits [] counts told last = (told ≡ []) × (last ≡ counts)
TellsTests limits (chosen ∷ tests) counts told last =
    (first : List ℕ) × (next : Counts) × (more : List ℕ) × TellsTest limits chosen counts first next × TellsTests limits tests next more last × (told ≡ first ++ more)

abbrev pub no_counts : Counts
no_counts = record { passed = 0; failed = 0; undecided = 0 }

-- the status where tests ended so
abbrev pub IsVerdict : Counts → Status → Type 0
IsVerdict counts status =
    ((status ≡ Passed) × (counts.failed ≡ 0) × (counts.undecided ≡ 0))
    ⊎ ((status ≡ Failed) × (((counts.failed ≡ 0) × (counts.undecided ≡ 0)) → ⊥))

-- a whole report, and its status
abbrev pub IsReport : Limits → List Chosen → List ℕ → Status → Type 0
IsReport limits tests report status =
    (told : List ℕ) × (counts : Counts) × TellsTests limits tests no_counts told counts
    × (report ≡ plan_text (length tests) ++ told ++ counts_text counts) × IsVerdict counts status

-- what is printed where tests are run: their report, or, where a script or a picture is wanted, that
abbrev pub IsPrinted : Limits → Choice → List Chosen → List ℕ → Status → Type 0
IsPrinted limits All tests printed status = IsReport limits tests printed status
IsPrinted limits (Only part) tests printed status = IsReport limits tests printed status
IsPrinted limits (Script wanted) tests printed status = status ≡ Passed
IsPrinted limits (Picture wanted) tests printed status = status ≡ Passed

-- it was printed after what an output had taken before, where that tells it
abbrev pub Prints : Limits → Choice → List Chosen → (before after : Option (List ℕ)) → Status → Type 0
Prints limits choice tests before after status = (printed : List ℕ) × IsPrinted limits choice tests printed status × (after ≡ append_known before printed)
