-- Which tests are run.
use Rattle.std.specs.Prelude.{◌≢◌, ℕ, ◌==◌, ◌||◌, Bool, true, if◌then◌else◌, List, [], ◌∷◌, ◌++◌}
use Rattle.std.specs.List.{starts_with}
use Rattle.std.specs.Str.{bytes_eq}
use Rattle.ct_check.specs.declared.checked.CheckedStep.{CheckedStep}
use Rattle.ct_check.specs.declared.checked.CheckedTest.{CheckedTest}
use Rattle.ct_words.specs.declared.Choice.{Choice}
use Rattle.ct_words.specs.declared.Choice.TheVariants.{All, Only, Script, Picture}
use Rattle.ct_orders.specs.Verdicts.{whole}
use Rattle.ct_host.specs.Looking.{Suite}

-- the text has this part
abbrev pub has_part : (part text : List ℕ) → Bool
has_part part [] = starts_with (λ a b. a == b) [] part
has_part part (c ∷ text) = starts_with (λ a b. a == b) (c ∷ text) part || has_part part text

-- whether a test of this name is meant
abbrev pub is_chosen : Choice → (name : List ℕ) → Bool
is_chosen All name = true
is_chosen (Only part) name = has_part part name
is_chosen (Script wanted) name = bytes_eq name wanted
is_chosen (Picture wanted) name = bytes_eq name wanted

-- a test of a file
pub record Chosen : Type 0 where
  pub suite : Suite
  pub test : CheckedTest

-- its parts, with the statements of the preamble first
abbrev pub parts_of : Chosen → List CheckedStep
parts_of chosen = whole chosen.suite.checked.preamble chosen.test.steps

-- those of a file that are meant, in order
abbrev pub chosen_in : Choice → Suite → List CheckedTest → List Chosen
chosen_in choice suite [] = []
chosen_in choice suite (test ∷ tests) =
    if is_chosen choice test.name then (record { suite = suite; test = test }) ∷ chosen_in choice suite tests else chosen_in choice suite tests

-- those of files
abbrev pub chosen_tests : Choice → List Suite → List Chosen
chosen_tests choice [] = []
chosen_tests choice (suite ∷ suites) = chosen_in choice suite suite.checked.tests ++ chosen_tests choice suites

-- there are some, where not all are meant
abbrev pub AreSome : Choice → List Chosen → Type 0
AreSome All chosen = Unit {0}
AreSome (Only part) chosen = chosen ≢ []
AreSome (Script wanted) chosen = chosen ≢ []
AreSome (Picture wanted) chosen = chosen ≢ []
