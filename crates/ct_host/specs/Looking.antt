-- How test files are looked at: one after another, up to the first of which not all holds that must.
use Rattle.std.specs.Prelude.{◌≡◌, ◌≢◌, ◌⊎◌, ℕ, List, [], ◌∷◌, Option, Some, None, option_map, unwrap_or}
use Rattle.std.specs.Path.{path_join, path_parent}
use Rattle.ct_file.specs.declared.tree.File.{File}
use Rattle.ct_file.specs.Fits.{IsFile}
use Rattle.ct_sources.specs.declared.management.TheConstants.{MANAGEMENT}
use Rattle.ct_sources.specs.Files.{Files, SourceFile, with_file}
use Rattle.ct_sources.specs.IsSourceOf.{IsSourceOf}
use Rattle.ct_sources.specs.Named.{file_files, no_names, with_texts}
use Rattle.ct_check.specs.declared.checked.Checked.{Checked}
use Rattle.ct_check.specs.Holds.{checked_file}
use Rattle.ct_host.specs.declared.looking.Loaded.{Loaded}
use Rattle.ct_host.specs.declared.stop.Told.{Told}
use Rattle.ct_host.specs.declared.stop.Why.{Why}
use Rattle.ct_host.specs.declared.stop.Why.TheVariants.{BadWords, Faulty, Unreadable}

-- what a disk may give for a path: bytes, or nothing where the file cannot be read
abbrev pub Gives : Type 1
Gives = List ℕ → Option (List ℕ) → Type 0

-- ---- the files that a test file names

-- where a file is that is named in another: it is sought from the folder of that
abbrev pub path_from : (from name : List ℕ) → List ℕ
path_from from name = path_join (unwrap_or (path_parent from) []) name

-- the file at a path is what its bytes are, or could not be read
abbrev pub IsAt : Gives → (path : List ℕ) → Option SourceFile → Type 0
IsAt gives path None = gives path None
IsAt gives path (Some file) = (bytes : List ℕ) × gives path (Some bytes) × IsSourceOf bytes file

-- files are added to others by their names, each as it is at its path
abbrev pub Adds : Gives → (from : List ℕ) → Files → (names : List (List ℕ)) → Files → Type 0
Adds gives from files [] all = all ≡ files
Adds gives from files (name ∷ names) all = (file : Option SourceFile) × IsAt gives (path_from from name) file × Adds gives from (with_file files name file) names all

-- no files but the interface of the management canister
pub record AreNone (files : Files) : Type 0 where
  pub files_none : files.files ≡ []
  pub places_none : files.places ≡ []
  pub management : IsSourceOf MANAGEMENT.now files.management

-- the files that a test file names, each once, in the order of its text
abbrev pub AreNamedIn : Gives → (from : List ℕ) → File → Files → Type 0
AreNamedIn gives from file all = (none : Files) × AreNone none × Adds gives from none (with_texts no_names (file_files file)).names all

-- ---- test files

-- a test file: its name on the command line, its text, the file that this is, and the files that it names
pub record SourcedFile : Type 0 where
  pub name : List ℕ
  pub text : List ℕ
  pub file : File
  pub sources : Files

pub record IsSourced (gives : Gives) (sourced : SourcedFile) : Type 0 where
  pub given : gives sourced.name (Some sourced.text)
  pub is : IsFile sourced.file sourced.text
  pub named : AreNamedIn gives sourced.name sourced.file sourced.sources

-- a test file of which all holds that must, with slots in place of names
pub record Suite : Type 0 where
  pub sourced : SourcedFile
  pub checked : Checked

abbrev pub Holds : Suite → Type 0
Holds suite = checked_file suite.sourced.sources suite.sourced.file ≡ Some suite.checked

-- the test file with this name
pub record IsSuite (gives : Gives) (name : List ℕ) (suite : Suite) : Type 0 where
  pub name_is : suite.sourced.name ≡ name
  pub is : IsSourced gives suite.sourced
  pub holds : Holds suite

-- why there is none: it cannot be read; its text is no test file; or something does not hold of it and the files that it names
abbrev pub Spoils : Gives → (name : List ℕ) → Why → Type 0
Spoils gives name why =
    ((why ≡ Unreadable) × gives name None)
    ⊎ ((text : List ℕ) × (why ≡ Faulty) × gives name (Some text) × ((file : File) → IsFile file text → ⊥))
    ⊎ ((sourced : SourcedFile) × (why ≢ BadWords) × (sourced.name ≡ name) × IsSourced gives sourced × (checked_file sourced.sources sourced.file ≡ None))

-- ---- one after another

-- what each input gives, up to the first that gives nothing, and why it does not
abbrev pub UpToFault : {A B W : Type 0} → (A → B → Type 0) → (A → W → Type 0) → List A → List B → Option W → Type 0
UpToFault Is Fails [] items fault = (items ≡ []) × (fault ≡ None)
UpToFault {A} {B} {W} Is Fails (input ∷ inputs) items fault =
    ((item : B) × (more : List B) × Is input item × (items ≡ item ∷ more) × UpToFault Is Fails inputs more fault)
    ⊎ ((why : W) × Fails input why × (items ≡ []) × (fault ≡ Some why))

-- test files by their names, up to the first of which not all holds that must
abbrev pub AreSuites : Gives → (names : List (List ℕ)) → List Suite → Option Why → Type 0
AreSuites gives names suites fault = UpToFault (IsSuite gives) (Spoils gives) names suites fault

-- ---- the three steps of that

abbrev pub IsLoaded : Gives → (name : List ℕ) → Loaded → Type 0
IsLoaded gives name loaded = (loaded.name ≡ name) × gives name (Some loaded.bytes)

abbrev pub IsUnreadable : Gives → (name : List ℕ) → Why → Type 0
IsUnreadable gives name why = (why ≡ Unreadable) × gives name None

abbrev pub IsParsed : Gives → Loaded → SourcedFile → Type 0
IsParsed gives loaded sourced =
    (sourced.name ≡ loaded.name) × (sourced.text ≡ loaded.bytes) × IsFile sourced.file loaded.bytes × AreNamedIn gives loaded.name sourced.file sourced.sources

abbrev pub IsNoFile : Loaded → Why → Type 0
IsNoFile loaded why = (why ≡ Faulty) × ((file : File) → IsFile file loaded.bytes → ⊥)

abbrev pub IsChecked : SourcedFile → Suite → Type 0
IsChecked sourced suite = (suite.sourced ≡ sourced) × Holds suite

abbrev pub DoesNotHold : SourcedFile → Why → Type 0
DoesNotHold sourced why = (why ≢ BadWords) × (checked_file sourced.sources sourced.file ≡ None)

-- why no test runs, if that was told
abbrev pub why_of : Option Told → Option Why
why_of told = option_map (λ (t : Told). t.why) told

-- the first of two faults, if there is one, where the second was found before
abbrev pub first_of : (first later : Option Why) → Option Why
first_of None later = later
first_of (Some why) later = Some why
