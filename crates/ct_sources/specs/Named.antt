-- The files that a test file names, in the order of its tokens.
use Rattle.std.specs.Prelude.{ℕ, is_some, if◌then◌else◌, List, [], ◌∷◌, ◌++◌, Option, Some, None, flat_map}
use Rattle.cd_tokens.specs.ReadLabel.{text_of}
use Rattle.ct_file.specs.WrittenMove.{WrittenMove}
use Rattle.ct_file.specs.declared.tree.Action.{Action}
use Rattle.ct_file.specs.declared.tree.Action.TheVariants.{Call, Query, Upgrade, Reinstall}
use Rattle.ct_file.specs.declared.tree.Change.{Change}
use Rattle.ct_file.specs.declared.tree.File.{File}
use Rattle.ct_file.specs.declared.tree.Origin.{Origin}
use Rattle.ct_file.specs.declared.tree.Origin.TheVariants as origins
use Rattle.ct_file.specs.declared.tree.StatementKind.{StatementKind}
use Rattle.ct_file.specs.declared.tree.StatementKind.TheVariants as kinds
use Rattle.ct_file.specs.declared.tree.Step.{Step}
use Rattle.ct_file.specs.declared.tree.Step.TheVariants as steps
use Rattle.ct_file.specs.declared.tree.Test.{Test}
use Rattle.ct_scope.specs.Names.{Named, found, put}

-- ---- the texts that name files

abbrev pub origin_files : Origin → List (List ℕ)
origin_files (origins.Made creation) = creation.wasm ∷ creation.interface ∷ []
origin_files (origins.Principal id interface) = interface ∷ []
origin_files (origins.Named id interface) = interface ∷ []

abbrev pub maybe_file : Option (List ℕ) → List (List ℕ)
maybe_file None = []
maybe_file (Some written) = written ∷ []

abbrev pub change_files : Change → List (List ℕ)
change_files change = change.wasm ∷ maybe_file change.interface

abbrev pub action_files : Action → List (List ℕ)
action_files (Call message) = []
action_files (Query message) = []
action_files (Upgrade change) = change_files change
action_files (Reinstall change) = change_files change

abbrev pub move_files : WrittenMove → List (List ℕ)
move_files written = action_files written.action

abbrev pub statement_files : StatementKind → List (List ℕ)
statement_files (kinds.Users users) = []
statement_files (kinds.Time number) = []
statement_files (kinds.Canister by name origin) = origin_files origin
statement_files (kinds.Move written) = move_files written

abbrev pub step_files : Step → List (List ℕ)
step_files (steps.Statement statement) = statement_files statement
step_files (steps.Interleave moves) = flat_map move_files moves

abbrev pub test_files : Test → List (List ℕ)
test_files test = flat_map step_files test.steps

abbrev pub file_files : File → List (List ℕ)
file_files file = flat_map statement_files file.preamble ++ flat_map test_files file.tests

-- ---- their names, each once

-- names in the order in which they come first
pub record Listing : Type 0 where
  pub names : List (List ℕ)
  pub known : Named (Unit {0})

abbrev pub with_name : Listing → List ℕ → Listing
with_name listing name = if is_some (found listing.known name) then listing else record { names = listing.names ++ name ∷ []; known = put listing.known name tt }

abbrev pub with_text : Listing → Option (List ℕ) → Listing
with_text listing None = listing
with_text listing (Some name) = with_name listing name

-- with the names that texts say
abbrev pub with_texts : Listing → List (List ℕ) → Listing
with_texts listing [] = listing
with_texts listing (written ∷ more) = with_texts (with_text listing (text_of written)) more

abbrev pub no_names : Listing
no_names = record { names = []; known = [] }
