-- The files that a test file names, and what they are.
use Rattle.std.specs.Prelude.{ℕ, Bool, if◌then◌else◌, List, [], ◌∷◌, ◌++◌, length, Option, Some, None, option_map, slice_get}
use Rattle.ic_base.specs.Reader.{◌>>=◌}
use Rattle.cd_did.specs.declared.fault.Interface.{Interface}
use Rattle.ct_scope.specs.Names.{Named, found, put}
use Rattle.ct_scope.specs.declared.bound.InterfaceId.{InterfaceId}
use Rattle.ct_scope.specs.declared.bound.InterfaceId.TheVariants.{Management, File}

-- a file: its bytes, whether they are a module, and which interface they say
pub record SourceFile : Type 0 where
  pub bytes : List ℕ
  pub wasm : Bool
  pub interface : Option Interface

-- files at places, None where one could not be read; the places by names; and the interface file of the management canister
pub record Files : Type 0 where
  pub files : List (Option SourceFile)
  pub places : Named ℕ
  pub management : SourceFile

-- the file at a place, if it could be read
abbrev pub file_at : Files → ℕ → Option SourceFile
file_at sources place = slice_get sources.files place >>= λ file. file

-- its bytes
abbrev pub file_bytes : Files → ℕ → Option (List ℕ)
file_bytes sources place = option_map (λ file. file.bytes) (file_at sources place)

-- the place of the file with a name, and what it is
abbrev pub file_named : Files → List ℕ → Option (ℕ × SourceFile)
file_named sources name = do
  place ← found sources.places name
  file ← file_at sources place
  Some (place, file)

-- the place of the module with a name
abbrev pub wasm_place : Files → List ℕ → Option ℕ
wasm_place sources name = file_named sources name >>= λ file. if file.1.wasm then Some file.0 else None

-- the interface with a name
abbrev pub interface_id : Files → List ℕ → Option InterfaceId
interface_id sources name = file_named sources name >>= λ file. option_map (λ interface. File file.0) file.1.interface

-- one more file under a name
abbrev pub with_file : Files → List ℕ → Option SourceFile → Files
with_file sources name file =
    record { files = sources.files ++ file ∷ []; places = put sources.places name (length sources.files); management = sources.management }

-- the file that an interface comes from, if it could be read
abbrev pub interface_file : Files → InterfaceId → Option SourceFile
interface_file sources Management = Some sources.management
interface_file sources (File place) = file_at sources place

-- which interface that is
abbrev pub interface_of : Files → InterfaceId → Option Interface
interface_of sources id = interface_file sources id >>= λ file. file.interface

-- the text that it comes from, without bytes where there is none
abbrev pub interface_text : Files → InterfaceId → List ℕ
interface_text sources id = text (interface_file sources id)
  where
    text : Option SourceFile → List ℕ
    text None = []
    text (Some file) = file.bytes
