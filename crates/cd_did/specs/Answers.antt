-- What is answered of a text that is an interface file.
use Rattle.std.specs.Prelude.{◌≡◌, ℕ, ◌≤◌, ◌<◌, true, false, [], length, Some, None, Result, Ok, Err}
use Rattle.cd_did.specs.declared.fault.DidFault.{DidFault}
use Rattle.cd_did.specs.declared.fault.DidFault.TheVariants.{NotInterface, Float, Repeated, Unbound, Vacuous, Shape, TooMany, NoMemory}
use Rattle.cd_did.specs.declared.fault.Interface.{Interface}
use Rattle.cd_grammar.specs.File.{File}
use Rattle.cd_did.specs.Faults.{all_parts, is_no_float, is_bound, repeated, IsVacuous, AreShaped}
use Rattle.cd_did.specs.Denotes.{FileStands}

-- no definition leads back to itself
abbrev pub NoneVacuous : File → Type 0
NoneVacuous file = (place : ℕ) → IsVacuous file.definitions place → ⊥

abbrev pub HasNoFloat : File → Type 0
HasNoFloat file = all_parts is_no_float file ≡ true

-- no two definitions have one name
abbrev pub HasOneEach : File → Type 0
HasOneEach file = HasNoFloat file × (repeated [] 0 file.definitions ≡ None)

-- besides, each name that is used is defined
abbrev pub HasAll : File → Type 0
HasAll file = HasOneEach file × (all_parts (is_bound file.definitions) file ≡ true)

-- besides, each name leads to a type
abbrev pub HasTypes : File → Type 0
HasTypes file = HasAll file × NoneVacuous file

-- besides, each type has the shape of one
abbrev pub HasShapes : File → Type 0
HasShapes file = HasTypes file × AreShaped file

-- each fault where its reason holds and none before it, and the interface that the file stands for where none holds
abbrev pub Answers : File → Result Interface DidFault → Type 0
Answers file (Ok interface) = HasShapes file × (length file.types ≤ 10000) × FileStands file interface.table interface.service
Answers file (Err NotInterface) = ⊥
Answers file (Err Float) = all_parts is_no_float file ≡ false
Answers file (Err (Repeated place)) = HasNoFloat file × (repeated [] 0 file.definitions ≡ Some place)
Answers file (Err Unbound) = HasOneEach file × (all_parts (is_bound file.definitions) file ≡ false)
Answers file (Err (Vacuous place)) = HasAll file × IsVacuous file.definitions place
Answers file (Err Shape) = HasTypes file × (AreShaped file → ⊥)
Answers file (Err TooMany) = HasShapes file × (10000 < length file.types)
Answers file (Err NoMemory) = Unit {0}

-- the answer tells of a file
abbrev pub TellsOfAFile : Result Interface DidFault → (Type 0) → Type 0
TellsOfAFile (Ok interface) P = P
TellsOfAFile (Err NotInterface) P = Unit {0}
TellsOfAFile (Err NoMemory) P = Unit {0}
TellsOfAFile (Err _) P = P
