-- What is answered for a text.
use Rattle.std.specs.Prelude.{◌≡◌, ℕ, ◌≤◌, List, length, Result, Ok, Err}
use Rattle.ct_file.specs.declared.cause.FileError.{FileError}
use Rattle.ct_file.specs.declared.cause.FileError.TheVariants.{NoMemory, Faulty}
use Rattle.ct_file.specs.declared.tree.File.{File}

-- it is the file, unless memory ran out
abbrev pub Answers : Result File FileError → File → Type 0
Answers (Ok read) file = read ≡ file
Answers (Err NoMemory) file = Unit {0}
Answers (Err (Faulty fault)) file = ⊥

-- a fault is in the text, or at its end
abbrev pub IsPlaced : List ℕ → FileError → Type 0
IsPlaced text NoMemory = Unit {0}
IsPlaced text (Faulty fault) = fault.place ≤ length text

abbrev pub IsInside : List ℕ → Result File FileError → Type 0
IsInside text (Ok file) = Unit {0}
IsInside text (Err error) = IsPlaced text error
