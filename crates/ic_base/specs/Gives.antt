-- What a function that reads bytes returned, beside what a reader gives.
use Rattle.std.specs.Prelude.{◌≡◌, Option, Some, None, Result, Ok, Err}
use Rattle.ic_base.specs.declared.read_error.ReadError.{ReadError}
use Rattle.ic_base.specs.declared.read_error.ReadError.TheVariants.{NoMemory, Refused}

-- the error is that nothing is read, or memory ran out
abbrev pub Fails : {B : Type 0} → ReadError → Option B → Type 0
Fails NoMemory read = Unit {0}
Fails Refused read = read ≡ None

-- what was returned, seen by view, is what is read, unless memory ran out
abbrev pub Gives : {A B : Type 0} → (A → B) → Result A ReadError → Option B → Type 0
Gives view (Ok x) read = read ≡ Some (view x)
Gives view (Err e) read = Fails e read
