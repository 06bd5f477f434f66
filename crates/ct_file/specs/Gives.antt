-- What the reader of a file returned, beside what a function reads.
use Rattle.std.specs.Prelude.{◌≡◌, Option, Some, None, Result, Ok, Err}
use Rattle.ct_file.specs.declared.cause.ParseError.{ParseError}
use Rattle.ct_file.specs.declared.cause.ParseError.TheVariants.{NoMemory, BadString, Expected}

-- nothing is read, or memory ran out
abbrev pub Fails : {B : Type 0} → ParseError → Option B → Type 0
Fails NoMemory read = Unit {0}
Fails BadString read = read ≡ None
Fails (Expected wanted) read = read ≡ None

-- what was returned, seen by view, is what is read, unless memory ran out
abbrev pub Gives : {A B : Type 0} → (A → B) → Result A ParseError → Option B → Type 0
Gives view (Ok x) read = read ≡ Some (view x)
Gives view (Err parse_error) read = Fails parse_error read
