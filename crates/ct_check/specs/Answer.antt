-- What checking answers, beside what is checked.
use Rattle.std.specs.Prelude.{◌≡◌, Option, Some, None, Result, Ok, Err}
use Rattle.ct_check.specs.declared.cause.CheckError.{CheckError}
use Rattle.ct_check.specs.declared.cause.CheckError.TheVariants.{NoMemory, Faulty}

-- something does not hold, or memory ran out
abbrev pub Fails : {B : Type 0} → CheckError → Option B → Type 0
Fails NoMemory checked = Unit {0}
Fails (Faulty fault) checked = checked ≡ None

-- something does not hold
abbrev pub IsFault : CheckError → Type 0
IsFault NoMemory = ⊥
IsFault (Faulty fault) = Unit {0}

-- what was returned, seen by view, is what is checked, unless memory ran out
abbrev pub Gives : {A B : Type 0} → (A → B) → Result A CheckError → Option B → Type 0
Gives view (Ok x) checked = checked ≡ Some (view x)
Gives view (Err error) checked = Fails error checked
