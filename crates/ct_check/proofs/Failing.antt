-- What does not hold fails, by whatever fault is told.
use Rattle.std.proofs.Common.{◌≡◌, Option, None, refl}
use Rattle.std.specs.Prelude.{Result, Ok, Err, option_map}
use Rattle.ct_check.specs.declared.cause.CheckError.{CheckError}
use Rattle.ct_check.specs.declared.cause.CheckError.TheVariants.{NoMemory, Faulty}
use Rattle.ct_check.specs.Answer.{Fails, Gives}

pub failing : {B : Type 0} (error : CheckError) (checked : Option B) → checked ≡ None → Fails error checked
failing NoMemory checked none = tt
failing (Faulty fault) checked none = none

-- what is checked alone, without what is known after it
pub gives_first : {A S : Type 0} (result : Result A CheckError) (after : S) (checked : Option (A × S)) → Gives (λ x. (x, after)) result checked → Gives (λ x. x) result (option_map (λ c. c.0) checked)
gives_first (Ok x) after checked is = rw is refl
gives_first (Err NoMemory) after checked is = tt
gives_first (Err (Faulty fault)) after checked is = rw is refl
