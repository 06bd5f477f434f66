-- The steps of a reader.
use Rattle.std.proofs.Common.{◌≡◌, Bool, true, false, cond, Option, Some, None, refl}
use Rattle.ic_base.specs.Reader.{◌>>=◌}

-- the value of a step that gave one
pub bind_some : {A B : Type 0} (read : Option A) (f : A → Option B) (y : B) → (read >>= f) ≡ Some y → (x : A) × (read ≡ Some x) × (f x ≡ Some y)
bind_some (Some x) f y e = (x, refl, e)
bind_some None f y e = absurd cc

abbrev some : {A : Type 0} → A → Option A
some x = Some x

-- two values that are the same where there are values
pub some_is : {A : Type 0} (x y : A) → some x ≡ some y → x ≡ y
some_is x y e = cc

-- a test that passed
pub passed : {A : Type 0} (test : Bool) (x y : A) → cond test (some x) None ≡ Some y → (test ≡ true) × (x ≡ y)
passed true x y e = (refl, cc)
passed false x y e = absurd cc

-- a fault that was not met
pub guarded : {A : Type 0} (fault : Bool) (x y : A) → cond fault None (some x) ≡ Some y → (fault ≡ false) × (x ≡ y)
guarded true x y e = absurd cc
guarded false x y e = (refl, cc)
