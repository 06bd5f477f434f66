-- From the size and the magnitude, which the code finds one after the other, to the number.
use Rattle.std.proofs.Common.{◌≡◌, ℕ, ◌+◌, ◌-◌, ◌^◌, List, Bool, true, false, refl, sym, ◌∙◌, ap, arith, take, nat_lt}
use Rattle.std.specs.Prelude.{Result, Ok, Err, nat_le, if◌then◌else◌}
use Rattle.std.specs.Int.{complement_if}
use Rattle.std.proofs.lemmas.Bool.{lt-ltb, le-ltb, leb-true, leb-false}
use Rattle.ic_leb.specs.declared.width.Width.{Width}
use Rattle.ic_leb.specs.declared.fault.LebFault.{LebFault}
use Rattle.ic_leb.specs.declared.fault.LebFault.TheVariants.{Wide}
use Rattle.ic_leb.specs.Width.{bits}
use Rattle.ic_leb.specs.Value.{unsigned_value, is_negative, signed_value}
use Rattle.ic_leb.specs.Magnitude.{magnitude_of, up_to}
use Rattle.ic_leb.specs.Reading.{size_at, value_of, fits_unsigned, fits_signed, read_from}
use Rattle.ic_leb.proofs.Values.{unsigned_magnitude, signed_magnitude}
use Rattle.ic_leb.proofs.Numbers.{Format, number_by}

-- below the power is up to the number before it
below_is_up_to : (n largest power : ℕ) → largest + 1 ≡ power → nat_lt n power ≡ nat_le n largest
below_is_up_to n largest power e = by_test (nat_le n largest) refl
  where
    by_test : (small : Bool) → nat_le n largest ≡ small → nat_lt n power ≡ small
    by_test true h = lt-ltb n power (omega (arith, leb-true n largest h))
    by_test false h = le-ltb n power (omega (arith, leb-false n largest h))

pub unsigned_up_to : (width : Width) (largest : ℕ) (bytes : List ℕ) → largest + 1 ≡ 2 ^ bits width → fits_unsigned width (unsigned_value bytes) ≡ nat_le (magnitude_of false bytes) largest
unsigned_up_to width largest bytes e =
    ap (fits_unsigned width) (unsigned_magnitude bytes) ∙ below_is_up_to (magnitude_of false bytes) largest (2 ^ bits width) e

fits_magnitude : (width : Width) (negative : Bool) (n : ℕ) → fits_signed width (complement_if negative n) ≡ nat_lt n (2 ^ (bits width - 1))
fits_magnitude width true n = refl
fits_magnitude width false n = refl

pub signed_up_to : (width : Width) (largest : ℕ) (bytes : List ℕ) → largest + 1 ≡ 2 ^ (bits width - 1) → fits_signed width (signed_value bytes) ≡ nat_le (magnitude_of (is_negative bytes) bytes) largest
signed_up_to width largest bytes e =
    let n = magnitude_of (is_negative bytes) bytes in
    ap (fits_signed width) (signed_magnitude bytes) ∙ fits_magnitude width (is_negative bytes) n ∙ below_is_up_to n largest (2 ^ (bits width - 1)) e

-- no size
pub not_sized : {A : Type 0} (format : Format A) (bytes : List ℕ) (at : ℕ) (f : LebFault) → Err f ≡ size_at format.most bytes → Err f ≡ read_from at (number_by format bytes)
not_sized format bytes at f e = ap (λ r. read_from at (value_of format.value format.fits bytes r)) e

by_size : {A : Type 0} (format : Format A) (bytes : List ℕ) (at size : ℕ) (small : Bool) → Ok size ≡ size_at format.most bytes → format.fits (format.value (take size bytes)) ≡ small → read_from at (if small then Ok (format.value (take size bytes), size) else Err Wide) ≡ read_from at (number_by format bytes)
by_size format bytes at size small sized fit =
    ap (λ b. read_from at (if b then Ok (format.value (take size bytes), size) else Err Wide)) (sym fit) ∙ ap (λ r. read_from at (value_of format.value format.fits bytes r)) sized

fault_is : (f : LebFault) → ◌≡◌ {A = Result ℕ LebFault} (Err f) (Err Wide) → f ≡ Wide
fault_is f e = cc

-- a size, and a magnitude that is too large
pub too_large : {A : Type 0} (format : Format A) (bytes : List ℕ) (at size largest n : ℕ) (f : LebFault) → Ok size ≡ size_at format.most bytes → format.fits (format.value (take size bytes)) ≡ nat_le n largest → Err f ≡ up_to largest n → Err f ≡ read_from at (number_by format bytes)
too_large format bytes at size largest n f sized fit e = by_test (nat_le n largest) refl e
  where
    by_test : (small : Bool) → nat_le n largest ≡ small → Err f ≡ (if small then Ok n else Err Wide) → Err f ≡ read_from at (number_by format bytes)
    by_test true h e = cc
    by_test false h e = ap Err (fault_is f e) ∙ by_size format bytes at size false sized (fit ∙ h)

-- a size, and a magnitude that is not
pub not_too_large : {A : Type 0} (format : Format A) (bytes : List ℕ) (at size largest n m : ℕ) → Ok size ≡ size_at format.most bytes → format.fits (format.value (take size bytes)) ≡ nat_le n largest → Ok m ≡ up_to largest n → (m ≡ n) × (Ok (format.value (take size bytes), at + size) ≡ read_from at (number_by format bytes))
not_too_large format bytes at size largest n m sized fit e = by_test (nat_le n largest) refl e
  where
    by_test : (small : Bool) → nat_le n largest ≡ small → Ok m ≡ (if small then Ok n else Err Wide) → (m ≡ n) × (Ok (format.value (take size bytes), at + size) ≡ read_from at (number_by format bytes))
    by_test true h e = (cc, by_size format bytes at size true sized (fit ∙ h))
    by_test false h e = cc
