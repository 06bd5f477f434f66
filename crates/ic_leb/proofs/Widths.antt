-- What the widths allow.
use Rattle.std.proofs.Common.{◌≡◌, ℕ, suc, ◌*◌, ◌-◌, ◌^◌, ◌<◌, ◌≤◌, refl, lit≤}
use Rattle.std.specs.Prelude.{ℤ, pos, negsuc, FitsSigned}
use Rattle.std.specs.Bool.{Decides}
use Rattle.std.specs.Int.Signed.{mag}
use Rattle.std.proofs.lemmas.Bool.{ltb-true, lt-ltb}
use Rattle.ic_leb.specs.declared.width.Width.{Width}
use Rattle.ic_leb.specs.declared.width.Width.TheVariants.{Wasm32, Wasm64, Candid}
use Rattle.ic_leb.specs.Width.{bits, int_width, most_bytes}
use Rattle.ic_leb.specs.Reading.{fits_unsigned, fits_signed}

pub unsigned_fits : (width : Width) (n : ℕ) → Decides (fits_unsigned width n) (n < 2 ^ bits width)
unsigned_fits width n = (ltb-true n (2 ^ bits width), lt-ltb n (2 ^ bits width))

by_magnitude : (width : Width) (z : ℤ) → mag z < 2 ^ (bits width - 1) → FitsSigned (int_width width) z
by_magnitude Wasm32 z h = record { sfits = h }
by_magnitude Wasm64 z h = record { sfits = h }
by_magnitude Candid z h = record { sfits = h }

pub magnitude_fits : (width : Width) (z : ℤ) → FitsSigned (int_width width) z → mag z < 2 ^ (bits width - 1)
magnitude_fits Wasm32 z h = h.sfits
magnitude_fits Wasm64 z h = h.sfits
magnitude_fits Candid z h = h.sfits

pub signed_fits : (width : Width) (z : ℤ) → Decides (fits_signed width z) (FitsSigned (int_width width) z)
signed_fits width (pos n) = (λ e. by_magnitude width (pos n) (ltb-true n _ e), λ h. lt-ltb n _ (magnitude_fits width (pos n) h))
signed_fits width (negsuc n) = (λ e. by_magnitude width (negsuc n) (ltb-true n _ e), λ h. lt-ltb n _ (magnitude_fits width (negsuc n) h))

-- the bits have room in the bytes
pub unsigned_room : (width : Width) → (k : ℕ) × (suc k ≡ most_bytes width) × (2 ^ bits width ≤ 128 * 128 ^ k)
unsigned_room Wasm32 = (4, refl, lit≤ tt)
unsigned_room Wasm64 = (9, refl, lit≤ tt)
unsigned_room Candid = (23, refl, lit≤ tt)

pub signed_room : (width : Width) → (k : ℕ) × (suc k ≡ most_bytes width) × (2 ^ (bits width - 1) ≤ 64 * 128 ^ k)
signed_room Wasm32 = (4, refl, lit≤ tt)
signed_room Wasm64 = (9, refl, lit≤ tt)
signed_room Candid = (23, refl, lit≤ tt)
