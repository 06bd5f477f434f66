-- A number of one byte.
use Rattle.std.proofs.Common.{◌≡◌, ℕ, suc, ◌+◌, ◌-◌, ◌%◌, ◌^◌, ◌<◌, ◌≤◌, List, [], ◌∷◌, Bool, true, false, length, refl, sym, ◌∙◌, ap, arith, drop, get_or, lit≤}
use Rattle.std.specs.Prelude.{pos, negsuc, Ok, Err, FitsSigned, nat_le, if◌then◌else◌}
use Rattle.std.proofs.Math.Seq.{drop-cons}
use Rattle.std.proofs.lemmas.Bool.{lt-ltb, lt-leb, le-leb}
use Rattle.std.specs.Int.{complement_if}
use Rattle.ic_leb.specs.declared.width.Width.{Width}
use Rattle.ic_leb.specs.declared.width.Width.TheVariants.{Wasm32, Wasm64, Candid}
use Rattle.ic_leb.specs.declared.fault.LebFault.TheVariants.{Wide}
use Rattle.ic_leb.specs.Width.{bits, int_width, most_bytes}
use Rattle.ic_leb.specs.Value.{unsigned_value, is_negative, signed_value}
use Rattle.ic_leb.specs.Magnitude.{low_bits, magnitude_of}
use Rattle.ic_leb.specs.Reading.{fits_unsigned, fits_signed, unsigned_at, signed_at, read_from}
use Rattle.ic_leb.proofs.Values.{unsigned_magnitude, signed_magnitude, negative_one, below_128}
use Rattle.ic_leb.proofs.Found.{signed_up_to}
use Rattle.ic_leb.proofs.Numbers.{Format, number_by, front_again}
use Rattle.ic_leb.proofs.Readers.{unsigned_format, signed_format}
use Rattle.ic_leb.proofs.Widths.{signed_fits}

-- what a width allows
record Roomy (width : Width) : Type 0 where
  most : 1 ≤ most_bytes width
  unsigned : 128 ≤ 2 ^ bits width
  signed : 128 ≤ 2 ^ (bits width - 1)

roomy : (width : Width) → Roomy width
roomy Wasm32 = record { most = lit≤ tt; unsigned = lit≤ tt; signed = lit≤ tt }
roomy Wasm64 = record { most = lit≤ tt; unsigned = lit≤ tt; signed = lit≤ tt }
roomy Candid = record { most = lit≤ tt; unsigned = lit≤ tt; signed = lit≤ tt }

-- a byte below 128 is read as what it stands for, if that fits
one_read : {A : Type 0} (format : Format A) (bytes : List ℕ) (at b : ℕ) → 1 ≤ format.most → at < length bytes → b ≡ get_or bytes at b → b < 128 → format.fits (format.value (b ∷ [])) ≡ true
    → Ok (format.value (b ∷ []), at + 1) ≡ read_from at (number_by format (drop at bytes))
one_read format bytes at b room inside is small fit =
    let here : drop at bytes ≡ b ∷ drop (suc at) bytes =
    drop-cons bytes at b inside ∙ ap (λ x. x ∷ drop (suc at) bytes) (sym is) in
    let found = front_again format (b ∷ []) (drop (suc at) bytes) (record { front = []; last = b; whole = refl; continued = tt; ended = small }) room in
    sym (ap (λ xs. read_from at (number_by format xs)) here ∙ ap (read_from at) found ∙ ap (λ f. read_from at (if f then Ok (format.value (b ∷ []), 1) else Err Wide)) fit)

magnitude_one : (negative : Bool) (b : ℕ) → magnitude_of negative (b ∷ []) ≡ low_bits negative b
unfolding magnitude_of
magnitude_one negative b = omega arith

pub unsigned_one : (b : ℕ) → b < 128 → unsigned_value (b ∷ []) ≡ b
unsigned_one b small = omega (arith, unsigned_magnitude (b ∷ []), magnitude_one false b)

-- an unsigned number of one byte
pub unsigned_byte : (width : Width) (bytes : List ℕ) (at b : ℕ) → at < length bytes → b ≡ get_or bytes at b → b < 128 → Ok (b, at + 1) ≡ read_from at (unsigned_at width (drop at bytes))
unfolding unsigned_at
unsigned_byte width bytes at b inside is small =
    let room = roomy width in
    let value = unsigned_one b small in
    let fit : fits_unsigned width (unsigned_value (b ∷ [])) ≡ true = lt-ltb (unsigned_value (b ∷ [])) (2 ^ bits width) (omega (arith, value, room.unsigned)) in
    ap (λ n. Ok (n, at + 1)) (sym value) ∙ one_read (unsigned_format width) bytes at b room.most inside is small fit

signed_one_fits : (width : Width) (b : ℕ) → b < 128 → fits_signed width (signed_value (b ∷ [])) ≡ true
signed_one_fits width b small =
    let room = roomy width in
    let largest = 2 ^ (bits width - 1) - 1 in
    let negative = is_negative (b ∷ []) in
    signed_up_to width largest (b ∷ []) (omega (arith, room.signed))
    ∙ le-leb (magnitude_of negative (b ∷ [])) largest (omega (arith, room.signed, magnitude_one negative b, below_128 negative b))

-- a signed number of one byte
pub signed_byte_read : (width : Width) (bytes : List ℕ) (at b : ℕ) → at < length bytes → b ≡ get_or bytes at b → b < 128 → Ok (signed_value (b ∷ []), at + 1) ≡ read_from at (signed_at width (drop at bytes))
unfolding signed_at
signed_byte_read width bytes at b inside is small = one_read (signed_format width) bytes at b (roomy width).most inside is small (signed_one_fits width b small)

-- it fits the width
pub signed_byte_fits : (width : Width) (b : ℕ) → b < 128 → FitsSigned (int_width width) (signed_value (b ∷ []))
signed_byte_fits width b small = (signed_fits width (signed_value (b ∷ []))).0 (signed_one_fits width b small)

by_sign : (b : ℕ) (negative : Bool) → is_negative (b ∷ []) ≡ negative → signed_value (b ∷ []) ≡ complement_if negative (low_bits negative b)
by_sign b negative is =
    signed_magnitude (b ∷ []) ∙ ap (λ s. complement_if s (magnitude_of s (b ∷ []))) is ∙ ap (complement_if negative) (magnitude_one negative b)

-- bit 6, the sign, is clear
pub signed_byte_low : (b : ℕ) → b < 64 → signed_value (b ∷ []) ≡ pos b
signed_byte_low b small =
    let positive : nat_le 64 (b % 128) ≡ false = lt-leb 64 (b % 128) (omega arith) in
    let low : b % 128 ≡ b = omega arith in
    by_sign b false (negative_one b ∙ positive) ∙ ap pos low

-- bit 6 is set
pub signed_byte_high : (b : ℕ) → 64 ≤ b → b < 128 → signed_value (b ∷ []) ≡ negsuc (127 - b)
signed_byte_high b high small =
    let low : b % 128 ≡ b = omega arith in
    by_sign b true (negative_one b ∙ le-leb 64 (b % 128) (omega arith)) ∙ ap (λ n. negsuc (127 - n)) low
