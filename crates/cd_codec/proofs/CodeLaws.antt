-- The numbers of types.
use Rattle.std.proofs.Common.{◌≡◌, ℕ, ◌≤◌, Bool, true, false, Option, None, refl, ap, arith, ◌&&◌}
use Rattle.std.specs.Prelude.{slice_get, if◌then◌else◌}
use Rattle.std.specs.Option.{option_flatten}
use Rattle.std.proofs.lemmas.Option.{slice_get_past}
use Rattle.std.proofs.lemmas.Bool.{ne_eqb}
use Rattle.cd_types.specs.declared.primitive.Primitive.{Primitive}
use Rattle.cd_codec.specs.Codes.{primitive_numbers, is_float, primitive_named}

no_float : (code : ℕ) → 24 ≤ code → is_float code ≡ false
no_float code far = rw (ne_eqb code 12 (λ e. omega arith), ne_eqb code 13 (λ e. omega arith)) refl

not_named : (floats float : Bool) (listed a : Option Primitive) → float ≡ false → listed ≡ None → (if floats && float then a else listed) ≡ None
not_named true float listed a e f = rw (e, f) refl
not_named false float listed a e f = f

-- no primitive type has a number further down
pub none_beyond : (floats : Bool) (code : ℕ) → 24 ≤ code → primitive_named floats code ≡ None
none_beyond floats code far = not_named floats (is_float code) (option_flatten (slice_get primitive_numbers code)) _ (no_float code far) (ap option_flatten (slice_get_past primitive_numbers code far))
