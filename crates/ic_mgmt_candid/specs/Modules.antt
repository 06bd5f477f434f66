-- The module that a call of install_code brings (IC Interface Specification, "IC method install_code"), or why it is refused.
use Rattle.std.specs.Prelude.{◌≡◌, ℕ, Bool, true, false, List, [], ◌∷◌, length, Option, Some, None, is_some, Result, Ok, Err, nat_lt, ◌==◌, ◌&&◌, if◌then◌else◌}
use Rattle.sha2.specs.Sha256.{sha256}
use Rattle.wm_tree.specs.declared.parts.Module.{Module}
use Rattle.wm_decode.specs.declared.fault.ModuleFault.TheVariants as F
use Rattle.wm_decode.specs.Answer.{largest}
use Rattle.wm_decode.specs.Readers.{module_at}
use Rattle.wm_valid.specs.declared.invalid.Invalid.{Invalid}
use Rattle.wm_valid.specs.Checked.{checked}
use Rattle.ic_behaviour.specs.State.{Code}
use Rattle.ic_mgmt_candid.specs.declared.cause.Cause.{Cause}
use Rattle.ic_mgmt_candid.specs.declared.cause.Cause.TheVariants.{Undecoded, Unchecked}
use Rattle.ic_mgmt_candid.specs.declared.denial.Denial.{Denial}
use Rattle.ic_mgmt_candid.specs.declared.denial.Denial.TheVariants.{ModuleRefused}
use Rattle.ic_mgmt_candid.specs.Checks.{◌>>=◌}

-- the first two bytes are those of gzip
abbrev pub is_compressed : List ℕ → Bool
is_compressed (a ∷ b ∷ rest) = (a == 0x1F) && (b == 0x8B)
is_compressed _ = false

abbrev pub refused : {A : Type 0} → Cause → Result A Denial
refused cause = Err (ModuleRefused cause)

abbrev pub by_check : Module → Option Invalid → Result Module Denial
by_check m None = Ok m
by_check m (Some fault) = refused (Unchecked fault)

-- the module where every check passes, or the first check that fails
abbrev pub validated : Module → Result Module Denial
validated m = by_check m (checked m)

abbrev pub or_fault : List ℕ → Option Module → Result Module Denial
or_fault bytes None = refused (Undecoded (if is_some (module_at true bytes) then F.Float else F.NotModule))
or_fault bytes (Some m) = validated m

-- the module that the bytes are
unfoldable pub module_of : List ℕ → Result Module Denial
module_of bytes =
    if nat_lt largest (length bytes) then refused (Undecoded F.TooLarge) else
    if is_compressed bytes then refused (Undecoded F.Compressed) else
    or_fault bytes (module_at false bytes)

-- with the hash of the bytes
abbrev pub code_of : List ℕ → Result Code Denial
code_of bytes = do
  m ← module_of bytes
  Ok (record { «module» = m; hash = sha256 bytes })
