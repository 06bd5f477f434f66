-- What decoding tells of the module that bytes are.
use Rattle.std.proofs.Common.{◌≡◌, refl, ℕ, ◌<◌, ◌≤◌, Bool, true, false, List, [], ◌∷◌, length, Option, Some, None, Result, Ok, Err, sym, ap, ◌∙◌, subst, arith}
use Rattle.std.specs.Prelude.{nat_lt, ◌==◌, ◌&&◌, is_some, if◌then◌else◌}
use Rattle.std.proofs.lemmas.Bool.{eqb-true}
use Rattle.wm_tree.specs.declared.parts.Module.{Module}
use Rattle.wm_decode.specs.declared.fault.ModuleFault.{ModuleFault}
use Rattle.wm_decode.specs.declared.fault.ModuleFault.TheVariants as F
use Rattle.wm_decode.specs.Answer.{IsPlain, IsCompressed, Comes, HasModule, largest}
use Rattle.wm_decode.specs.Mod.{Mod}
use Rattle.wm_decode.specs.Readers.{module_at}
use Rattle.wm_decode.proofs.ExactModule.{module_again, module_takes}
use Rattle.wm_valid.specs.declared.invalid.Invalid.{Invalid}
use Rattle.wm_valid.specs.Checked.{checked}
use Rattle.ic_mgmt_candid.specs.declared.cause.Cause.TheVariants.{Undecoded, Unchecked}
use Rattle.ic_mgmt_candid.specs.declared.denial.Denial.{Denial}
use Rattle.ic_mgmt_candid.specs.Modules.{module_of, validated, by_check, or_fault, is_compressed, refused}

compressed_is : (bytes : List ℕ) → (IsCompressed bytes → ⊥) → is_compressed bytes ≡ false
compressed_is [] h = refl
compressed_is (a ∷ []) h = refl
compressed_is (a ∷ b ∷ rest) h = by (a == 0x1F) refl (b == 0x8B) refl
  where
    by : (x : Bool) → (a == 0x1F) ≡ x → (y : Bool) → (b == 0x8B) ≡ y → ((a == 0x1F) && (b == 0x8B)) ≡ false
    by false e y f = rw e refl
    by true e false f = rw e (rw f refl)
    by true e true f = absurd (h (rest, rw (eqb-true a 0x1F e) (rw (eqb-true b 0x8B f) refl)))

is_compressed-true : (bytes : List ℕ) → IsCompressed bytes → is_compressed bytes ≡ true
is_compressed-true bytes (rest, e) = ap is_compressed e

not_large : (n : ℕ) → n ≤ largest → nat_lt largest n ≡ false
not_large n h = grind (arith, h)

too_large : (n : ℕ) → largest < n → nat_lt largest n ≡ true
too_large n h = grind (arith, h)

plain_module : (bytes : List ℕ) → IsPlain bytes → module_of bytes ≡ or_fault bytes (module_at false bytes)
unfolding module_of
plain_module bytes plain = rw (not_large (length bytes) plain.0) (rw (compressed_is bytes plain.1) refl)

-- what is decoded, and checked
pub module_read : (bytes : List ℕ) (m : Module) → IsPlain bytes → Mod false m bytes → module_of bytes ≡ validated m
module_read bytes m plain spelled = plain_module bytes plain ∙ ap (or_fault bytes) (module_again false m bytes spelled)

none_at : (float : Bool) (bytes : List ℕ) → (HasModule float bytes → ⊥) → (o : Option Module) → module_at float bytes ≡ o → module_at float bytes ≡ None
none_at float bytes h None e = e
none_at float bytes h (Some m) e = absurd (h (m, module_takes float m bytes e))

-- each fault of the bytes, but out of memory
pub fault_read : (bytes : List ℕ) (fault : ModuleFault) → (fault ≡ F.NoMemory → ⊥) → Comes bytes fault → module_of bytes ≡ refused (Undecoded fault)
unfolding module_of
fault_read bytes F.TooLarge named h = rw (too_large (length bytes) h) refl
fault_read bytes F.Compressed named h = rw (not_large (length bytes) h.0) (rw (is_compressed-true bytes h.1) refl)
fault_read bytes F.Float named (plain, (m, spelled), none) =
    plain_module bytes plain ∙ rw (none_at false bytes none (module_at false bytes) refl) (rw (module_again true m bytes spelled) refl)
fault_read bytes F.NotModule named (plain, not_float, none) =
    plain_module bytes plain ∙ rw (none_at false bytes none (module_at false bytes) refl) (rw (none_at true bytes not_float (module_at true bytes) refl) refl)
fault_read bytes F.NoMemory named h = absurd (named refl)

-- ---- which bytes are a module that is installed

pub installs : (bytes : List ℕ) (m : Module) → IsPlain bytes → Mod false m bytes → checked m ≡ None → module_of bytes ≡ Ok m
installs bytes m plain spelled passes = module_read bytes m plain spelled ∙ ap (by_check m) passes

checked_of : (m n : Module) (found : Option Invalid) → by_check m found ≡ Ok n → (m ≡ n) × (found ≡ None)
checked_of m n None e = let same : m ≡ n = cc in (same, refl)
checked_of m n (Some fault) e = absurd (let k : refused _ ≡ Ok n = e in cc)

decoded_of : (bytes : List ℕ) (n : Module) (found : Option Module) → module_at false bytes ≡ found → or_fault bytes found ≡ Ok n → Mod false n bytes × (checked n ≡ None)
decoded_of bytes n None e is = absurd (let k : refused _ ≡ Ok n = is in cc)
decoded_of bytes n (Some m) e is =
    let c = checked_of m n (checked m) is in
    (module_takes false n bytes (e ∙ ap Some c.0), subst (λ (x : Module). checked x ≡ None) c.0 c.1)

small : (n : ℕ) → nat_lt largest n ≡ false → n ≤ largest
small n e = grind (arith, e)

plain_of : (bytes : List ℕ) (n : Module) (large : Bool) → nat_lt largest (length bytes) ≡ large → (gzip : Bool) → is_compressed bytes ≡ gzip → module_of bytes ≡ Ok n
    → IsPlain bytes
unfolding module_of
plain_of bytes n true e gzip f is = absurd (let k = rw e at is in cc)
plain_of bytes n false e true f is = absurd (let k = rw f at (rw e at is) in cc)
plain_of bytes n false e false f is = (small (length bytes) e, λ h. let k : true ≡ false = sym (is_compressed-true bytes h) ∙ f in cc)

pub installed : (bytes : List ℕ) (n : Module) → module_of bytes ≡ Ok n → IsPlain bytes × Mod false n bytes × (checked n ≡ None)
installed bytes n is =
    let plain = plain_of bytes n (nat_lt largest (length bytes)) refl (is_compressed bytes) refl is in
    let d = decoded_of bytes n (module_at false bytes) refl (sym (plain_module bytes plain) ∙ is) in
    (plain, d.0, d.1)

-- ---- which fault of the bytes is told

compressed_from : (bytes : List ℕ) → is_compressed bytes ≡ true → IsCompressed bytes
compressed_from [] e = absurd cc
compressed_from (a ∷ []) e = absurd cc
compressed_from (a ∷ b ∷ rest) e = by (a == 0x1F) refl (b == 0x8B) refl e
  where
    by : (x : Bool) → (a == 0x1F) ≡ x → (y : Bool) → (b == 0x8B) ≡ y → (x && y) ≡ true → IsCompressed (a ∷ b ∷ rest)
    by false p y q h = absurd cc
    by true p false q h = absurd cc
    by true p true q h = (rest, rw (eqb-true a 0x1F p) (rw (eqb-true b 0x8B q) refl))

pub unspelled : (float : Bool) (bytes : List ℕ) → module_at float bytes ≡ None → HasModule float bytes → ⊥
unspelled float bytes e (m, spelled) = let k : None ≡ Some m = sym e ∙ module_again float m bytes spelled in cc

pub unread : (float : Bool) (bytes : List ℕ) → (HasModule float bytes → ⊥) → module_at float bytes ≡ None
unread float bytes none = none_at float bytes none (module_at float bytes) refl

-- the fault comes, and is not that memory ran out
abbrev pub IsTold : List ℕ → ModuleFault → Type 0
IsTold bytes fault = Comes bytes fault × (fault ≡ F.NoMemory → ⊥)

same_fault : (a b : ModuleFault) → refused {A = Module} (Undecoded a) ≡ refused (Undecoded b) → a ≡ b
same_fault a b e = cc

checked_told : (m : Module) (fault : ModuleFault) (found : Option Invalid) → by_check m found ≡ refused (Undecoded fault) → ⊥
checked_told m fault None e = let k : Ok m ≡ refused _ = e in cc
checked_told m fault (Some invalid) e = let k : refused {A = Module} (Unchecked invalid) ≡ refused (Undecoded fault) = e in cc

decode_told : (bytes : List ℕ) (fault : ModuleFault) → IsPlain bytes → (found : Option Module) → module_at false bytes ≡ found → or_fault bytes found ≡ refused (Undecoded fault) → IsTold bytes fault
decode_told bytes fault plain (Some m) e is = absurd (checked_told m fault (checked m) is)
decode_told bytes fault plain None e is = by (module_at true bytes) refl is
  where
    by : (wide : Option Module) → module_at true bytes ≡ wide → refused {A = Module} (Undecoded (if is_some wide then F.Float else F.NotModule)) ≡ refused (Undecoded fault) → IsTold bytes fault
    by (Some m) f told = subst (IsTold bytes) (same_fault F.Float fault told) ((plain, (m, module_takes true m bytes f), unspelled false bytes e), λ k. let n : F.Float ≡ F.NoMemory = k in cc)
    by None f told = subst (IsTold bytes) (same_fault F.NotModule fault told) ((plain, unspelled true bytes f, unspelled false bytes e), λ k. let n : F.NotModule ≡ F.NoMemory = k in cc)

told_by : (bytes : List ℕ) (fault : ModuleFault) (large : Bool) → nat_lt largest (length bytes) ≡ large → (gzip : Bool) → is_compressed bytes ≡ gzip → module_of bytes ≡ refused (Undecoded fault) → IsTold bytes fault
unfolding module_of
told_by bytes fault true e gzip f is = subst (IsTold bytes) (same_fault F.TooLarge fault (rw e at is)) (grind (arith, e), λ k. let n : F.TooLarge ≡ F.NoMemory = k in cc)
told_by bytes fault false e true f is =
    subst (IsTold bytes) (same_fault F.Compressed fault (rw f at (rw e at is))) ((small (length bytes) e, compressed_from bytes f), λ k. let n : F.Compressed ≡ F.NoMemory = k in cc)
told_by bytes fault false e false f is =
    let plain : IsPlain bytes = (small (length bytes) e, λ h. let k : true ≡ false = sym (is_compressed-true bytes h) ∙ f in cc) in
    decode_told bytes fault plain (module_at false bytes) refl (sym (plain_module bytes plain) ∙ is)

pub fault_told : (bytes : List ℕ) (fault : ModuleFault) → module_of bytes ≡ refused (Undecoded fault) → IsTold bytes fault
fault_told bytes fault is = told_by bytes fault (nat_lt largest (length bytes)) refl (is_compressed bytes) refl is
