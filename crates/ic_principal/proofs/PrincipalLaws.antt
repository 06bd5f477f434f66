-- A principal and its text determine each other.
use Rattle.std.proofs.Common.{◌≡◌, ◌≢◌, ℕ, ◌<◌, ◌≤◌, Bool, true, false, ◌&&◌, Option, Some, None, List, ◌++◌, length, map, drop, replicate, refl, sym, ap, subst, ◌∙◌, arith, length-append, append_assoc}
use Rattle.std.specs.Prelude.{nat_le, if◌then◌else◌, IfOk, OnErr, Result, Ok, Err}
use Rattle.std.specs.Result.{result_ok}
use Rattle.std.specs.List.{All, flat_map, filter_map}
use Rattle.std.specs.Str.{bytes_eq}
use Rattle.std.proofs.lemmas.List.{length-map, length-replicate}
use Rattle.std.proofs.lemmas.List.Elements.{recursion_from_All, All-from_recursion, All-drop}
use Rattle.std.proofs.lemmas.Bool.Decides.{nat_tests}
use Rattle.std.proofs.lemmas.Slice.Eq.{bytes_eq-Decides}
use Rattle.ic_principal.specs.Bits.{bits, bits_of}
use Rattle.ic_principal.specs.Base32.{character, value_of, fives, eights}
use Rattle.ic_principal.specs.Checksum.{checksum}
use Rattle.ic_principal.specs.IsPrincipal.{IsPrincipal}
use Rattle.ic_principal.specs.Text.{text_of, IsText, bytes_read, principal_of}
use Rattle.ic_principal.proofs.BitLaws.{length-bits}
use Rattle.ic_principal.proofs.ChecksumLaws.{length-checksum}
use Rattle.ic_principal.proofs.Base32Laws.{Filled, filled, fives-below, length-fives, eights-bits, eights-below, drop-eights}
use Rattle.ic_principal.proofs.TextLaws.{values-dashed, length-dashed, length-dashed-le}

-- reading what was spelled gives it back
pub bytes_read-text_of : (bytes : List ℕ) → IsPrincipal bytes → bytes_read (text_of bytes) ≡ bytes
unfolding bytes_read text_of
bytes_read-text_of bytes h =
    let all = checksum bytes ++ bits bytes in
    let whole : Filled all = filled all in
    let zeros = replicate whole.zeros false in
    ap (λ l. drop 4 (eights (flat_map (bits_of 5) l))) (values-dashed (fives all) (fives-below all))
    ∙ ap (λ l. drop 4 (eights l)) (whole.spelled ∙ append_assoc (checksum bytes) (bits bytes) zeros)
    ∙ drop-eights 4 (checksum bytes) (bits bytes ++ zeros) (length-checksum bytes)
    ∙ eights-bits bytes zeros (recursion_from_All (λ b. b < 256) bytes h.bytes_below) (omega (arith, whole.few, length-replicate {A = Bool} whole.zeros false))

-- no text is longer than 63 characters
pub length-text_of : (bytes : List ℕ) → IsPrincipal bytes → length (text_of bytes) ≤ 63
unfolding text_of
length-text_of bytes h =
    let all = checksum bytes ++ bits bytes in
    omega (arith, h.short, length-dashed (map character (fives all)), length-map (fives all) character, (length-fives all).0, length-append (checksum bytes) (bits bytes), length-checksum bytes, length-bits bytes)

-- nor shorter than 8
pub length-text_of-ge : (bytes : List ℕ) → 8 ≤ length (text_of bytes)
unfolding text_of
length-text_of-ge bytes =
    let all = checksum bytes ++ bits bytes in
    omega (arith, length-dashed-le (map character (fives all)), length-map (fives all) character, (length-fives all).1, length-append (checksum bytes) (bits bytes), length-checksum bytes)

-- what is read are bytes
pub bytes_read-below : (text : List ℕ) → All (λ b. b < 256) (bytes_read text)
unfolding bytes_read
bytes_read-below text = All-drop (λ b. b < 256) 4 (eights spelled) (All-from_recursion (λ b. b < 256) (eights spelled) (eights-below spelled))
  where
    spelled : List Bool
    spelled = flat_map (bits_of 5) (filter_map value_of text)

-- ---- `principal_of`
-- the bytes, if this is their text
abbrev kept : List ℕ → List ℕ → Option (List ℕ)
kept text bytes = if nat_le (length bytes) 29 && bytes_eq (text_of bytes) text then Some bytes else None

kept-some : (text bytes : List ℕ) → length bytes ≤ 29 → text_of bytes ≡ text → kept text bytes ≡ Some bytes
kept-some text bytes h e =
    let short : nat_le (length bytes) 29 ≡ true = grind (arith, nat_tests) in
    ap (λ x. if x && bytes_eq (text_of bytes) text then Some bytes else None) short
    ∙ ap (λ y. if y then Some bytes else None) ((bytes_eq-Decides (text_of bytes) text).1 e)

record Kept (text bytes found : List ℕ) : Type 0 where
  same : bytes ≡ found
  short : length bytes ≤ 29
  spelled : text_of bytes ≡ text

kept-tells : (text bytes found : List ℕ) → kept text bytes ≡ Some found → Kept text bytes found
kept-tells text bytes found e = go (nat_le (length bytes) 29) (bytes_eq (text_of bytes) text) refl refl e
  where
    go : (x y : Bool) → nat_le (length bytes) 29 ≡ x → bytes_eq (text_of bytes) text ≡ y → (if x && y then Some bytes else None) ≡ Some found → Kept text bytes found
    go true true p q e = record { same = cc; short = grind (arith, nat_tests); spelled = (bytes_eq-Decides (text_of bytes) text).0 q }
    go true false p q e = cc
    go false y p q e = cc

pub none_found : (o : Option (List ℕ)) → ((p : List ℕ) → o ≡ Some p → ⊥) → o ≡ None
none_found None h = refl
none_found (Some p) h = absurd (h p refl)

pub principal_of-tells : (text p : List ℕ) → principal_of text ≡ Some p → IsPrincipal p × IsText p text
unfolding principal_of
principal_of-tells text p e =
    let k : Kept text (bytes_read text) p = kept-tells text (bytes_read text) p e in (
      record { short = omega (arith, k.short, ap length k.same); bytes_below = subst (All (λ b. b < 256)) k.same (bytes_read-below text) },
      sym k.spelled ∙ ap text_of k.same,
    )

pub principal_of-text : (text p : List ℕ) → IsPrincipal p → IsText p text → principal_of text ≡ Some p
unfolding principal_of
principal_of-text text p h e =
    let read : bytes_read text ≡ p = ap bytes_read e ∙ bytes_read-text_of p h in
    ap (kept text) read ∙ kept-some text p h.short (sym e)

pub principal_of-read : (text : List ℕ) → length (bytes_read text) ≤ 29 → text_of (bytes_read text) ≡ text → principal_of text ≡ Some (bytes_read text)
unfolding principal_of
principal_of-read text h e = kept-some text (bytes_read text) h e

pub principal_of-none_long : (text : List ℕ) → 63 < length text → principal_of text ≡ None
principal_of-none_long text h =
    none_found (principal_of text) (λ p e. let t = principal_of-tells text p e in omega (arith, h, length-text_of p t.0, ap length t.1))

pub principal_of-none_short : (text : List ℕ) → 29 < length (bytes_read text) → principal_of text ≡ None
unfolding principal_of
principal_of-none_short text h = none_found (principal_of text) (λ p e. let k : Kept text (bytes_read text) p = kept-tells text (bytes_read text) p e in omega (arith, h, k.short))

pub principal_of-none_other : (text : List ℕ) → text_of (bytes_read text) ≢ text → principal_of text ≡ None
unfolding principal_of
principal_of-none_other text h = none_found (principal_of text) (λ p e. let k : Kept text (bytes_read text) p = kept-tells text (bytes_read text) p e in h k.spelled)

-- ---- an answer that gives `principal_of`
pub found_text : {E : Type 0} (text : List ℕ) (r : Result (List ℕ) E) → result_ok r ≡ principal_of text → IfOk r (λ p. IsPrincipal p × IsText p text)
found_text text (Ok p) e = principal_of-tells text p (sym e)
found_text text (Err e') e = tt

pub found_principal : {E : Type 0} (text : List ℕ) (r : Result (List ℕ) E) → result_ok r ≡ principal_of text → (p : List ℕ) → IsPrincipal p → IsText p text → r ≡ Ok p
found_principal text (Ok q) e p h t = let same : Some q ≡ Some p = e ∙ principal_of-text text p h t in cc
found_principal text (Err e') e p h t = let same : None ≡ Some p = e ∙ principal_of-text text p h t in cc

pub found_none : {E : Type 0} (text : List ℕ) (r : Result (List ℕ) E) → result_ok r ≡ principal_of text → OnErr r ((p : List ℕ) → IsPrincipal p → ¬ (IsText p text))
found_none text (Ok q) e = tt
found_none text (Err e') e = λ p h t. let same : None ≡ Some p = e ∙ principal_of-text text p h t in cc
