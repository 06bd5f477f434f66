-- A text that has another as a part.
use Rattle.std.proofs.Common.{◌≢◌, ℕ, Bool, true, false, List, ◌++◌, length, take, drop, None, refl, sym, ap, ◌∙◌, arith}
use Rattle.std.specs.Bool.{MatchBool, Decides}
use Rattle.std.specs.Str.Pattern.{FindsText, HasMatch}
use Rattle.std.proofs.lemmas.Bool.{false≢true}
use Rattle.std.proofs.lemmas.List.{take-append-drop, length-append}
use Rattle.std.proofs.Math.Seq.{drop-append_seam}
use Rattle.ct_outcomes.specs.Meets.{HasPart}

part_found : (text part : List ℕ) → HasMatch (FindsText part) text → HasPart text part
part_found text part m = (take m.0 text, drop m.1 text, sym (take-append-drop m.0 text) ∙ ap (λ rest. take m.0 text ++ rest) m.2.1.split)

no_part : (text part : List ℕ) → FindsText part text None → HasPart text part → ⊥
no_part text part none is =
    let n = ap length is.2 ∙ length-append is.0 (part ++ is.1) in
    none (length is.0) (omega (arith, n)) is.1 (ap (drop (length is.0)) is.2 ∙ drop-append_seam is.0 (part ++ is.1))

-- so the test of std decides it
pub decides_part : (found : Bool) (text part : List ℕ) → MatchBool found (HasMatch (FindsText part) text) (FindsText part text None) → Decides found (HasPart text part)
decides_part true text part m = (λ e. part_found text part m, λ is. refl)
decides_part false text part m = (λ e. absurd (false≢true e), λ is. absurd (no_part text part m is))
