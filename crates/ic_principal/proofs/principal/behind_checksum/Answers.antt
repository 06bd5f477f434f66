use Rattle.std.proofs.Common.{◌≡◌, List, ℕ, Bool, true, false, not, refl, drop, Result, Ok, Err, sym, ap, subst, ◌∙◌, arith}
use Rattle.std.specs.Prelude.{Option, IfOk, IfSome}
use Rattle.std.specs.Result.{result_ok}
use Rattle.std.specs.Str.{bytes_eq}
use Rattle.std.proofs.lemmas.Slice.Eq.{bytes_eq-Decides}
use Rattle.std.proofs.lemmas.Bool.{false≢true}
use Rattle.ic_principal.specs.Bits.{bits_of}
use Rattle.ic_principal.specs.Checksum.{checksum}
use Rattle.ic_principal.specs.IsPrincipal.{IsPrincipal}
use Rattle.ic_principal.specs.HasChecksum.{HasChecksum}
use Rattle.ic_principal.proofs.ReadingLaws.{checksum-front, front-checksum}
use Rattle.ic_principal.proofs.principal.behind_checksum.Goals as goal

not_false : (b : Bool) → not b ≡ false → b ≡ true
not_false true e = refl
not_false false e = sym e

found : {E : Type 0} (bytes back : List ℕ) (r : Result (List ℕ) E) → back ≡ drop 4 bytes → HasChecksum bytes → IfOk r (λ p. (p ≡ back) × IsPrincipal back)
    → IfSome (result_ok r) (λ p. (p ≡ drop 4 bytes) × HasChecksum bytes × IsPrincipal p)
found bytes back (Ok p) is has h = (h.0 ∙ is, has, subst IsPrincipal (sym h.0) h.1)
found bytes back (Err e) is has h = tt

pub returns-then-ne-clause-none : goal.returns-then-ne-clause-none
returns-then-ne-clause-none c = λ has.
    let bytes = c.args.bytes.now in let front = c.split_at.result.0.now in let own = c.as_slice.result.now in
    let crc : bits_of 32 c.checksum.result ≡ checksum (drop 4 bytes) = c.checksum.ensures ∙ ap checksum c.split_at.ensures.back in
    let same : front ≡ own = c.split_at.ensures.front ∙ checksum-front bytes c.checksum.result c.requires crc has ∙ sym (c.as_slice.ensures ∙ c.to_be_bytes.ensures) in
    let equal : bytes_eq front own ≡ true = (bytes_eq-Decides front own).1 same in
    let differ : true ≡ not (bytes_eq front own) = sym c.if-ne.true ∙ c.ne.ensures in
    absurd (false≢true (sym (differ ∙ ap not equal)))

pub returns-clause-some : goal.returns-clause-some
returns-clause-some c =
    let bytes = c.args.bytes.now in let front = c.split_at.result.0.now in let own = c.as_slice.result.now in
    let crc : bits_of 32 c.checksum.result ≡ checksum (drop 4 bytes) = c.checksum.ensures ∙ ap checksum c.split_at.ensures.back in
    let differ : false ≡ not (bytes_eq front own) = sym c.if-ne.false ∙ c.ne.ensures in
    let same : front ≡ own = (bytes_eq-Decides front own).0 (not_false (bytes_eq front own) (sym differ)) in
    let has = front-checksum bytes c.checksum.result (omega arith) crc (sym c.split_at.ensures.front ∙ same ∙ c.as_slice.ensures ∙ c.to_be_bytes.ensures) in
    let P : Option (List ℕ) → Type 0 = λ o. IfSome o (λ p. (p ≡ drop 4 bytes) × HasChecksum bytes × IsPrincipal p) in
    subst P (sym c.ok.ensures.value) (found bytes c.split_at.result.1.now c.from_bytes.result c.split_at.ensures.back has c.from_bytes.ensures.ok)
