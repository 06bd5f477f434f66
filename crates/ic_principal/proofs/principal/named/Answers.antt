use Rattle.std.proofs.Common.{◌≡◌, ℕ, ◌<◌, List, length, drop, sym, ap, subst, ◌∙◌, true, false, arith}
use Rattle.std.specs.Prelude.{IfSome, IfNone}
use Rattle.std.specs.List.{flat_map}
use Rattle.std.proofs.lemmas.Bool.{false≢true}
use Rattle.std.proofs.lemmas.List.Elements.{recursion_from_All}
use Rattle.ic_principal.specs.Bits.{bits_of}
use Rattle.ic_principal.specs.IsPrincipal.{IsPrincipal}
use Rattle.ic_principal.specs.HasChecksum.{HasChecksum}
use Rattle.ic_principal.proofs.PrincipalLaws.{principal_of-none_long}
use Rattle.ic_principal.proofs.ReadingLaws.{none-unspelled, none-for, answer-for}
use Rattle.ic_principal.proofs.principal.named.Goals as goal
use Rattle.ic_principal.proofs.principal.named.Goals.{then-len-ge5-via-then-len-ge5, then-len-ge5-via-else-len-ge5+then-not-is_clear}

pub returns-then-text-gt-LONGEST_TEXT : goal.returns-then-text-gt-LONGEST_TEXT
returns-then-text-gt-LONGEST_TEXT c = sym (principal_of-none_long c.args.text.now c.if-text-gt-LONGEST_TEXT.true)

pub returns-in_default : goal.returns-in_default
returns-in_default c = sym (none-unspelled c.args.text.now (λ values small is. c.in_default.ensures.none values small (c.as_bytes.ensures.value ∙ is)))

pub returns-then-len-ge5 : goal.returns-then-len-ge5
returns-then-len-ge5 c =
    let values = c.in-Some.values.items in let bytes = c.bytes_of-bytes.result.0.items in
    sym (none-for c.args.text.now values bytes c.bytes_of-bytes.result.1 (sym c.as_bytes.ensures.value ∙ c.in-Some.ensures.some.1)
    (recursion_from_All (λ v. v < 32) values c.in-Some.ensures.some.0) (c.bytes_of-bytes.ensures.bits ∙ ap (flat_map (bits_of 5)) c.deref.ensures.0)
    (recursion_from_All (λ b. b < 256) bytes c.bytes_of-bytes.ensures.bytes) c.bytes_of-bytes.ensures.few (λ has short clear fits.
    elim c.then-len-ge5.branch [
      | then-len-ge5-via-then-len-ge5 w ↦ absurd (omega (arith, w.if-len-ge5.true, c.len.ensures.value))
      | then-len-ge5-via-else-len-ge5+then-not-is_clear w ↦
          let set : true ≡ false = sym (w.is_clear.ensures.1 clear) ∙ w.if-not-is_clear.true in absurd (false≢true (sym set))
    ]))

pub returns : goal.returns
returns c =
    let values = c.in-Some.values.items in let bytes = c.bytes_of-bytes.result.0.items in
    let same : List ℕ → Type 0 = λ b. IfSome c.behind_checksum.result (λ p. (p ≡ drop 4 b) × HasChecksum b × IsPrincipal p)
    × IfNone c.behind_checksum.result (HasChecksum b → 29 < length (drop 4 b)) in
    let found = subst same c.deref-2.ensures.0 (c.behind_checksum.ensures.some, c.behind_checksum.ensures.none) in
    answer-for c.args.text.now values bytes c.bytes_of-bytes.result.1 (sym c.as_bytes.ensures.value ∙ c.in-Some.ensures.some.1)
    (recursion_from_All (λ v. v < 32) values c.in-Some.ensures.some.0) (c.bytes_of-bytes.ensures.bits ∙ ap (flat_map (bits_of 5)) c.deref.ensures.0)
    (recursion_from_All (λ b. b < 256) bytes c.bytes_of-bytes.ensures.bytes) c.bytes_of-bytes.ensures.few c.behind_checksum.result
    (omega (arith, c.len.ensures.value, c.if-len-ge5.false)) (c.is_clear.ensures.0 c.if-not-is_clear.false) found.0 found.1
