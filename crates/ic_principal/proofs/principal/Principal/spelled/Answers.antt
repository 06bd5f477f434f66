use Rattle.std.proofs.Common.{arith, length, ◌++◌, map, ap, ◌∙◌}
use Rattle.std.proofs.lemmas.Grind.{flat_map-append}
use Rattle.std.specs.Int.{to_be_bytes, w32}
use Rattle.ic_principal.specs.Bits.{bits, bits_of}
use Rattle.ic_principal.specs.Base32.{character, fives}
use Rattle.ic_principal.specs.Text.{dashed, text_of}
use Rattle.ic_principal.proofs.BitLaws.{bits-to_be_bytes}
use Rattle.ic_principal.proofs.PrincipalLaws.{length-text_of, length-text_of-ge, principal_of-text}
use Rattle.ic_principal.proofs.principal.Principal.spelled.Goals as goal

pub returns-clause-text : goal.returns-clause-text
unfolding text_of
returns-clause-text c =
    let crc = c.checksum.result in let bytes = c.bytes-bytes.result.now in
    c.spell.ensures ∙ ap (λ values. dashed (map character values)) (c.deref.ensures.0 ∙ c.values_of.ensures.value ∙ ap fives (
    ap (λ front. bits (front ++ bytes)) c.to_be_bytes.ensures ∙ flat_map-append (bits_of 8) (to_be_bytes w32 crc) bytes
    ∙ ap (λ l. l ++ bits bytes) (bits-to_be_bytes crc ∙ c.checksum.ensures)
    )) ∙ ap text_of c.bytes-bytes.ensures.value

pub returns-clause-size : goal.returns-clause-size
returns-clause-size c =
    let bytes = c.args.self.now in let same = ap length (returns-clause-text c) in
    (omega (arith, same, length-text_of-ge bytes), omega (arith, same, length-text_of bytes c.bytes-bytes.ensures.principal))

pub returns-clause-reads_back : goal.returns-clause-reads_back
returns-clause-reads_back c = principal_of-text c.spell.result.bytes c.args.self.now c.bytes-bytes.ensures.principal (returns-clause-text c)
