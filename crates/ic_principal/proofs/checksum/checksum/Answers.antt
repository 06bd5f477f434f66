use Rattle.std.proofs.Common.{◌+◌, drop, get_or, sym, ap, ◌∙◌, arith}
use Rattle.std.proofs.lemmas.List.{at_drop_more, drop_all}
use Rattle.ic_principal.proofs.ChecksumLaws.{left, left-cons, checksum_from_left}
use Rattle.ic_principal.proofs.checksum.checksum.Goals as goal

pub loop-byte-preserved : goal.loop-byte-preserved
loop-byte-preserved c =
    let i = c.loop-byte.byte-index in let bytes = c.args.bytes.now in
    sym (at_drop_more (left c.loop-byte.register) bytes i 0 (omega arith)
    ∙ left-cons c.loop-byte.register (get_or bytes i 0) c.divided_by_byte-register.result (drop (i + 1) bytes) (omega (arith, c.type_inv.bytes i)) c.divided_by_byte-register.ensures)
    ∙ c.loop-byte.invariant

pub returns : goal.returns
returns c = checksum_from_left c.loop-byte.register c.args.bytes.now (ap (left c.loop-byte.register) (sym (drop_all c.loop-byte.byte-index c.args.bytes.now (omega arith))) ∙ c.loop-byte.invariant)
