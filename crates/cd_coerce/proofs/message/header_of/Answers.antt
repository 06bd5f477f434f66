use Rattle.std.proofs.Common.{rules}
use Rattle.cd_coerce.proofs.MessageLemmas.{header_answers, decoded_not_header, decoded_float}
use Rattle.cd_coerce.proofs.message.header_of.Goals as goal

pub returns-in-Ok : goal.returns-in-Ok
returns-in-Ok c = let h = c.in-Ok.ensures.header in (h.0, header_answers c.args.bytes.now c.in-Ok.header.table c.in-Ok.header.types c.in-Ok.header.length h.1)

pub returns-in-Err-NotHeader : goal.returns-in-Err-NotHeader
returns-in-Err-NotHeader c = λ expected. decoded_not_header expected c.args.bytes.now (c.in-Err-NotHeader.ensures.not_header (search rules))

pub returns-in-Err-Float : goal.returns-in-Err-Float
returns-in-Err-Float c =
    λ expected. let float = c.in-Err-Float.ensures.float (search rules) in decoded_float expected c.args.bytes.now float.0 float.1
