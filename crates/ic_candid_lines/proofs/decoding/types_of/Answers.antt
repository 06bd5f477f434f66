use Rattle.std.proofs.Common.{◌<◌, ◌≤◌, false, length, ap, sym, subst, ◌∙◌, Some}
use Rattle.std.proofs.lemmas.List.{take_all}
use Rattle.cd_codec.specs.IsHeader.{IsHeader}
use Rattle.cd_codec.specs.declared.header.Header.{Header}
use Rattle.ic_candid_lines.proofs.ExpectedTypes.{types_found, types_of-longer, types_of-none}
use Rattle.ic_candid_lines.proofs.decoding.types_of.Goals as goal

pub returns-then-header-bytes : goal.returns-then-header-bytes
returns-then-header-bytes c =
    let header = c.in-Ok.header in
    let bytes = c.args.bytes.now in
    let size = ap (λ (h : Header). h.length) c.header.view_is in
    sym (types_of-longer bytes header.table header.types header.length (subst (λ n. n < length bytes) size c.if-header-bytes.true) c.in-Ok.ensures.header.1)

pub returns-else-header-bytes : goal.returns-else-header-bytes
returns-else-header-bytes c =
    let header = c.in-Ok.header in
    let bytes = c.args.bytes.now in
    let size = ap (λ (h : Header). h.length) c.header.view_is in
    let all = take_all header.length bytes (subst (λ n. length bytes ≤ n) size c.if-header-bytes.false) in
    ap Some (c.of.ensures ∙ ap (λ (h : Header). (h.table, h.types)) c.header.view_is)
    ∙ sym (types_found bytes header.table header.types (subst (IsHeader false header.table header.types) all c.in-Ok.ensures.header.1))

pub returns-in-Err-NotHeader : goal.returns-in-Err-NotHeader
returns-in-Err-NotHeader c =
    sym (types_of-none c.args.bytes.now (λ table types front rest whole header. rw c.in-Err-NotHeader.field-0-is at (c.in-Err-NotHeader.ensures.only table types front rest whole header)))

pub returns-in-Err-Float : goal.returns-in-Err-Float
returns-in-Err-Float c =
    sym (types_of-none c.args.bytes.now (λ table types front rest whole header. rw c.in-Err-Float.field-0-is at (c.in-Err-Float.ensures.only table types front rest whole header)))
