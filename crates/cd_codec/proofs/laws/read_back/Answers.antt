use Rattle.std.proofs.Common.{◌∙◌, sym, subst}
use Rattle.cd_codec.specs.Message.{IsMessage}
use Rattle.cd_codec.specs.View.{views}
use Rattle.cd_codec.proofs.MessageSpelled.{rest_are_values}
use Rattle.cd_codec.proofs.laws.read_back.Goals as goal

pub unreachable-requires : goal.unreachable-requires
unreachable-requires c =
    let m = subst (IsMessage c.args.table.now c.args.types.now (views c.args.values.now)) (sym (c.deref.ensures.value ∙ c.bytes.view_is)) c.in_ok-bytes.ensures.grammar in
    rw c.in-Err-NotHeader.field-0-is at (c.in-Err-NotHeader.ensures.only c.args.table.now c.args.types.now m.header m.rest m.whole m.begins)

pub returns-in-Ok-read_values : goal.returns-in-Ok-read_values
returns-in-Ok-read_values c =
    let values = views c.args.values.now in
    let m = subst (IsMessage c.args.table.now c.args.types.now values) (sym (c.deref.ensures.value ∙ c.bytes.view_is)) c.in_ok-bytes.ensures.grammar in
    let h = c.in-Ok.ensures.only c.args.table.now c.args.types.now m.header m.rest m.whole m.begins in
    let are = rest_are_values c.args.table.now c.args.types.now values _ m c.requires.deep c.requires.many c.in-Ok.header.table c.in-Ok.header.types c.in-Ok.header.length h in
    (h.0, h.1, c.in-Ok-read_values.ensures.only values (rw (c.deref-2.ensures.value ∙ sym c.deref.ensures.value) are))

pub unreachable-requires-in-Err-BadValue : goal.unreachable-requires-in-Err-BadValue
unreachable-requires-in-Err-BadValue c =
    let values = views c.args.values.now in
    let m = subst (IsMessage c.args.table.now c.args.types.now values) (sym (c.deref.ensures.value ∙ c.bytes.view_is)) c.in_ok-bytes.ensures.grammar in
    let h = c.in-Ok.ensures.only c.args.table.now c.args.types.now m.header m.rest m.whole m.begins in
    let are = rest_are_values c.args.table.now c.args.types.now values _ m c.requires.deep c.requires.many c.in-Ok.header.table c.in-Ok.header.types c.in-Ok.header.length h in
    rw c.in-Err-BadValue.field-0-is at (c.in-Err-BadValue.ensures.only values (rw (c.deref-2.ensures.value ∙ sym c.deref.ensures.value) are))
