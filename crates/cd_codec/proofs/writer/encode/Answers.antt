use Rattle.std.proofs.Common.{◌≡◌, ◌++◌, ◌∙◌, sym, subst, ap, arith}
use Rattle.std.specs.List.{flat_map}
use Rattle.cd_codec.specs.HeaderSpelling.{header_spelling}
use Rattle.cd_codec.specs.Message.{message_spelling, IsMessage}
use Rattle.cd_codec.specs.Spelling.{spelling}
use Rattle.cd_codec.specs.View.{views}
use Rattle.cd_codec.proofs.HeaderSpelled.{Few}
use Rattle.cd_codec.proofs.MessageSpelled.{message_spelled}
use Rattle.cd_codec.proofs.writer.encode.Goals as goal

pub returns-clause-grammar : goal.returns-clause-grammar
returns-clause-grammar c =
    let table = c.args.table.now in
    let types = c.args.types.now in
    let values = views c.args.values.now in
    let out = c.write_values.new.out in
    let header = c.in_ok-write_header.ensures.written ∙ ap (λ items. items ++ header_spelling table types) c.new-items.ensures.items in
    let bytes : out.items ≡ message_spelling table types values = c.in_ok-write_values.ensures ∙ ap (λ items. items ++ flat_map spelling values) header in
    let few : Few out.items = omega (arith, out.ok.0, out.ok.1, out.small) in
    subst (IsMessage table types values) (sym bytes) (message_spelled table types values c.in_ok-write_header.ensures.well_formed c.requires.few c.requires.typed (subst Few bytes few))
