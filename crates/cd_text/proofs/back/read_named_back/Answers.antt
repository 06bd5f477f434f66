use Rattle.std.proofs.Common.{◌∙◌, Some}
use Rattle.cd_codec.specs.View.{views}
use Rattle.cd_text.proofs.Bytes.{printed_back}
use Rattle.cd_text.proofs.back.read_named_back.Goals as goal

pub said_back-requires : goal.said_back-requires
said_back-requires c =
    let bytes = c.deref.ensures.value ∙ c.text.view_is ∙ c.in_ok-text.ensures in
    printed_back (Some c.args.names.now) c.table.result.now c.table-2.result.now c.types.result.now c.args.expected.now (views c.args.values.now) c.deref.result.now
    (c.name-name.ensures.ids, c.name-name.ensures.texts) c.len-entries.ensures.well_formed c.table.ensures c.table-2.ensures c.types.ensures.value bytes c.requires.typed c.hold_bytes.ensures c.requires.deep c.requires.many
