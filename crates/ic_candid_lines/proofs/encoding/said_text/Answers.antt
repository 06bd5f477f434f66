use Rattle.std.proofs.Common.{subst}
use Rattle.std.specs.Prelude.{IsTrue}
use Rattle.cd_types.specs.IsTable.{is_table}
use Rattle.cd_codec.specs.Answers.{contents}
use Rattle.ic_candid_lines.proofs.Encodings.{said_printed, none_printed}
use Rattle.ic_candid_lines.proofs.encoding.said_text.Goals as goal

pub returns-in-Ok : goal.returns-in-Ok
returns-in-Ok c =
    let is = subst (λ t. IsTrue (is_table t)) c.table.ensures c.len-entries.ensures.well_formed in
    said_printed c.args.expected.now (contents c.in-Ok.values) c.args.text.now c.message_text.result is c.in-Ok.ensures.found c.message_text.ensures

pub returns-in-Err-NotText : goal.returns-in-Err-NotText
returns-in-Err-NotText c =
    let is = subst (λ t. IsTrue (is_table t)) c.table.ensures c.len-entries.ensures.well_formed in
    none_printed c.args.expected.now c.args.text.now c.not_text.result is (λ values said. rw c.in-Err-NotText.field-0-is at (c.in-Err-NotText.ensures.only values said)) c.not_text.ensures
