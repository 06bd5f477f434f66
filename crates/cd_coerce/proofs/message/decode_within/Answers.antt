use Rattle.std.proofs.Common.{rules, List, IsTrue, subst}
use Rattle.cd_types.specs.IsTable.{is_table}
use Rattle.cd_types.specs.declared.entry.Entry.{Entry}
use Rattle.cd_coerce.proofs.MessageLemmas.{typed_answer}
use Rattle.cd_coerce.proofs.ResultLemmas.{are_bytes, results_typed}
use Rattle.cd_coerce.proofs.message.decode_within.Goals as goal

pub returns-clause-typed : goal.returns-clause-typed
returns-clause-typed c =
    let formed : IsTrue (is_table c.args.expected.now.0) = subst (λ (table : List Entry). IsTrue (is_table table)) c.table.ensures c.well_formed_table.ensures in
    let bytes = are_bytes c.args.bytes.now (λ i. let fits = c.type_inv.bytes i in search rules) in
    typed_answer c.arguments_of.result c.args.expected.now c.args.bytes.now
    (λ rs e. results_typed c.args.expected.now c.args.bytes.now rs formed bytes ((c.one_answer.ensures.values c.args.expected.now c.args.bytes.now rs).0 e)) c.arguments_of.ensures.answer
