use Rattle.cd_coerce.proofs.MessageLemmas.{header_then}
use Rattle.cd_coerce.proofs.message.arguments_of.Goals as goal

pub returns-in-Ok-clause-answer : goal.returns-in-Ok-clause-answer
returns-in-Ok-clause-answer c = rw (header_then c.args.expected.now c.args.bytes.now _ _ _ c.in-Ok.ensures.1) c.message_of.ensures.answer
