use Rattle.cd_coerce.proofs.message.decode.Goals as goal

pub returns-clause-decodes : goal.returns-clause-decodes
returns-clause-decodes c = λ values. c.one_answer.ensures.values c.args.expected.now c.args.bytes.now values
