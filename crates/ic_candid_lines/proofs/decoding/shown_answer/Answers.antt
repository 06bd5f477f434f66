use Rattle.cd_coerce.specs.Decoded.{decoded}
use Rattle.ic_candid_lines.specs.Decoding.{shown_text}
use Rattle.ic_candid_lines.proofs.Refused.{refused_answer}
use Rattle.ic_candid_lines.proofs.decoding.shown_answer.Goals as goal

pub returns-in-Err : goal.returns-in-Err
returns-in-Err c =
    let expected = c.args.expected.now in
    refused_answer shown_text expected c.in-Err.fault (decoded expected c.args.message.now) c.refused_text.result c.in-Err.ensures.answer c.refused_text.ensures
