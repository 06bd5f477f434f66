use Rattle.std.proofs.Common.{subst, IsTrue, inl, ap}
use Rattle.ic_outside.proofs.AnswerLaws.{HandsOut-line, AnswersBySeen-line}
use Rattle.ic_outside.proofs.lines.Lines.take_line.Goals as goal

pub returns-in-Ok-hand_out-clause-answers : goal.returns-in-Ok-hand_out-clause-answers
returns-in-Ok-hand_out-clause-answers c =
    let is = c.in-Ok-hand_out.ensures.ok in
    λ left. (
      HandsOut-line c.args.self.now c.args.size c.in-Ok-hand_out.line c.hand_out.new.self c.requires.line c.requires.ahead c.in-Ok.ensures.ok is.0 is.1 is.2,
      λ ended. inl (subst IsTrue (ap (λ r. r.ended) is.2) ended),
    )

pub returns-in-Err-clause-answers : goal.returns-in-Err-clause-answers
returns-in-Err-clause-answers c = λ left.
    AnswersBySeen-line c.args.self.now c.args.size c.in-Err.fault left c.args.self.now c.requires.line c.check.ensures.near c.in-Err.ensures.err
