use Rattle.std.proofs.Common.{◌≡◌, ◌+◌, length, subst, inl, ap, ◌∙◌, None, take, arith}
use Rattle.ic_outside.specs.Limits.{excess}
use Rattle.ic_outside.specs.Steps.{IsFaultOf, handed_out}
use Rattle.ic_outside.proofs.AnswerLaws.{HandsOut-rest, AnswersBySeen-begun}
use Rattle.ic_outside.proofs.lines.Lines.take_rest.Goals as goal

pub returns-in-Ok-hand_out-clause-answers : goal.returns-in-Ok-hand_out-clause-answers
returns-in-Ok-hand_out-clause-answers c =
    let old = c.args.self.now in
    let size : length c.as_slice-size.result.now ≡ length old.kept = ap length c.as_slice-size.ensures ∙ ap (λ r. length r.kept) c.self.view_is in
    let is = subst (λ n. (excess old.limits old.offset n n ≡ None) × (c.in-Ok-hand_out.line.bytes ≡ take n old.kept) × (c.hand_out.new.self ≡ handed_out old n)) size
    (c.in-Ok.ensures.ok, c.in-Ok-hand_out.ensures.ok.1, c.in-Ok-hand_out.ensures.ok.2) in
    λ left. (
      HandsOut-rest old c.in-Ok-hand_out.line c.hand_out.new.self c.requires.one_line (omega (arith, size)) c.requires.ended is.0 c.in-Ok-hand_out.ensures.ok.0 is.1 is.2,
      λ ended. inl c.requires.ended,
    )

pub returns-in-Err-clause-answers : goal.returns-in-Err-clause-answers
returns-in-Err-clause-answers c =
    let old = c.args.self.now in
    let size : length c.as_slice-size.result.now ≡ length old.kept = ap length c.as_slice-size.ensures ∙ ap (λ r. length r.kept) c.self.view_is in
    let passed = subst (λ n. IsFaultOf (excess old.limits old.offset n n) (old.handed + 1) c.in-Err.fault) size c.in-Err.ensures.err in
    λ left. AnswersBySeen-begun old c.in-Err.fault left old c.requires.one_line c.check.ensures.near passed
