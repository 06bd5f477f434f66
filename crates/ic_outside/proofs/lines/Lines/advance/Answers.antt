use Rattle.std.proofs.Common.{◌≡◌, ◌+◌, length, None, false, ap, sym, subst, ◌∙◌}
use Rattle.ic_outside.specs.Limits.{excess}
use Rattle.ic_outside.specs.Steps.{IsFaultOf}
use Rattle.ic_outside.proofs.AnswerLaws.{AnswersBySeen-begun}
use Rattle.ic_outside.proofs.Seen.{Seen-filled, Reads-answered, Reads-unfilled, to_read-filled}
use Rattle.ic_outside.proofs.lines.Lines.advance.Goals as goal

pub returns-in-Some-clause-reads : goal.returns-in-Some-clause-reads
returns-in-Some-clause-reads g c =
    Reads-answered _ _ _ _ _ _ c.reading.self c.reading.source c.reading.invariant _ _ (c.take_line.ensures.answers (g.S.Source.left c.reading.source))

pub returns-then-self-clause-reads : goal.returns-then-self-clause-reads
returns-then-self-clause-reads g c =
    Reads-answered _ _ _ _ _ _ c.reading.self c.reading.source c.reading.invariant _ _ (c.take_rest.ensures.answers (g.S.Source.left c.reading.source))

pub returns-in-Err-clause-reads : goal.returns-in-Err-clause-reads
returns-in-Err-clause-reads g c =
    let now = c.reading.self in
    let size : length c.as_slice-size.result.now ≡ length now.kept = ap length c.as_slice-size.ensures ∙ ap (λ r. length r.kept) c.self.view_is in
    let passed = subst (λ n. IsFaultOf (excess now.limits now.offset n n) (now.handed + 1) c.in-Err.fault) size c.in-Err.ensures.err in
    Reads-answered _ _ _ _ _ _ now c.reading.source c.reading.invariant _ _
    (AnswersBySeen-begun now c.in-Err.fault (g.S.Source.left c.reading.source) now c.in_default.ensures c.check.ensures.near passed)

pub returns-in-Err-fill-clause-reads : goal.returns-in-Err-fill-clause-reads
returns-in-Err-fill-clause-reads g c =
    let now = c.reading.self in
    let size : length c.as_slice-size.result.now ≡ length now.kept = ap length c.as_slice-size.ensures ∙ ap (λ r. length r.kept) c.self.view_is in
    let fits = subst (λ n. excess now.limits now.offset n n ≡ None) size c.in_default-check.ensures.ok in
    let going : now.ended ≡ false = sym (ap (λ r. r.ended) c.self.view_is) ∙ c.if-self.false in
    Reads-unfilled _ _ _ _ _ _ now c.reading.source c.reading.invariant c.fill.new.source c.in-Err-fill.fault c.fill.new.self
    c.in_default.ensures going fits c.in-Err-fill.ensures.unfilled

pub reading-preserved : goal.reading-preserved
reading-preserved g c =
    let going : c.reading.self.ended ≡ false = sym (ap (λ r. r.ended) c.self.view_is) ∙ c.if-self.false in
    Seen-filled _ _ _ _ _ _ c.reading.self c.reading.source c.reading.invariant c.fill.new.self c.fill.new.source
    c.in_default.ensures going c.in_default-fill.ensures.filled c.in_default-fill.ensures.counted (λ h. (c.fill.ensures.sure h).0)

pub reading-smaller : goal.reading-smaller
reading-smaller g c =
    let now = c.reading.self in
    let size : length c.as_slice-size.result.now ≡ length now.kept = ap length c.as_slice-size.ensures ∙ ap (λ r. length r.kept) c.self.view_is in
    let fits = subst (λ n. excess now.limits now.offset n n ≡ None) size c.in_default-check.ensures.ok in
    let going : now.ended ≡ false = sym (ap (λ r. r.ended) c.self.view_is) ∙ c.if-self.false in
    to_read-filled now _ _ _ c.fill.new.self going fits c.in_default-fill.ensures.filled
