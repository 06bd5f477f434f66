use Rattle.std.proofs.Common.{sym, ◌∙◌}
use Rattle.cd_tokens.proofs.Gaps.{goes_further, stops_here, ends_here}
use Rattle.cd_tokens.proofs.gap.past_gap.Goals as goal

pub loop-index-preserved : goal.loop-index-preserved
loop-index-preserved c = goes_further c.args.comments c.loop-index.place c.in-Some.next c.args.text.now c.loop-index.index _ _ c.loop-index-test.true c.in-Some.ensures c.loop-index.invariant

pub returns-then-may_stop : goal.returns-then-may_stop
returns-then-may_stop c =
    rw c.split_at.ensures.back (sym (stops_here c.args.comments c.loop-index.place c.args.text.now c.loop-index.index _ _ _ c.loop-index-test.true c.in-None.ensures (sym c.if-may_stop.true ∙ c.may_stop.ensures) c.loop-index.invariant))

pub returns-else-may_stop : goal.returns-else-may_stop
returns-else-may_stop c = sym (stops_here c.args.comments c.loop-index.place c.args.text.now c.loop-index.index _ _ _ c.loop-index-test.true c.in-None.ensures (sym c.if-may_stop.false ∙ c.may_stop.ensures) c.loop-index.invariant)

pub returns-then-may_end : goal.returns-then-may_end
returns-then-may_end c = sym (ends_here c.args.comments c.loop-index.place c.args.text.now c.loop-index.index _ _ c.loop-index-test.false (sym c.if-may_end.true ∙ c.may_end.ensures) c.loop-index.invariant)

pub returns-else-may_end : goal.returns-else-may_end
returns-else-may_end c = sym (ends_here c.args.comments c.loop-index.place c.args.text.now c.loop-index.index _ _ c.loop-index-test.false (sym c.if-may_end.false ∙ c.may_end.ensures) c.loop-index.invariant)
