use Rattle.std.proofs.Common.{◌++◌, sym, ◌∙◌, ap, arith}
use Rattle.ic_leb.proofs.Shortest.{pushed_seven, last_seven, kept_front}
use Rattle.ic_leb.proofs.writing.push_each.Goals as goal

pub loop-left-preserved : goal.loop-left-preserved
loop-left-preserved c =
    let byte = rw c.low_bits.ensures.exact at c.in_ok-push.ensures.items in
    record {
      rest = rw byte (pushed_seven c.args.end c.args.negative c.loop-left.left c.loop-left.out.items (omega arith) c.loop-left-test.true ∙ c.loop-left.invariant.rest);
      kept = rw byte (kept_front c.args.out.now.items c.loop-left.out.items _ c.loop-left.invariant.kept);
    }

pub returns-clause-written : goal.returns-clause-written
returns-clause-written c =
    let byte = rw c.low_bits-2.ensures.exact at c.in_ok-push-2.ensures.items in
    rw byte (ap (λ xs. c.loop-left.out.items ++ xs) (sym (last_seven c.args.end c.args.negative c.loop-left.left c.loop-left.left c.loop-left-test.false)) ∙ c.loop-left.invariant.rest)
