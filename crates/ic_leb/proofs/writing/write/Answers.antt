use Rattle.std.proofs.Common.{◌++◌, sym, ap}
use Rattle.ic_leb.proofs.Shortest.{last_seven}
use Rattle.ic_leb.proofs.writing.write.Goals as goal

pub returns-then-n-end-clause-written : goal.returns-then-n-end-clause-written
returns-then-n-end-clause-written c =
    rw (c.in_ok-push.ensures.items, c.low_bits.ensures.exact) (ap (λ xs. c.args.out.now.items ++ xs) (sym (last_seven c.args.end c.args.negative c.args.n c.args.n c.if-n-end.true)))
